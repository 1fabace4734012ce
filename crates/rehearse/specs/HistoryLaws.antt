-- What holds of every history.
use Rattle.std.specs.Prelude.{◌≡◌, ◌⊎◌, ℕ, List, []}
use Rattle.rehearse.specs.Histories.{HistoryView, refusing}
use Rattle.rehearse.specs.Commands.{Command, undo}
use Rattle.rehearse.specs.Answers.{LeadsTo}
use Rattle.rehearse.specs.Replies.{Telling}
use Rattle.rehearse.specs.Sessions.{Session}

-- wherever a command leads that is no `undo`, nothing has changed but that its line was refused, or an `undo` takes the whole of it back
abbrev pub UndoneCommandIsAsBefore : Type 0
UndoneCommandIsAsBefore =
    (before : HistoryView) (command : Command) (after back : HistoryView) → LeadsTo before command after → LeadsTo after undo back
    → (after ≡ before) ⊎ (after ≡ refusing before) ⊎ (command ≡ undo) ⊎ (back ≡ before)

-- whoever takes all commands back stands where the session began, whatever was done and taken back in between, and however it is answered
abbrev pub UndoneSessionIsOpening : Type 0
UndoneSessionIsOpening =
    (tell : Telling) (before : HistoryView) (lines : List (List ℕ)) (text : List ℕ) (after : HistoryView) → before.earlier ≡ [] → Session tell before lines text after → after.earlier ≡ []
    → after.place ≡ before.place
