-- Sessions one behind the other.
use Rattle.std.proofs.Common.{◌≡◌, ℕ, false, List, [], ◌∷◌, ◌++◌, map, sym, refl, ap, ◌∙◌, subst, append_assoc, append-nil}
use Rattle.std.specs.Prelude.{All}
use Rattle.std.specs.List.{flat_map}
use Rattle.std.proofs.lemmas.List.{map-append}
use Rattle.std.proofs.lemmas.List.Elements.{All-append, All-cons, All-nil}
use Rattle.std.proofs.lemmas.Grind.{flat_map-append}
use Rattle.rehearse.specs.Histories.{HistoryView}
use Rattle.rehearse.specs.Answers.{Answers, text_to}
use Rattle.rehearse.specs.Replies.{Telling}
use Rattle.rehearse.specs.Commands.{command_in}
use Rattle.rehearse.specs.Lines.{IsLine, joined, without_return}
use Rattle.rehearse.specs.Sessions.{Heard, Session, quits}

abbrev GoesOn : List ℕ → Type 0
GoesOn line = quits line ≡ false

-- two sessions, one behind the other
pub session_on : (tell : Telling) (before : HistoryView) (lines : List (List ℕ)) (text : List ℕ) (between : HistoryView) (more : List (List ℕ)) (later : List ℕ) (after : HistoryView)
    → Session tell before lines text between → Session tell between more later after → Session tell before (lines ++ more) (text ++ later) after
session_on tell before [] text between more later after one two =
    subst (λ (t : List ℕ). Session tell before more (t ++ later) after) (sym one.0) (subst (λ (r : HistoryView). Session tell r more later after) one.1 two)
session_on tell before (line ∷ lines) text between more later after one two = (
  one.0,
  one.1 ++ later,
  one.2,
  session_on tell one.0 lines one.1 between more later after one.3 two,
  ap (λ t. t ++ later) one.4 ∙ append_assoc (text_to tell before (command_in line) one.0) one.1 later,
)

module _ {tell : Telling} where
  -- a session of one line
  pub session_of : (before : HistoryView) (line text : List ℕ) (after : HistoryView) → Answers tell before line text after → Session tell before (line ∷ []) text after
  session_of before line text after is =
      (after, [], is.leads, (refl, refl), is.text_is ∙ sym (append-nil (text_to tell before (command_in line) after)))

  -- nothing was heard yet of what stands there
  pub heard_none : (before : HistoryView) (rest : List ℕ) → Heard tell before rest rest [] before
  heard_none before rest = record { lines = []; parts = refl; are_lines = All-nil IsLine; resume = All-nil GoesOn; answers = (refl, refl) }

  -- one line was heard
  pub heard_one : (before : HistoryView) (line bytes text : List ℕ) (after : HistoryView) → IsLine line → quits line ≡ false → bytes ≡ line ++ 10 ∷ []
      → Answers tell before (without_return line) text after → Heard tell before bytes [] text after
  heard_one before line bytes text after is goes_on parts answers = record {
    lines = line ∷ [];
    parts = parts ∙ sym (append-nil (line ++ 10 ∷ [])) ∙ sym (append-nil ((line ++ 10 ∷ []) ++ []));
    are_lines = All-cons IsLine line [] is (All-nil IsLine);
    resume = All-cons GoesOn line [] goes_on (All-nil GoesOn);
    answers = session_of before (without_return line) text after answers;
  }

  -- what follows was heard too
  pub heard_on : (before : HistoryView) (bytes rest text : List ℕ) (between : HistoryView) (more left later : List ℕ) (after : HistoryView)
      → Heard tell before bytes rest text between → Heard tell between (rest ++ more) left later after → Heard tell before (bytes ++ more) left (text ++ later) after
  heard_on before bytes rest text between more left later after one two = record {
    lines = one.lines ++ two.lines;
    parts = ap (λ l. l ++ more) one.parts ∙ append_assoc (joined one.lines) rest more ∙ ap (λ l. joined one.lines ++ l) two.parts
        ∙ sym (append_assoc (joined one.lines) (joined two.lines) left) ∙ ap (λ l. l ++ left) (sym (flat_map-append (λ line. line ++ 10 ∷ []) one.lines two.lines));
    are_lines = All-append IsLine one.lines two.lines one.are_lines two.are_lines;
    resume = All-append GoesOn one.lines two.lines one.resume two.resume;
    answers = subst (λ (l : List (List ℕ)). Session tell before l (text ++ later) after) (sym (map-append without_return one.lines two.lines))
        (session_on tell before (map without_return one.lines) text between (map without_return two.lines) later after one.answers two.answers);
  }
