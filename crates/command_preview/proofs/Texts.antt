-- What both texts say, as the words of their plays are told.
use Rattle.std.proofs.Common.{◌≡◌, ℕ, ◌≤◌, Bool, true, false, nat_lt, Option, List, ◌++◌, length, map, refl, arith, inr}
use Rattle.std.specs.Prelude.{nat_le, Result, Ok, Err, IfOk, IfErr}
use Rattle.std.proofs.lemmas.Bool.{leb-true}
use Rattle.std.proofs.lemmas.List.{length-map}
use Rattle.std.proofs.lemmas.Slice.Zip.{AllZip-long}
use Rattle.domains.specs.FleetViews.{FleetView}
use Rattle.host_vars.specs.Layers.{HostView}
use Rattle.play_model.specs.declared.play.Play.{Play}
use Rattle.playbook_schema.specs.Breaches.{Breach, Broken, Check, unless}
use Rattle.playbook_schema.specs.Plays.{play_of, plays_in, plays_of}
use Rattle.playbook_schema.specs.Checks.{AllKept}
use Rattle.play_read.specs.Reads.{IsPlay, IsReadAs}
use Rattle.plan_command.specs.declared.fault.PlanFault.{PlanFault}
use Rattle.plan_command.specs.declared.fault.PlanFault.TheVariants.{Read, Fleet, Playbook, Pattern, Write}
use Rattle.command_preview.specs.Lines.{end_of, lines_of_plays, plays_text}
use Rattle.command_preview.specs.Sending.{BreaksText, SendsAll}
use Rattle.command_preview.specs.WordTexts.{AreRead, IsTrueFault, IsWordsText, WritesWords}
use Rattle.command_preview.specs.declared.end.WordsEnd.{WordsEnd}

kept_second : (a b : Bool) (one other : Breach) (rest : List Check) → AllKept (map Broken (unless a one ++ unless b other) ++ rest) → b ≡ true
kept_second true true one other rest kept = refl
kept_second true false one other rest kept = absurd kept
kept_second false true one other rest kept = refl
kept_second false false one other rest kept = absurd kept

-- a playbook has few plays
pub few_plays : (text : List ℕ) (plays : List Play) → IsReadAs 16 text plays → length plays ≤ 16
few_plays text plays reads =
    let many : length plays ≡ length (plays_of reads.document) = AllZip-long IsPlay (plays_of reads.document) plays reads.says in
    let written : length (plays_of reads.document) ≡ length (plays_in reads.document) = length-map (plays_in reads.document) play_of in
    let few = leb-true (length (plays_in reads.document)) 16 (kept_second _ (nat_le (length (plays_in reads.document)) 16) _ _ _ reads.keeps_all) in
    omega (arith, many, written, few)

module _ (inventory playbook : List ℕ) (fleet : FleetView) (views : List HostView) (plays : List Play) (read : AreRead inventory playbook fleet views plays) (old new : Option (List ℕ)) where
  abbrev text : List ℕ
  text = plays_text (nat_lt 1 (length plays)) (lines_of_plays fleet views plays)

  abbrev end : WordsEnd
  end = end_of (lines_of_plays fleet views plays)

  is_text : IsWordsText inventory playbook text end
  is_text = record { fleet = fleet; views = views; plays = plays; read = read; text_is = refl; ends = refl }

  breaks : (fault : PlanFault) → BreaksText old new text fault → IsTrueFault inventory playbook old new fault
  breaks (Write fault) broke = record { text = text; end = end; is = is_text; written = broke }
  breaks (Pattern fault) broke =
      inr (record { text = text; end = end; is = is_text; wanting = broke.0; front = broke.1.front; rest = broke.1.rest; parts = broke.1.parts; written = broke.1.sent })
  breaks (Read fault) broke = absurd broke
  breaks (Fleet fault) broke = absurd broke
  breaks (Playbook fault) broke = absurd broke

  pub sent_ok : (result : Result WordsEnd PlanFault) → SendsAll old new text end result → IfOk result (WritesWords inventory playbook old new)
  sent_ok (Ok found) sent = record {
    text = text;
    is = record { fleet = fleet; views = views; plays = plays; read = read; text_is = refl; ends = sent.1 };
    written = sent.0;
  }
  sent_ok (Err fault) sent = tt

  pub sent_err : (result : Result WordsEnd PlanFault) → SendsAll old new text end result → IfErr result (IsTrueFault inventory playbook old new)
  sent_err (Ok found) sent = tt
  sent_err (Err fault) sent = breaks fault sent
