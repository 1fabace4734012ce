use Rattle.std.proofs.Common.{[], List, ap, sym, ◌∙◌, subst}
use Rattle.serde_json.specs.View.{view}
use Rattle.text_syntax.specs.Telling.{with_breaches}
use Rattle.playbook_schema.specs.Breaches.{Check}
use Rattle.playbook_schema.specs.Plays.{checks}
use Rattle.playbook_schema.specs.Told.{Tells}
use Rattle.playbook_schema.proofs.AddLaws.{T, all_top, kept_in_silence}
use Rattle.play_read.proofs.Reports.{are_told, as_silent}
use Rattle.play_read.proofs.read.plays_in.Goals as goal

pub returns-then-is_empty : goal.returns-then-is_empty
returns-then-is_empty c =
    let silent = sym c.is_empty.ensures ∙ c.if-is_empty.true in
    (kept_in_silence [] _ _ (checks c.args.plays (view c.args.document.now)) c.in_ok-read.ensures.found silent, c.in_ok-read.ensures.says silent)

pub returns : goal.returns
returns c =
    let adds = c.in_ok-read.ensures.found in
    let told = c.into_told.ensures in
    record {
      named = adds.told;
      tells = subst (λ (l : List Check). Tells l adds.told) (all_top (checks c.args.plays (view c.args.document.now))) adds.tells;
      are_told = are_told c.args.most adds.told c.read_document.new.faults c.into_told.result (adds.is ∙ ap (λ (t : T). with_breaches t adds.told) c.new-faults.ensures) told.faults told.more;
      some = as_silent c.read_document.new.faults c.into_told.result told.faults told.more ∙ sym c.is_empty.ensures ∙ c.if-is_empty.false;
    }
