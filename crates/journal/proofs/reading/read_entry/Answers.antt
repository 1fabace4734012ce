use Rattle.std.proofs.Common.{Option, sym, ap, ◌∙◌}
use Rattle.std.specs.Prelude.{option_map}
use Rattle.std.proofs.lemmas.Bool.Decides.{Decides-eqb}
use Rattle.std.proofs.lemmas.Slice.Eq.{slice_eq-Decides}
use Rattle.journal.specs.Shown.{shown_entry}
use Rattle.journal.specs.declared.entry.Entry.{Entry}
use Rattle.journal.proofs.ReadLemmas.{no_body, other_body}
use Rattle.journal.proofs.reading.read_entry.Goals as goal

pub returns-in_default : goal.returns-in_default
returns-in_default c =
    no_body c.args.fleet.now c.requires c.args.body.now (sym c.in_ok-entry.ensures ∙ ap (λ (o : Option Entry). option_map shown_entry o) c.in_default.is)

pub returns : goal.returns
returns c =
    other_body c.args.fleet.now c.requires c.args.body.now (shown_entry c.in-Some.entry)
    (sym c.in_ok-entry.ensures ∙ ap (λ (o : Option Entry). option_map shown_entry o) c.in-Some.is)
    (λ e.
    let yes_is = (slice_eq-Decides Decides-eqb c.as_slice.result.now c.args.body.now c.eq.result c.eq.ensures).1 (c.as_slice.ensures.value ∙ c.in_ok-said.ensures ∙ e) in
    let not_is = c.if-eq.false in cc)
