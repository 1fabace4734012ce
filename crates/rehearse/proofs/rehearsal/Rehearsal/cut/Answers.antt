use Rattle.std.proofs.Common.{◌≡◌, List, sym, subst}
use Rattle.rehearse.specs.declared.stage.Stage.{Stage}
use Rattle.rehearse.specs.Kept.{IsKept}
use Rattle.rehearse.specs.Stacks.{RehearsalView}
use Rattle.rehearse.proofs.StackLemmas.{kept-cut}
use Rattle.rehearse.proofs.rehearsal.Rehearsal.cut.Goals as goal

pub invariant_of-self : goal.invariant_of-self
invariant_of-self c =
    let rehearsal : RehearsalView =
    record {
      rules = record { fleet = c.self.inside.fleet.now; mode = c.self.inside.mode; caps = c.self.inside.caps.now; percentage = c.self.inside.max_fail };
      opening = c.self.inside.opening.now;
      first = c.self.inside.first;
      above = c.self.inside.above.items;
    } in
    subst (λ (l : List Stage). IsKept (record rehearsal { above = l })) (sym c.truncate.ensures.items) (kept-cut c.args.stages rehearsal c.self.invariant)
