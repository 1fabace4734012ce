use Rattle.std.proofs.Common.{◌≡◌, drop}
use Rattle.group_tree.specs.Names.{Name}
use Rattle.step_lints.specs.Differing.{varied_after}
use Rattle.step_lints.specs.Hosts.{are_several}
use Rattle.step_lints.specs.Inside.{has_name, varies_in}
use Rattle.step_lints.proofs.differing.Results.add_all.Given as goal

abbrev pub invariant-loop-step : goal.invariant-loop-step
invariant-loop-step l = (l.self.own ≡ l.initial.self.own) × ((name : Name) →
    varied_after (are_several l.lacks.waiting.now) (has_name l.initial.self.own) (varies_in l.lacks) (has_name l.self.varied) (drop l.step-index l.steps) name
    ≡ varied_after (are_several l.lacks.waiting.now) (has_name l.initial.self.own) (varies_in l.lacks) (has_name l.initial.self.varied) l.steps name)
