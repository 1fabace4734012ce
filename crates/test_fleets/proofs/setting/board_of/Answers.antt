use Rattle.std.proofs.Common.{List, length, rules, sym, ◌∙◌, refl, subst}
use Rattle.fleet_states.specs.declared.status.Status.{Status}
use Rattle.fleet_states.specs.declared.status.Status.TheVariants.{Waiting}
use Rattle.fleet_states.specs.Groups.{IsSafe, groups_of}
use Rattle.fleet_states.proofs.SafetyLemmas.{safe_replicate}
use Rattle.test_fleets.proofs.setting.board_of.Goals as goal

pub new-requires-clause-safe : goal.new-requires-clause-safe
new-requires-clause-safe g c =
    let setting = c.args.setting.now in
    let groups = groups_of setting.fleet in
    let waits = c.as_slice.ensures.value ∙ setting.wait in
    let safe : IsSafe groups c.as_slice.result.now = subst (λ (l : List Status). IsSafe groups l) (sym waits) (safe_replicate groups (length setting.fleet.hosts) Waiting refl) in
    search rules
