use Rattle.std.proofs.Common.{◌≡◌, ℕ, Bool, true, ◌&&◌, sym, ap, ◌∙◌}
use Rattle.group_tree.specs.declared.ids.GroupId.{GroupId}
use Rattle.group_tree.proofs.MemberLemmas.{list_any-map}
use Rattle.fleet_states.specs.Statuses.{is_waiting, status_at}
use Rattle.fleet_states.specs.Groups.{groups_of, lacks_room}
use Rattle.batch_plan.specs.Inside.{is_full}
use Rattle.batch_plan.specs.Needs.{need_at}
use Rattle.batch_plan.proofs.HoldingLemmas.{chain_tells}
use Rattle.batch_plan.proofs.holding.waits_without_room.Goals as goal

pub returns-then-is_waiting : goal.returns-then-is_waiting
returns-then-is_waiting c =
    let fleet = c.args.fleet.now in
    let statuses = c.args.statuses.now in
    let host : ℕ = c.args.host.index in
    let full : ℕ → Bool = λ group. is_full (need_at c.args.needs.now group) in
    let waits : is_waiting (status_at statuses host) ≡ true = ap is_waiting (sym c.status_of.ensures) ∙ sym c.is_waiting.ensures ∙ c.if-is_waiting.true in
    let numbers = sym (list_any-map full (λ (group : GroupId). group.index) c.chain.result.now) in
    let held = chain_tells statuses fleet c.requires.sound c.args.needs.now c.requires.needs host _ c.chain.ensures.exact in
    c.has_full.ensures ∙ numbers ∙ held ∙ ap (λ b. b && lacks_room (groups_of fleet) statuses host) (sym waits)
