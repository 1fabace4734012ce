use Rattle.std.proofs.Common.{◌≡◌, ℕ, length, sym, ◌∙◌, subst, arith}
use Rattle.std.specs.List.{list_all}
use Rattle.std.proofs.lemmas.Bool.{both_ways}
use Rattle.fleet_states.specs.Groups.{groups_of}
use Rattle.batch_plan.specs.Needs.{needs_of}
use Rattle.batch_plan.specs.Bounds.{Forces}
use Rattle.batch_plan.specs.Checks.{keep_room, keeps_cap}
use Rattle.batch_plan.proofs.ExactLemmas.{plan_from, plan_keeps_cap, plan_keeps_room}
use Rattle.batch_plan.proofs.FittingLemmas.{known_batches}
use Rattle.batch_plan.proofs.checker.check_plan.Goals as goal

pub keep_room-requires : goal.keep_room-requires
keep_room-requires c =
    let long : length c.args.statuses.now ≡ length c.args.fleet.now.hosts = omega arith in
    known_batches c.args.statuses.now c.args.cap (length c.args.fleet.now.hosts) c.args.plan.now.batches long
    (sym c.keep_cap.ensures ∙ c.if-not-keep_cap.false)

pub returns-then-not-keep_cap : goal.returns-then-not-keep_cap
returns-then-not-keep_cap c =
    let statuses = c.args.statuses.now in
    let cap = c.args.cap in
    let batches = c.args.plan.now.batches in (
      λ e. absurd (cc),
      λ both. absurd
          (both_ways (list_all (keeps_cap statuses cap) batches) (sym c.keep_cap.ensures ∙ c.if-not-keep_cap.true) (plan_keeps_cap c.args.fleet.now statuses cap batches both.0)),
    )

pub returns-then-not-keep_room : goal.returns-then-not-keep_room
returns-then-not-keep_room c =
    let fleet = c.args.fleet.now in
    let statuses = c.args.statuses.now in
    let batches = c.args.plan.now.batches in (
      λ e. absurd (cc),
      λ both. absurd
          (both_ways (list_all (keep_room statuses batches) (groups_of fleet)) (sym c.keep_room.ensures.keep ∙ c.if-not-keep_room.true) (plan_keeps_room fleet statuses c.args.cap batches both.0)),
    )

pub returns : goal.returns
returns c =
    let fleet = c.args.fleet.now in
    let statuses = c.args.statuses.now in
    let cap = c.args.cap in
    let Forced : ℕ → Type 0 = λ count. Forces (needs_of (groups_of fleet) statuses cap) count c.args.plan.now.bound in
    let stand = c.stand_once.ensures.0 c.if-not-stand_once.false in
    let keep = sym c.keep_cap.ensures ∙ c.if-not-keep_cap.false in
    let rooms = sym c.keep_room.ensures.keep ∙ c.if-not-keep_room.false in (
      λ e. (plan_from fleet statuses cap c.args.plan.now.batches c.keep_room.ensures.sound stand keep rooms, subst Forced c.len.ensures (c.forces.ensures.0 e)),
      λ both. c.forces.ensures.1 (subst Forced (sym c.len.ensures) both.1),
    )
