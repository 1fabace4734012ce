use Rattle.std.proofs.Common.{ℕ, Some, get_or, sym, ap, ◌∙◌, arith}
use Rattle.domains.specs.Ids.{host_numbers}
use Rattle.plan_check.specs.PlanErrors.{group_id}
use Rattle.plan_check.specs.declared.wrong.Wrong.{Wrong}
use Rattle.plan_check.specs.declared.wrong.Wrong.TheVariants.{Over}
use Rattle.plan_check.proofs.GroupLemmas.{over_none, over_some, over_within}
use Rattle.plan_check.proofs.groups.over_room.Goals as goal

pub returns-in_err-index : goal.returns-in_err-index
returns-in_err-index c =
    c.from_residual.ensures
    ∙ over_none c.args.terms.now.fleet.now c.requires.sound c.args.terms.now.statuses.now c.args.terms.now.rooms.now c.count_members.new.counts (host_numbers c.args.hosts.now)
    c.requires.terms.rooms c.count_members.ensures c.args.batch (sym c.find_over.ensures ∙ c.in_err-index.was)

pub bounds-counts-index : goal.bounds-counts-index
bounds-counts-index c =
    let within = over_within c.args.terms.now.fleet.now c.requires.sound c.args.terms.now.statuses.now c.args.terms.now.rooms.now c.count_members.new.counts (host_numbers c.args.hosts.now)
    c.requires.terms.rooms c.count_members.ensures c.in_ok-index.index (sym c.find_over.ensures ∙ c.in_ok-index.was) in
    omega (arith, within, c.count_members.ensures.0)

pub offset_bounds-counts-index : goal.offset_bounds-counts-index
offset_bounds-counts-index c =
    let within = over_within c.args.terms.now.fleet.now c.requires.sound c.args.terms.now.statuses.now c.args.terms.now.rooms.now c.count_members.new.counts (host_numbers c.args.hosts.now)
    c.requires.terms.rooms c.count_members.ensures c.in_ok-index.index (sym c.find_over.ensures ∙ c.in_ok-index.was) in
    omega (arith, within, c.requires.sound.few_groups)

pub bounds-terms-index : goal.bounds-terms-index
bounds-terms-index c =
    let within = over_within c.args.terms.now.fleet.now c.requires.sound c.args.terms.now.statuses.now c.args.terms.now.rooms.now c.count_members.new.counts (host_numbers c.args.hosts.now)
    c.requires.terms.rooms c.count_members.ensures c.in_ok-index.index (sym c.find_over.ensures ∙ c.in_ok-index.was) in
    omega (arith, within, c.requires.terms.rooms.0)

pub offset_bounds-terms-index : goal.offset_bounds-terms-index
offset_bounds-terms-index c =
    let within = over_within c.args.terms.now.fleet.now c.requires.sound c.args.terms.now.statuses.now c.args.terms.now.rooms.now c.count_members.new.counts (host_numbers c.args.hosts.now)
    c.requires.terms.rooms c.count_members.ensures c.in_ok-index.index (sym c.find_over.ensures ∙ c.in_ok-index.was) in
    omega (arith, within, c.requires.sound.few_groups)

pub returns : goal.returns
returns c =
    ap (λ (n : ℕ). let wrong : Wrong = Over c.args.batch (group_id c.in_ok-index.index) (get_or c.count_members.new.counts c.in_ok-index.index 0) n in Some wrong) c.unwrap_or.ensures
    ∙ over_some c.args.terms.now.fleet.now c.requires.sound c.args.terms.now.statuses.now c.args.terms.now.rooms.now c.count_members.new.counts (host_numbers c.args.hosts.now)
    c.requires.terms.rooms c.count_members.ensures c.args.batch c.in_ok-index.index (sym c.find_over.ensures ∙ c.in_ok-index.was)
