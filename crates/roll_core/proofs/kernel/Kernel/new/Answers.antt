use Rattle.std.proofs.Common.{◌≡◌, ◌≤◌, false, List, length, replicate, sym, ap, ◌∙◌, refl, subst}
use Rattle.domains.specs.FleetViews.{FleetView}
use Rattle.fleet_states.specs.declared.status.Status.{Status}
use Rattle.fleet_states.specs.Groups.{IsSafe, groups_of}
use Rattle.down_ledger.specs.Rosters.{RosterView}
use Rattle.roll_core.specs.Views.{KernelView, events_of, roll_of, view_of}
use Rattle.roll_core.proofs.KeptLemmas.{kept_start}
use Rattle.roll_core.proofs.kernel.Kernel.new.Goals as goal

pub invariant_of-result : goal.invariant_of-result
invariant_of-result c =
    let roster : RosterView = c.in_ok-roster.roster in
    let kernel : KernelView = view_of roster c.args.play.now c.args.forks c.args.start.now c.args.vars.now c.new-log.result.items in
    let is = c.in_ok-roster.ensures in
    let copied = c.in_ok-statuses.ensures.items in
    let fleet : roster.fleet ≡ c.args.fleet.now = ap (λ (r : RosterView). r.fleet) is in
    let all : length c.args.start.now ≡ length roster.fleet.hosts = c.requires.all ∙ ap (λ (f : FleetView). length f.hosts) (sym fleet) in
    let few : length roster.fleet.hosts ≤ 4096 = subst (λ (r : RosterView). length r.fleet.hosts ≤ 4096) c.roster.view_is c.roster.invariant.sound.few_hosts in
    kept_start kernel roster c.in_ok-work.work _ (ap (λ (r : RosterView). r.statuses) is ∙ copied)
    (ap (λ (r : RosterView). r.seated) is ∙ ap (λ (l : List Status). replicate (length l) false) copied) (ap events_of c.new-log.ensures.items)
    all (subst (λ (f : FleetView). IsSafe (groups_of f) c.args.start.now) (sym fleet) c.requires.safe) c.requires.at_rest c.requires.some
    c.requires.few few (c.in_ok-work.ensures (roll_of kernel) refl (c.requires.all ∙ sym c.requires.each) (λ host. refl))
