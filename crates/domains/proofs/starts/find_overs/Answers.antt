use Rattle.std.proofs.Common.{ℕ, ◌++◌, None, List, get_or, ap, ◌∙◌}
use Rattle.fleet_index.specs.NumberLists.{list_at}
use Rattle.domains.specs.FleetViews.{off_count}
use Rattle.domains.specs.Findings.{over_by, overs_until}
use Rattle.domains.specs.Ids.{host_lists}
use Rattle.domains.specs.declared.finding.Finding.{Finding}
use Rattle.domains.proofs.FindingLemmas.{range_step}
use Rattle.domains.proofs.starts.find_overs.Goals as goal

pub loop-group-preserved : goal.loop-group-preserved
loop-group-preserved c =
    let l = c.loop-group in
    let limits = c.args.limits.now in
    let downs : ℕ → ℕ = λ group. off_count c.args.off.now (list_at (host_lists c.args.members.now) group) in
    let over : ℕ → ℕ → List Finding = λ group down. over_by group (get_or limits group None) down in
    c.in_ok-push_over.ensures
    ∙ ap (λ (before : List Finding). before ++ over l.group c.count_off-down.result) l.invariant
    ∙ ap (λ (down : ℕ). overs_until (λ group. get_or limits group None) downs l.group ++ over l.group down) (c.count_off-down.ensures ∙ ap (off_count c.args.off.now) c.members_at.ensures)
    ∙ range_step (λ group. over group (downs group)) l.group
