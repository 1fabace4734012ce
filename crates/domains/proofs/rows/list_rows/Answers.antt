use Rattle.std.proofs.Common.{◌∙◌, ℕ, map, sym, ap, arith}
use Rattle.std.proofs.lemmas.Simd.{map-map}
use Rattle.group_tree.specs.Subtrees.{Host}
use Rattle.domains.specs.Walked.{host_rows}
use Rattle.domains.proofs.WalkLemmas.{all_rows, rows_hosts, rows_more}
use Rattle.domains.proofs.rows.list_rows.Goals as goal

pub loop-number-preserved : goal.loop-number-preserved
loop-number-preserved g c =
    rows_more
    (λ walked. walked.group.now) c.args.groups.now c.loop-number.number c.index-groups-number.result _ _ _ c.loop-number-test.true c.index-groups-number.is
    (rw c.hosts.ensures at c.in_ok-add_rows.ensures) c.loop-number.invariant

pub returns-clause-hosts : goal.returns-clause-hosts
returns-clause-hosts g c =
    let all = all_rows (λ walked. walked.group.now) c.args.groups.now c.loop-number.number (host_rows c.loop-number.rows.items) (omega arith) c.loop-number.invariant in
    sym (map-map (λ (row : Host × ℕ). row.0) (λ row. (row.host.now, row.group)) c.loop-number.rows.items)
    ∙ ap (map (λ (row : Host × ℕ). row.0)) all
    ∙ rows_hosts (λ walked. walked.group.now) (λ walked. walked.depth) 0 c.args.groups.now
