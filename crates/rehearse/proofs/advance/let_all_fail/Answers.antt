use Rattle.std.proofs.Common.{ℕ, ◌∙◌}
use Rattle.group_tree.specs.declared.ids.HostId.{HostId}
use Rattle.rehearse.proofs.BatchLemmas.{one_more_fails}
use Rattle.rehearse.proofs.advance.let_all_fail.Goals as goal

pub loop-host-preserved : goal.loop-host-preserved
loop-host-preserved c =
    let none : HostId = record { index = 0 } in
    let i : ℕ = c.loop-host.host-index in (
      c.let_fail.ensures.len ∙ c.loop-host.invariant.0,
      one_more_fails c.args.named.now i none c.loop-host-test.true c.args.failing.now c.loop-host.failing c.let_fail.new.failing c.loop-host.invariant.0 c.loop-host.invariant.1
          c.let_fail.ensures.own c.let_fail.ensures.others,
    )
