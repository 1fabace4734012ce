use Rattle.std.proofs.Common.{ℕ, ◌∙◌}
use Rattle.group_tree.specs.declared.ids.HostId.{HostId}
use Rattle.run_diagnosis.proofs.NamedLemmas.{flagged_more}
use Rattle.run_diagnosis.proofs.skipped.flag_all.Goals as goal

pub loop-host-preserved : goal.loop-host-preserved
loop-host-preserved c =
    let none : HostId = record { index = 0 } in
    let i : ℕ = c.loop-host.host-index in
    let was = c.loop-host.invariant in (
      c.flag.ensures.len ∙ was.0,
      flagged_more c.args.hosts.now i none c.loop-host-test.true c.args.flags.now.items c.loop-host.flags.items c.flag.new.flags.items was.0 was.1 c.flag.ensures.own c.flag.ensures.others,
    )
