use Rattle.std.proofs.Common.{arith, sym}
use Rattle.std.proofs.lemmas.List.{get_or-map}
use Rattle.domains.specs.Ids.{host_numbers}
use Rattle.fleet_states.proofs.HostLemmas.{length-host_numbers}
use Rattle.group_tree.specs.declared.ids.HostId.{HostId}
use Rattle.resume_state.proofs.DebtLemmas.{owe_more}
use Rattle.resume_state.proofs.debts.owe_all.Goals as goal

pub loop-host-preserved : goal.loop-host-preserved
loop-host-preserved c =
    let owing = c.args.owing.now in
    let within = c.loop-host-test.true in
    owe_more (host_numbers owing) c.loop-host.host-index _ c.args.vars.now c.loop-host.vars c.owe_one.new.vars (omega (arith, within, length-host_numbers owing))
    (sym (get_or-map (λ (host : HostId). host.index) owing c.loop-host.host-index _ 0 within)) c.loop-host.invariant c.owe_one.ensures
