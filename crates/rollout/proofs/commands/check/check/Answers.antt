use Rattle.std.proofs.Common.{inl}
use Rattle.std.proofs.KnownBytes.{Keeps-refl}
use Rattle.rollout.specs.Checks.{PrintsCheck, RefusesCheck}
use Rattle.rollout.specs.Systems.{sources_of}
use Rattle.rollout.proofs.OverTexts.{over_three}
use Rattle.rollout.proofs.commands.check.check.Goals as goal

pub returns-in-Ok : goal.returns-in-Ok
returns-in-Ok g c =
    let sources = sources_of (g.S.System.known c.args.system.now) (g.I.Input.is_reliable c.args.input.now) in
    let old = g.W.Write.contents c.args.out.now in
    let new = g.W.Write.contents c.print_check.new.out in
    let prints = rw (c.as_slice.ensures.value, c.as_slice-in-Ok.ensures.value, c.as_slice-in-Ok-2.ensures.value) at c.print_check.ensures.ok in
    let refuses = rw (c.as_slice.ensures.value, c.as_slice-in-Ok.ensures.value, c.as_slice-in-Ok-2.ensures.value) at c.print_check.ensures.err in
    over_three sources c.args.inventory (g.I.Read.remaining c.args.input.now) (g.I.Read.remaining c.read_three.new.input) old new c.args.playbook c.args.plan
    (λ first second third status. PrintsCheck first second third old new status) (λ first second third fault. RefusesCheck first second third old new fault)
    c.in-Ok.inventory.items c.in-Ok.playbook.items c.in-Ok.plan.items c.print_check.result c.in-Ok.ensures.ok prints refuses

pub returns-in-Err : goal.returns-in-Err
returns-in-Err g c = inl (c.in-Err.ensures.err, Keeps-refl (g.W.Write.contents c.args.out.now))
