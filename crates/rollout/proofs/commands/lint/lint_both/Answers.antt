use Rattle.std.proofs.Common.{Some}
use Rattle.rollout.specs.Notes.{FailsOver, SaysOf}
use Rattle.rollout.specs.Systems.{sources_of}
use Rattle.rollout.proofs.OverTexts.{over_two}
use Rattle.rollout.proofs.commands.lint.lint_both.Goals as goal

pub returns-in-Ok : goal.returns-in-Ok
returns-in-Ok g c =
    let sources = sources_of (g.S.System.known c.args.system.now) (g.I.Input.is_reliable c.args.input.now) in
    let old = g.W.Write.contents c.args.out.now in
    let new = g.W.Write.contents c.print_on_both.new.out in
    let allowed = c.args.allowed.now in
    let says = rw (c.as_slice.ensures.value, c.as_slice-in-Ok.ensures.value) at c.print_on_both.ensures.ok in
    let fails = rw (c.as_slice.ensures.value, c.as_slice-in-Ok.ensures.value) at c.print_on_both.ensures.err in
    over_two sources c.args.inventory (g.I.Read.remaining c.args.input.now) (g.I.Read.remaining c.read_both.new.input) old new c.args.playbook
    (λ first second. SaysOf allowed first (Some second) old new) (λ first second. FailsOver allowed first (Some second) old new)
    c.in-Ok.inventory.items c.in-Ok.playbook.items c.print_on_both.result c.in-Ok.ensures.ok says fails
