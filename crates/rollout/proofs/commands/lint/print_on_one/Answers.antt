use Rattle.std.proofs.Common.{None}
use Rattle.rollout.proofs.NoteLemmas.{err_after, ok_after}
use Rattle.rollout.proofs.commands.lint.print_on_one.Goals as goal

pub returns-in-Err-clause-ok : goal.returns-in-Err-clause-ok
returns-in-Err-clause-ok g c =
    ok_after c.args.inventory.now None (g.W.Write.contents c.args.out.now) (g.W.Write.contents c.lint_fleet_text.new.out)
    (g.W.Write.contents c.print_instead.new.out) c.args.allowed.now c.in-Err.refused c.in-Err.ensures.err c.print_instead.result c.print_instead.ensures

pub returns-in-Err-clause-err : goal.returns-in-Err-clause-err
returns-in-Err-clause-err g c =
    err_after c.args.inventory.now None (g.W.Write.contents c.args.out.now) (g.W.Write.contents c.lint_fleet_text.new.out)
    (g.W.Write.contents c.print_instead.new.out) c.args.allowed.now c.in-Err.refused c.in-Err.ensures.err c.print_instead.result c.print_instead.ensures
