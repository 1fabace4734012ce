use Rattle.domains.specs.Ids.{host_numbers}
use Rattle.roll_run.proofs.Passing.{breaks_at_once, broken_where, run_where}
use Rattle.roll_run.proofs.batch.work_off.Goals as goal

pub returns-in-Ok-clause-ok : goal.returns-in-Ok-clause-ok
returns-in-Ok-clause-ok g c =
    run_where c.args.board c.open.new.self (host_numbers c.args.batch.now) c.in-Ok.ensures.ok c.pass_steps.result c.pass_steps.ensures.ok

pub returns-in-Ok-clause-err : goal.returns-in-Ok-clause-err
returns-in-Ok-clause-err g c =
    broken_where c.args.board c.open.new.self (host_numbers c.args.batch.now) c.in-Ok.ensures.ok c.pass_steps.result c.pass_steps.ensures.err

pub returns-in-Err-clause-err : goal.returns-in-Err-clause-err
returns-in-Err-clause-err g c = breaks_at_once c.args.board c.open.new.self (host_numbers c.args.batch.now) c.in-Err.ensures.unchanged
