use Rattle.resume_preview.proofs.OwedLemmas.{repaired_hosts_run_each_handler}
use Rattle.resume_preview.proofs.laws.repaired_hosts_run_each_handler.Goals as goal

pub returns : goal.returns
returns g c = repaired_hosts_run_each_handler (g.R.Runner.may c.args.runner.now)
