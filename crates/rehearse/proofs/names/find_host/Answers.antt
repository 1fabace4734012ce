use Rattle.rehearse.proofs.NameLemmas.{found_host, no_text}
use Rattle.rehearse.proofs.names.find_host.Goals as goal

pub returns-in-Ok : goal.returns-in-Ok
returns-in-Ok c =
    found_host c.args.fleet.now c.args.name.now c.in-Ok.name.now c.host.result c.in-Ok.ensures.cases.0 c.in-Ok.ensures.cases.1 c.host.ensures

pub returns-in-Err : goal.returns-in-Err
returns-in-Err c = no_text c.args.fleet.now c.args.name.now c.in-Err.ensures.cases.0
