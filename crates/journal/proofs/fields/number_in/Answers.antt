use Rattle.journal.proofs.NameLemmas.{found_number, no_number}
use Rattle.journal.proofs.fields.number_in.Goals as goal

pub returns-in-Ok : goal.returns-in-Ok
returns-in-Ok c = found_number c.args.digits.now c.in-Ok.digits.now c.number_in_digits.result c.in-Ok.ensures.cases.0 c.in-Ok.ensures.cases.1 c.number_in_digits.ensures.number

pub returns-in-Err : goal.returns-in-Err
returns-in-Err c = no_number c.args.digits.now c.in-Err.ensures.cases.0
