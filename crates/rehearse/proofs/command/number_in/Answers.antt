use Rattle.std.proofs.Common.{Some, ◌∙◌}
use Rattle.rehearse.proofs.NameLemmas.{found_number, no_number}
use Rattle.rehearse.proofs.command.number_in.Goals as goal

pub returns-in_ok-number_in_digits-in-Ok : goal.returns-in_ok-number_in_digits-in-Ok
returns-in_ok-number_in_digits-in-Ok c =
    c.some_number.ensures
    ∙ found_number c.args.word.now c.in-Ok.digits.now (Some c.in_ok-number_in_digits-in-Ok.field-0) c.in-Ok.ensures.cases.0 c.in-Ok.ensures.cases.1 c.in_ok-number_in_digits-in-Ok.ensures.number

pub returns-in-Err : goal.returns-in-Err
returns-in-Err c = no_number c.args.word.now c.in-Err.ensures.cases.0
