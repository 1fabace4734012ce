use Rattle.std.proofs.Common.{◌<◌, length, arith}
use Rattle.std.proofs.lemmas.Bool.Decides.{nat_tests}
use Rattle.rehearse.specs.Answers.{text_to}
use Rattle.rehearse.specs.Tellings.{telling_of}
use Rattle.rehearse.specs.Commands.{command_in}
use Rattle.rehearse.proofs.ListeningLemmas.{last_told}
use Rattle.rehearse.proofs.session.answer_last.Goals as goal

pub returns-clause-last : goal.returns-clause-last
returns-clause-last g c =
    let line = c.args.line.now in
    let some : 0 < length c.args.line.now = grind (arith, nat_tests, c.is_empty.ensures, c.if-is_empty.false) in
    last_told g.W.Write.contents c.args.history.now line (text_to (telling_of c.args.form) c.args.history.now (command_in line) c.answer.new.history) c.answer.new.history c.args.text.now c.answer.new.text some
    c.in_ok-answer.ensures.answers c.in_ok-answer.ensures.writes
