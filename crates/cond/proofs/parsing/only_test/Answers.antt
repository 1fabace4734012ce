use Rattle.std.proofs.Common.{not, ◌∙◌, ap}
use Rattle.cond.specs.Grammar.{test_then}
use Rattle.cond.specs.Seen.{ahead, text_of}
use Rattle.cond.specs.Trees.{written}
use Rattle.cond.proofs.TestFronts.{test_read_whole}
use Rattle.cond.proofs.ParseLaws.{kept_none}
use Rattle.cond.proofs.parsing.only_test.Goals as goal

pub returns-in-Ok : goal.returns-in-Ok
returns-in-Ok c =
    let text = text_of c.args.source.now in
    let rest = ahead c.args.source.now c.in-Ok.rest in
    let t = written text c.in-Ok.test in
    let nothing = kept_none text c.first.result rest c.first.ensures (c.is_none.ensures ∙ ap not c.if-is_none.true) in
    test_read_whole (ahead c.args.source.now 0) t rest c.in-Ok.ensures ∙ ap (test_then t) nothing
