use Rattle.std.proofs.Common.{length, sym, ap, ◌∙◌, arith}
use Rattle.cond.specs.Seen.{ahead, place_of, text_of}
use Rattle.cond.specs.Trees.{written}
use Rattle.cond.proofs.TestLaws.{test_longer}
use Rattle.cond.proofs.TestFronts.{test_read_whole}
use Rattle.cond.proofs.LeafLaws.{leaf_read, leaf_refused, leaf_unended}
use Rattle.cond.proofs.parser.leaf.Goals as goal

pub returns-then-ends-clause-read : goal.returns-then-ends-clause-read
returns-then-ends-clause-read c =
    leaf_read (text_of c.args.source.now) c.args.room (ahead c.args.source.now c.args.from) (written (text_of c.args.source.now) c.in-Ok.found) c.leaf_of.result
    (ahead c.args.source.now c.in-Ok.rest) c.in-Ok.ensures (sym c.ends.ensures ∙ c.if-ends.true) (c.leaf_of.ensures (text_of c.args.source.now))

pub returns-then-ends-clause-shorter : goal.returns-then-ends-clause-shorter
returns-then-ends-clause-shorter c =
    omega (
      arith,
      ap length (test_read_whole (ahead c.args.source.now c.args.from) (written (text_of c.args.source.now) c.in-Ok.found)
          (ahead c.args.source.now c.in-Ok.rest) c.in-Ok.ensures),
      test_longer (written (text_of c.args.source.now) c.in-Ok.found) (ahead c.args.source.now c.in-Ok.rest),
    )

pub returns-else-ends-clause-refused : goal.returns-else-ends-clause-refused
returns-else-ends-clause-refused c =
    leaf_unended (place_of c.args.source.now) c.args.room (ahead c.args.source.now c.args.from) c.requires c.place.result (written (text_of c.args.source.now) c.in-Ok.found)
    (ahead c.args.source.now c.in-Ok.rest) c.place.ensures c.in-Ok.ensures (sym c.ends.ensures ∙ c.if-ends.false)

pub returns-in-Err-clause-refused : goal.returns-in-Err-clause-refused
returns-in-Err-clause-refused c =
    leaf_refused (place_of c.args.source.now) c.args.room (ahead c.args.source.now c.args.from) c.requires c.in-Err.stop c.in-Err.ensures
