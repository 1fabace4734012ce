use Rattle.std.proofs.Common.{◌≡◌, false, drop, sym, ap, ◌∙◌}
use Rattle.text_syntax.specs.Words.{starts}
use Rattle.text_syntax.proofs.PlainLemmas.{rest_is}
use Rattle.play_read.proofs.Closings.{next_closing}
use Rattle.play_read.proofs.holes.before_closing.Goals as goal

pub loop-index-preserved : goal.loop-index-preserved
loop-index-preserved c =
    let bytes = c.args.bytes.now in
    let other : starts 125 125 (drop c.loop-index.index bytes) ≡ false = ap (starts 125 125) (rest_is bytes c.loop-index.index) ∙ sym c.starts_with_pair.ensures.same ∙ c.if-starts_with_pair.false in
    next_closing bytes c.loop-index.index c.loop-index-test.true other c.loop-index.invariant
