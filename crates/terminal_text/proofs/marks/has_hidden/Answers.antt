use Rattle.std.proofs.Common.{ap, sym, ◌∙◌}
use Rattle.terminal_text.specs.Marks.{starts_hidden}
use Rattle.terminal_text.proofs.TextLemmas.{hidden_further, tail_is}
use Rattle.terminal_text.proofs.marks.has_hidden.Goals as goal

pub loop-place-preserved : goal.loop-place-preserved
loop-place-preserved c =
    let bytes = c.args.bytes.now in
    let i = c.loop-place.place in
    let seen = ap starts_hidden (sym (tail_is bytes i)) ∙ sym c.starts_hidden.ensures ∙ c.if-starts_hidden.false in
    hidden_further bytes i c.loop-place-test.true seen ∙ c.loop-place.invariant
