use Rattle.std.proofs.Common.{refl, subst, ◌++◌, drop}
use Rattle.bounded_io.specs.Writing.{Writes}
use Rattle.bounded_io.proofs.WritingLemmas.{writes_two}
use Rattle.terminal_text.specs.Texts.{byte_in, first_text, mark_in}
use Rattle.terminal_text.proofs.TextLemmas.{all_written, tail_is, written_further}
use Rattle.terminal_text.proofs.text.write_text.Goals as goal

pub loop-place-preserved : goal.loop-place-preserved
loop-place-preserved g c =
    let mark = mark_in c.args.layout.now in
    let piece = byte_in c.args.layout.now in
    let bytes = c.args.bytes.now in
    let i = c.loop-place.place in
    let was = c.loop-place.invariant in
    let here = tail_is bytes i in
    let first = first_text mark piece c.loop-place.left (drop i bytes) in
    record {
      written = was.written ++ first;
      wrote = writes_two _ _ _ _ was.written first (was.written ++ first) was.wrote (rw here at c.write_first-left.ensures.text) refl;
      rest = written_further mark piece bytes was.written first _ i c.loop-place.left _ c.loop-place-test.true refl (rw here at c.write_first-left.ensures.left) was.rest;
    }

pub returns : goal.returns
returns g c =
    let layout = c.args.layout.now in
    let was = c.loop-place.invariant in
    subst (Writes g.W.Write.contents c.args.text.now c.loop-place.text) (all_written (mark_in layout) (byte_in layout) c.args.bytes.now was.written _ c.loop-place.place c.loop-place.left c.loop-place-test.false was.rest) was.wrote
