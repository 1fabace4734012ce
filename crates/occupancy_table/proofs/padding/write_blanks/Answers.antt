use Rattle.std.proofs.Common.{◌≡◌, ℕ, subst, arith}
use Rattle.std.proofs.lemmas.List.{replicate_more}
use Rattle.bounded_io.specs.Writing.{Writes}
use Rattle.bounded_io.proofs.WritingLemmas.{writes_two}
use Rattle.occupancy_table.specs.TableText.{blanks}
use Rattle.occupancy_table.proofs.padding.write_blanks.Goals as goal

pub loop-blank-preserved : goal.loop-blank-preserved
loop-blank-preserved g c =
    writes_two _ c.args.text.now c.loop-blank.text c.write_str.new.self _ _ _ c.loop-blank.invariant c.write_str.ensures (replicate_more c.loop-blank._blank 32)

pub returns : goal.returns
returns g c =
    let all : c.loop-blank._blank ≡ c.args.count = omega (arith, c.loop-blank-test.false, c.loop-blank.auto._blank-end) in
    subst (λ (n : ℕ). Writes g.W.Write.contents c.args.text.now c.loop-blank.text (blanks n)) all c.loop-blank.invariant
