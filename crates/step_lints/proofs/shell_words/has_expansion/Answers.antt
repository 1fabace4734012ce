use Rattle.std.proofs.Common.{sym, ap, ◌∙◌, arith}
use Rattle.std.proofs.lemmas.List.{drop_all}
use Rattle.step_lints.specs.ShellWords.{has_expansion, is_expansion}
use Rattle.inventory_lints.proofs.HoleLemmas.{found_behind, found_here}
use Rattle.step_lints.proofs.shell_words.has_expansion.Goals as goal

pub loop-place-preserved : goal.loop-place-preserved
loop-place-preserved c =
    found_behind (is_expansion c.args.spaced) c.args.bytes.now c.loop-place.place c.loop-place-test.true (sym (ap (is_expansion c.args.spaced) c.bytes_behind.ensures) ∙ sym c.is_expansion.ensures ∙ c.if-is_expansion.false)
    ∙ c.loop-place.invariant

pub returns-then-is_expansion : goal.returns-then-is_expansion
returns-then-is_expansion c =
    sym (found_here (is_expansion c.args.spaced) c.args.bytes.now c.loop-place.place c.loop-place-test.true (sym (ap (is_expansion c.args.spaced) c.bytes_behind.ensures) ∙ sym c.is_expansion.ensures ∙ c.if-is_expansion.true))
    ∙ c.loop-place.invariant

pub returns : goal.returns
returns c =
    sym (ap (has_expansion c.args.spaced) (drop_all c.loop-place.place c.args.bytes.now (omega arith))) ∙ c.loop-place.invariant
