use Rattle.std.proofs.Common.{map, refl}
use Rattle.lint_rules.specs.Hints.{has_told}
use Rattle.lint_rules.specs.Kinds.{all_kinds}
use Rattle.lint_rules.specs.Notes.{isnt_allowed, seen}
use Rattle.lint_rules.proofs.HintLemmas.{hints_more}
use Rattle.lint_rules.proofs.hints.write_hints.Goals as goal

pub loop-kind-preserved : goal.loop-kind-preserved
loop-kind-preserved g c =
    let has = has_told (isnt_allowed c.args.allowed.now) (map seen c.args.notes.now) in
    let within = rw (c.kinds-kind-items.ensures) at c.loop-kind-test.true in
    let now = rw (c.kinds-kind-items.ensures) at c.write_hint_if.ensures in
    hints_more g.W.Write.contents has all_kinds c.loop-kind.kind-index _ _ _ _ _ within refl c.loop-kind.invariant now
