use Rattle.std.proofs.Common.{◌≡◌, ◌++◌, ◌∙◌, ap, arith, [], drop, sym, subst}
use Rattle.std.proofs.lemmas.List.{append-nil, drop_all}
use Rattle.fleet_index.specs.GroupPaths.{paths_from, ArePreorderPaths}
use Rattle.fleet_index.proofs.HeldLemmas.{preorder}
use Rattle.fleet_index.proofs.paths.list_paths.Goals as goal

pub returns-clause-preorder : goal.returns-clause-preorder
returns-clause-preorder c =
    let done : drop c.loop-number.number c.args.depths.now ≡ [] = drop_all c.loop-number.number c.args.depths.now (omega (arith, c.loop-number-test.false)) in
    let all : c.loop-number.paths ≡ paths_from [] 0 c.args.depths.now =
    sym (append-nil c.loop-number.paths)
    ∙ sym (ap (λ rest. c.loop-number.paths ++ paths_from c.loop-number.path.items c.loop-number.number rest) done)
    ∙ c.loop-number.invariant in
    subst ArePreorderPaths (sym all) (preorder c.args.depths.now)
