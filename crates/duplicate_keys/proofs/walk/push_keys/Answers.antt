use Rattle.std.proofs.Common.{◌≡◌, ◌+◌, [], ◌∷◌, ◌++◌, drop, get_or, map, take, sym, ap, ◌∙◌}
use Rattle.std.proofs.lemmas.List.{drop_all, drop_more}
use Rattle.duplicate_keys.specs.Inside.{below_all, names_of, paths_told}
use Rattle.duplicate_keys.specs.Repeats.{cut}
use Rattle.duplicate_keys.proofs.Ways.{no_room, none_left, one_key}
use Rattle.duplicate_keys.proofs.walk.push_keys.Goals as goal

pub returns-then-is_full : goal.returns-then-is_full
returns-then-is_full c =
    let above = c.args.above.now in
    let listed = ap names_of c.deref-key-items.ensures.value ∙ c.in_ok-keys.ensures in
    no_room c.loop-key.told _ _ (sym c.is_full.ensures ∙ c.if-is_full.true)
    (c.loop-key.invariant ∙ ap (λ names. take 100 (paths_told c.args.told.now ++ below_all above (map cut names))) listed)

pub loop-key-preserved : goal.loop-key-preserved
loop-key-preserved c =
    let l = c.loop-key in
    let above = c.args.above.now in
    let keys = c.deref-key-items.result.now in
    let rest = map cut (names_of (drop (l.key-index + 1) keys)) in
    let here : drop l.key-index keys ≡ get_or keys l.key-index _ ∷ drop (l.key-index + 1) keys = drop_more keys l.key-index _ c.loop-key-test.true in
    let told = c.in_ok-add.ensures ∙ ap (λ path. take 100 (paths_told l.told ++ path ∷ [])) c.in_ok-path_of.ensures in
    one_key above (get_or keys l.key-index _).now rest (paths_told l.told) _ _ told (sym (ap (λ ks. take 100 (paths_told l.told ++ below_all above (map cut (names_of ks)))) here) ∙ l.invariant)

pub returns : goal.returns
returns c =
    let l = c.loop-key in
    let above = c.args.above.now in
    let keys = c.deref-key-items.result.now in
    let listed = ap names_of c.deref-key-items.ensures.value ∙ c.in_ok-keys.ensures in
    let none = ap (λ ks. below_all above (map cut (names_of ks))) (drop_all l.key-index keys c.loop-key-test.false) in
    none_left l.told _ _ none (l.invariant ∙ ap (λ names. take 100 (paths_told c.args.told.now ++ below_all above (map cut names))) listed)
