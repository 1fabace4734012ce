use Rattle.std.proofs.Common.{◌≡◌, ◌∙◌, ◌+◌, ◌<◌, ℕ, List, [], map, take, length, get_or, sym, ap, arith, Global}
use Rattle.std.specs.String.{string_bytes}
use Rattle.std.proofs.lemmas.List.{length-map, get_or-map, take-map}
use Rattle.group_tree.specs.Names.{Name}
use Rattle.domains.proofs.NameLemmas.{one_more_name}
use Rattle.domains.proofs.numbers.names_of_groups.Goals as goal

pub loop-walked-preserved : goal.loop-walked-preserved
loop-walked-preserved g c =
    let names : List Name = map (λ walked. walked.group.now.name) c.args.groups.now in
    let i : ℕ = c.loop-walked.walked-index in
    let within : i < length names = omega (arith, c.loop-walked-test.true, c.loop-walked.auto.walked-index-end, length-map c.args.groups.now (λ walked. walked.group.now.name)) in
    let item : c.walked-item.result.group.now.name ≡ get_or names i [] =
    ap (λ walked. walked.group.now.name) c.walked-item.is
    ∙ sym
    (get_or-map (λ walked. walked.group.now.name) c.args.groups.now i c.walked-item.result [] (omega (arith, c.loop-walked-test.true, c.loop-walked.auto.walked-index-end))) in
    let name : string_bytes {Z = Global} c.in_ok-from_str.field-0 ≡ get_or names i [] = c.in_ok-from_str.ensures.ok ∙ c.name.ensures ∙ item in
    let before : map (string_bytes {Z = Global}) c.loop-walked.names.keys ≡ take i names =
    c.loop-walked.invariant ∙ sym (take-map (λ walked. walked.group.now.name) i c.args.groups.now) in
    ap (map (string_bytes {Z = Global})) c.in_ok-insert.ensures.keys
    ∙ one_more_name c.loop-walked.names.keys names i c.in_ok-from_str.field-0 c.requires within name before
    ∙ take-map (λ walked. walked.group.now.name) (i + 1) c.args.groups.now
