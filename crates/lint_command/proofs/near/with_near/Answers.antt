use Rattle.std.proofs.Common.{◌≡◌, ◌++◌, ◌∷◌, Bor, List, drop, map, sym, take, ap, ◌∙◌}
use Rattle.std.specs.Prelude.{codes}
use Rattle.std.proofs.lemmas.List.{drop-map, take-map}
use Rattle.group_tree.specs.Names.{Name}
use Rattle.step_lints.specs.Inside.{names_of}
use Rattle.lint_command.specs.Near.{compared_names, most_compared, most_told, play_registers, with_near}
use Rattle.lint_rules.specs.Notes.{Note, seen}
use Rattle.lint_command.proofs.near.with_near.Goals as goal

pub returns : goal.returns
returns c =
    let names = c.in_ok-names.names.items in
    let plays = c.args.plays.now in
    let keys = c.args.given.now.names.keys in
    let all = c.as_slice-3.result.now in
    let compared : names_of c.split.result.0.now ≡ compared_names (names_of keys) plays =
    ap names_of (c.split.ensures.front ∙ ap (take most_compared) c.as_slice-2.ensures.value)
    ∙ sym (take-map (λ (name : Bor Name). name.now) most_compared names)
    ∙ ap (take most_compared) (c.in_ok-names.ensures ∙ ap (λ (l : List (Bor Name)). codes "inventory_hostname" ∷ (names_of l ++ play_registers plays)) c.as_slice.ensures.keys) in
    let first : map seen c.split-2.result.0.now ≡ take most_told c.args.notes.now =
    ap (map seen) c.split-2.ensures.front ∙ sym (take-map seen most_told all) ∙ ap (take most_told) c.as_slice-3.ensures in
    let others : map seen c.split-2.result.1.now ≡ drop most_told c.args.notes.now =
    ap (map seen) c.split-2.ensures.behind ∙ sym (drop-map seen most_told all) ∙ ap (drop most_told) c.as_slice-3.ensures in
    let near = with_near (compared_names (names_of keys) plays) in
    c.in_ok-add_all.ensures
    ∙ ap (λ (l : List Note). l ++ map seen c.split-2.result.1.now) (c.in_ok-changed.ensures ∙ ap (λ (l : List Name). map (with_near l) (map seen c.split-2.result.0.now)) compared ∙ ap (map near) first)
    ∙ ap (λ (l : List Note). map near (take most_told c.args.notes.now) ++ l) others
