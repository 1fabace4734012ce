use Rattle.std.proofs.Common.{◌++◌, List, Option, ℕ, map, ap, subst, sym, ◌∙◌}
use Rattle.std.specs.Borrow.{Bor}
use Rattle.group_tree.specs.Names.{Name, same_name}
use Rattle.group_tree.proofs.MemberLemmas.{list_any-map}
use Rattle.lint_command.specs.Near.{all_with_near, compared_names}
use Rattle.host_vars.specs.HostVars.{variables_of}
use Rattle.host_vars.specs.declared.vars.Vars.{Vars}
use Rattle.inventory_lints.specs.Fleet.{fleet_notes}
use Rattle.step_lints.specs.Given.{AreAllGiven, is_given}
use Rattle.step_lints.specs.Inside.{foreseen_in, has_missed, names_of, value_in}
use Rattle.inventory_lints.specs.Inside.{noted_repeats}
use Rattle.lint_command.specs.Playbooks.{plays_notes}
use Rattle.step_lints.proofs.GivenLemmas.{all_given}
use Rattle.lint_command.proofs.SameLemmas.{if_ok_same, notes_of_all}
use Rattle.lint_command.proofs.playbook.list_notes.Goals as goal

pub warn_plays-requires-clause-given : goal.warn_plays-requires-clause-given
warn_plays-requires-clause-given g c =
    let passes = has_missed c.in_ok-given.given in
    subst (λ (l : List Vars). AreAllGiven passes l) (sym c.as_slice.ensures.value)
    (all_given c.args.tree.now c.args.fleet.now.hosts c.in_ok-vars.vars.items c.in_ok-vars.ensures.variables c.in_ok-vars.ensures.results passes c.in_ok-given.ensures)

pub returns : goal.returns
returns g c =
    let vars = c.in_ok-vars.vars.items in
    let fleet = c.args.fleet.now in
    let plays = c.args.plays.now in
    let sizes = c.in_ok-sizes.sizes.items in
    let before = c.in_ok-notes.notes in
    let of = c.in_ok-registry.registry in
    let given = c.in_ok-given.given in
    let keys = given.names.keys in
    let first = noted_repeats c.args.repeats.now ++ fleet_notes c.args.tree.now fleet in
    let noted = notes_of_all fleet of.fleet.now sizes plays of.plays.now vars c.as_slice.result.now (has_missed given) (is_given c.args.tree.now) first before c.warn_plays.new.notes c.in_ok-vars.ensures.results
    c.as_slice.ensures.value c.in_ok-registry.ensures.fleet c.in_ok-registry.ensures.plays c.in_ok-given.ensures c.in_ok-notes.ensures
    (c.in_ok-warn_plays.ensures
    ∙ ap (λ (l : List (Option ℕ)). before ++ plays_notes fleet (value_in c.as_slice.result.now) (has_missed given) (foreseen_in of.fleet.now of.plays.now c.as_slice.result.now) l plays) c.as_slice-2.ensures.value) in
    if_ok_same c.with_near.result _ _ c.with_near.ensures (λ notes is. record {
      hosts = map variables_of vars;
      are = c.in_ok-vars.ensures.variables;
      sizes = sizes;
      sizes_are = c.in_ok-sizes.ensures;
      given = names_of keys;
      gives = λ name. list_any-map (same_name name) (λ (key : Bor Name). key.now) keys ∙ c.in_ok-given.ensures name;
      notes_are = is ∙ ap (all_with_near (compared_names (names_of keys) plays)) noted;
    })
