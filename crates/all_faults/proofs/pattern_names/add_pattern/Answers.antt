use Rattle.std.proofs.Common.{rules, ◌≡◌, List, [], ◌∷◌, ◌++◌, sym, ap, ◌∙◌}
use Rattle.std.specs.Prelude.{filter}
use Rattle.group_tree.specs.Names.{Name}
use Rattle.text_syntax.specs.Patterns.{parts_of}
use Rattle.text_syntax.specs.Telling.{with_breaches}
use Rattle.text_syntax.proofs.Tellings.{all_told, pass}
use Rattle.domains.specs.Patterns.{names_nothing}
use Rattle.playbook_schema.specs.Known.{known}
use Rattle.playbook_schema.specs.Names.{once}
use Rattle.all_faults.proofs.Unknown.{once_next}
use Rattle.all_faults.proofs.pattern_names.add_pattern.Goals as goal

pub loop-part-init : goal.loop-part-init
loop-part-init c = record { text = search rules; told = ap (λ (before : List Name). with_breaches c.args.told.now (once before (filter (names_nothing c.args.fleet.now) (parts_of c.args.pattern.now)))) c.new-before.ensures }

pub loop-part-preserved : goal.loop-part-preserved
loop-part-preserved c =
    let l = c.loop-part in
    let nothing = names_nothing c.args.fleet.now in
    let part = c.in-Some.part.now in
    let later = parts_of c.in-Some.later.now in
    let before = known l.before in
    let own = once before (filter nothing (part ∷ [])) in
    let added = c.in_ok-add_part.ensures in
    let all : parts_of l.rest.now ≡ part ∷ later = c.in-Some.ensures.part in
    record {
      text = search rules;
      told =
          ap (λ (names : List Name). with_breaches c.add_part.new.told (once names (filter nothing later))) added.names
          ∙ pass _ _ own (once (before ++ own) (filter nothing later)) _ added.told
          (ap (with_breaches l.told) (sym (ap (λ (parts : List Name). once before (filter nothing parts)) all ∙ once_next nothing before part later)) ∙ l.invariant.told);
    }

pub returns : goal.returns
returns c =
    let l = c.loop-part in
    let none = ap (λ (parts : List Name). with_breaches l.told (once (known l.before) (filter (names_nothing c.args.fleet.now) parts))) c.in_default.ensures.none in
    all_told l.told _ (sym none ∙ l.invariant.told)
