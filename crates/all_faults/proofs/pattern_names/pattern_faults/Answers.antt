use Rattle.std.proofs.Common.{◌≡◌, ◌+◌, ◌∷◌, [], List, drop, flat_map, sym, ap, ◌∙◌}
use Rattle.std.proofs.lemmas.List.{drop_all, drop_more}
use Rattle.group_tree.specs.Names.{Name}
use Rattle.play_model.specs.declared.play.Play.{Play}
use Rattle.text_syntax.specs.Patterns.{parts_of}
use Rattle.text_syntax.specs.Telling.{Telling, nothing_told, with_breaches}
use Rattle.text_syntax.proofs.Tellings.{all_told, more_of, pass, told_of}
use Rattle.all_faults.specs.PatternNames.{unknown_among, unknown_in, unknown_names}
use Rattle.all_faults.proofs.pattern_names.pattern_faults.Goals as goal

pub loop-play-preserved : goal.loop-play-preserved
loop-play-preserved c =
    let l = c.loop-play in
    let fleet = c.args.fleet.now in
    let plays = c.args.plays.now in
    let play = c.play-item.result in
    let left : drop l.play-index plays ≡ play ∷ drop (l.play-index + 1) plays =
    drop_more plays l.play-index play c.loop-play-test.true ∙ ap (λ (first : Play). first ∷ drop (l.play-index + 1) plays) (sym c.play-item.is) in
    let own : c.add_pattern.new.told ≡ with_breaches l.told (unknown_in fleet play) =
    c.in_ok-add_pattern.ensures ∙ ap (λ (text : Name). with_breaches l.told (unknown_among fleet (parts_of text))) c.pattern.ensures in
    pass _ _ (unknown_in fleet play) (flat_map (unknown_in fleet) (drop (l.play-index + 1) plays)) _ own
    (ap (λ (list : List Play). with_breaches l.told (flat_map (unknown_in fleet) list)) (sym left) ∙ l.invariant)

pub returns : goal.returns
returns c =
    let l = c.loop-play in
    let fleet = c.args.fleet.now in
    let names = unknown_names fleet c.args.plays.now in
    let done = ap (λ (list : List Play). with_breaches l.told (flat_map (unknown_in fleet) list)) (drop_all l.play-index c.args.plays.now c.loop-play-test.false) in
    let all : l.told ≡ with_breaches (nothing_told c.args.most) names =
    all_told l.told _ (sym done ∙ l.invariant) ∙ ap (λ (t : Telling Name). with_breaches t names) c.new-told.ensures in
    record {
      first = c.into_told.ensures.faults ∙ ap (λ (t : Telling Name). t.told) all ∙ told_of c.args.most names;
      others = c.into_told.ensures.more ∙ ap (λ (t : Telling Name). t.more) all ∙ more_of c.args.most names;
    }
