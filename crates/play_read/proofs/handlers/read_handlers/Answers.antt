use Rattle.std.proofs.Common.{◌≡◌, ◌+◌, ◌++◌, ◌∷◌, [], List, length, map, take, drop, sym, ap, ◌∙◌, subst, arith, length-append, refl}
use Rattle.std.specs.List.{filter_map}
use Rattle.std.proofs.lemmas.List.{drop_all, take_all}
use Rattle.std.proofs.lemmas.List.Elements.{filter_map-append}
use Rattle.serde_json.specs.View.{view}
use Rattle.serde_json.specs.declared.value.Value.{Value}
use Rattle.group_tree.specs.Names.{Name}
use Rattle.play_model.specs.declared.step.Step.{Step}
use Rattle.playbook_schema.specs.Breaches.{all_in}
use Rattle.playbook_schema.specs.Known.{known}
use Rattle.playbook_schema.specs.Names.{once}
use Rattle.playbook_schema.specs.Paths.{handler_path}
use Rattle.playbook_schema.specs.Places.{play_path}
use Rattle.playbook_schema.specs.Plays.{checks_of_handlers, spot_at}
use Rattle.playbook_schema.specs.Steps.{checks_of_handler, name_in, handler_of}
use Rattle.playbook_schema.proofs.AddLaws.{adds_inside, kept_one, leads_end, leads_on, leads_start}
use Rattle.playbook_schema.proofs.CheckLaws.{kept_from}
use Rattle.playbook_schema.proofs.NameLaws.{once-append}
use Rattle.play_read.specs.Readings.{IsStep}
use Rattle.play_read.specs.Reads.{AreSteps}
use Rattle.play_read.proofs.Lists.{left_at, taken_at, all_zip_more}
use Rattle.play_read.proofs.handlers.read_handlers.Goals as goal

pub loop-index-preserved : goal.loop-index-preserved
loop-index-preserved c =
    let l = c.loop-index in
    let at = play_path c.args.play in
    let told = c.args.play.told in
    let first = c.args.tasks + 1 in
    let handlers = c.args.handlers.now in
    let handler = c.index-handlers-index.result in
    let left = left_at view handlers l.index handler c.loop-index-test.true c.index-handlers-index.is in
    let taken = taken_at view handlers l.index handler c.loop-index-test.true c.index-handlers-index.is in
    let met = known l.names in
    let read = c.in-Ok.ensures in
    let path = handler_path at l.index in
    let own = checks_of_handler met (spot_at told (first + l.index)) (view handler) in
    let later = map view (drop (l.index + 1) handlers) in
    let split = ap (checks_of_handlers at told first l.index met) left ∙ ap (λ (names : List Name). all_in path own ++ checks_of_handlers at told first (l.index + 1) names later) (sym read.names) in
    let rest = checks_of_handlers at told first (l.index + 1) (known c.read_one.new.names) later in
    let pushed = c.in_ok-push-in-Ok.ensures.items in
    record {
      names =
          read.names ∙ ap (λ (names : List Name). names ++ once names (filter_map name_in (view handler ∷ []))) l.invariant.names
          ∙ sym (ap (λ values. once [] (filter_map name_in values)) taken ∙ ap (once []) (filter_map-append name_in (map view (take l.index handlers)) (view handler ∷ []))
          ∙ once-append [] (filter_map name_in (map view (take l.index handlers))) (filter_map name_in (view handler ∷ [])));
      found = leads_on [] _ _ _ _ l.invariant.found c.read_one.new.faults (all_in path own) rest split (adds_inside path _ _ own read.found);
      says = λ kept.
          all_zip_more IsStep handler_of (map view (take l.index handlers)) _ l.steps.items _ (view handler) c.read_one.new.into taken pushed (l.invariant.says kept)
          (read.says (kept_from path own (kept_one [] _ _ _ _ l.invariant.found (all_in path own) rest split kept)));
      many = omega (arith, ap (λ (steps : List Step). length steps) pushed, length-append l.steps.items (c.read_one.new.into ∷ []), l.invariant.many);
    }

pub returns-clause-found : goal.returns-clause-found
returns-clause-found c =
    let l = c.loop-index in
    leads_end [] _ _ _ _ l.invariant.found
    (ap (λ (list : List Value). checks_of_handlers (play_path c.args.play) c.args.play.told (c.args.tasks + 1) l.index (known l.names) (map view list)) (drop_all l.index c.args.handlers.now c.loop-index-test.false))
