use Rattle.std.proofs.Common.{◌≡◌, ◌+◌, ◌++◌, [], List, map, drop, sym, ap, ◌∙◌, subst, refl, append-nil}
use Rattle.std.specs.List.{filter_map, flat_map}
use Rattle.std.proofs.lemmas.List.{drop_all}
use Rattle.serde_json.specs.View.{view}
use Rattle.serde_json.specs.declared.value.Value.{Value}
use Rattle.playbook_schema.specs.Breaches.{where_given}
use Rattle.playbook_schema.specs.Conditions as rules
use Rattle.playbook_schema.specs.Conditions.{clause_of, asked_of}
use Rattle.playbook_schema.specs.Faults.{key_name}
use Rattle.playbook_schema.specs.Places.{path_at, spot_of}
use Rattle.playbook_schema.proofs.AddLaws.{kept_one, leads_end, leads_on, leads_start}
use Rattle.play_read.specs.Says.{Gathers}
use Rattle.play_read.proofs.Readings.{asked_on, with_part, gathers_more, with_consed, left_at}
use Rattle.play_read.proofs.conditions.gather.Goals as goal

pub loop-value-init : goal.loop-value-init
loop-value-init c = record {
  found = leads_start (path_at c.args.place) c.args.faults.now _;
  gathers = λ kept. ([], record { parts = []; each = tt; same = c.in_ok-all.ensures }, refl);
}

pub loop-value-preserved : goal.loop-value-preserved
loop-value-preserved c =
    let l = c.loop-value in
    let at = path_at c.args.place in
    let asked = asked_of (spot_of c.args.place) (key_name c.args.key) in
    let item = c.value-item.result in
    let part = clause_of (view item) in
    let later = filter_map clause_of (map view (drop (l.value-index + 1) c.args.list.now)) in
    let left = left_at view c.args.list.now l.value-index item c.loop-value-test.true c.value-item.is in
    let split = ap (flat_map asked) left ∙ asked_on asked part later in
    record {
      found = leads_on at _ _ _ _ l.invariant.found c.join.new.faults (where_given asked part) (flat_map asked later) split c.in_ok-join.ensures.found;
      gathers = λ kept.
          let so_far = l.invariant.gathers kept in
          let one = kept_one at _ _ _ _ l.invariant.found (where_given asked part) (flat_map asked later) split kept in
          let more = gathers_more so_far.0 part l.all c.join.new.all so_far.1 (c.in_ok-join.ensures.says one) in
          (with_part so_far.0 part, more, with_consed so_far.0 part later ∙ ap (λ (list : List rules.Clause). so_far.0 ++ list) (sym left) ∙ so_far.2);
    }

pub returns-clause-found : goal.returns-clause-found
returns-clause-found c =
    let l = c.loop-value in
    leads_end (path_at c.args.place) _ _ _ _ l.invariant.found
    (ap (λ (list : List Value). flat_map (asked_of (spot_of c.args.place) (key_name c.args.key)) (filter_map clause_of (map view list))) (drop_all l.value-index c.args.list.now c.loop-value-test.false))

pub returns-clause-says : goal.returns-clause-says
returns-clause-says c = λ kept.
    let l = c.loop-value in
    let so_far = l.invariant.gathers kept in
    let done = ap (λ (list : List Value). filter_map clause_of (map view list)) (drop_all l.value-index c.args.list.now c.loop-value-test.false) in
    subst (λ (list : List rules.Clause). Gathers list l.all) (sym (append-nil so_far.0) ∙ ap (λ (list : List rules.Clause). so_far.0 ++ list) (sym done) ∙ so_far.2) so_far.1
