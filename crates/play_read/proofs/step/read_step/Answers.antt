use Rattle.std.proofs.Common.{[], ◌∷◌, Bool, List, sym, ap, ◌∙◌, subst}
use Rattle.std.specs.Prelude.{if◌then◌else◌}
use Rattle.std.proofs.lemmas.Result.{on_ok_weaker}
use Rattle.serde_json.specs.View.{view}
use Rattle.text_syntax.specs.Shapes.{is_object}
use Rattle.playbook_schema.specs.Breaches.{BadShape, Broken, Check}
use Rattle.playbook_schema.specs.Checks.{AllKept}
use Rattle.playbook_schema.specs.Places.{step_path, step_spot}
use Rattle.playbook_schema.specs.Steps.{checks_of_keys, checks_of_step}
use Rattle.playbook_schema.proofs.AddLaws.{adds_same}
use Rattle.play_read.proofs.step.read_step.Goals as goal

pub returns-then-not-is_object-clause-found : goal.returns-then-not-is_object-clause-found
returns-then-not-is_object-clause-found c =
    let all = checks_of_keys c.args.place.list (step_spot c.args.place) (view c.args.step.now) in
    let other = sym c.is_object.ensures ∙ c.if-not-is_object.true in
    on_ok_weaker c.add.result
    (λ added. adds_same (step_path c.args.place) _ _ _ _ added (ap (λ (object : Bool). if object then all else Broken (BadShape []) ∷ []) (sym other)))
    c.add.ensures

pub returns-then-not-is_object-clause-says : goal.returns-then-not-is_object-clause-says
returns-then-not-is_object-clause-says c =
    let all = checks_of_keys c.args.place.list (step_spot c.args.place) (view c.args.step.now) in
    let other = sym c.is_object.ensures ∙ c.if-not-is_object.true in
    on_ok_weaker c.add.result
    (λ added kept. absurd (subst (λ (object : Bool). AllKept (if object then all else Broken (BadShape []) ∷ [])) other kept))
    c.add.ensures

pub returns-clause-found : goal.returns-clause-found
returns-clause-found c =
    let all = checks_of_keys c.args.place.list (step_spot c.args.place) (view c.args.step.now) in
    let one = sym c.is_object.ensures ∙ c.if-not-is_object.false in
    on_ok_weaker c.read_keys.result
    (λ found. adds_same (step_path c.args.place) _ _ _ _ found (ap (λ (object : Bool). if object then all else Broken (BadShape []) ∷ []) (sym one)))
    c.read_keys.ensures.found

pub returns-clause-says : goal.returns-clause-says
returns-clause-says c =
    let all = checks_of_keys c.args.place.list (step_spot c.args.place) (view c.args.step.now) in
    let one = sym c.is_object.ensures ∙ c.if-not-is_object.false in
    on_ok_weaker c.read_keys.result
    (λ says kept. says (subst (λ (object : Bool). AllKept (if object then all else Broken (BadShape []) ∷ [])) one kept))
    c.read_keys.ensures.says
