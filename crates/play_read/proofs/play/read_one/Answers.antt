use Rattle.std.proofs.Common.{[], ◌∷◌, ◌++◌, Bool, List, sym, ap, ◌∙◌, subst}
use Rattle.std.specs.Prelude.{if◌then◌else◌}
use Rattle.std.proofs.lemmas.Result.{on_ok_weaker}
use Rattle.serde_json.specs.View.{view}
use Rattle.playbook_schema.specs.Breaches.{BadShape, Broken, all_in}
use Rattle.playbook_schema.specs.Places.{play_path}
use Rattle.playbook_schema.specs.Plays.{checks_of_counted, checks_of_front}
use Rattle.playbook_schema.proofs.AddLaws.{adds_inside, adds_same, kept_in_silence}
use Rattle.play_read.proofs.play.read_one.Goals as goal

pub returns-then-not-is_object-clause-found : goal.returns-then-not-is_object-clause-found
returns-then-not-is_object-clause-found c =
    let at = play_path c.args.place in
    let play = view c.args.play.now in
    let all = all_in at (checks_of_front play) ++ checks_of_counted at c.args.place.told play in
    let other = sym c.is_object.ensures ∙ c.if-not-is_object.true in
    on_ok_weaker c.add.result
    (λ added. adds_same [] _ _ _ _ (adds_inside at _ _ (Broken (BadShape []) ∷ []) added) (ap (λ (object : Bool). if object then all else all_in at (Broken (BadShape []) ∷ [])) (sym other)))
    c.add.ensures

pub returns-then-not-is_object-clause-says : goal.returns-then-not-is_object-clause-says
returns-then-not-is_object-clause-says c =
    on_ok_weaker c.add.result
    (λ added silent. absurd (kept_in_silence (play_path c.args.place) _ _ (Broken (BadShape []) ∷ []) added silent))
    c.add.ensures

pub returns-clause-found : goal.returns-clause-found
returns-clause-found c =
    let at = play_path c.args.place in
    let play = view c.args.play.now in
    let all = all_in at (checks_of_front play) ++ checks_of_counted at c.args.place.told play in
    let one = sym c.is_object.ensures ∙ c.if-not-is_object.false in
    on_ok_weaker c.read_object.result
    (λ found. adds_same [] _ _ _ _ found (ap (λ (object : Bool). if object then all else all_in at (Broken (BadShape []) ∷ [])) (sym one)))
    c.read_object.ensures.found
