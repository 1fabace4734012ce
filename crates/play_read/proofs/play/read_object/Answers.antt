use Rattle.std.proofs.Common.{◌≡◌, ◌++◌, ◌∷◌, [], Bool, List, Global, sym, ap, ◌∙◌}
use Rattle.std.specs.Prelude.{if◌then◌else◌}
use Rattle.std.specs.String.{string_bytes}
use Rattle.std.proofs.lemmas.Bool.{both_ways, leb-true}
use Rattle.std.proofs.lemmas.Result.{on_ok_weaker}
use Rattle.serde_json.specs.View.{view}
use Rattle.playbook_schema.specs.Breaches.{Broken, TooManySteps, all_in}
use Rattle.playbook_schema.specs.Places.{play_path}
use Rattle.playbook_schema.specs.Plays.{checks_of_counted, checks_of_front, checks_of_steps, has_few_steps}
use Rattle.playbook_schema.proofs.AddLaws.{adds_inside, adds_two, kept_in_silence}
use Rattle.play_read.proofs.WholePlay as whole
use Rattle.play_read.proofs.play.read_object.Goals as goal

-- too many steps
pub returns-then-not-has_few_steps-clause-found : goal.returns-then-not-has_few_steps-clause-found
returns-then-not-has_few_steps-clause-found c =
    let at = play_path c.args.place in
    let play = view c.args.play.now in
    let told = c.args.place.told in
    let front = all_in at (checks_of_front play) in
    let many : has_few_steps play ≡ _ = sym c.has_few_steps.ensures ∙ c.if-not-has_few_steps.true in
    on_ok_weaker c.add.result
    (λ added. adds_two [] _ _ _ front (Broken TooManySteps ∷ []) (front ++ checks_of_counted at told play) (adds_inside at _ _ (checks_of_front play) c.in_ok-settings.ensures.found)
    (adds_inside at _ _ (Broken TooManySteps ∷ []) added)
    (ap (λ (few : Bool). front ++ (if few then checks_of_steps at told play else Broken TooManySteps ∷ [])) (sym many)))
    c.add.ensures

pub read_steps-requires : goal.read_steps-requires
read_steps-requires c = leb-true _ _ (sym c.has_few_steps.ensures ∙ c.if-not-has_few_steps.false)

pub new-requires-clause-few_sizes : goal.new-requires-clause-few_sizes
new-requires-clause-few_sizes c =
    whole.few_sizes (play_path c.args.place) c.args.place.told (view c.args.play.now) c.in_ok-settings.settings c.in_ok-steps.steps _ _ _ c.in_ok-settings.ensures.found c.in_ok-steps.ensures.found (sym c.is_empty.ensures ∙ c.if-not-is_empty.false) c.in_ok-settings.ensures.says c.in_ok-steps.ensures.says

pub new-requires-clause-some_task : goal.new-requires-clause-some_task
new-requires-clause-some_task c =
    whole.some_task (play_path c.args.place) c.args.place.told (view c.args.play.now) c.in_ok-settings.settings c.in_ok-steps.steps _ _ _ c.in_ok-settings.ensures.found c.in_ok-steps.ensures.found (sym c.is_empty.ensures ∙ c.if-not-is_empty.false) c.in_ok-settings.ensures.says c.in_ok-steps.ensures.says

pub new-requires-clause-few_steps : goal.new-requires-clause-few_steps
new-requires-clause-few_steps c =
    whole.few_steps (play_path c.args.place) c.args.place.told (view c.args.play.now) c.in_ok-settings.settings c.in_ok-steps.steps _ _ _ c.in_ok-settings.ensures.found c.in_ok-steps.ensures.found (sym c.is_empty.ensures ∙ c.if-not-is_empty.false) c.in_ok-settings.ensures.says c.in_ok-steps.ensures.says (sym c.has_few_steps.ensures ∙ c.if-not-has_few_steps.false)

pub new-requires-clause-named : goal.new-requires-clause-named
new-requires-clause-named c =
    whole.named (play_path c.args.place) c.args.place.told (view c.args.play.now) c.in_ok-settings.settings c.in_ok-steps.steps _ _ _ c.in_ok-settings.ensures.found c.in_ok-steps.ensures.found (sym c.is_empty.ensures ∙ c.if-not-is_empty.false) c.in_ok-settings.ensures.says c.in_ok-steps.ensures.says

pub new-requires-clause-silent : goal.new-requires-clause-silent
new-requires-clause-silent c =
    whole.nobody_notified (play_path c.args.place) c.args.place.told (view c.args.play.now) c.in_ok-settings.settings c.in_ok-steps.steps _ _ _ c.in_ok-settings.ensures.found c.in_ok-steps.ensures.found (sym c.is_empty.ensures ∙ c.if-not-is_empty.false) c.in_ok-settings.ensures.says c.in_ok-steps.ensures.says

pub new-requires-clause-plain_tasks : goal.new-requires-clause-plain_tasks
new-requires-clause-plain_tasks c =
    whole.plain_tasks (play_path c.args.place) c.args.place.told (view c.args.play.now) c.in_ok-settings.settings c.in_ok-steps.steps _ _ _ c.in_ok-settings.ensures.found c.in_ok-steps.ensures.found (sym c.is_empty.ensures ∙ c.if-not-is_empty.false) c.in_ok-settings.ensures.says c.in_ok-steps.ensures.says

pub new-requires-clause-plain_handlers : goal.new-requires-clause-plain_handlers
new-requires-clause-plain_handlers c =
    whole.plain_handlers (play_path c.args.place) c.args.place.told (view c.args.play.now) c.in_ok-settings.settings c.in_ok-steps.steps _ _ _ c.in_ok-settings.ensures.found c.in_ok-steps.ensures.found (sym c.is_empty.ensures ∙ c.if-not-is_empty.false) c.in_ok-settings.ensures.says c.in_ok-steps.ensures.says

pub returns-then-not-is_empty-clause-found : goal.returns-then-not-is_empty-clause-found
returns-then-not-is_empty-clause-found c =
    let at = play_path c.args.place in
    let play = view c.args.play.now in
    let told = c.args.place.told in
    let front = all_in at (checks_of_front play) in
    adds_two [] _ _ _ front (checks_of_steps at told play) (front ++ checks_of_counted at told play) (adds_inside at _ _ (checks_of_front play) c.in_ok-settings.ensures.found) c.in_ok-steps.ensures.found
    (ap (λ (few : Bool). front ++ (if few then checks_of_steps at told play else Broken TooManySteps ∷ [])) (sym (sym c.has_few_steps.ensures ∙ c.if-not-has_few_steps.false)))

pub returns-clause-found : goal.returns-clause-found
returns-clause-found c =
    let at = play_path c.args.place in
    let play = view c.args.play.now in
    let told = c.args.place.told in
    let front = all_in at (checks_of_front play) in
    adds_two [] _ _ _ front (checks_of_steps at told play) (front ++ checks_of_counted at told play) (adds_inside at _ _ (checks_of_front play) c.in_ok-settings.ensures.found) c.in_ok-steps.ensures.found
    (ap (λ (few : Bool). front ++ (if few then checks_of_steps at told play else Broken TooManySteps ∷ [])) (sym (sym c.has_few_steps.ensures ∙ c.if-not-has_few_steps.false)))

pub returns-clause-says : goal.returns-clause-says
returns-clause-says c = λ silent.
    let made = c.in_ok-read.ensures in
    let says = c.in_ok-settings.ensures.says in (
      c.in_ok-read.read,
      record {
        pattern = ap (string_bytes {Z = Global}) made.pattern ∙ says.pattern;
        sizes = ap (λ sizes. sizes.items) made.sizes ∙ says.sizes;
        max_fail = made.max_fail ∙ says.max_fail;
        on_blocked = made.on_blocked ∙ says.on_blocked;
        tasks = made.tasks ∙ whole.tasks_counted (play_path c.args.place) c.args.place.told (view c.args.play.now) c.in_ok-settings.settings c.in_ok-steps.steps _ _ _ c.in_ok-settings.ensures.found c.in_ok-steps.ensures.found (sym c.is_empty.ensures ∙ c.if-not-is_empty.false) c.in_ok-settings.ensures.says c.in_ok-steps.ensures.says;
        steps = whole.all_steps (play_path c.args.place) c.args.place.told (view c.args.play.now) c.in_ok-settings.settings c.in_ok-steps.steps _ _ _ c.in_ok-settings.ensures.found c.in_ok-steps.ensures.found (sym c.is_empty.ensures ∙ c.if-not-is_empty.false) c.in_ok-settings.ensures.says c.in_ok-steps.ensures.says c.in_ok-read.read.steps.items made.steps;
      },
      c.in_ok-push.ensures.items,
    )

pub returns-then-not-has_few_steps-clause-says : goal.returns-then-not-has_few_steps-clause-says
returns-then-not-has_few_steps-clause-says c =
    on_ok_weaker c.add.result
    (λ added silent. absurd (kept_in_silence (play_path c.args.place) _ _ (Broken TooManySteps ∷ []) added silent))
    c.add.ensures

pub returns-then-not-is_empty-clause-says : goal.returns-then-not-is_empty-clause-says
returns-then-not-is_empty-clause-says c = λ silent.
    absurd (both_ways _ (sym c.is_empty.ensures ∙ c.if-not-is_empty.true) silent)
