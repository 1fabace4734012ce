use Rattle.std.proofs.Common.{[], Bool, nat_lt, length, map, refl, ap, ◌∙◌}
use Rattle.serde_json.specs.View.{view}
use Rattle.playbook_schema.specs.Breaches.{BadShape, Broken, unless}
use Rattle.playbook_schema.specs.Keys.{handlers_key}
use Rattle.playbook_schema.specs.Paths.{Path, below, under}
use Rattle.playbook_schema.specs.Places.{path_at}
use Rattle.playbook_schema.specs.Plays.{tasks_in}
use Rattle.playbook_schema.proofs.AddLaws.{adds_same, adds_two}
use Rattle.play_read.proofs.play.check_lists.Goals as goal

pub returns : goal.returns
returns c =
    let at = path_at c.args.place in
    let has = nat_lt 0 (length (tasks_in (view c.args.play.now))) in
    adds_two at _ _ _ _ _ _
    (adds_same at _ _ _ _ c.in_ok-check.ensures
    (ap (λ (b : Bool). map Broken (unless b (BadShape (below [] c.place_of_tasks.result)))) c.has_tasks.ensures
    ∙ ap (λ (path : Path). map Broken (unless has (BadShape path))) c.place_of_tasks.ensures))
    (adds_same at _ _ _ _ c.in_ok-check-2.ensures (ap (λ (b : Bool). map Broken (unless b (BadShape (under [] handlers_key)))) c.are_readable.ensures))
    refl
