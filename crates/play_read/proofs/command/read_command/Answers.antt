use Rattle.std.proofs.Common.{◌≡◌, ◌∷◌, [], Bool, Option, Some, List, not, map, sym, ap, ◌∙◌}
use Rattle.std.specs.List.{list_any}
use Rattle.serde_json.specs.View.{view}
use Rattle.text_syntax.specs.Words.{has_braces}
use Rattle.playbook_schema.specs.Breaches.{Broken, BadBraces, BadShape, unless}
use Rattle.playbook_schema.specs.CommandPlaces.{bad_path, bad_words}
use Rattle.playbook_schema.specs.Commands.{Word, words_in}
use Rattle.playbook_schema.specs.Paths.{Path}
use Rattle.playbook_schema.specs.Places.{path_at, spot_of}
use Rattle.playbook_schema.proofs.AddLaws.{adds_same}
use Rattle.play_read.proofs.command.read_command.Goals as goal

pub returns-in_ok-check-in-Some-clause-found : goal.returns-in_ok-check-in-Some-clause-found
returns-in_ok-check-in-Some-clause-found c =
    let spot = spot_of c.args.place in
    let at = bad_path [] (view c.args.step.now) in
    let is : Some c.in-Some.words ≡ words_in (view c.args.step.now) = sym c.in-Some.is ∙ c.in_ok-found.ensures in
    adds_same (path_at c.args.place) _ _ _ _ c.in_ok-check-in-Some.ensures
    (ap (λ (bad : Bool). map Broken (unless (not bad) (BadBraces spot))) c.have_bad_braces.ensures ∙ ap (λ (words : Option (List Word)). map Broken (bad_words spot at words)) is)

pub returns-in_ok-add-in-None-clause-found : goal.returns-in_ok-add-in-None-clause-found
returns-in_ok-add-in-None-clause-found c =
    let spot = spot_of c.args.place in
    let is = sym c.in-None.is ∙ c.in_ok-found.ensures in
    adds_same (path_at c.args.place) _ _ _ _ c.in_ok-add-in-None.ensures
    (ap (λ (at : Path). Broken (BadShape at) ∷ []) (c.place_of_bad_command.ensures [])
    ∙ ap (λ (words : Option (List Word)). map Broken (bad_words spot (bad_path [] (view c.args.step.now)) words)) is)
