use Rattle.std.proofs.Common.{[], Bool, map, ap, ◌∙◌}
use Rattle.std.proofs.lemmas.Result.{on_ok_weaker}
use Rattle.serde_json.specs.View.{view}
use Rattle.playbook_schema.specs.Breaches.{Breach, Broken, unless}
use Rattle.playbook_schema.specs.Paths.{below}
use Rattle.playbook_schema.specs.Places.{path_at, spot_of}
use Rattle.playbook_schema.specs.Tests.{breach_for}
use Rattle.playbook_schema.proofs.AddLaws.{adds_same}
use Rattle.playbook_schema.proofs.entries.check_entry.Goals as goal

pub returns : goal.returns
returns c =
    on_ok_weaker c.check.result
    (λ added. adds_same (path_at c.args.place) _ _ _ _ added
    (ap (λ (breach : Breach). map Broken (unless c.passes.result breach)) (c.flaw.ensures [] (spot_of c.args.place))
    ∙ ap (λ (kept : Bool). map Broken (unless kept (breach_for c.args.test (below [] c.args.at)))) c.passes.ensures))
    c.check.ensures
