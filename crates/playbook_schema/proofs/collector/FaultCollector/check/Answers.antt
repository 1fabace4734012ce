use Rattle.std.proofs.Common.{List, [], ◌∷◌, Bool, map, sym, ap, subst}
use Rattle.std.proofs.lemmas.Result.{on_ok_weaker}
use Rattle.playbook_schema.specs.Breaches.{Broken, unless}
use Rattle.playbook_schema.specs.Places.{path_at, spot_of}
use Rattle.playbook_schema.specs.Verdicts.{breach_at}
use Rattle.playbook_schema.proofs.AddLaws.{adds_kept, adds_same}
use Rattle.playbook_schema.proofs.collector.FaultCollector.check.Goals as goal

pub returns-then-kept : goal.returns-then-kept
returns-then-kept c = adds_kept (path_at c.args.place) c.args.self.now c.args.kept (breach_at (spot_of c.args.place) c.args.flaw) c.if-kept.true

pub returns : goal.returns
returns c =
    let breach = breach_at (spot_of c.args.place) c.args.flaw in
    on_ok_weaker c.add.result
    (λ added. adds_same (path_at c.args.place) c.args.self.now c.add.new.self (Broken breach ∷ []) (map Broken (unless c.args.kept breach)) added (ap (λ (b : Bool). map Broken (unless b breach)) (sym c.if-kept.false)))
    c.add.ensures
