use Rattle.std.proofs.Common.{◌≡◌, [], ◌∷◌, Some, refl, ◌∙◌}
use Rattle.std.proofs.lemmas.Result.{on_ok_weaker}
use Rattle.playbook_schema.specs.Checks.{condition}
use Rattle.playbook_schema.specs.Faults.{key_name}
use Rattle.playbook_schema.specs.Places.{path_at, spot_of}
use Rattle.playbook_schema.proofs.AddLaws.{adds_asked}
use Rattle.playbook_schema.proofs.FaultLaws.{named_numbered}
use Rattle.playbook_schema.proofs.collector.FaultCollector.add_condition.Goals as goal

pub returns : goal.returns
returns c = λ text numbered breaks not_one.
    let spot = spot_of c.args.place in
    let key = key_name c.args.key in
    let named = condition spot key c.args.fault in
    on_ok_weaker c.add_fault.result
    (λ added. adds_asked (path_at c.args.place) _ _ spot key text (named ∷ []) (record { fault = c.args.fault; tells = refl; breaks = breaks; numbered = numbered; not_one = not_one }) added)
    (c.add_fault.ensures named (c.bad_condition.ensures ∙ named_numbered spot key c.args.fault numbered))
