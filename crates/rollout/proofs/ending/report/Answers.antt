use Rattle.std.proofs.Common.{ℕ, Option, List, ◌++◌, refl, rules, subst}
use Rattle.std.specs.Prelude.{option_map, string_bytes}
use Rattle.bounded_io.specs.Sending.{SendsText}
use Rattle.bounded_io.proofs.WritingLemmas.{writes_two}
use Rattle.rollout.specs.Endings.{fault_text, help_text}
use Rattle.rollout.proofs.ending.report.Goals as goal

pub returns : goal.returns
returns g c =
    let fault : List ℕ = fault_text c.args.reporting.now.form c.args.fault.now in
    let help : List ℕ = help_text c.args.reporting.now.form (option_map string_bytes c.args.reporting.now.help) in
    let whole = writes_two g.E.Write.contents c.new-text.result c.write_fault.new.text c.write_help.new.text fault help (fault ++ help) c.write_fault.ensures c.write_help.ensures refl in
    let told = c.finish.ensures.finishes _ c.new-text.result (fault ++ help) c.new-text.ensures whole in
    let same = whole.same_reference in
    let Is : Option (List ℕ) → Type 0 = λ (new : Option (List ℕ)). SendsText (g.E.Write.contents c.args.errors.now) new (fault ++ help) c.finish.result in
    subst Is (search (rules, same)) told
