use Rattle.std.proofs.Common.{◌≡◌, [], ◌∷◌, inl, inr, refl}
use Rattle.std.specs.Prelude.{IsUtf8, Some}
use Rattle.std.proofs.lemmas.Result.{IfOk-weaker, MatchResult-weaker}
use Rattle.serde_json.specs.Data.{Data}
use Rattle.serde_json.specs.Read.{read}
use Rattle.serde_json.specs.View.{view}
use Rattle.text_syntax.specs.Texts.{IsNoJson}
use Rattle.inventory_read.specs.Rules.{NotJson, broken}
use Rattle.inventory_read.proofs.Readings.{some_told}
use Rattle.inventory_read.proofs.read.inventory_or_faults.Goals as goal

pub returns-in-Some : goal.returns-in-Some
returns-in-Some g c =
    let document : Data = view c.in-Some.document in
    let is : IsUtf8 c.args.text.now × (read c.args.text.now ≡ Some document) = rw c.in-Some.is at c.in_ok-found.ensures in
    IfOk-weaker c.read_document.result _ _
    (λ reading either.
    MatchResult-weaker reading either
    (λ tree says. record { utf8 = is.0; document = document; reads = is.1; keeps_all = says.0; says = says.1 })
    (λ told are. record { are_told = record { breaches = broken document; all = inr (document, is.0, is.1, refl); are_told = are.0 }; some = are.1 }))
    c.read_document.ensures

pub returns-in_ok-no_json-in-None : goal.returns-in_ok-no_json-in-None
returns-in_ok-no_json-in-None g c =
    let none : IsNoJson c.args.text.now = rw c.in-None.is at c.in_ok-found.ensures in
    let are = c.in_ok-no_json-in-None.ensures in
    record {
      are_told = record { breaches = NotJson ∷ []; all = inl (refl, none); are_told = are };
      some = some_told c.args.most NotJson [] c.in_ok-no_json-in-None.field-0 are;
    }
