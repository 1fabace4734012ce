use Rattle.std.proofs.Common.{◌≡◌, [], ◌∷◌, inl, inr, refl}
use Rattle.std.specs.Prelude.{IsUtf8, Some}
use Rattle.std.proofs.lemmas.Result.{IfOk-weaker, MatchResult-weaker}
use Rattle.serde_json.specs.Data.{Data}
use Rattle.serde_json.specs.Read.{read}
use Rattle.serde_json.specs.View.{view}
use Rattle.text_syntax.specs.Texts.{IsNoJson}
use Rattle.playbook_schema.specs.Breaches.{NotJson}
use Rattle.playbook_schema.specs.Checks.{rule}
use Rattle.play_read.proofs.Reports.{one_is_told}
use Rattle.play_read.proofs.read.read_text.Goals as goal

pub returns-in-Some : goal.returns-in-Some
returns-in-Some c =
    let document : Data = view c.in-Some.document in
    let is : IsUtf8 c.args.text.now × (read c.args.text.now ≡ Some document) = rw c.in-Some.is at c.in_ok-found.ensures in
    IfOk-weaker c.plays_in.result _ _
    (λ reading either.
    MatchResult-weaker reading either
    (λ plays says. record { utf8 = is.0; document = document; reads = is.1; keeps_all = says.0; says = says.1 })
    (λ told are. record { are_told = record { named = are.named; all = inr (document, is.0, is.1, are.tells); are_told = are.are_told }; some = are.some }))
    c.plays_in.ensures

pub returns-in_ok-no_json-in-None : goal.returns-in_ok-no_json-in-None
returns-in_ok-no_json-in-None c =
    let none : IsNoJson c.args.text.now = rw c.in-None.is at c.in_ok-found.ensures in
    let are = c.in_ok-no_json-in-None.ensures in
    record {
      are_told = record { named = rule NotJson ∷ []; all = inl (refl, none); are_told = are };
      some = one_is_told c.args.most (rule NotJson) c.in_ok-no_json-in-None.field-0 are;
    }
