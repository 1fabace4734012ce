use Rattle.std.proofs.Common.{ℕ, List, ap, ◌∙◌, ◌++◌, ◌∷◌, [], arith}
use Rattle.std.specs.String.{string_bytes}
use Rattle.std.proofs.lemmas.Str.{IsUtf8-string_bytes}
use Rattle.play_model.proofs.WordLemmas.{one_more}
use Rattle.play_model.proofs.words.Words.push.Goals as goal

pub invariant_of-self-2 : goal.invariant_of-self-2
invariant_of-self-2 c =
    let inside = c.self.inside in
    let further = c.push_reserved.ensures.items ∙ ap (λ (l : List ℕ). l ++ c.len.result ∷ []) c.reserve.ensures.items in
    let all = one_more (string_bytes inside.text) c.args.word.now inside.ends.items (string_bytes c.push_str.new.self) c.push_reserved.new.self.items c.args.self.now c.len.result (IsUtf8-string_bytes inside.text) c.utf8.word
    c.self.invariant c.self.view_is c.in_ok-push_str.ensures.bytes further (omega (arith, c.len.ensures, c.push_str.new.self.bytes.ok.0)) in
    all.1

pub returns-clause-ok : goal.returns-clause-ok
returns-clause-ok c =
    let inside = c.self.inside in
    let further = c.push_reserved.ensures.items ∙ ap (λ (l : List ℕ). l ++ c.len.result ∷ []) c.reserve.ensures.items in
    let all = one_more (string_bytes inside.text) c.args.word.now inside.ends.items (string_bytes c.push_str.new.self) c.push_reserved.new.self.items c.args.self.now c.len.result (IsUtf8-string_bytes inside.text) c.utf8.word
    c.self.invariant c.self.view_is c.in_ok-push_str.ensures.bytes further (omega (arith, c.len.ensures, c.push_str.new.self.bytes.ok.0)) in
    all.0
