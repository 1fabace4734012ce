use Rattle.std.proofs.Common.{ℕ, ◌≡◌, ◌<◌, true, refl, arith, rules}
use Rattle.std.proofs.lemmas.Bool.Decides.{nat_tests}
use Rattle.std.proofs.lemmas.Fn.{always_returns_same}
use Rattle.text_syntax.specs.Patterns.{is_separator}
use Rattle.text_syntax.proofs.CutLemmas.{cut_once}
use Rattle.text_syntax.proofs.host_patterns.cut_at_separator.Goals as goal

ascii : (c : ℕ) → is_separator c ≡ true → c < 128
ascii c e = grind (arith, nat_tests)

pub returns : goal.returns
returns c =
    let cut = cut_once is_separator ascii _ (always_returns_same _ _ _ (λ a r g h. search rules)) c.args.text.now c.split_once.result _ refl refl c.split_once.ensures.cases in
    record { before = rw c.unwrap_or.ensures cut.0; after = rw c.unwrap_or.ensures cut.1 }
