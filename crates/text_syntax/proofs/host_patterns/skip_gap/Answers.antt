use Rattle.std.proofs.Common.{ℕ, ◌≡◌, ◌<◌, true, arith, rules}
use Rattle.std.proofs.lemmas.Bool.Decides.{nat_tests}
use Rattle.std.proofs.lemmas.Fn.{always_returns_same}
use Rattle.text_syntax.specs.Patterns.{is_gap}
use Rattle.text_syntax.proofs.TrimLemmas.{trimmed_start}
use Rattle.text_syntax.proofs.host_patterns.skip_gap.Goals as goal

ascii : (c : ℕ) → is_gap c ≡ true → c < 128
ascii c e = grind (arith, nat_tests)

pub returns : goal.returns
returns c =
    trimmed_start is_gap ascii _ (always_returns_same _ _ _ (λ a r g h. search rules)) c.args.text.now _ c.trim_start_matches.ensures.matches
