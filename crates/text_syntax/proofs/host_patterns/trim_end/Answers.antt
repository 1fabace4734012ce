use Rattle.std.proofs.Common.{rules}
use Rattle.std.proofs.lemmas.Fn.{always_returns_same}
use Rattle.text_syntax.specs.Words.{is_blank}
use Rattle.text_syntax.proofs.Boundaries.{blank_ascii}
use Rattle.text_syntax.proofs.TrimLemmas.{trimmed_end}
use Rattle.text_syntax.proofs.host_patterns.trim_end.Goals as goal

pub returns : goal.returns
returns c =
    trimmed_end is_blank blank_ascii _ (always_returns_same _ _ _ (λ a r g h. search rules)) c.args.piece.now _ c.trim_end_matches.ensures.matches
