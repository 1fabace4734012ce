use Rattle.std.proofs.Common.{List, ◌++◌, ℕ, ap, ◌∙◌}
use Rattle.std.specs.Prelude.{codes, decimal}
use Rattle.journal.proofs.ByteLemmas.{behind_both}
use Rattle.journal.proofs.checked_line.behind_number.Goals as goal

pub returns-in-Some : goal.returns-in-Some
returns-in-Some c =
    behind_both c.args.bytes.now (decimal c.args.number) c.in-Some.rest.now (codes " ") c.strip.result
    (c.in-Some.ensures.begins ∙ ap (λ (l : List ℕ). l ++ c.in-Some.rest.now) (c.as_bytes.ensures.value ∙ c.format.ensures.text)) c.strip.ensures.begins
