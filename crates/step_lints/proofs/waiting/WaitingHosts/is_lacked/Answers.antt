use Rattle.std.proofs.Common.{ℕ, is_some, ap, ◌∙◌}
use Rattle.std.specs.Prelude.{count_by}
use Rattle.step_lints.specs.Lacks.{lacks_in}
use Rattle.step_lints.specs.declared.missing_count.Facts.{Facts}
use Rattle.step_lints.specs.declared.missing_count.MissingCount.{MissingCount}
use Rattle.step_lints.proofs.AskedLemmas.{found_any}
use Rattle.step_lints.proofs.waiting.WaitingHosts.is_lacked.Goals as goal

pub returns : goal.returns
returns c =
    let vars = c.args.self.now.lacks.now.vars.now in
    let waiting = c.args.self.now.lacks.now.waiting.now in
    let name = c.args.name.now in
    let noted : ℕ → MissingCount = λ first. record { hosts = count_by (lacks_in vars name) waiting; first = first } in
    c.is_some.ensures ∙ ap (λ (facts : Facts). is_some facts.lack) c.get.ensures ∙ found_any (lacks_in vars name) noted waiting
