use Rattle.std.proofs.Common.{◌≡◌, arith, length, sym, ap, ◌∙◌}
use Rattle.std.specs.Prelude.{◌==◌}
use Rattle.std.proofs.lemmas.Bool.{ne_eqb}
use Rattle.rollout.specs.LintFaults.{counted, fault_count}
use Rattle.rollout.proofs.FaultLemmas.{all_counted}
use Rattle.rollout.proofs.commands.faults.find_faults.Goals as goal

pub returns-then-count-eq0-clause-none : goal.returns-then-count-eq0-clause-none
returns-then-count-eq0-clause-none c =
    let many : c.len.result ≡ length c.in-Ok-known_faults.faults.items = omega (arith, c.len.ensures, c.in-Ok-known_faults.faults.ok.0) in
    let is : c.saturating_add-count.result ≡ counted (length c.in-Ok-known_faults.faults.items) c.more_faults-more.result = c.saturating_add-count.ensures ∙ ap (λ n. counted n c.more_faults-more.result) many in
    let count = all_counted c.in-Ok.all _ _ _ c.in-Ok-known_faults.ensures c.more_faults-more.ensures is in
    record { all = c.in-Ok.all; are = c.in-Ok.ensures; none = ap (λ n. n == 0) (sym count ∙ c.if-count-eq0.true) }

pub returns-else-count-eq0-clause-some : goal.returns-else-count-eq0-clause-some
returns-else-count-eq0-clause-some c =
    let many : c.len.result ≡ length c.in-Ok-known_faults.faults.items = omega (arith, c.len.ensures, c.in-Ok-known_faults.faults.ok.0) in
    let is : c.saturating_add-count.result ≡ counted (length c.in-Ok-known_faults.faults.items) c.more_faults-more.result = c.saturating_add-count.ensures ∙ ap (λ n. counted n c.more_faults-more.result) many in
    let count = all_counted c.in-Ok.all _ _ _ c.in-Ok-known_faults.ensures c.more_faults-more.ensures is in
    record {
      all = c.in-Ok.all;
      are = c.in-Ok.ensures;
      some = ne_eqb (fault_count c.in-Ok.all) 0 (λ none. c.if-count-eq0.false (count ∙ none));
      known = c.in-Ok-known_faults.ensures;
      count = count;
    }
