use Rattle.std.proofs.Common.{List, append-nil, length, sym, subst}
use Rattle.fleet_index.specs.Chains.{ends_before}
use Rattle.domains.specs.Findings.{crossings_with}
use Rattle.domains.specs.Ids.{group_numbers}
use Rattle.domains.specs.Search.{AreSeen}
use Rattle.domains.specs.declared.finding.Crossing.{Crossing}
use Rattle.domains.proofs.FindingLemmas.{group_step}
use Rattle.domains.proofs.crossings.Crossings.add_at.Goals as goal

pub loop-first-init : goal.loop-first-init
loop-first-init c = record {
  sized = c.requires.sized;
  seen = λ seen before. subst (λ (xs : List Crossing). AreSeen (length c.args.ends.now) xs c.args.self.now.found.items c.args.self.now.marks.items) (sym (append-nil seen)) before;
}

pub loop-first-preserved : goal.loop-first-preserved
loop-first-preserved c = record {
  sized = c.in_ok-add_with.ensures.sized;
  seen = λ seen before.
      let l = c.loop-first in
      subst (λ (xs : List Crossing). AreSeen (length c.args.ends.now) xs c.add_with.new.self.found.items c.add_with.new.self.marks.items)
      (group_step (crossings_with (ends_before c.args.ends.now) c.args.host (group_numbers c.args.chain.now)) seen c.args.chain.now l.first-index c.loop-first-test.true)
      (c.in_ok-add_with.ensures.seen _ (l.invariant.seen seen before));
}
