use Rattle.std.proofs.Common.{ℕ, List, append-nil, length, sym, subst}
use Rattle.fleet_index.specs.Chains.{ends_before}
use Rattle.domains.specs.Findings.{crossing_if}
use Rattle.domains.specs.Search.{AreSeen}
use Rattle.domains.specs.declared.finding.Crossing.{Crossing}
use Rattle.domains.proofs.FindingLemmas.{group_step}
use Rattle.domains.proofs.crossings.Crossings.add_with.Goals as goal

pub loop-second-init : goal.loop-second-init
loop-second-init c = record {
  sized = c.requires.sized;
  seen = λ seen before. subst (λ (xs : List Crossing). AreSeen (length c.args.ends.now) xs c.args.self.now.found.items c.args.self.now.marks.items) (sym (append-nil seen)) before;
}

pub loop-second-preserved : goal.loop-second-preserved
loop-second-preserved c = record {
  sized = c.in_ok-add.ensures.sized;
  seen = λ seen before.
      let l = c.loop-second in
      let cross : ℕ → List Crossing = λ second. crossing_if (ends_before c.args.ends.now) (record { host = c.args.host; first = c.args.first; second = second }) in
      subst (λ (xs : List Crossing). AreSeen (length c.args.ends.now) xs c.add.new.self.found.items c.add.new.self.marks.items)
      (group_step cross seen c.args.chain.now l.second-index c.loop-second-test.true)
      (c.in_ok-add.ensures.seen _ (l.invariant.seen seen before));
}
