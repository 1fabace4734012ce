use Rattle.std.proofs.Common.{sym, arith}
use Rattle.std.proofs.lemmas.List.{length-map}
use Rattle.group_tree.specs.declared.ids.HostId.{HostId}
use Rattle.domains.specs.Ids.{host_numbers}
use Rattle.journal.specs.Shown.{shown_outcome, shown_outcomes}
use Rattle.journal.proofs.StateLemmas.{unsettled}
use Rattle.journal.proofs.moving.settle.Goals as goal

pub returns-then-batch-outcomes : goal.returns-then-batch-outcomes
returns-then-batch-outcomes c =
    sym (unsettled (host_numbers c.args.batch.now) (shown_outcomes c.args.outcomes.now) c.args.statuses.now
    (λ e. omega (arith, e, length-map c.args.batch.now (λ (host : HostId). host.index), length-map c.args.outcomes.now shown_outcome)))
