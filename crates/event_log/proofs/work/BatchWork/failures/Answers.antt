use Rattle.std.proofs.Common.{List, ap, ◌∙◌}
use Rattle.std.specs.List.{count_by}
use Rattle.group_tree.specs.declared.ids.HostId.{HostId}
use Rattle.host_track.specs.declared.summary.Summary.{Summary}
use Rattle.event_log.specs.Turns.{failed_at}
use Rattle.event_log.proofs.DueLemmas.{failures_alike}
use Rattle.event_log.proofs.work.BatchWork.failures.Goals as goal

pub returns : goal.returns
returns c =
    let counted = c.failures_in.ensures.count ∙ ap (λ (l : List Summary). count_by (λ (host : HostId). failed_at l host.index) c.as_slice-2.result.now) c.as_slice.ensures.value in
    λ roll state work.
    failures_alike roll state c.args.self.now work c.as_slice-2.result.now c.failures_in.result c.as_slice-2.ensures.value counted
