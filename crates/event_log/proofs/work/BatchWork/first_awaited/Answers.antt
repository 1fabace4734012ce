use Rattle.std.proofs.Common.{List, ap, ◌∙◌}
use Rattle.std.specs.Prelude.{option_map}
use Rattle.std.specs.List.{find}
use Rattle.group_tree.specs.declared.ids.HostId.{HostId}
use Rattle.event_log.specs.declared.turn.Turn.{Turn}
use Rattle.event_log.specs.Turns.{awaits, turn_at}
use Rattle.event_log.proofs.ListLemmas.{find_number}
use Rattle.event_log.proofs.work.BatchWork.first_awaited.Goals as goal

pub returns : goal.returns
returns c =
    ap (option_map (λ (host : HostId). host.index)) c.first_of.ensures
    ∙ ap (λ (l : List HostId). option_map (λ (host : HostId). host.index) (find (λ host. awaits (turn_at c.as_slice-2.result.now host.index)) l)) c.as_slice.ensures.value
    ∙ ap (λ (l : List Turn). option_map (λ (host : HostId). host.index) (find (λ host. awaits (turn_at l host.index)) c.args.self.now.batch.items)) c.as_slice-2.ensures.value
    ∙ find_number (λ host. awaits (turn_at c.args.self.now.turns.items host)) c.args.self.now.batch.items
