use Rattle.std.proofs.Common.{◌≡◌, List, ap, ◌∙◌, subst}
use Rattle.group_tree.specs.declared.ids.HostId.{HostId}
use Rattle.rehearse.specs.Stacks.{RehearsalView}
use Rattle.rehearse.specs.Histories.{HistoryView}
use Rattle.rehearse.specs.GoingOn.{AreAdvances}
use Rattle.rehearse.proofs.GoingOnLemmas.{advances_grow}
use Rattle.rehearse.proofs.HistoryLemmas.{led_to_rehearsal}
use Rattle.rehearse.proofs.history.History.resume.Goals as goal

pub returns-in-Ok-clause-ok : goal.returns-in-Ok-clause-ok
returns-in-Ok-clause-ok c =
    let marked : List HostId = c.args.self.now.place.marked in
    let here : AreAdvances c.args.count marked c.self.inside.rehearsal c.advance_by.new.self =
    subst (λ (l : List HostId). AreAdvances c.args.count l c.self.inside.rehearsal c.advance_by.new.self)
    (c.as_slice.ensures.value ∙ ap (λ (h : HistoryView). h.place.marked) c.self.view_is) c.in-Ok.ensures.ok in
    record {
      rehearsal = c.advance_by.new.self;
      advances = subst (λ (r : RehearsalView). AreAdvances c.args.count marked r c.advance_by.new.self) (ap (λ (h : HistoryView). h.place.rehearsal) c.self.view_is) here;
      leads = led_to_rehearsal c.args.self.now c.self.inside.rehearsal c.self.inside.marked.items c.self.inside.points.items c.point-point.result c.self.inside.refused c.self.view_is
          c.point-point.ensures.stages c.point-point.ensures.marks c.push.new.self.items c.in_ok-push.ensures.items c.advance_by.new.self
          (advances_grow c.args.count marked c.self.inside.rehearsal c.advance_by.new.self here);
    }
