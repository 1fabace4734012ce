use Rattle.std.proofs.Common.{◌≡◌, ◌++◌, List, ap, ◌∙◌, subst}
use Rattle.group_tree.specs.declared.ids.HostId.{HostId}
use Rattle.rehearse.specs.Stacks.{IsAdvanced, RehearsalView}
use Rattle.rehearse.specs.Refusals.{IsRefused}
use Rattle.rehearse.specs.Histories.{HistoryView}
use Rattle.rehearse.specs.GoingOn.{marked_next}
use Rattle.rehearse.proofs.GoingOnLemmas.{advanced_grows, refused_alike}
use Rattle.rehearse.proofs.HistoryLemmas.{led_to_rehearsal}
use Rattle.rehearse.proofs.history.History.advance.Goals as goal

pub returns-in-Ok-clause-ok : goal.returns-in-Ok-clause-ok
returns-in-Ok-clause-ok c =
    let named : List HostId = c.args.named.now ++ marked_next c.args.self.now.place.rehearsal c.args.self.now.place.marked in
    let here : IsAdvanced named c.self.inside.rehearsal c.advance.new.self =
    subst (λ (l : List HostId). IsAdvanced l c.self.inside.rehearsal c.advance.new.self) (c.as_slice.ensures.value ∙ c.in_ok-failing.ensures) c.in-Ok.ensures.ok in
    record {
      rehearsal = c.advance.new.self;
      advanced = subst (λ (r : RehearsalView). IsAdvanced named r c.advance.new.self) (ap (λ (h : HistoryView). h.place.rehearsal) c.self.view_is) here;
      leads = led_to_rehearsal c.args.self.now c.self.inside.rehearsal c.self.inside.marked.items c.self.inside.points.items c.point-point.result c.self.inside.refused c.self.view_is
          c.point-point.ensures.stages c.point-point.ensures.marks c.push.new.self.items c.in_ok-push.ensures.items c.advance.new.self (advanced_grows named c.self.inside.rehearsal c.advance.new.self here);
    }

pub returns-clause-err : goal.returns-clause-err
returns-clause-err c =
    refused_alike c.args.self.now.place.rehearsal c.args.named.now c.args.self.now.place.marked c.in-Err.fault
    (subst (λ (l : List HostId). IsRefused c.args.self.now.place.rehearsal l c.in-Err.fault) (c.as_slice.ensures.value ∙ c.in_ok-failing.ensures)
    (subst (λ (r : RehearsalView). IsRefused r c.as_slice.result.now c.in-Err.fault) (ap (λ (h : HistoryView). h.place.rehearsal) c.self.view_is) c.in-Err.ensures.err))
