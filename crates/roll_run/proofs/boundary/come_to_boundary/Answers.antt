use Rattle.std.proofs.Common.{◌≡◌, ℕ, Option, List, length, sym, ap, ◌∙◌, subst}
use Rattle.std.specs.Prelude.{min}
use Rattle.domains.specs.FleetViews.{FleetView}
use Rattle.domains.specs.Ids.{host_numbers}
use Rattle.fleet_states.specs.declared.status.Status.{Status}
use Rattle.group_tree.specs.declared.ids.HostId.{HostId}
use Rattle.batch_plan.specs.Answers.{IsBest, IsDealtAnswer}
use Rattle.batch_plan.specs.Places.{AreCountsOf}
use Rattle.play_model.specs.declared.play.Play.{Play}
use Rattle.play_model.specs.declared.on_blocked.OnBlocked.{OnBlocked}
use Rattle.play_model.specs.Sizes.{cap}
use Rattle.play_forecast.specs.PlayPlans.{aside_by, targets}
use Rattle.roll_core.specs.Views.{state_of}
use Rattle.roll_run.proofs.Coming.{cap_of_few, notes}
use Rattle.roll_run.proofs.boundary.come_to_boundary.Goals as goal

pub list_aside_over-requires : goal.list_aside_over-requires
list_aside_over-requires g c =
    subst (λ (l : List Status). AreCountsOf l c.args.domains.now) (sym c.statuses.ensures.value) c.requires.counts

pub returns-clause-ok : goal.returns-clause-ok
returns-clause-ok g c before at =
    let kernel = c.args.board.now.kernel in
    let play : Play = kernel.play in
    let boundary = c.in_ok-boundary.boundary in
    let hosts = host_numbers c.as_slice.result.now in
    let lent : hosts ≡ host_numbers c.in_ok-held.held.items = ap host_numbers c.as_slice.ensures.value in
    let mode = c.on_blocked.ensures ∙ ap (λ (p : Play). p.on_blocked) c.play-play.ensures in
    let hosts_are : hosts ≡ aside_by play.on_blocked kernel.fleet (state_of kernel).statuses =
    lent ∙ c.in_ok-held.ensures ∙ ap (λ (m : OnBlocked). aside_by m c.args.domains.now.fleet c.statuses.result.now) mode ∙ ap (λ (f : FleetView). aside_by play.on_blocked f c.statuses.result.now) c.requires.fleet
    ∙ ap (aside_by play.on_blocked kernel.fleet) c.statuses.ensures.value in
    let held : host_numbers boundary.held.items ≡ hosts = ap (λ v. host_numbers v.items) c.in_ok-boundary.ensures.held ∙ sym lent in
    let many = length (targets kernel.fleet play) in
    let opened = length c.args.boundaries.now.items in
    let count = c.count.ensures ∙ ap (λ l. min (length l) 4294967295) c.as_slice-2.ensures.value in
    let most_is : c.cap-cap.result ≡ cap play.sizes.items many opened =
    c.cap-cap.ensures.number ∙ ap (λ (p : Play). cap p.sizes.items c.args.targeted c.count.result) c.play-play.ensures ∙ ap (λ n. cap play.sizes.items n c.count.result) c.requires.targeted
    ∙ ap (cap play.sizes.items many) count ∙ cap_of_few play many opened in
    let fleet = c.in_ok-set_aside.ensures.fleet ∙ c.requires.fleet in
    let same = sym c.in_ok-boundary.ensures.statuses in
    let best = subst (λ (f : FleetView). IsBest f boundary.statuses.items c.cap-cap.result boundary.answer) fleet
    (subst (λ (l : List Status). IsBest c.set_aside.new.domains.fleet l c.cap-cap.result boundary.answer) same c.in_ok-boundary.ensures.best) in
    let dealt = subst (λ (f : FleetView). IsDealtAnswer f boundary.statuses.items c.cap-cap.result boundary.answer) fleet
    (subst (λ (l : List Status). IsDealtAnswer c.set_aside.new.domains.fleet l c.cap-cap.result boundary.answer) same c.in_ok-boundary.ensures.dealt) in
    record {
      behind = c.args.boundaries.now.items;
      boundary = boundary;
      boundaries_are = c.in_ok-push.ensures.items;
      at = notes c.args.board.now c.set_aside.new.board c.args.boundaries.now.items boundary before hosts c.cap-cap.result c.in_ok-set_aside.ensures.ok at hosts_are held
          (c.in_ok-boundary.ensures.statuses ∙ c.statuses-2.ensures.value) most_is best dealt;
    }
