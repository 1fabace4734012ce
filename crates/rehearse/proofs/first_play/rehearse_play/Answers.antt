use Rattle.std.proofs.Common.{◌≡◌, ℕ, Option, List, length, sym, ap, ◌∙◌, subst}
use Rattle.std.specs.Prelude.{All}
use Rattle.play_forecast.specs.PlayPlans.{targets}
use Rattle.rehearse.specs.Histories.{HistoryView}
use Rattle.rehearse.specs.Plays.{caps_of}
use Rattle.rehearse.specs.RehearseTexts.{HoldsSession, IsTrueOfSession}
use Rattle.rehearse.specs.Tellings.{telling_of}
use Rattle.rehearse.proofs.OpeningLemmas.{opens, same_rules, session_is_true}
use Rattle.rehearse.proofs.PlayLemmas.{HasHosts, some_caps}
use Rattle.rehearse.proofs.first_play.rehearse_play.Goals as goal

pub new-requires-clause-sizes : goal.new-requires-clause-sizes
new-requires-clause-sizes g c =
    let opening = c.args.opening.now in
    let play = opening.play.now in
    subst (λ (caps : List (Option ℕ)). All HasHosts caps) (sym (c.as_slice.ensures.value ∙ c.in-Ok.ensures)) (some_caps play.sizes.items (length (targets opening.fleet.now play)))

pub returns-in-Ok-hold_session-clause-ok : goal.returns-in-Ok-hold_session-clause-ok
returns-in-Ok-hold_session-clause-ok g c =
    let opening = c.args.opening.now in
    let fleet = opening.fleet.now in
    let play = opening.play.now in
    let caps : List (Option ℕ) = caps_of play.sizes.items (length (targets fleet play)) in
    let rules = c.in-Ok-new.ensures.rules ∙ same_rules fleet c.on_blocked.result play.on_blocked c.as_slice.result.now caps c.max_fail.result play.max_fail c.on_blocked.ensures
    (c.as_slice.ensures.value ∙ c.in-Ok.ensures) c.max_fail.ensures in
    record {
      before = c.in-Ok-new.rehearsal;
      after = c.hold_session.new.history;
      opening = opens fleet play opening.statuses.now c.in-Ok-new.rehearsal rules c.in-Ok-new.ensures.opening c.in-Ok-new.ensures.alone c.in-Ok-new.ensures.rehearsed;
      session = subst (λ (h : HistoryView). HoldsSession (telling_of c.args.form) h c.hold_session.new.history (g.I.Read.remaining c.args.input.now) (g.I.Read.remaining c.hold_session.new.input) (g.W.Write.contents c.args.out.now) (g.W.Write.contents c.hold_session.new.out)) c.new-history.ensures c.in-Ok-hold_session.ensures.ok;
      refused_is = c.refused.ensures;
    }

pub returns-clause-err : goal.returns-clause-err
returns-clause-err g c =
    let opening = c.args.opening.now in
    let fleet = opening.fleet.now in
    let play = opening.play.now in
    let caps : List (Option ℕ) = caps_of play.sizes.items (length (targets fleet play)) in
    let rules = c.in-Ok-new.ensures.rules ∙ same_rules fleet c.on_blocked.result play.on_blocked c.as_slice.result.now caps c.max_fail.result play.max_fail c.on_blocked.ensures
    (c.as_slice.ensures.value ∙ c.in-Ok.ensures) c.max_fail.ensures in
    session_is_true (telling_of c.args.form) (g.I.Input.is_reliable c.args.input.now) fleet play opening.statuses.now _ _ _ _ c.in-Ok-new.rehearsal c.in-Err-hold_session.fault
    (opens fleet play opening.statuses.now c.in-Ok-new.rehearsal rules c.in-Ok-new.ensures.opening c.in-Ok-new.ensures.alone c.in-Ok-new.ensures.rehearsed)
    (subst (λ (h : HistoryView). IsTrueOfSession (telling_of c.args.form) (g.I.Input.is_reliable c.args.input.now) h
    (g.I.Read.remaining c.args.input.now) (g.I.Read.remaining c.hold_session.new.input) (g.W.Write.contents c.args.out.now) (g.W.Write.contents c.hold_session.new.out) c.in-Err-hold_session.fault) c.new-history.ensures c.in-Err-hold_session.ensures.err)
