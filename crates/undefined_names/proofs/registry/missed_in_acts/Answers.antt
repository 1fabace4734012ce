use Rattle.std.proofs.Common.{◌≡◌, List, Some, length, slice_get, refl, sym, ap, subst, ◌∙◌}
use Rattle.std.specs.Prelude.{IfOk}
use Rattle.std.proofs.lemmas.Option.{slice_get_read}
use Rattle.group_tree.specs.Names.{Name}
use Rattle.host_vars.specs.HostVars.{known_of}
use Rattle.undefined_names.specs.Inside.{missed_in_act, past_behind}
use Rattle.undefined_names.specs.Lent.{lent_names}
use Rattle.undefined_names.specs.UndefinedReads.{missed_by_some, outset_of}
use Rattle.undefined_names.specs.declared.play_facts.PlayFacts.{PlayFacts}
use Rattle.undefined_names.proofs.registry.missed_in_acts.Goals as goal

pub returns-in-Some : goal.returns-in-Some
returns-in-Some c =
    let acts : List PlayFacts = c.args.acts.now in
    let spot = c.args.spot in
    let act : PlayFacts = c.in-Some.act.now in
    let known = known_of c.args.vars.now in
    let got = c.in-Some.ensures.lookup in
    let at : slice_get acts spot.play ≡ Some act = slice_get_read acts (length acts) spot.play act refl got.3.0 got.1 in
    let front = ap (λ (before : List PlayFacts). missed_by_some (outset_of (past_behind before act.play.now spot.place spot.host.index) known) (slice_get act.play.now.steps.items spot.place)) c.split.ensures.front in
    subst (λ (l : List Name). IfOk c.missed_in_play.result (λ names. lent_names names.items ≡ l)) (front ∙ ap (missed_in_act acts spot.play spot.place spot.host.index known) (sym at)) c.missed_in_play.ensures
