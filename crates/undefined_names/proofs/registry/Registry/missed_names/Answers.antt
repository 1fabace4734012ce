use Rattle.std.proofs.Common.{◌≡◌, List, [], slice_get, refl, ap, subst, ◌∙◌}
use Rattle.std.specs.Prelude.{IfOk}
use Rattle.group_tree.specs.Names.{Name}
use Rattle.host_vars.specs.HostVars.{known_of}
use Rattle.undefined_names.specs.Inside.{missed_in_act}
use Rattle.undefined_names.specs.Lent.{lent_names}
use Rattle.undefined_names.specs.declared.play_facts.PlayFacts.{PlayFacts}
use Rattle.undefined_names.specs.UndefinedReads.{missed_by_some}
use Rattle.undefined_names.proofs.Pasts.{said_there}
use Rattle.undefined_names.proofs.registry.Registry.missed_names.Goals as goal

pub returns : goal.returns
returns c =
    let self = c.args.self.now in
    let acts : List PlayFacts = self.acts.items in
    let spot = c.args.spot in
    let known = known_of c.args.vars.now in
    let lent = ap (λ (l : List PlayFacts). missed_in_act l spot.play spot.place spot.host.index known (slice_get l spot.play)) c.as_slice.ensures.value in
    subst (λ (l : List Name). IfOk c.missed_in_acts.result (λ names. lent_names names.items ≡ l))
    (lent ∙ said_there self.fleet.now self.plays.now acts self.acted missed_by_some [] spot.play spot.place spot.host.index known (slice_get acts spot.play) refl) c.missed_in_acts.ensures
