use Rattle.std.proofs.Common.{◌≡◌, Bool, false, List, slice_get, refl, ap, subst, ◌∙◌}
use Rattle.std.specs.Prelude.{IfOk}
use Rattle.host_vars.specs.HostVars.{known_of}
use Rattle.undefined_names.specs.Inside.{skipped_in_act}
use Rattle.undefined_names.specs.UndefinedReads.{is_some_skipped}
use Rattle.undefined_names.specs.declared.play_facts.PlayFacts.{PlayFacts}
use Rattle.undefined_names.proofs.Pasts.{said_there}
use Rattle.undefined_names.proofs.registry.Registry.skips.Goals as goal

pub returns : goal.returns
returns c =
    let self = c.args.self.now in
    let acts : List PlayFacts = self.acts.items in
    let spot = c.args.spot in
    let known = known_of c.args.vars.now in
    let lent = ap (λ (l : List PlayFacts). skipped_in_act l spot.play spot.place spot.host.index known (slice_get l spot.play)) c.as_slice.ensures.value in
    subst (λ (b : Bool). IfOk c.skipped_in_acts.result (λ skipped. skipped ≡ b))
    (lent ∙ said_there self.fleet.now self.plays.now acts self.acted is_some_skipped false spot.play spot.place spot.host.index known (slice_get acts spot.play) refl) c.skipped_in_acts.ensures
