use Rattle.std.proofs.Common.{◌≡◌, ◌<◌, None, List, length, sym, subst}
use Rattle.std.specs.List.{find}
use Rattle.domains.specs.Patterns.{names_nothing}
use Rattle.play_model.specs.declared.play.Play.{Play}
use Rattle.play_forecast.specs.PlayPlans.{named_parts}
use Rattle.plan_command.proofs.PlayLemmas.{has_play}
use Rattle.plan_command.proofs.printing.plan_playbook.Goals as goal

pub plan_first-requires : goal.plan_first-requires
plan_first-requires c =
    let lent = sym c.as_slice.ensures.value in
    record {
      some = subst (λ (plays : List Play). 0 < length plays) lent (has_play 16 c.args.playbook.now c.in-Ok.plays.items c.in-Ok.ensures.ok.reads);
      known = subst (λ (plays : List Play). find (names_nothing c.args.fleet.now) (named_parts plays) ≡ None) lent c.in-Ok.ensures.ok.known;
    }
