use Rattle.std.proofs.Common.{◌≡◌, ◌∷◌, List, drop, drop-cons, refl, sym, ap, ◌∙◌}
use Rattle.play_model.specs.declared.play.Play.{Play}
use Rattle.play_forecast.specs.PlayPlans.{parts_of_play}
use Rattle.play_forecast.proofs.PatternLemmas.{fault_here}
use Rattle.plan_command.proofs.printing.plan_first.Goals as goal

pub returns-in-Ok-clause-ok : goal.returns-in-Ok-clause-ok
returns-in-Ok-clause-ok c =
    let plays : List Play = c.args.plays.now in
    let first : Play = c.index-plays-0.result in
    let parts : plays ≡ first ∷ drop 1 plays = drop-cons plays 0 first c.requires.some ∙ ap (λ (play : Play). play ∷ drop 1 plays) (sym c.index-plays-0.is) in
    record { first = first; others = drop 1 plays; are = parts; known = c.requires.known; plan = c.in-Ok.ensures.ok }

pub returns-in-Err-clause-err : goal.returns-in-Err-clause-err
returns-in-Err-clause-err c =
    fault_here c.args.fleet.now parts_of_play c.args.plays.now 0 c.index-plays-0.result c.index-plays-0.is c.requires.some refl c.in-Err.fault c.in-Err.ensures.err
