use Rattle.std.proofs.Common.{◌≡◌, true, map, string_bytes, ap, refl, subst, ◌∙◌}
use Rattle.std.proofs.lemmas.Result.{IfErr-weaker, IfOk-weaker}
use Rattle.clap.specs.Words.{App, FailsBy, fault_of, is_simple, is_simple_and_free, subcommand_of, takes}
use Rattle.clap.proofs.OnLiterals.{clap_on_literals}
use Rattle.command_line.specs.Syntax.{rollout}
use Rattle.command_line.proofs.syntax.matches.Goals as goal

-- the words below the program's syntax give the matches
has_matches : is_simple rollout ≡ true
unfolding clap_on_literals
has_matches = refl

pub returns-clause-ok : goal.returns-clause-ok
returns-clause-ok c =
    let words = map string_bytes c.args.words.now in
    IfOk-weaker c.try_get_matches_from.result _ _
    (λ m has. (has (ap is_simple c.in_ok-rollout.ensures ∙ has_matches)).1 ∙ ap (λ (app : App). subcommand_of app words) c.in_ok-rollout.ensures)
    c.try_get_matches_from.ensures.matches

pub returns-clause-err : goal.returns-clause-err
returns-clause-err c =
    let words = map string_bytes c.args.words.now in
    IfErr-weaker c.try_get_matches_from.result _ _ (λ e h taken. h (ap (λ (app : App). takes app words) c.in_ok-rollout.ensures ∙ taken)) c.try_get_matches_from.ensures.passes

-- clap's kinds of faults are told of programs like this one
simple : is_simple_and_free rollout ≡ true
unfolding clap_on_literals
simple = refl

pub returns-clause-kinds : goal.returns-clause-kinds
returns-clause-kinds c =
    subst (λ (app : App). FailsBy (fault_of app (map string_bytes c.args.words.now)) c.try_get_matches_from.result) c.in_ok-rollout.ensures
    (c.try_get_matches_from.ensures.kinds (ap is_simple_and_free c.in_ok-rollout.ensures ∙ simple))
