-- Runs have a log each.
use Rattle.std.proofs.Common.{◌≡◌, ◌⊎◌, inl, inr, ℕ, suc, ◌+◌, List, [], ◌∷◌, ◌++◌, length, length-append, sym, ap, ◌∙◌, arith}
use Rattle.domains.specs.FleetViews.{FleetView}
use Rattle.fleet_states.specs.declared.status.Status.{Status}
use Rattle.host_vars.specs.declared.vars.Vars.{Vars}
use Rattle.host_track.specs.Endings.{Ending}
use Rattle.play_model.specs.declared.play.Play.{Play}
use Rattle.event_log.specs.Events.{Event}
use Rattle.event_log.specs.Rolls.{Roll}
use Rattle.event_log.specs.Told.{Work}
use Rattle.roll_run.specs.Histories.{Gains}
use Rattle.roll_run.specs.Plays.{AreBroken, AreBrokenAfter, AreBrokenOff, AreRuns, AreRunsAfter, IsBrokenOrNotBegun}
use Rattle.roll_run.specs.declared.run.Run.{Run}
use Rattle.roll_run.specs.declared.fault.RunFault.{RunFault}
use Rattle.run_command.specs.Lefts.{EndsWithBroken, EndsWithDone}

-- as many logs as runs, or one more
abbrev IsOneMore : List (List Event) → List Run → Type 0
IsOneMore logs runs = (length logs ≡ length runs) ⊎ (length logs ≡ length runs + 1)

longer : (log : List Event) (logs : List (List Event)) (run : Run) (runs : List Run) → IsOneMore logs runs → IsOneMore (log ∷ logs) (run ∷ runs)
longer log logs run runs (inl same) = inl (omega (arith, same))
longer log logs run runs (inr more) = inr (omega (arith, more))

module _ (may : Work → Ending → Type 0) (fleet : FleetView) (forks : ℕ) where
  as_many_after : (plays : List Play) (before : Run) (runs : List Run) (logs : List (List Event)) → AreRunsAfter may fleet forks plays before runs logs → length logs ≡ length runs
  as_many_after [] before runs logs none = ap length none.0 ∙ sym (ap length none.1)
  as_many_after (play ∷ plays) before [] logs none = ap length none.0
  as_many_after (play ∷ plays) before (run ∷ rest) [] after = absurd after
  as_many_after (play ∷ plays) before (run ∷ rest) (log ∷ logs) after = ap suc (as_many_after plays run rest logs after.2)

  one_or_none : (roll : Roll) (fault : RunFault) (logs : List (List Event)) → IsBrokenOrNotBegun may fleet roll fault logs → IsOneMore logs []
  one_or_none roll fault logs (inl cut) = inr (ap length cut.logs_are)
  one_or_none roll fault logs (inr not) = inl (ap length not.none)

  one_more_after : (plays : List Play) (before : Run) (done : List Run) (last : RunFault) (logs : List (List Event)) → AreBrokenAfter may fleet forks plays before done last logs → IsOneMore logs done
  one_more_after [] before done last logs broken = absurd broken
  one_more_after (play ∷ plays) before [] last logs (finished, inl broken) = one_or_none broken.roll last logs broken.broken
  one_more_after (play ∷ plays) before [] last logs (finished, inr not) = inl (ap length not.none)
  one_more_after (play ∷ plays) before (run ∷ rest) last [] broken = absurd broken
  one_more_after (play ∷ plays) before (run ∷ rest) last (log ∷ logs) broken = longer log logs run rest (one_more_after plays run rest last logs broken.2)

  one_more_off : (first : Play) (later : List Play) (statuses : List Status) (vars : List Vars) (done : List Run) (last : RunFault) (logs : List (List Event)) → AreBrokenOff may fleet forks first later statuses vars done last logs → IsOneMore logs done
  one_more_off first later statuses vars [] last logs broken = one_or_none _ last logs broken
  one_more_off first later statuses vars (run ∷ rest) last [] broken = absurd broken
  one_more_off first later statuses vars (run ∷ rest) last (log ∷ logs) broken = longer log logs run rest (one_more_after later run rest last logs broken.1)

  module _ (plays : List Play) (statuses : List Status) (vars : List Vars) (rolls : ℕ) (before after : List (List Event)) (many : rolls ≡ length before) where
    long : (logs : List (List Event)) → after ≡ before ++ logs → length after ≡ rolls + length logs
    long logs grown = ap length grown ∙ length-append before logs ∙ ap (λ (n : ℕ). n + length logs) (sym many)

    pub ends_with_done : (runs : List Run) → Gains before after (AreRuns may fleet forks plays statuses vars runs) → EndsWithDone rolls runs after
    ends_with_done runs gained =
        let are = gained.are in
        let same : length gained.logs ≡ length runs = ap length are.logs_are ∙ ap suc (as_many_after are.later are.run are.rest are.others are.follow) ∙ sym (ap length are.runs_are) in
        long gained.logs gained.grown ∙ ap (λ (n : ℕ). rolls + n) same

    pub ends_with_broken : (done : List Run) (last : RunFault) → Gains before after (AreBroken may fleet forks plays statuses vars done last) → EndsWithBroken rolls done after
    ends_with_broken done last gained = by (one_more_off gained.are.first gained.are.later statuses vars done last gained.logs gained.are.broken)
      where
        by : IsOneMore gained.logs done → EndsWithBroken rolls done after
        by (inl same) = inl (long gained.logs gained.grown ∙ ap (λ (n : ℕ). rolls + n) same)
        by (inr more) = inr (omega (arith, long gained.logs gained.grown, more))
