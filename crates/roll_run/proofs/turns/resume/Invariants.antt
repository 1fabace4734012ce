use Rattle.std.proofs.Common.{◌≡◌}
use Rattle.batch_plan.specs.Places.{AreCountsOf}
use Rattle.roll_core.specs.Views.{state_of}
use Rattle.roll_run.specs.Inside.{IsBetween, IsSameRoll, KeepsUp}
use Rattle.roll_run.proofs.turns.resume.Given as goal

abbrev pub invariant-loop : goal.invariant-loop
invariant-loop g l = record {
  is_between : IsBetween l.board.kernel l.boundaries.items l.before;
  counts : AreCountsOf (state_of l.board.kernel).statuses l.domains;
  tallies : l.board.tallies ≡ 0;
  same : IsSameRoll l.initial.board l.board;
  fleet : l.domains.fleet ≡ l.initial.domains.fleet;
  forks : l.front.forks ≡ l.initial.front.forks;
  kept : KeepsUp g.K.Recorder.keeps l.initial.board.kernel l.board.kernel l.initial.keeper l.keeper;
}
