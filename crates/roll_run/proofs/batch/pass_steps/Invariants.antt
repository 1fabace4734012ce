use Rattle.std.proofs.Common.{◌≡◌, true}
use Rattle.roll_core.specs.Barriers.{is_working}
use Rattle.roll_core.specs.Views.{state_of}
use Rattle.roll_run.specs.Inside.{HasWorked}
use Rattle.roll_run.proofs.batch.pass_steps.Given as goal

abbrev pub invariant-loop : goal.invariant-loop
invariant-loop g l = record {
  worked : HasWorked l.initial.board l.board;
  working : is_working (state_of l.board.kernel).phase ≡ true;
  tallies : l.board.tallies ≡ 0;
  same : l.board.kernel.forks ≡ l.initial.board.kernel.forks;
  forks : l.front.forks ≡ l.initial.front.forks;
}
