use Rattle.std.proofs.Common.{◌≡◌, ◌∙◌, subst}
use Rattle.roll_run.specs.Inside.{HasTurned, KeepsTurn}
use Rattle.roll_run.specs.declared.turns.Turn.{Turn}
use Rattle.roll_run.proofs.Keeping.{ahead_further, keeps_further}
use Rattle.roll_run.proofs.Turning.{same_further}
use Rattle.roll_run.proofs.turns.resume.Goals as goal

pub loop-preserved : goal.loop-preserved
loop-preserved g c =
    let now = c.move_on-turn.result.1 in
    let after = c.move_on-turn.new.keeper in
    let was = c.loop.invariant in
    let behind = subst (λ (t : Turn). HasTurned c.move_on-turn.new.boundaries.items c.move_on-turn.new.domains now t) c.in-Behind.is c.move_on-turn.ensures.turned in
    let turn = subst (λ (t : Turn). KeepsTurn g.K.Recorder.keeps c.loop.board.kernel now.kernel c.loop.keeper after t) c.in-Behind.is c.move_on-turn.ensures.kept in
    record {
      is_between = behind.is_between;
      counts = behind.counts;
      tallies = behind.tallies;
      same = same_further c.args.board c.loop.board now was.same c.move_on-turn.ensures.same;
      fleet = c.move_on-turn.ensures.fleet ∙ was.fleet;
      forks = c.move_on-turn.ensures.forks ∙ was.forks;
      kept = keeps_further g.K.Recorder.keeps c.args.board.kernel c.loop.board.kernel now.kernel c.args.keeper.now c.loop.keeper after was.kept turn;
    }

pub returns-in-Ended-clause-kept : goal.returns-in-Ended-clause-kept
returns-in-Ended-clause-kept g c =
    let now = c.move_on-turn.result.1 in
    let after = c.move_on-turn.new.keeper in
    let turn = subst (λ (t : Turn). KeepsTurn g.K.Recorder.keeps c.loop.board.kernel now.kernel c.loop.keeper after t) c.in-Ended.is c.move_on-turn.ensures.kept in
    keeps_further g.K.Recorder.keeps c.args.board.kernel c.loop.board.kernel now.kernel c.args.keeper.now c.loop.keeper after c.loop.invariant.kept turn

pub returns-in-Broken-clause-ahead : goal.returns-in-Broken-clause-ahead
returns-in-Broken-clause-ahead g c =
    let now = c.move_on-turn.result.1 in
    let after = c.move_on-turn.new.keeper in
    let turn = subst (λ (t : Turn). KeepsTurn g.K.Recorder.keeps c.loop.board.kernel now.kernel c.loop.keeper after t) c.in-Broken.is c.move_on-turn.ensures.kept in
    ahead_further g.K.Recorder.keeps c.args.board.kernel c.loop.board.kernel now.kernel c.args.keeper.now c.loop.keeper after c.loop.invariant.kept turn
