use Rattle.std.proofs.Common.{[], inl, inr, refl}
use Rattle.roll_run.proofs.Following.{gains_none}
use Rattle.roll_run.proofs.plays.run_one.Goals as goal

pub returns-in-Err-clause-err : goal.returns-in-Err-clause-err
returns-in-Err-clause-err g c = gains_none c.args.history c.in-Err.history c.in-Err.ensures.none (inr c.before_a_log-fault.ensures)

pub returns-in-Err-clause-ahead : goal.returns-in-Err-clause-ahead
returns-in-Err-clause-ahead g c =
    gains_none c.args.history c.in-Err.history c.in-Err.ensures.none
    (record { broken = []; one = inl refl; mid = c.args.keeper.now; kept = refl; ahead = inl c.in-Err.ensures.unkept })
