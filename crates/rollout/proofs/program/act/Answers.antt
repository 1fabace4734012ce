use Rattle.std.proofs.Common.{refl, inl, inr}
use Rattle.std.proofs.KnownBytes.{Keeps-refl}
use Rattle.roll_run.proofs.Following.{gains_as, gains_none}
use Rattle.rollout.proofs.program.act.Goals as goal

pub returns-in-Some : goal.returns-in-Some
returns-in-Some g c =
    gains_none c.args.history c.args.history refl (inr (record {
      fault = c.in-Some.fault;
      refuses = c.in-Some.ensures;
      is = refl;
      unread = Keeps-refl (g.I.Read.remaining c.args.input.now);
      unwritten = Keeps-refl (g.O.Write.contents c.args.out.now);
      none = refl;
    }))

pub returns-in-None : goal.returns-in-None
returns-in-None g c = gains_as c.args.history c.follow.result.1 (λ logs does. inl does) c.follow.ensures
