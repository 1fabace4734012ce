use Rattle.std.proofs.Common.{refl}
use Rattle.std.proofs.KnownBytes.{Keeps-refl}
use Rattle.roll_run.proofs.Following.{gains_none}
use Rattle.rollout.proofs.Journals.{gains_both}
use Rattle.rollout.proofs.program.follow.Goals as goal

pub returns-in-Print : goal.returns-in-Print
returns-in-Print g c =
    let prints = rw c.as_str-in-Print.ensures at c.print.ensures in
    gains_none c.args.history c.args.history refl (rw c.in-Print.is (Keeps-refl (g.I.Read.remaining c.args.input.now), prints, refl))

pub returns-in-Lint : goal.returns-in-Lint
returns-in-Lint g c =
    let lints = rw c.as_str.ensures.value at c.lint.ensures in
    gains_none c.args.history c.args.history refl (rw c.in-Lint.is (lints, refl))

pub returns-in-Explain : goal.returns-in-Explain
returns-in-Explain g c =
    let explains = rw c.as_str-in-Explain.ensures.value at c.explain.ensures in
    gains_none c.args.history c.args.history refl (rw c.in-Explain.is (Keeps-refl (g.I.Read.remaining c.args.input.now), explains, refl))

pub returns-in-Run : goal.returns-in-Run
returns-in-Run g c = rw c.in-Run.is (gains_both c.args.history c.run_by.result.1 c.run_by.ensures.rolls c.run_by.ensures.journal)
