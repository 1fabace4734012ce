use Rattle.std.proofs.Common.{sym, subst}
use Rattle.bounded_io.specs.Writing.{Writes}
use Rattle.plan_check.specs.Shown.{shown}
use Rattle.plan_check.specs.VerdictText.{verdict_text}
use Rattle.plan_check.specs.declared.verdict.Verdict.{Verdict}
use Rattle.plan_check.proofs.verdict.write_verdict.Goals as goal

pub returns-in-Nobody : goal.returns-in-Nobody
returns-in-Nobody g c =
    subst (λ (verdict : Verdict). Writes g.W.Write.contents c.args.text.now c.write_host.new.text (verdict_text c.args.fleet.now (shown verdict))) (sym c.in-Nobody.is) c.write_host.ensures
