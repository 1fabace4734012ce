use Rattle.std.proofs.Common.{ℕ, List, sym, subst, ◌∙◌}
use Rattle.std.specs.Prelude.{codes}
use Rattle.bounded_io.specs.Writing.{Writes}
use Rattle.plan_check.specs.VerdictText.{host_line, wrong_line}
use Rattle.plan_check.specs.declared.wrong.Wrong.{Wrong}
use Rattle.plan_check.proofs.verdict.write_wrong.Goals as goal

pub returns-in-NotWaiting : goal.returns-in-NotWaiting
returns-in-NotWaiting g c =
    let named = subst (λ (name : List ℕ). Writes g.W.Write.contents c.args.text.now c.write_host.new.text (host_line (codes "not-waiting batch=") c.in-NotWaiting.batch name))
    (c.as_bytes-name.ensures.value ∙ c.host_name.ensures) c.write_host.ensures in
    subst (λ (wrong : Wrong). Writes g.W.Write.contents c.args.text.now c.write_host.new.text (wrong_line c.args.fleet.now wrong)) (sym c.in-NotWaiting.is) named

pub returns-in-Twice : goal.returns-in-Twice
returns-in-Twice g c =
    let named = subst (λ (name : List ℕ). Writes g.W.Write.contents c.args.text.now c.write_host-in-Twice.new.text (host_line (codes "twice batch=") c.in-Twice.batch name))
    (c.as_bytes-name-in-Twice.ensures.value ∙ c.host_name-in-Twice.ensures) c.write_host-in-Twice.ensures in
    subst (λ (wrong : Wrong). Writes g.W.Write.contents c.args.text.now c.write_host-in-Twice.new.text (wrong_line c.args.fleet.now wrong)) (sym c.in-Twice.is) named
