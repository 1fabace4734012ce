use Rattle.std.proofs.Common.{List, refl, subst}
use Rattle.bounded_io.specs.Writing.{Writes}
use Rattle.bounded_io.proofs.WritingLemmas.{writes_two}
use Rattle.roll_run.specs.declared.run.Run.{Run}
use Rattle.run_command.specs.Recaps.{broken_lines_from}
use Rattle.run_command.proofs.lines.write_broken.Goals as goal

pub returns : goal.returns
returns g c =
    let written = writes_two _ c.args.text.now c.write_runs.new.text c.write_fault.new.text _ _ _ c.write_runs.ensures c.write_fault.ensures refl in
    subst (λ (runs : List Run). Writes g.W.Write.contents c.args.text.now c.write_fault.new.text (broken_lines_from c.args.plays_before c.args.fleet.now c.args.several runs c.args.fault.now.last))
    c.as_slice-done.ensures.value written
