use Rattle.std.proofs.Common.{◌≡◌, ◌+◌, ◌-◌, List, length, take, ap, ◌∙◌, arith}
use Rattle.roll_run.specs.declared.run.Run.{Run}
use Rattle.run_command.specs.Ends as model
use Rattle.run_command.proofs.TextLemmas.{ends_with}
use Rattle.run_command.proofs.end.end_of_runs.Goals as goal

pub returns : goal.returns
returns c =
    let runs : List Run = c.args.runs.now in
    let last : Run = c.index-runs-place.result in
    let many : (length runs - 1) + 1 ≡ length runs = omega (arith, c.requires) in
    record {
      before = take (length runs - 1) runs;
      last = last;
      are = ends_with runs (length runs - 1) last many c.index-runs-place.is;
      ends = c.end_of.ensures ∙ ap (model.end_of last.end) c.as_slice.ensures.value;
    }
