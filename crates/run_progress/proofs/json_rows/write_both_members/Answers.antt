use Rattle.std.proofs.Common.{codes, refl}
use Rattle.bounded_io.proofs.WritingLemmas.{writes_two}
use Rattle.run_progress.specs.JsonRows.{both_members}
use Rattle.run_progress.specs.JsonStrings.{output_json}
use Rattle.run_progress.proofs.json_rows.write_both_members.Goals as goal

pub returns : goal.returns
returns g c =
    let stdout = c.args.stdout.now in
    let stderr = c.args.stderr.now in
    writes_two _ _ _ _ (output_json (codes ",\"stdout\":[\"") stdout) (output_json (codes ",\"stderr\":[\"") stderr) (both_members stdout stderr)
    c.write_output_member.ensures c.write_output_member-2.ensures refl
