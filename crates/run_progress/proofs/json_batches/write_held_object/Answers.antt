use Rattle.std.proofs.Common.{codes, refl}
use Rattle.bounded_io.proofs.WritingLemmas.{writes_two}
use Rattle.domains.specs.Ids.{host_numbers}
use Rattle.run_progress.specs.JsonStrings.{hosts_json}
use Rattle.run_progress.specs.JsonTellings.{held_object}
use Rattle.run_progress.proofs.json_batches.write_held_object.Goals as goal

pub returns : goal.returns
returns g c =
    let fleet = c.args.fleet.now in
    let held = host_numbers c.args.held.now in
    writes_two _ _ _ _ (codes "{\"event\":\"held\"") (hosts_json fleet held) (held_object fleet held) c.write_str.ensures c.write_hosts_member.ensures refl
