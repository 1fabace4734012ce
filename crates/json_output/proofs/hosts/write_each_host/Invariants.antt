use Rattle.std.proofs.Common.{◌≡◌, ◌≤◌, length}
use Rattle.bounded_io.specs.Writing.{Writes}
use Rattle.domains.specs.Numbered.{host_at}
use Rattle.fleet_index.specs.NumberLists.{numbers_where}
use Rattle.fleet_states.specs.Statuses.{status_at}
use Rattle.recap.specs.RecapText.{counts_at}
use Rattle.json_output.specs.Arrays.{entries_text}
use Rattle.json_output.specs.PlayJson.{host_json, is_told}
use Rattle.json_output.proofs.hosts.write_each_host.Given as goal

abbrev pub invariant-loop-index : goal.invariant-loop-index
invariant-loop-index g l =
    record {
      written : Writes g.W.Write.contents l.initial.text l.text
          (entries_text (λ place host. host_json (host_at l.fleet.hosts host) (counts_at l.counts host) (status_at l.statuses host)) (numbers_where (λ host. is_told (status_at l.statuses host)) l.index));
      told : l.told ≡ length (numbers_where (λ host. is_told (status_at l.statuses host)) l.index);
      few : l.told ≤ l.index;
    }
