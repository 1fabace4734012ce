use Rattle.std.proofs.Common.{false, map, get_or}
use Rattle.std.specs.List.{list_any}
use Rattle.text_syntax.specs.Patterns.{parts_of}
use Rattle.domains.specs.Patterns.{is_named_by}
use Rattle.domains.proofs.MarkLemmas.{flagged_are}
use Rattle.domains.proofs.fleet.Fleet.target.Goals as goal

pub returns-clause-hosts : goal.returns-clause-hosts
returns-clause-hosts c =
    flagged_are c.args.self.now c.mark_pattern.new.self.hosts.items (λ host. list_any (is_named_by c.args.self.now host) (parts_of c.args.pattern.now))
    (map (λ host. host.index) c.in_ok-list_flagged.field-0.items) (λ h. get_or c.in_ok-marks.marks.hosts.items h false)
    (rw c.as_slice.ensures.value at c.in_ok-list_flagged.ensures) c.in_ok-mark_pattern.ensures.flags.all_hosts c.in_ok-marks.ensures.none c.in_ok-mark_pattern.ensures.marked
