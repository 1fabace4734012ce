use Rattle.std.proofs.Common.{◌≡◌, ◌++◌, true, map}
use Rattle.std.specs.List.{list_all}
use Rattle.serde_json.specs.View.{members_view}
use Rattle.text_syntax.specs.Shapes.{entries}
use Rattle.inventory_read.specs.Named.{has_name}
use Rattle.inventory_read.specs.Values.{host_of}
use Rattle.inventory_read.proofs.build.own_group.Given as goal

abbrev pub invariant-loop-host : goal.invariant-loop-host
invariant-loop-host g l = record {
  built : record l.group { hosts = l.group.hosts ++ map host_of (entries (members_view l.host-iterator)) }
      ≡ record l.initial.group { hosts = map host_of (entries (members_view l.initial.host-iterator)) };
  names : list_all has_name (entries (members_view l.host-iterator)) ≡ true;
}
