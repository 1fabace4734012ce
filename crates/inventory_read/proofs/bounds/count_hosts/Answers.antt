use Rattle.std.proofs.Common.{map, length, sym, ap, ◌∙◌}
use Rattle.text_syntax.specs.Shapes.{entries}
use Rattle.inventory_read.specs.Values.{host_of}
use Rattle.inventory_read.proofs.Counts.{length-hosts}
use Rattle.inventory_read.proofs.bounds.count_hosts.Goals as goal

pub returns-in-Some : goal.returns-in-Some
returns-in-Some c =
    c.len.ensures.len ∙ sym (length-hosts c.in-Some.hosts.now.entries) ∙ ap (λ members. length (map host_of (entries members))) c.in-Some.ensures.entries
