use Rattle.std.proofs.Common.{◌≡◌, ◌≤◌, length, flat_map}
use Rattle.bounded_io.specs.Writing.{Writes}
use Rattle.recap.specs.LimitsText.{line_text}
use Rattle.recap.specs.LimitsTable.{lines_with}
use Rattle.recap.specs.Moments.{down_then}
use Rattle.recap.proofs.limits.write_table.Given as goal

abbrev pub invariant-loop-index : goal.invariant-loop-index
invariant-loop-index g l =
    Writes g.W.Write.contents l.initial.text l.text (flat_map line_text (lines_with l.fleet (down_then l.fleet l.moment) l.index)) × (l.limited ≡ length (lines_with l.fleet (down_then l.fleet l.moment) l.index)) × (l.limited ≤ l.index)
