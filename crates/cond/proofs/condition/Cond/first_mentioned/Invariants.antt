use Rattle.std.proofs.Common.{◌≡◌, drop}
use Rattle.std.specs.List.{find}
use Rattle.cond.specs.Mentions.{names_by_part, names_of}
use Rattle.cond.proofs.Mentioned.{first_in}
use Rattle.cond.proofs.condition.Cond.first_mentioned.Given as goal

-- the first one in the rest is the first one
abbrev pub invariant-loop-part : goal.invariant-loop-part
invariant-loop-part g l =
    first_in (g.N.Names.holds l.names) (names_by_part l.left l.trees (drop l.part-index l.part-items)) ≡ find (g.N.Names.holds l.names) (names_of l.self)
