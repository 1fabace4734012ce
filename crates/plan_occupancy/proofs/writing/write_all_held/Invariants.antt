use Rattle.std.proofs.Common.{take, flat_map}
use Rattle.bounded_io.specs.Writing.{Writes}
use Rattle.plan_occupancy.specs.Inside.{held_view}
use Rattle.plan_occupancy.specs.Surveys.{held_line}
use Rattle.plan_occupancy.specs.declared.held.HeldHost.{HeldHost}
use Rattle.plan_occupancy.proofs.writing.write_all_held.Given as goal

abbrev pub invariant-loop-each : goal.invariant-loop-each
invariant-loop-each g l =
    Writes g.W.Write.contents l.initial.text l.text (flat_map (λ (held : HeldHost). held_line l.fleet (held_view held)) (take l.each-index l.held))
