use Rattle.std.specs.Prelude.{option_map, string_bytes}
use Rattle.rollout.specs.Systems.{sources_of}
use Rattle.rollout.proofs.Asking.{drawn_so}
use Rattle.rollout.proofs.commands.plan_by.plan_by.Goals as goal

pub returns-in-Some : goal.returns-in-Some
returns-in-Some g c =
    rw c.in-Some.is
    (drawn_so c.args.wishes.now.is_grouped (option_map string_bytes c.args.wishes.now.color) (option_map string_bytes c.args.wishes.now.forecast) (sources_of (g.S.System.known c.args.system.now) (g.I.Input.is_reliable c.args.input.now)) c.args.inventory
    c.args.playbook (g.I.Read.remaining c.args.input.now) (g.I.Read.remaining c.print_plan-printed.new.input) (g.O.Write.contents c.args.out.now)
    (g.O.Write.contents c.print_plan-printed.new.out) c.print_plan-printed.result c.outcome.result c.drawn.result c.print_plan-printed.ensures c.outcome.ensures
    c.drawn.ensures.ok c.drawn.ensures.lost c.drawn.ensures.err)
