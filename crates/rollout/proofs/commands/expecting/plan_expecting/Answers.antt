use Rattle.std.proofs.Common.{inl, inr}
use Rattle.std.proofs.KnownBytes.{Keeps-refl}
use Rattle.expectations.specs.Shown.{all_shown}
use Rattle.rollout.specs.Expecting.{PrintsPlan, RefusesPlan}
use Rattle.rollout.specs.Systems.{sources_of}
use Rattle.rollout.proofs.OverTexts.{over_two}
use Rattle.rollout.proofs.commands.expecting.plan_expecting.Goals as goal

pub returns-in-Ok-read_both : goal.returns-in-Ok-read_both
returns-in-Ok-read_both g c =
    let sources = sources_of (g.S.System.known c.args.system.now) (g.I.Input.is_reliable c.args.input.now) in
    let old = g.W.Write.contents c.args.out.now in
    let new = g.W.Write.contents c.print_plan-printed.new.out in
    let expected = all_shown c.in-Ok.expected.items in
    let prints = rw (c.as_slice-inventory.ensures.value, c.as_slice-playbook.ensures.value, c.as_slice.ensures.value) at c.print_plan-printed.ensures.ok in
    let refuses = rw (c.as_slice-inventory.ensures.value, c.as_slice-playbook.ensures.value, c.as_slice.ensures.value) at c.print_plan-printed.ensures.err in
    inr (record {
      expected = expected;
      says = c.in-Ok.ensures.ok;
      does = over_two sources c.args.inventory (g.I.Read.remaining c.args.input.now) (g.I.Read.remaining c.read_both.new.input) old new c.args.playbook
          (λ first second status. PrintsPlan first second expected old new status) (λ first second fault. RefusesPlan first second expected old new fault)
          c.in-Ok-read_both.inventory.items c.in-Ok-read_both.playbook.items c.print_plan-printed.result c.in-Ok-read_both.ensures.ok prints refuses;
    })

pub returns : goal.returns
returns g c =
    inr (record {
      expected = all_shown c.in-Ok.expected.items;
      says = c.in-Ok.ensures.ok;
      does = inl (c.in-Err-read_both.ensures.err, Keeps-refl (g.W.Write.contents c.args.out.now));
    })
