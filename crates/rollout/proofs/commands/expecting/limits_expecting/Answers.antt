use Rattle.std.proofs.Common.{inl, inr}
use Rattle.std.proofs.KnownBytes.{Keeps-refl}
use Rattle.expectations.specs.Shown.{all_shown}
use Rattle.rollout.specs.Expecting.{PrintsTable, RefusesTable}
use Rattle.rollout.specs.Systems.{sources_of}
use Rattle.rollout.proofs.OverTexts.{over_one}
use Rattle.rollout.proofs.commands.expecting.limits_expecting.Goals as goal

pub returns-in-Ok-read_source : goal.returns-in-Ok-read_source
returns-in-Ok-read_source g c =
    let sources = sources_of (g.S.System.known c.args.system.now) (g.I.Input.is_reliable c.args.input.now) in
    let old = g.W.Write.contents c.args.out.now in
    let new = g.W.Write.contents c.print_limits.new.out in
    let expected = all_shown c.in-Ok.expected.items in
    let prints = rw (c.as_slice.ensures.value, c.as_slice-in-Ok-read_source.ensures.value) at c.print_limits.ensures.ok in
    let refuses = rw (c.as_slice.ensures.value, c.as_slice-in-Ok-read_source.ensures.value) at c.print_limits.ensures.err in
    inr (record {
      expected = expected;
      says = c.in-Ok.ensures.ok;
      does = over_one sources c.args.inventory (g.I.Read.remaining c.args.input.now) (g.I.Read.remaining c.read_source.new.input) old new
          (λ first status. PrintsTable first expected old new status) (λ first fault. RefusesTable first expected old new fault)
          c.in-Ok-read_source.text.items c.print_limits.result c.in-Ok-read_source.ensures.ok prints refuses;
    })

pub returns : goal.returns
returns g c =
    inr (record {
      expected = all_shown c.in-Ok.expected.items;
      says = c.in-Ok.ensures.ok;
      does = inl (c.in-Err-read_source.ensures.err, Keeps-refl (g.W.Write.contents c.args.out.now));
    })
