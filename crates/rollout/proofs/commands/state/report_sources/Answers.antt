use Rattle.std.proofs.Common.{length, ap, arith}
use Rattle.rollout.specs.Systems.{sources_of}
use Rattle.rollout.proofs.States.{TellsState-of_texts, text_within}
use Rattle.rollout.proofs.commands.state.report_sources.Goals as goal

pub report_texts-requires : goal.report_texts-requires
report_texts-requires g c =
    omega (
      arith,
      text_within (sources_of (g.S.System.known c.args.system.now) (g.I.Input.is_reliable c.args.input.now)) c.args.journal c.in-Ok.ensures.ok.between
          (g.I.Read.remaining c.read_both.new.input) c.in-Ok.journal.items c.in-Ok.ensures.ok.is_playbook,
      ap length c.as_slice-journal.ensures.value,
    )

pub returns-in-Ok : goal.returns-in-Ok
returns-in-Ok g c =
    let tells = rw (c.as_slice-inventory.ensures.value, c.as_slice-journal.ensures.value) at c.report_texts.ensures.ok in
    let refuses = rw (c.as_slice-inventory.ensures.value, c.as_slice-journal.ensures.value) at c.report_texts.ensures.err in
    TellsState-of_texts c.args.standing.now.takes_others c.args.standing.now.goes_on _ _ _ _ _ _ _ c.in-Ok.inventory.items c.in-Ok.journal.items c.report_texts.result c.in-Ok.ensures.ok c.requires tells refuses
