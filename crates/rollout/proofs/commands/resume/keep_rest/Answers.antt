use Rattle.std.proofs.Common.{ap, ◌∙◌}
use Rattle.domains.specs.Ids.{host_numbers}
use Rattle.roll_run.proofs.Following.{gains_as}
use Rattle.run_command.specs.Beginnings.{plays_from}
use Rattle.rollout.proofs.Journals.{rest_is_kept}
use Rattle.rollout.proofs.commands.resume.keep_rest.Goals as goal

pub returns-clause-journal : goal.returns-clause-journal
returns-clause-journal g c =
    let resumption = c.args.resumption in
    let kept = rw c.as_slice-2.ensures.value at c.run_rest.ensures.kept in
    gains_as c.args.history c.run_rest.result.1
    (λ logs is. rest_is_kept g.F.Write.contents (λ keeper. keeper.file) (λ keeper. keeper.is_whole) (λ keeper. keeper.mended) (λ mended. host_numbers mended.now) (λ keeper. keeper.goes_on) g.F.DurableFile.is_on_disk
    c.new-keeper.result c.args.file (host_numbers resumption.mended.items) resumption.goes_on resumption.fleet (plays_from resumption.beginning resumption.plays.items) c.run_rest.result.0 logs
    c.new-keeper.ensures.whole c.new-keeper.ensures.file (ap host_numbers (c.new-keeper.ensures.mended ∙ c.as_slice.ensures.value)) c.new-keeper.ensures.goes_on is)
    kept
