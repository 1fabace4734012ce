use Rattle.command_preview.proofs.Texts.{few_plays}
use Rattle.undefined_names.proofs.first.first_missing.Goals as goal

pub first_in_file-requires-clause-few : goal.first_in_file-requires-clause-few
first_in_file-requires-clause-few c = few_plays c.args.playbook.now c.in-Ok.inputs.plays.items c.in-Ok.ensures.ok.says.reads
