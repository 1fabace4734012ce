use Rattle.journal.specs.Shown.{shown_journal}
use Rattle.resume_state.proofs.StartLemmas.{all_begun}
use Rattle.resume_state.proofs.inputs.begin.Goals as goal

pub resume-requires-clause-all : goal.resume-requires-clause-all
resume-requires-clause-all c = all_begun c.args.inputs.fleet _ (shown_journal c.in_ok-journal.journal) c.in_ok-journal.ensures.begun
