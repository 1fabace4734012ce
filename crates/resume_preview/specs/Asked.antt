-- What is asked for.
use Rattle.std.specs.Prelude.{ℕ, Bool, List}
use Rattle.resume_state.specs.Resumptions.{IsResumption, RefusesToResume}
use Rattle.resume_state.specs.declared.fault.ResumeFault.{ResumeFault}
use Rattle.resume_state.specs.declared.inputs.Resumption.{Resumption}
use Rattle.resume_preview.specs.declared.asked.Asked.{Asked}

-- both texts, the journal of the run, the names of the hosts that are up by now, and whether the run may have begun with other texts
pub record Question : Type 0 where
  pub inventory : List ℕ
  pub playbook : List ℕ
  pub journal : List ℕ
  pub names : List ℕ
  pub takes_others : Bool

abbrev pub question_of : Asked → Question
question_of asked = record {
  inventory = asked.inventory.now;
  playbook = asked.playbook.now;
  journal = asked.wish.journal.now;
  names = asked.wish.mended.now;
  takes_others = asked.wish.takes_others;
}

-- what the run goes on with
abbrev pub GoesOnWith : Question → Resumption → Type 0
GoesOnWith asked resumption = IsResumption asked.inventory asked.playbook asked.journal asked.names asked.takes_others resumption

-- why it doesn't
abbrev pub Refuses : Question → ResumeFault → Type 0
Refuses asked why = RefusesToResume asked.inventory asked.playbook asked.journal asked.names asked.takes_others why
