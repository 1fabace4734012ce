-- A rehearsal of the rest of a run.
use Rattle.std.specs.Prelude.{ℕ, Bool, Option, List}
use Rattle.rehearse.specs.PlainReplies.{plain_reply}
use Rattle.rehearse.specs.RehearseTexts.{IsFaultFrom, IsUnbegun, RehearsesFrom}
use Rattle.rehearse.specs.declared.fault.RehearseFault.{RehearseFault}
use Rattle.resume_state.specs.declared.inputs.Resumption.{Resumption}
use Rattle.resume_preview.specs.Asked.{GoesOnWith, Question, Refuses}
use Rattle.resume_preview.specs.declared.fault.PreviewFault.{PreviewFault}
use Rattle.resume_preview.specs.declared.fault.PreviewFault.TheVariants.{Resume, Session}

-- the run goes on, and a session on the play with which it does, from the statuses that it has then, answered all commands; a line of them was refused, or none
pub record RehearsesRest (asked : Question) (old new out_old out_new : Option (List ℕ)) (refused : Bool) : Type 0 where
  pub resumption : Resumption
  pub goes : GoesOnWith asked resumption
  pub session : RehearsesFrom plain_reply resumption.fleet goes.gone.first resumption.beginning.start.statuses.items old new out_old out_new refused

-- the fault is true of such a session
pub record EndsRest (is_reliable : Bool) (asked : Question) (old new out_old out_new : Option (List ℕ)) (fault : RehearseFault) : Type 0 where
  pub resumption : Resumption
  pub goes : GoesOnWith asked resumption
  pub session : IsFaultFrom plain_reply is_reliable resumption.fleet goes.gone.first resumption.beginning.start.statuses.items old new out_old out_new fault

-- what the fault says is true: the run doesn't go on, no command was read, and nothing went out; or the session ended so
abbrev pub IsTrueOfRehearsal : Bool → Question → Option (List ℕ) → Option (List ℕ) → Option (List ℕ) → Option (List ℕ) → PreviewFault → Type 0
IsTrueOfRehearsal is_reliable asked old new out_old out_new (Resume why) = Refuses asked why × IsUnbegun old new out_old out_new
IsTrueOfRehearsal is_reliable asked old new out_old out_new (Session fault) = EndsRest is_reliable asked old new out_old out_new fault
