-- A session on the texts of both inputs and a journal is what the command `rehearse` does that begins from it.
use Rattle.std.proofs.Common.{◌≡◌, ℕ, Bool, List, Option, Result, Ok, Err, inr, subst, sym}
use Rattle.std.specs.Prelude.{IfOk, IfErr}
use Rattle.command_line.specs.declared.command.Source.{Source}
use Rattle.rollout.specs.Outlooks.{AnswersRest, BreaksRehearsal, ReadsAll, RehearsesFrom, question}
use Rattle.rollout.specs.Resumes.{ResumeWish}
use Rattle.rollout.specs.Systems.{Sources}
use Rattle.rollout.specs.declared.fault.Fault.{Fault}
use Rattle.rollout.specs.declared.status.Status.{Status}

module _ (sources : Sources) (inventory playbook : Source) (wish : ResumeWish) (input_old between : Option (List ℕ)) where
  -- what was read is what is looked at
  pub reads_so : (first second third one two three : List ℕ) → one ≡ first → two ≡ second → three ≡ third
      → ReadsAll sources inventory playbook wish.journal input_old between first second third → ReadsAll sources inventory playbook wish.journal input_old between one two three
  reads_so first second third one two three same_first same_second same_third reads =
      subst (λ (l : List ℕ). ReadsAll sources inventory playbook wish.journal input_old between l two three) (sym same_first)
      (subst (λ (l : List ℕ). ReadsAll sources inventory playbook wish.journal input_old between first l three) (sym same_second)
      (subst (λ (l : List ℕ). ReadsAll sources inventory playbook wish.journal input_old between first second l) (sym same_third) reads))

  pub RehearsesFrom-of_texts : (strict : Bool) (input_new out_old out_new : Option (List ℕ)) (one two three : List ℕ) (is_reliable : Bool) (result : Result Status Fault)
      → is_reliable ≡ sources.is_reliable → ReadsAll sources inventory playbook wish.journal input_old between one two three
      → IfOk result (AnswersRest strict (question one two three wish) between input_new out_old out_new)
      → IfErr result (BreaksRehearsal is_reliable (question one two three wish) between input_new out_old out_new)
      → RehearsesFrom strict sources inventory playbook wish input_old input_new out_old out_new result
  RehearsesFrom-of_texts strict input_new out_old out_new one two three is_reliable (Ok status) stays reads answers ends =
      record { first = one; second = two; third = three; between = between; reads = reads; answers = answers }
  RehearsesFrom-of_texts strict input_new out_old out_new one two three is_reliable (Err fault) stays reads answers ends =
      inr (record {
        first = one;
        second = two;
        third = three;
        between = between;
        reads = reads;
        ends = subst (λ (b : Bool). BreaksRehearsal b (question one two three wish) between input_new out_old out_new fault) stays ends;
      })
