-- A session on the texts of both inputs is what the command `rehearse` does.
use Rattle.std.proofs.Common.{ℕ, Bool, List, Option, Result, Ok, Err, inr}
use Rattle.std.specs.Prelude.{IfOk, IfErr}
use Rattle.command_line.specs.declared.command.Source.{Source}
use Rattle.json_output.specs.declared.form.Form.{Form}
use Rattle.rollout.specs.Inputs.{ReadsBoth}
use Rattle.rollout.specs.Rehearsals.{AnswersAll, EndsEarly, RehearsesInputs}
use Rattle.rollout.specs.Systems.{Sources}
use Rattle.rollout.specs.declared.fault.Fault.{Fault}
use Rattle.rollout.specs.declared.status.Status.{Status}

pub RehearsesInputs-of_texts : (form : Form) (strict : Bool) (sources : Sources) (inventory playbook : Source) (input_old between input_new out_old out_new : Option (List ℕ))
    (first second : List ℕ) (result : Result Status Fault) → ReadsBoth sources inventory playbook input_old between first second
    → IfOk result (AnswersAll form strict first second between input_new out_old out_new) → IfErr result (EndsEarly form sources.is_reliable first second between input_new out_old out_new)
    → RehearsesInputs form strict sources inventory playbook input_old input_new out_old out_new result
RehearsesInputs-of_texts form strict sources inventory playbook input_old between input_new out_old out_new first second (Ok status) texts answers ends =
    record { first = first; second = second; between = between; texts = texts; answers = answers }
RehearsesInputs-of_texts form strict sources inventory playbook input_old between input_new out_old out_new first second (Err fault) texts answers ends =
    inr (record { first = first; second = second; between = between; texts = texts; ends = ends })
