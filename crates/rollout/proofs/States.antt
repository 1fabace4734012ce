-- What is told of a journal.
use Rattle.std.proofs.Common.{ℕ, ◌≤◌, Bool, List, length, Option, Result, Ok, Err, inr}
use Rattle.std.specs.Prelude.{IfErr, IfOk}
use Rattle.bounded_io.specs.Reading.{max_input}
use Rattle.command_line.specs.declared.command.Source.{Source}
use Rattle.command_line.specs.declared.command.Source.TheVariants.{StandardInput, File}
use Rattle.rollout.specs.Inputs.{IsTextOf, ReadsBoth}
use Rattle.rollout.specs.StateTexts.{IsAsked, RefusesTexts, TellsState, TellsTexts}
use Rattle.rollout.specs.Systems.{Sources}
use Rattle.rollout.specs.declared.fault.Fault.{Fault}
use Rattle.rollout.specs.declared.status.Status.{Status}

-- a text has no more bytes than an input
pub text_within : (sources : Sources) (source : Source) (old new : Option (List ℕ)) (text : List ℕ) → IsTextOf sources source old new text → length text ≤ max_input
text_within sources StandardInput old new text is = is.within
text_within sources (File name) old new text is = is.0.whole.within

pub TellsState-of_texts : (takes_others goes_on : Bool) (sources : Sources) (inventory journal : Source) (input_old input_new out_old out_new : Option (List ℕ)) (first second : List ℕ) (result : Result Status Fault)
    → ReadsBoth sources inventory journal input_old input_new first second → IsAsked sources.known journal goes_on → IfOk result (TellsTexts first second takes_others goes_on out_old out_new) → IfErr result (RefusesTexts first second takes_others goes_on out_old out_new)
    → TellsState takes_others sources inventory journal input_old input_new out_old out_new result
TellsState-of_texts takes_others goes_on sources inventory journal input_old input_new out_old out_new first second (Ok status) texts asked tells refuses =
    record { first = first; second = second; texts = texts; goes_on = goes_on; asked = asked; tells = tells }
TellsState-of_texts takes_others goes_on sources inventory journal input_old input_new out_old out_new first second (Err fault) texts asked tells refuses =
    inr (record { first = first; second = second; texts = texts; goes_on = goes_on; asked = asked; refuses = refuses })
