-- The steps that run on a host before a step of a play.
use Rattle.std.specs.Prelude.{List}
use Rattle.play_model.specs.declared.step.Step.{Step}
pub use Rattle.command_preview.specs.Unsure.{is_registered, steps_of}

-- those that are sure to have run, and those that may have
pub record EarlierSteps : Type 0 where
  pub sure : List Step
  pub may : List Step
