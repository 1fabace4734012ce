-- Names under which some step registers a result: before the file is run nobody knows what they will stand for behind it.
use Rattle.std.specs.Prelude.{Bool, List}
use Rattle.std.specs.List.{flat_map, list_any}
use Rattle.group_tree.specs.Names.{Name}
use Rattle.play_model.specs.declared.step.Step.{Step}
use Rattle.play_model.specs.declared.play.Play.{Play}
use Rattle.host_track.specs.Summaries.{does_register}

-- one of the steps registers its result under the name
abbrev pub is_registered : List Step → Name → Bool
is_registered steps name = list_any (does_register name) steps

-- the steps of plays, in the order of the plays
abbrev pub steps_of : List Play → List Step
steps_of plays = flat_map (λ (play : Play). play.steps.items) plays
