-- What is foretold of a step, and what it asks of the host when it is due there.
use Rattle.std.specs.Prelude.{◌≡◌, true, false, None, List}
use Rattle.std.specs.List.{list_any}
use Rattle.group_tree.specs.Names.{Name}
use Rattle.play_model.specs.declared.step.Step.{Step}
use Rattle.host_track.specs.Hosts.{Known}
use Rattle.host_track.specs.Asking.{asks, settled}
use Rattle.host_track.specs.Endings.{skipped}
use Rattle.result_dependencies.specs.Reads.{names_in_words}
use Rattle.command_preview.specs.Previews.{StepPreview, foretold, is_decided}
use Rattle.command_preview.specs.Lines.{fresh}
use Rattle.command_preview.specs.Unsure.{is_registered}

-- the host has no other results than those that these steps register
abbrev pub HasResultsOf : List Step → Known → Type 0
HasResultsOf steps known = (name : Name) → is_registered steps name ≡ false → known.results name ≡ None

-- what is foretold of the step behind these steps, by the host's variables alone
abbrev pub foretold_behind : List Step → Known → Step → StepPreview
foretold_behind steps known step = foretold (is_registered steps) true (fresh known.variables) step

-- only its program's end, or that of a step before it, can be other than was told: a step that looks up nothing unsure asks for what was told
abbrev pub AsksAsTold : List Step → Known → Step → Type 0
AsksAsTold steps known step =
    is_decided (is_registered steps) step.when ≡ true → list_any (is_registered steps) (names_in_words step.words) ≡ false → asks known step ≡ (foretold_behind steps known step).request

-- a step that is told to be skipped is skipped, whatever its words are
abbrev pub IsSkippedAsTold : List Step → Known → Step → Type 0
IsSkippedAsTold steps known step = (foretold_behind steps known step).request ≡ settled skipped → asks known step ≡ settled skipped
