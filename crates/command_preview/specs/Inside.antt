-- What the parts have to give.
use Rattle.std.specs.Prelude.{◌≡◌, ℕ, Bool, List, map, ◌++◌, take, Option, Result, Ok, Err, String, string_bytes}
use Rattle.std.specs.declared.alloc.AllocError.{AllocError}
use Rattle.std.specs.Borrow.{Bor}
use Rattle.std.specs.HashMap.{HashMap}
use Rattle.std.specs.List.{list_any}
use Rattle.bounded_io.specs.Writing.{Writes}
use Rattle.bounded_io.specs.declared.text_writer.TextWriter.{TextWriter}
use Rattle.group_tree.specs.Names.{Name}
use Rattle.host_vars.specs.Conditions.{values_of}
use Rattle.host_vars.specs.HostVars.{variables_of}
use Rattle.host_vars.specs.Layers.{HostView}
use Rattle.host_vars.specs.declared.vars.Vars.{Vars}
use Rattle.host_track.specs.Asking as request
use Rattle.host_track.specs.Asking.{Request, Word}
use Rattle.host_track.specs.Endings as ending
use Rattle.text_syntax.specs.Renders.{Values}
use Rattle.play_model.specs.declared.play.Play.{Play}
use Rattle.command_preview.specs.Previews as spec
use Rattle.command_preview.specs.Holes.{is_kept_before}
use Rattle.command_preview.specs.Lines.{by_place}
use Rattle.command_preview.specs.Unsure.{is_registered, steps_of}
use Rattle.command_preview.specs.declared.asking.Asking.{Asking}
use Rattle.command_preview.specs.declared.asking.Asking.TheVariants as asking
use Rattle.command_preview.specs.declared.foreseen.Foreseen.{Foreseen}
use Rattle.command_preview.specs.declared.step_preview.StepPreview.{StepPreview}
use Rattle.command_preview.specs.declared.hole.Hole.{Hole}
use Rattle.command_preview.specs.declared.wording.Wording.{Wording}
use Rattle.command_preview.specs.declared.wording.Wording.TheVariants as wording

abbrev pub texts_of : {Y : Type 0} → List (String Y) → List (List ℕ)
texts_of words = map string_bytes words

abbrev pub views_of : List Vars → List HostView
views_of vars = map variables_of vars

abbrev pub asked_as : Asking → Request
asked_as (asking.Job words) = request.job (texts_of words.items)
asked_as asking.Skipped = request.settled ending.skipped
asked_as (asking.Undefined name) = request.settled (ending.undefined name.now)
asked_as asking.TooLong = request.settled ending.not_started

abbrev pub worded_as : Wording → Word
worded_as (wording.Text text) = request.text (string_bytes text)
worded_as (wording.Undefined name) = request.ended (ending.undefined name.now)
worded_as wording.TooLong = request.ended ending.not_started

abbrev pub foretold_as : StepPreview → spec.StepPreview
foretold_as told = record { is_sure = told.is_sure; request = asked_as told.asking }

abbrev pub is_unsure_to : Foreseen → Name → Bool
is_unsure_to foreseen = is_kept_before foreseen.holes.now.names foreseen.before

abbrev pub foreseen_by : Foreseen → Values
foreseen_by foreseen = spec.foreseen (is_unsure_to foreseen) (values_of foreseen.vars.now)

-- of each name is known behind how many steps of the plays it is registered
abbrev pub AreHolesOf : {S : Type 0} → HashMap (Bor (List ℕ)) Hole S → List Play → Type 0
AreHolesOf names plays = (count : ℕ) (name : Name) → is_kept_before names count name ≡ is_registered (take count (steps_of plays)) name

-- the test passes at some entry and its place
abbrev pub told_by : {X : Type 0} → (ℕ → X → Bool) → ℕ → List X → Bool
told_by test place xs = list_any (λ b. b) (by_place test place xs)

-- some front of the bytes was given
pub record WritesFront {W : Type 0} (contents : W → Option (List ℕ)) (old new : TextWriter W) (bytes : List ℕ) : Type 0 where
  pub front : List ℕ
  pub rest : List ℕ
  pub parts : bytes ≡ front ++ rest
  pub written : Writes contents old new front

-- all the bytes were given and this was told of them, or memory was wanting behind some front of them
abbrev pub Tells : {W : Type 0} → (W → Option (List ℕ)) → TextWriter W → TextWriter W → List ℕ → Bool → Result Bool AllocError → Type 0
Tells contents old new bytes told (Ok found) = Writes contents old new bytes × (found ≡ told)
Tells contents old new bytes told (Err refused) = WritesFront contents old new bytes
