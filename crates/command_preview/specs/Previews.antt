-- What is foretold of a step on a host before anything runs. A name is unsure where only a run can know what it stands for.
use Rattle.std.specs.Prelude.{ℕ, Bool, true, not, ◌&&◌, if◌then◌else◌, Option, Some, None, option_map, Ok, List, [], ◌++◌, codes}
use Rattle.std.specs.List.{list_any}
use Rattle.std.specs.Option.{option_or}
use Rattle.group_tree.specs.Names.{Name}
use Rattle.group_tree.specs.Variables.{Text}
use Rattle.text_syntax.specs.Words.{Ref, whole, part, hostname, field_word}
use Rattle.text_syntax.specs.Renders.{Values}
use Rattle.text_syntax.specs.declared.field.Field.{Field}
use Rattle.cond.specs.Meaning.{Verdict}
use Rattle.cond.specs.Mentions.{names_of}
use Rattle.cond.specs.declared.condition.Cond.{Cond}
use Rattle.play_model.specs.declared.step.Step.{Step}
use Rattle.host_track.specs.Hosts.{Known, environment_in, values_in}
use Rattle.host_track.specs.Asking.{Request, asked_if, is_to_run, words_asked}

-- `{{ NAME }}`, or with a field's `.FIELD` behind the name
abbrev pub hole_text : Name → List ℕ → List ℕ
hole_text name tail = codes "{{ " ++ (name ++ (tail ++ codes " }}"))

abbrev pub field_tail : Field → List ℕ
field_tail field = codes "." ++ field_word field

-- the text of a hole with an unsure name
abbrev pub hole_for : (Name → Bool) → Ref → Option (List ℕ)
hole_for is_unsure (whole name) = if is_unsure name then Some (hole_text name []) else None
hole_for is_unsure (part name field) = if is_unsure name then Some (hole_text name (field_tail field)) else None
hole_for is_unsure hostname = None

-- such a hole stands for itself, and any other for the host's value
abbrev pub foreseen : (Name → Bool) → Values → Values
foreseen is_unsure values of = option_or (option_map Text (hole_for is_unsure of)) (values of)

-- the host's variables alone decide the condition: it mentions no unsure name
abbrev pub is_decided : (Name → Bool) → Option Cond → Bool
is_decided is_unsure None = true
is_decided is_unsure (Some condition) = not (list_any is_unsure (names_of condition))

-- a step whose `when` only a run can decide may come to its words
abbrev pub when_foreseen : (Name → Bool) → Known → Step → Verdict
when_foreseen is_unsure known step =
    if is_decided is_unsure step.when then is_to_run (environment_in known) step else Ok true

-- what a step asks of the host once it is due there, and whether it is sure to be due and to ask for it
pub record StepPreview : Type 0 where
  pub is_sure : Bool
  pub request : Request

-- a handler is due only where it is notified
abbrev pub foretold : (Name → Bool) → Bool → Known → Step → StepPreview
foretold is_unsure is_task known step = record {
  is_sure = is_task && is_decided is_unsure step.when;
  request = asked_if (when_foreseen is_unsure known step) (words_asked (foreseen is_unsure (values_in known)) step.words);
}
