-- The names that a step may look up in vain.
use Rattle.std.specs.Prelude.{Bool, true, false, if◌then◌else◌, Option, Some, None, ℕ, List, [], ◌∷◌, ◌++◌, flat_map}
use Rattle.group_tree.specs.Names.{Name, is_among}
use Rattle.text_syntax.specs.Words.{Ref, whole, part, hostname, Part, plain, hole, braces, parts_of}
use Rattle.cond.specs.Meaning.{Value, Registered, Plain}
use Rattle.cond.specs.declared.condition.Cond.{Cond}
use Rattle.play_model.specs.declared.step.Step.{Step}
use Rattle.host_track.specs.Hosts.{Known, environment_in}
use Rattle.host_track.specs.Summaries.{does_register}
use Rattle.undefined_names.specs.InitialEnv.{InitialEnv, NameStatus, variable, registered, perhaps, nothing}
use Rattle.undefined_names.specs.Outlook.{Outlook, decides, is_result_missed, missed_if, outlook_of}
use Rattle.undefined_names.specs.EarlierSteps.{EarlierSteps, is_registered}

-- how a name stands that is registered before for sure, or perhaps, and that stands for this already
abbrev pub standing_by : Bool → Bool → Option Value → NameStatus
standing_by true may now = registered
standing_by false may (Some Registered) = registered
standing_by false true (Some (Plain scalar)) = perhaps true
standing_by false true None = perhaps false
standing_by false false (Some (Plain scalar)) = variable scalar
standing_by false false None = nothing

-- a host of which this is known, behind what may have run before
abbrev pub outset_of : EarlierSteps → Known → InitialEnv
outset_of past known = record {
  standing = λ name. standing_by (is_registered past.sure name) (is_registered past.may name) ((environment_in known).value name);
  in_group = (environment_in known).in_group;
  host = known.variables.name;
}

-- behind the step's own program its result is there
abbrev pub behind : Step → InitialEnv → InitialEnv
behind step outset = record {
  standing = λ name. if does_register name step then registered else outset.standing name;
  in_group = outset.in_group;
  host = outset.host;
}

-- only a variable is sure to have a text: a whole result has none
abbrev pub has_no_text : NameStatus → Bool
has_no_text (variable scalar) = false
has_no_text registered = true
has_no_text (perhaps is_variable) = true
has_no_text nothing = true

abbrev pub missed_in_hole : InitialEnv → Ref → List Name
missed_in_hole outset (whole name) = missed_if (has_no_text (outset.standing name)) name
missed_in_hole outset (part name field) = missed_if (is_result_missed (outset.standing name)) name
missed_in_hole outset hostname = []

abbrev pub missed_in_part : InitialEnv → Part → List Name
missed_in_part outset (plain text) = []
missed_in_part outset (hole of) = missed_in_hole outset of
missed_in_part outset braces = []

abbrev pub missed_in_word : InitialEnv → List ℕ → List Name
missed_in_word outset word = flat_map (missed_in_part outset) (parts_of word)

abbrev pub missed_in_words : InitialEnv → List (List ℕ) → List Name
missed_in_words outset words = flat_map (missed_in_word outset) words

-- a step without a condition goes on
abbrev pub outlook_if : InitialEnv → Option Cond → Outlook
outlook_if outset None = record { holds = Some true; missed = [] }
outlook_if outset (Some condition) = outlook_of outset condition

-- by what its end is judged
abbrev pub missed_behind : InitialEnv → Step → List Name
missed_behind outset step =
    (outlook_if (behind step outset) step.changed_when).missed ++ (outlook_if (behind step outset) step.failed_when).missed

-- in its words, and behind its program, where it comes to that
abbrev pub missed_if_run : InitialEnv → Option Bool → Step → List Name
missed_if_run outset holds step = if decides false holds then [] else missed_in_words outset step.words ++ missed_behind outset step

-- in the order of reading
abbrev pub missed_by : InitialEnv → Step → List Name
missed_by outset step =
    (outlook_if outset step.when).missed ++ missed_if_run outset (outlook_if outset step.when).holds step

-- a name more, where it doesn't stand there
abbrev pub with_name : List Name → Name → List Name
with_name names name = if is_among name names then names else names ++ name ∷ []

-- each name where it stands first, behind those
abbrev pub once_behind : List Name → List Name → List Name
once_behind before [] = before
once_behind before (name ∷ names) = once_behind (with_name before name) names

-- each once
abbrev pub missed_names : InitialEnv → Step → List Name
missed_names outset step = once_behind [] (missed_by outset step)

-- where there is a step
abbrev pub missed_by_some : InitialEnv → Option Step → List Name
missed_by_some outset None = []
missed_by_some outset (Some step) = missed_names outset step

-- its `when` is known not to hold: it doesn't run
abbrev pub is_skipped : InitialEnv → Step → Bool
is_skipped outset step = decides false (outlook_if outset step.when).holds

-- where there is a step
abbrev pub is_some_skipped : InitialEnv → Option Step → Bool
is_some_skipped outset None = false
is_some_skipped outset (Some step) = is_skipped outset step
