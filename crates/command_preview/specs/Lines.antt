-- What is foretold of plays: a line for each step on each host.
use Rattle.std.specs.Prelude.{ℕ, ◌+◌, Bool, true, false, nat_lt, if◌then◌else◌, None, List, [], ◌∷◌, ◌++◌, codes, flat_map, length, take, slice_index_or}
use Rattle.std.specs.List.{list_any}
use Rattle.fleet_index.specs.NumberLists.{numbers_where}
use Rattle.group_tree.specs.Names.{Name}
use Rattle.domains.specs.FleetViews.{FleetView}
use Rattle.domains.specs.Numbered.{host_at}
use Rattle.fleet_states.specs.Starts.{start_statuses}
use Rattle.fleet_states.specs.Statuses.{is_waiting, status_at}
use Rattle.host_vars.specs.Layers.{HostView}
use Rattle.host_track.specs.Hosts.{Known}
use Rattle.host_track.specs.Asking.{Request, job, settled}
use Rattle.host_track.specs.Endings as ending
use Rattle.host_track.specs.Endings.{Ending}
use Rattle.play_model.specs.declared.step.Step.{Step}
use Rattle.play_model.specs.declared.play.Play.{Play}
use Rattle.play_forecast.specs.PlayPlans.{targets}
use Rattle.recap.specs.LimitsText.{field_text}
use Rattle.recap.specs.RecapText.{text_by_place}
use Rattle.command_preview.specs.Unsure.{is_registered, steps_of}
use Rattle.command_preview.specs.Previews.{StepPreview, foretold}
use Rattle.command_preview.specs.declared.end.WordsEnd.{WordsEnd}
use Rattle.command_preview.specs.declared.end.WordsEnd.TheVariants.{Sure, Fails}
use Rattle.terminal_text.specs.Shell.{shell_word}

-- what each entry of a list gives, where the first stands at this place
abbrev pub by_place : {X Y : Type 0} → (ℕ → X → Y) → ℕ → List X → List Y
by_place gives place [] = []
by_place gives place (entry ∷ rest) = gives place entry ∷ by_place gives (place + 1) rest

-- what is foretold of a step on a host; the steps of a play are numbered from 1
pub record Line : Type 0 where
  pub host : Name
  pub number : ℕ
  pub told : StepPreview

-- a host on which no step has run yet
abbrev pub fresh : HostView → Known
fresh view = record { variables = view; results = λ name. None; owes = false }

-- the variables of the host with this number, and none past the end
abbrev pub view_at : List HostView → ℕ → HostView
view_at views host = slice_index_or views host (record { name = []; groups = []; variable = λ name. None })

-- the names that a step registers which stands before this place of a play, or in a play before it
abbrev pub unsure_in : List Step → Play → ℕ → Name → Bool
unsure_in earlier play place = is_registered (earlier ++ take place play.steps.items)

-- the line of the step at this place of a play, where these names are unsure at each place
abbrev pub line_at : (ℕ → Name → Bool) → Play → Name → HostView → ℕ → Step → Line
line_at unsure play host view place step = record {
  host = host;
  number = place + 1;
  told = foretold (unsure place) (nat_lt place play.tasks) (fresh view) step;
}

abbrev pub lines_of_host : (ℕ → Name → Bool) → Play → Name → HostView → List Line
lines_of_host unsure play host view = by_place (line_at unsure play host view) 0 play.steps.items

-- the hosts that the play is for and that are not down at the start
abbrev pub hosts_of : FleetView → Play → List ℕ
hosts_of fleet play =
    numbers_where (λ host. is_waiting (status_at (start_statuses fleet (targets fleet play)) host)) (length fleet.hosts)

abbrev pub lines_of_play : FleetView → List HostView → (ℕ → Name → Bool) → Play → List Line
lines_of_play fleet views unsure play =
    flat_map (λ host. lines_of_host unsure play (host_at fleet.hosts host) (view_at views host)) (hosts_of fleet play)

-- the lines of each play of a file
abbrev pub lines_of_plays : FleetView → List HostView → List Play → List (List Line)
lines_of_plays fleet views plays =
    by_place (λ place play. lines_of_play fleet views (unsure_in (steps_of (take place plays)) play) play) 0 plays

abbrev pub word_of : Bool → List ℕ → List ℕ → List ℕ
word_of is_sure sure unsure = if is_sure then sure else unsure

-- each word after a blank
abbrev pub shell_words : List (List ℕ) → List ℕ
shell_words words = flat_map (λ word. codes " " ++ shell_word word) words

-- ` runs: WORDS`
abbrev pub job_text : Bool → List (List ℕ) → List ℕ
job_text is_sure words = word_of is_sure (codes " runs:") (codes " may-run:") ++ shell_words words

-- ` fails undefined=WORD`
abbrev pub undefined_text : Bool → Name → List ℕ
undefined_text is_sure name = word_of is_sure (codes " fails undefined=") (codes " may-fail undefined=") ++ name

-- No program was started, so no step ends in a way in which a program does.
abbrev pub request_text : Bool → Request → List ℕ
request_text is_sure (job words) = job_text is_sure words
request_text is_sure (settled ending.skipped) = codes " skipped"
request_text is_sure (settled (ending.undefined name)) = undefined_text is_sure name
request_text is_sure (settled ending.not_started) = codes " too-long"
request_text is_sure (settled ending.lost) = []
request_text is_sure (settled (ending.ran rc stdout stderr)) = []

-- `NAME step=N runs: WORDS` and the like
abbrev pub line_of : Name → ℕ → StepPreview → List ℕ
line_of host number told =
    host ++ (field_text (codes " step=") number ++ (request_text told.is_sure told.request ++ codes "\n"))

abbrev pub line_text : Line → List ℕ
line_text line = line_of line.host line.number line.told

abbrev pub lines_text : List Line → List ℕ
lines_text lines = flat_map line_text lines

-- of several plays each stands under its number
abbrev pub head_text : Bool → ℕ → List ℕ
head_text true number = field_text (codes "play ") number ++ codes "\n"
head_text false number = []

-- the lines of all plays, which are numbered from 1
abbrev pub plays_text : Bool → List (List Line) → List ℕ
plays_text several plays = text_by_place (λ place lines. head_text several (place + 1) ++ lines_text lines) 0 plays

-- a word is too long, or a name is sure to have no value
abbrev pub is_failing : Bool → Request → Bool
is_failing is_sure (job words) = false
is_failing is_sure (settled ending.skipped) = false
is_failing is_sure (settled (ending.undefined name)) = is_sure
is_failing is_sure (settled ending.not_started) = true
is_failing is_sure (settled ending.lost) = false
is_failing is_sure (settled (ending.ran rc stdout stderr)) = false

abbrev pub fails : Line → Bool
fails line = is_failing line.told.is_sure line.told.request

abbrev pub end_by : Bool → WordsEnd
end_by true = Fails
end_by false = Sure

abbrev pub end_of : List (List Line) → WordsEnd
end_of plays = end_by (list_any (list_any fails) plays)
