-- How what is told of a run is seen.
use Rattle.std.specs.Prelude.{◌≡◌, Bool, true, false, Option, Some, None}
use Rattle.command_line.specs.Wishes.{Wish}
use Rattle.command_line.specs.declared.command.Line as declared_line
use Rattle.command_line.specs.declared.command.Line.TheVariants.{Limits, Plan, Run, Rehearse, State, Check, Lint, Explain, Print}
use Rattle.run_progress.specs.declared.mode.Seen.{Seen}

-- it is seen as the words ask for; how wide it may be is asked for where a line may be drawn alone
pub record IsSeenSo (wish : Wish) (draws : Bool) (seen : Seen) : Type 0 where
  pub verbose : seen.is_verbose ≡ wish.verbose
  pub quiet : seen.is_quiet ≡ wish.quiet
  pub json : seen.is_json ≡ wish.json
  pub width : draws ≡ false → seen.width ≡ 0

-- whether something is told beside what the line asks for, and whether a line may be drawn of it: of a run; of a plan; of where a run stands
abbrev pub watching : declared_line.Line → Option Bool
watching (Run inventory playbook forks) = Some true
watching (Plan inventory playbook) = Some false
watching (Limits inventory) = None
watching (Rehearse inventory playbook) = None
watching (State inventory journal) = Some false
watching (Check inventory playbook plan) = None
watching (Lint inventory playbook) = None
watching (Explain number) = None
watching (Print text) = None

-- it is told of as one that is seen so
pub record TellsOf {T : Type 0} (tells_as : T → Seen → Type 0) (wish : Wish) (draws : Bool) (teller : T) : Type 0 where
  pub seen : Seen
  pub is_seen : IsSeenSo wish draws seen
  pub tells : tells_as teller seen

abbrev pub WatchesAs : {T : Type 0} → Option Bool → (T → Seen → Type 0) → Wish → T → T → Type 0
WatchesAs None tells_as wish old new = new ≡ old
WatchesAs (Some draws) tells_as wish old new = TellsOf tells_as wish draws new

-- it is told of as the words ask for, or nothing is told of it
abbrev pub IsWatchedAs : {T : Type 0} → (T → Seen → Type 0) → Wish → T → T → declared_line.Line → Type 0
IsWatchedAs tells_as wish old new line = WatchesAs (watching line) tells_as wish old new
