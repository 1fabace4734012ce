-- The command that goes on with a run.
use Rattle.std.specs.Prelude.{◌≡◌, ℕ, nat_eq, Bool, true, false, if◌then◌else◌, Option, None, Some, List, [], ◌++◌, codes, string_bytes}
use Rattle.run_diagnosis.specs.declared.next.Call.{Call}
use Rattle.command_line.specs.Wishes.{Wish}
use Rattle.command_line.specs.declared.command.Source.{Source}
use Rattle.command_line.specs.declared.command.Source.TheVariants.{StandardInput, File}
use Rattle.recap.specs.LimitsText.{field_text}
use Rattle.terminal_text.specs.Shell.{shell_word}

-- the journal in which a run is kept: that of the run that goes on, or a new one
abbrev pub kept_in : Option (List ℕ) → Option (List ℕ) → Option (List ℕ)
kept_in None new = new
kept_in (Some old) new = Some old

abbrev pub word_text : List ℕ → List ℕ
word_text word = codes " " ++ shell_word word

abbrev pub source_text : Source → List ℕ
source_text StandardInput = []
source_text (File name) = word_text (string_bytes name)

-- the lock that keeps other runs out has to be the same
abbrev pub lock_text : Bool → Option (List ℕ) → List ℕ
lock_text true file = codes " --no-lock"
lock_text false None = []
lock_text false (Some file) = codes " --lock-file" ++ word_text file

abbrev pub forks_text : ℕ → List ℕ
forks_text forks = if nat_eq forks 5 then [] else field_text (codes " --forks ") forks

-- `rollout run --resume JOURNAL`
abbrev pub front_text : List ℕ → List ℕ
front_text journal = codes "rollout run --resume" ++ word_text journal

-- ` OPTIONS INVENTORY PLAYBOOK`
abbrev pub back_text : Wish → ℕ → Source → Source → List ℕ
back_text wish forks inventory playbook = lock_text wish.unlocked wish.lock_file ++ (forks_text forks ++ (source_text inventory ++ source_text playbook))

-- it goes on with the run that was called so
pub record IsCall (wish : Wish) (forks : ℕ) (inventory playbook : Source) (call : Call) : Type 0 where
  pub journal : List ℕ
  pub is_kept : kept_in wish.from wish.journal ≡ Some journal
  pub front : call.front.items ≡ front_text journal
  pub back : call.back.items ≡ back_text wish forks inventory playbook

-- ` INVENTORY PLAYBOOK`, where the playbook isn't known
abbrev pub open_text : Source → List ℕ
open_text inventory = source_text inventory ++ codes " PLAYBOOK"

-- it goes on with the run of this journal
abbrev pub IsCallOn : Source → Source → Call → Type 0
IsCallOn inventory StandardInput call = ⊥
IsCallOn inventory (File journal) call = (call.front.items ≡ front_text (string_bytes journal)) × (call.back.items ≡ open_text inventory)
