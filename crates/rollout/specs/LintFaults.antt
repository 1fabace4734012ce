-- What the command `lint` reports of texts that are rejected: all their faults, each with a hint.
use Rattle.std.specs.Prelude.{◌≡◌, ℕ, ◌+◌, ◌-◌, ◌^◌, true, false, Option, List, [], ◌∷◌, ◌++◌, codes, length, map, min, take, ◌==◌}
use Rattle.std.specs.Io.KnownBytes.{Appends, Keeps}
use Rattle.bounded_io.specs.Sending.{SendsFirst}
use Rattle.bounded_io.specs.Writing.{Writes}
use Rattle.bounded_io.specs.declared.write_fault.WriteFault.{WriteFault}
use Rattle.bounded_io.specs.declared.text_writer.TextWriter.{TextWriter}
use Rattle.json_output.specs.declared.form.Form.TheVariants.{Plain}
use Rattle.recap.specs.LimitsText.{field_text}
use Rattle.all_faults.specs.Every.{IsEveryFault}
use Rattle.all_faults.specs.declared.every.EveryFault.{EveryFault}
use Rattle.rollout.specs.Endings.{MayHelp, fault_text, help_text}
use Rattle.rollout.specs.declared.commands.faults.Found.{Found}
use Rattle.rollout.specs.declared.fault.Fault.{Fault}
use Rattle.rollout.specs.declared.fault.Fault.TheVariants.{Read, Fleet, Playbook, Pattern, Write, Memory}
use Rattle.rollout.specs.declared.status.Status.{Status}
use Rattle.rollout.specs.declared.status.Status.TheVariants.{Refused}

-- so many faults are told at most
abbrev pub most_faults : ℕ
most_faults = 100

-- the faults that are known, those of the inventory first, in the order in which a plan tells the first
abbrev pub known_faults : EveryFault → List Fault
known_faults all =
    map (λ fault. Read fault) all.inventory.faults.items ++ (map (λ fault. Fleet fault) all.fleet.faults.items
    ++ (map (λ fault. Playbook fault) all.playbook.faults.items ++ map (λ fault. Pattern fault) all.patterns.faults.items))

-- a sum that counts no further than 64 bits do
abbrev pub counted : ℕ → ℕ → ℕ
counted count more = min (count + more) (2 ^ 64 - 1)

-- how many more there are than those that are known
abbrev pub more_faults : EveryFault → ℕ
more_faults all = counted (counted (counted all.inventory.more all.fleet.more) all.playbook.more) all.patterns.more

-- how many there are in all
abbrev pub fault_count : EveryFault → ℕ
fault_count all = counted (length (known_faults all)) (more_faults all)

-- the line of a fault, and the line that helps, where there is one; then the others
pub record TellsFirst (fault : Fault) (Others : List ℕ → Type 0) (text : List ℕ) : Type 0 where
  pub help : Option (List ℕ)
  pub helps : MayHelp true help
  pub others : List ℕ
  pub tells : Others others
  pub text_is : text ≡ fault_text Plain fault ++ (help_text Plain help ++ others)

abbrev pub TellsEach : List Fault → List ℕ → Type 0
TellsEach [] text = text ≡ []
TellsEach (fault ∷ faults) text = TellsFirst fault (TellsEach faults) text

-- `faults=N`
abbrev pub count_line : ℕ → List ℕ
count_line count = field_text (codes "faults=") count ++ codes "\n"

-- the first of the faults of both texts, and how many they are
pub record IsFaultsText (inventory : List ℕ) (playbook : Option (List ℕ)) (text : List ℕ) : Type 0 where
  pub all : EveryFault
  pub are : IsEveryFault inventory playbook most_faults all
  pub some : fault_count all == 0 ≡ false
  pub lines : List ℕ
  pub tells : TellsEach (take most_faults (known_faults all)) lines
  pub text_is : text ≡ lines ++ count_line (fault_count all)

-- what was found of both texts, as the program keeps it
pub record IsFound (inventory : List ℕ) (playbook : Option (List ℕ)) (found : Found) : Type 0 where
  pub all : EveryFault
  pub are : IsEveryFault inventory playbook most_faults all
  pub some : fault_count all == 0 ≡ false
  pub known : found.faults.items ≡ known_faults all
  pub count : found.count ≡ fault_count all

-- a fault was told, and what to do
pub record WritesTold {W : Type 0} (contents : W → Option (List ℕ)) (old new : TextWriter W) (fault : Fault) : Type 0 where
  pub help : Option (List ℕ)
  pub helps : MayHelp true help
  pub writes : Writes contents old new (fault_text Plain fault ++ help_text Plain help)

-- these faults were told
pub record WritesEach {W : Type 0} (contents : W → Option (List ℕ)) (old new : TextWriter W) (faults : List Fault) : Type 0 where
  pub lines : List ℕ
  pub tells : TellsEach faults lines
  pub writes : Writes contents old new lines

-- those that were found, as far as they are, and how many they are
pub record IsTextOf (found : Found) (text : List ℕ) : Type 0 where
  pub lines : List ℕ
  pub tells : TellsEach (take most_faults found.faults.items) lines
  pub text_is : text ≡ lines ++ count_line found.count

pub record ShowsFaults (found : Found) (old new : Option (List ℕ)) : Type 0 where
  pub text : List ℕ
  pub is : IsTextOf found text
  pub written : Appends old new text

-- or broke off where the fault says
pub record LosesFound (found : Found) (old new : Option (List ℕ)) (fault : Fault) : Type 0 where
  pub lost : WriteFault
  pub is : fault ≡ Write lost
  pub text : List ℕ
  pub text_is : IsTextOf found text
  pub written : SendsFirst old new text lost.written

-- they went out, and the status tells that there are any
pub record PrintsFaults (inventory : List ℕ) (playbook : Option (List ℕ)) (old new : Option (List ℕ)) (status : Status) : Type 0 where
  pub text : List ℕ
  pub is : IsFaultsText inventory playbook text
  pub written : Appends old new text
  pub tells : status ≡ Refused

-- they broke off after so many bytes
pub record BreaksFaults (inventory : List ℕ) (playbook : Option (List ℕ)) (old new : Option (List ℕ)) (count : ℕ) : Type 0 where
  pub text : List ℕ
  pub is : IsFaultsText inventory playbook text
  pub written : SendsFirst old new text count

-- memory is wanting, and nothing went out
abbrev pub WantsMemory : Option (List ℕ) → Option (List ℕ) → Fault → Type 0
WantsMemory old new fault = (fault ≡ Memory) × Keeps old new

-- they broke off where the fault says
pub record LosesFaults (inventory : List ℕ) (playbook : Option (List ℕ)) (old new : Option (List ℕ)) (fault : Fault) : Type 0 where
  pub lost : WriteFault
  pub is : fault ≡ Write lost
  pub breaks : BreaksFaults inventory playbook old new lost.written

-- nothing is wrong with both
pub record AreFaultless (inventory : List ℕ) (playbook : Option (List ℕ)) : Type 0 where
  pub all : EveryFault
  pub are : IsEveryFault inventory playbook most_faults all
  pub none : fault_count all == 0 ≡ true
