-- How much of some bytes went out to a writer.
use Rattle.std.specs.Prelude.{◌≡◌, ℕ, ◌+◌, ◌<◌, List, [], ◌++◌, length, take, Option, Result, MatchResult}
use Rattle.std.specs.Io.KnownBytes.{Appends}
use Rattle.bounded_io.specs.declared.write_fault.WriteFault.{WriteFault}

-- the front of the bytes went out and the rest is left; the count of bytes sent rose by the front
pub record Sends (old new : Option (List ℕ)) (before after : ℕ) (bytes rest : List ℕ) : Type 0 where
  pub front : List ℕ
  pub parts : bytes ≡ front ++ rest
  pub sent : Appends old new front
  pub count : after ≡ before + length front

-- the front of the bytes went out, and some bytes after it did not
pub record BreaksOff (old new : Option (List ℕ)) (before after : ℕ) (bytes : List ℕ) : Type 0 where
  pub rest : List ℕ
  pub left : 0 < length rest
  pub sends : Sends old new before after bytes rest

-- all the bytes went out, or they broke off where the fault says; the count began at `before`
abbrev pub SendsBytes : Option (List ℕ) → Option (List ℕ) → ℕ → List ℕ → Result ℕ WriteFault → Type 0
SendsBytes old new before bytes result =
    MatchResult result
    (λ after. Sends old new before after bytes [])
    (λ fault. BreaksOff old new before fault.written bytes)

-- the first bytes of the text went out, so many and not all
pub record SendsFirst (old new : Option (List ℕ)) (text : List ℕ) (count : ℕ) : Type 0 where
  pub short : count < length text
  pub sent : Appends old new (take count text)

-- at `Ok` the whole text went out, and at a fault exactly as many of its first bytes as the fault says
abbrev pub SendsText : {T : Type 0} → Option (List ℕ) → Option (List ℕ) → List ℕ → Result T WriteFault → Type 0
SendsText old new text result =
    MatchResult result (λ _. Appends old new text) (λ fault. SendsFirst old new text fault.written)
