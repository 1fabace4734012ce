-- What a part of a condition reads, and why it reads nothing.
use Rattle.std.specs.Prelude.{◌≡◌, ℕ, ◌<◌, ◌≤◌, Bool, true, false, IsTrue, Option, Some, List, [], ◌∷◌, ◌++◌, ⊤}
use Rattle.cond.specs.Tokens.{Token, And, Or, Closing}
use Rattle.cond.specs.Heads.{first}
use Rattle.cond.specs.Meaning.{Environment, Verdict}
use Rattle.cond.specs.declared.stop.Stop.{Stop}
use Rattle.cond.specs.declared.stop.Stop.TheVariants as stop

-- what may stand behind a whole part: the end, or the token that goes on above it
abbrev pub ends_any : List Token → Bool
ends_any [] = true
ends_any (Closing ∷ rest) = true
ends_any (token ∷ rest) = false

abbrev pub ends_all : List Token → Bool
ends_all [] = true
ends_all (Closing ∷ rest) = true
ends_all (Or ∷ rest) = true
ends_all (token ∷ rest) = false

abbrev pub ends_neg : List Token → Bool
ends_neg [] = true
ends_neg (Closing ∷ rest) = true
ends_neg (Or ∷ rest) = true
ends_neg (And ∷ rest) = true
ends_neg (token ∷ rest) = false

-- A part was read: its derivation stands for the tokens before the rest, what is nested in it has room, and the tree means the same.
pub record Reads {N T : Type 0} (then : N → List Token → List Token) (depth : N → ℕ) (ends : List Token → Bool) (means : Environment → N → Verdict)
    (says : Environment → T → Verdict) (room : ℕ) (tokens : List Token) (tree : T) (rest : List Token) : Type 0 where
  pub reading : N
  pub whole : tokens ≡ then reading rest
  pub ended : IsTrue (ends rest)
  pub deep : depth reading ≤ room
  pub same : (e : Environment) → says e tree ≡ means e reading

-- A part's tokens begin with these, and what is nested in it has room.
pub record Begins {N : Type 0} (then : N → List Token → List Token) (depth : N → ℕ) (room : ℕ) (front : List Token) : Type 0 where
  pub part : N
  pub more : List Token
  pub whole : then part [] ≡ front ++ more
  pub deep : depth part ≤ room

-- A part's tokens, and what may stand behind it, are these and then go on with this token, or end.
pub record GoesOn {N : Type 0} (then : N → List Token → List Token) (ends : List Token → Bool) (part : N) (front : List Token) (following : Option Token) : Type 0 where
  pub behind : List Token
  pub ended : IsTrue (ends behind)
  pub more : List Token
  pub whole : then part behind ≡ front ++ more
  pub next : first more ≡ following

-- What is left of a part that goes on so and is nested so deep: after Unexpected there is none, after TooDeep it has no room.
abbrev pub Leaves : Stop → ℕ → ℕ → Type 0
Leaves (stop.Unexpected at) room depth = ⊥
Leaves (stop.TooDeep at) room depth = room < depth
Leaves stop.Memory room depth = ⊤

-- After TooDeep there is one.
abbrev pub Remains : {N : Type 0} → (N → List Token → List Token) → Stop → List Token → Option Token → Type 0
Remains {N} then (stop.Unexpected at) front next = ⊤
Remains {N} then (stop.TooDeep at) front next = (part : N) × (token : Token) × (more : List Token) × (then part [] ≡ front ++ token ∷ more) × (next ≡ Some token)
Remains {N} then stop.Memory front next = ⊤

-- The parser stopped there: so many tokens begin a part that has room, and none that has room goes on with the next one.
pub record Halts {N : Type 0} (then : N → List Token → List Token) (depth : N → ℕ) (ends : List Token → Bool) (place : List Token → ℕ) (room : ℕ) (tokens : List Token)
    (why : Stop) (at : ℕ) : Type 0 where
  pub front : List Token
  pub rest : List Token
  pub whole : tokens ≡ front ++ rest
  pub there : at ≡ place rest
  pub begun : Begins then depth room front
  pub one : Remains then why front (first rest)
  pub others : (part : N) → GoesOn then ends part front (first rest) → Leaves why room (depth part)

-- What a stop says of the tokens.
abbrev pub Refuses : {N : Type 0} → (N → List Token → List Token) → (N → ℕ) → (List Token → Bool) → (List Token → ℕ) → ℕ → List Token → Stop → Type 0
Refuses {N} then depth ends place room tokens (stop.Unexpected at) = Halts then depth ends place room tokens (stop.Unexpected at) at
Refuses {N} then depth ends place room tokens (stop.TooDeep at) = Halts then depth ends place room tokens (stop.TooDeep at) at
Refuses {N} then depth ends place room tokens stop.Memory = ⊤
