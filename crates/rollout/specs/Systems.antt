-- What is known of the words and the files that the system gives the program.
use Rattle.std.specs.Prelude.{◌≡◌, ℕ, Bool, true, List, Option, Some, None, Result, Ok, Err, ⊤}
use Rattle.std.specs.declared.io.ErrorKind.{ErrorKind}

-- what a request to the system gives, where it is known: an answer, or the kind of its error
abbrev pub Known : Type 0 → Type 0
Known T = Option (Result T ErrorKind)

-- the bytes of the file of each name
abbrev pub Files : Type 0
Files = List ℕ → Known (List ℕ)

-- what is known of files: their bytes; whether there is one of a name; and whether another program holds its lock
pub record KnownFiles : Type 0 where
  pub files : Files
  pub there : List ℕ → Option Bool
  pub held : List ℕ → Option Bool

abbrev pub nothing_known : KnownFiles
nothing_known = record { files = λ _. None; there = λ _. None; held = λ _. None }

-- what is known of what the program reads: files, and whether no read of standard input fails
pub record Sources : Type 0 where
  pub known : KnownFiles
  pub is_reliable : Bool

abbrev pub sources_of : KnownFiles → Bool → Sources
sources_of known is_reliable = record { known = known; is_reliable = is_reliable }

-- the answer is the one that is known, if one is
abbrev pub IsTold : Option Bool → Bool → Type 0
IsTold None answer = ⊤
IsTold (Some known) answer = answer ≡ known

-- of some name the answer was that it is so
abbrev pub IsSomewhere : (List ℕ → Option Bool) → Type 0
IsSomewhere known = (name : List ℕ) × IsTold (known name) true

-- the request was answered so
abbrev pub Gives : {T : Type 0} → Known T → T → Type 0
Gives None answer = ⊤
Gives (Some (Ok known)) answer = answer ≡ known
Gives (Some (Err kind)) answer = ⊥

-- a file was opened, and so much is known of its reader: the bytes that it has left, and that no read fails
abbrev pub Opens : Known (List ℕ) → Option (List ℕ) → Bool → Type 0
Opens None left is_reliable = ⊤
Opens (Some (Ok bytes)) left is_reliable = (left ≡ Some bytes) × (is_reliable ≡ true)
Opens (Some (Err kind)) left is_reliable = ⊥

-- the request failed with an error of this kind
abbrev pub Fails : {T : Type 0} → Known T → ErrorKind → Type 0
Fails None kind = ⊤
Fails (Some (Ok known)) kind = ⊥
Fails (Some (Err known)) kind = kind ≡ known
