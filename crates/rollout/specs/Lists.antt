-- Values of options that are lists.
use Rattle.std.specs.Prelude.{◌≡◌, ℕ, ◌-◌, Bool, ◌==◌, List, length, slice_index, take, Option, Result, Err, string_bytes, if◌then◌else◌, ⊤}
use Rattle.std.specs.Io.KnownBytes.{Keeps}
use Rattle.rollout.specs.declared.fault.Fault.{Fault}
use Rattle.rollout.specs.declared.fault.Fault.TheVariants.{BadList, Memory}
use Rattle.rollout.specs.declared.status.Status.{Status}

abbrev pub ends_with_comma : List ℕ → Bool
ends_with_comma list = slice_index list (length list - 1) == 44

-- a list as it was given: a comma stands behind each that was joined, be it one
abbrev pub given_list : List ℕ → List ℕ
given_list list = if ends_with_comma list then take (length list - 1) list else list

-- the fault tells of this value, or memory was wanting
abbrev pub IsListFault : List ℕ → Fault → Type 0
IsListFault list (BadList told) = string_bytes told ≡ given_list list
IsListFault list Memory = ⊤
IsListFault list fault = ⊥

-- the value is no list, for this reason, and the fault tells of it; or memory was wanting, and this holds then
abbrev pub IsBadList : Type 0 → Type 0 → List ℕ → Fault → Type 0
IsBadList why lacking list (BadList told) = why × (string_bytes told ≡ given_list list)
IsBadList why lacking list Memory = lacking
IsBadList why lacking list fault = ⊥

-- the value is no list, or memory was wanting, and nothing was read or written
pub record RefusesList (why lacking : Type 0) (list : List ℕ) (input_old input_new out_old out_new : Option (List ℕ)) (result : Result Status Fault) : Type 0 where
  pub fault : Fault
  pub is : result ≡ Err fault
  pub bad : IsBadList why lacking list fault
  pub unread : Keeps input_old input_new
  pub unwritten : Keeps out_old out_new
