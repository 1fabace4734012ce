-- How many hosts of a group may be down at once.
use Rattle.std.specs.Prelude.{ℕ, ◌*◌, ◌/◌}

-- a number of hosts, or so many of each hundred of the group's hosts
pub data Limit : Type 0 where
  Count : ℕ → Limit
  Percent : ℕ → Limit

-- the number of hosts that a limit allows to be down in a group with so many members, rounded down
abbrev pub allowed : Limit → ℕ → ℕ
allowed (Count hosts) members = hosts
allowed (Percent share) members = share * members / 100
