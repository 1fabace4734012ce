-- What a clause sees of the ends of a line of tickets.
use Rattle.std.specs.Prelude.{ℕ, Bool, true, List, []}
use Rattle.atomic_table.specs.Seated.{TableId}
use Rattle.atomic_table.specs.declared.badge.Badge.{Badge}
use Rattle.crossbeam_channel.specs.declared.flavors.array.Key.{Key}
use Rattle.crossbeam_channel.specs.Claims.{Pass}

-- which line it is
abbrev pub LineName : Type 0 → Type 0
LineName T = TableId × Badge (Key T)

-- the line that a pass belongs to
abbrev pub line_of : {T V : Type 0} → Pass T V → LineName T
line_of pass = (pass.table_id, pass.me.0.of)

-- the end that puts: how many tickets the line has room for, how many of the ends that take are out, what was put, what was taken by this end or by one
-- that came back to it, and whether this end has found the line empty since it put last
pub record PutView (T : Type 0) : Type 0 where
  pub line : LineName T
  pub room : ℕ
  pub takers : ℕ
  pub put : List T
  pub taken : List T
  pub emptied : Bool

-- an end that takes: what it took
pub record TakeView (T : Type 0) : Type 0 where
  pub line : LineName T
  pub taken : List T

-- an end that puts, on a line with room for so many tickets, on which nothing was put yet
abbrev pub new_put : {T : Type 0} → LineName T → ℕ → ℕ → PutView T
new_put line room takers =
    record { line = line; room = room; takers = takers; put = []; taken = []; emptied = true }

-- an end that took nothing yet
abbrev pub new_take : {T : Type 0} → LineName T → TakeView T
new_take line = record { line = line; taken = [] }
