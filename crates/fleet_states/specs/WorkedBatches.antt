-- A batch of four hosts, of which the first two fail at the first step.
use Rattle.std.specs.Prelude.{ℕ, nat_lt, Some, None, List, [], ◌∷◌, if◌then◌else◌}
use Rattle.fleet_states.specs.Batches.{Fails}

abbrev pub two_fail : Fails
two_fail host = if nat_lt host 2 then Some 0 else None

abbrev pub four_hosts : List ℕ
four_hosts = 0 ∷ 1 ∷ 2 ∷ 3 ∷ []
