-- How waiting hosts are dealt to batches.
use Rattle.std.specs.Prelude.{ℕ, ◌+◌, ◌%◌, cond, nat_eq, List, [], ◌∷◌, map, filter}
use Rattle.std.specs.List.{range_with_len}
use Rattle.fleet_states.specs.declared.status.Status.{Status}
use Rattle.fleet_states.specs.Statuses.{is_waiting, status_at}

-- the waiting hosts, in the order in which the fleet's hosts are dealt
abbrev pub waiting_in_order : List Status → List ℕ → List ℕ
waiting_in_order statuses order = filter (λ host. is_waiting (status_at statuses host)) order

-- of hosts that have their places from `place` on, those with this remainder
abbrev pub dealt_to : ℕ → ℕ → ℕ → List ℕ → List ℕ
dealt_to count remainder place [] = []
dealt_to count remainder place (host ∷ hosts) =
    cond (nat_eq (place % count) remainder) (host ∷ dealt_to count remainder (place + 1) hosts) (dealt_to count remainder (place + 1) hosts)

-- the host at each place goes to the batch with the number that the place leaves when divided by that of the batches
abbrev pub dealt : List ℕ → ℕ → List (List ℕ)
dealt hosts count = map (λ batch. dealt_to count batch 0 hosts) (range_with_len 0 count)
