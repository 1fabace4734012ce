use Rattle.std.proofs.Common.{◌≡◌, ◌≤◌, All, vec_len}
use Rattle.ticket_channel.specs.Ends.{new_put, new_take}
use Rattle.ticket_channel.proofs.making.line.Given as goal

abbrev pub invariant-loop : goal.invariant-loop
invariant-loop g l = (l.put_end ≡ new_put l.put_end.line l.room l.counter) × (vec_len l.take_ends ≡ l.counter) × (l.counter ≤ l.takers)
    × All (λ end. end ≡ new_take l.put_end.line) l.take_ends.items
