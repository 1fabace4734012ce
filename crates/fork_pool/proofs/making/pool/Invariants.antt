use Rattle.std.proofs.Common.{◌≡◌, ◌+◌, All, vec_len}
use Rattle.std.specs.Prelude.{map}
use Rattle.std.specs.List.{range_with_len}
use Rattle.std.specs.Vec.Iter.{into_iter_items, into_iter_len}
use Rattle.ticket_channel.specs.Ends.{line_of, new_take}
use Rattle.fork_pool.proofs.making.pool.Given as goal

abbrev pub invariant-loop-take_end : goal.invariant-loop-take_end
invariant-loop-take_end g l =
    let line = line_of l.tickets-inside.pass in
    record {
      count : vec_len l.ends + into_iter_len l.take_end-iterator ≡ l.forks;
      places : map (λ end. end.taker.place) l.ends.items ≡ range_with_len 0 (vec_len l.ends);
      made : All (λ end. end.taker.tickets ≡ new_take line) l.ends.items;
      left : All (λ end. end ≡ new_take line) (into_iter_items l.take_end-iterator);
    }
