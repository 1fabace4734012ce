use Rattle.std.proofs.Common.{◌≡◌, ℕ, ◌+◌, ◌∙◌, vec_len, rules}
use Rattle.std.proofs.lemmas.List.Elements.{All-push}
use Rattle.ticket_channel.specs.Ends.{line_of, new_take}
use Rattle.fork_pool.specs.declared.worker_end.WorkerEnd.{WorkerEnd}
use Rattle.fork_pool.proofs.Places.{placed_more}
use Rattle.fork_pool.proofs.making.pool.Goals as goal

pub loop-take_end-preserved : goal.loop-take_end-preserved
loop-take_end-preserved g c =
    let was = c.loop-take_end.invariant in
    let step = c.in-Some.ensures.steps in
    let line = line_of c.tickets.inside.pass in
    let FromLine : WorkerEnd g.row.R.Denot → Type 0 = λ end. end.taker.tickets ≡ new_take line in
    let first : c.in-Some.take_end ≡ new_take line = let h = was.left 0 c.in-Some.take_end in grind rules in
    let at : WorkerEnd g.row.R.Denot → ℕ = λ end. end.taker.place in
    let made = All-push FromLine c.loop-take_end.ends.items _ was.made (c.new-taker.ensures.tickets ∙ first) in
    record {
      count = grind rules;
      places = rw c.in_ok-push.ensures.items (rw c.in_ok-push.ensures.len (placed_more at c.loop-take_end.ends.items _ (vec_len c.loop-take_end.ends) was.places (c.new-taker.ensures.place ∙ c.len.ensures)));
      made = rw c.in_ok-push.ensures.items made;
      left = λ k d below. let h = was.left (k + 1) d in grind rules;
    }
