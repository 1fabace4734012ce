use Rattle.std.proofs.Common.{arith}
use Rattle.journal.specs.Shown.{shown_journal}
use Rattle.journal.proofs.ReadLemmas.{read_more, read_none}
use Rattle.journal.proofs.reading.read_journal.Goals as goal

pub loop-front-init : goal.loop-front-init
loop-front-init c = record { so_far = read_none c.args.fleet.now c.args.text.now (shown_journal c.in_ok-journal.journal) c.in_ok-journal.ensures.start; within = omega arith }

pub follow_line-requires-clause-sound : goal.follow_line-requires-clause-sound
follow_line-requires-clause-sound c = c.in_ok-journal.ensures.sound

pub loop-front-preserved : goal.loop-front-preserved
loop-front-preserved c = record {
  so_far = read_more c.args.fleet.now c.args.text.now c.loop-front.left.now c.in-Some.front.now c.in-Some.behind.now (shown_journal c.loop-front.journal)
      (shown_journal c.in-Some-2.later) c.loop-front.line c.loop-front.invariant.so_far c.in-Some.ensures.cut (rw c.in-Some-2.is at c.in_ok-later.ensures);
  within = omega (arith, c.loop-front.invariant.within, c.in-Some.ensures.shorter);
}
