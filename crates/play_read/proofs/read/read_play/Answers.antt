use Rattle.std.proofs.Common.{List, arith, subst}
use Rattle.play_model.specs.declared.play.Play.{Play}
use Rattle.play_read.specs.Reads.{IsReadAs}
use Rattle.play_read.proofs.Reports.{as_only, one_play}
use Rattle.play_read.proofs.read.read_play.Goals as goal

pub swap_remove-requires : goal.swap_remove-requires
swap_remove-requires c =
    omega (arith, one_play c.args.text.now c.in_ok-plays.plays.items c.in_ok-plays.ensures.ok, c.in_ok-plays.plays.ok)

pub returns-clause-ok : goal.returns-clause-ok
returns-clause-ok c =
    let plays = c.in_ok-plays.plays.items in
    let reads = c.in_ok-plays.ensures.ok in
    subst (λ (list : List Play). IsReadAs 1 c.args.text.now list) (as_only plays c.swap_remove.result (one_play c.args.text.now plays reads) c.swap_remove.ensures.value) reads
