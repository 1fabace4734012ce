use Rattle.std.proofs.Common.{◌≡◌, ◌<◌, ◌∷◌, List, length, drop, drop-cons, sym, ap, ◌∙◌, arith}
use Rattle.plan_command.proofs.PlayLemmas.{has_play}
use Rattle.play_model.specs.declared.play.Play.{Play}
use Rattle.rehearse.proofs.opening.read_first.Goals as goal

pub index-requires : goal.index-requires
index-requires c =
    let plays : List Play = c.in-Ok-read_known_plays.plays.items in
    let some : 0 < length plays = has_play 16 c.args.playbook.now plays c.in-Ok-read_known_plays.ensures.ok.reads in
    omega (arith, some, c.in-Ok-read_known_plays.plays.ok)

pub returns-in-Ok-start_play-clause-ok : goal.returns-in-Ok-start_play-clause-ok
returns-in-Ok-start_play-clause-ok c =
    let plays : List Play = c.in-Ok-read_known_plays.plays.items in
    let some : 0 < length plays = has_play 16 c.args.playbook.now plays c.in-Ok-read_known_plays.ensures.ok.reads in
    let first : Play = c.index.result.now in
    record {
      built = c.in-Ok.ensures.ok;
      says = c.in-Ok-read_known_plays.ensures.ok;
      play = first;
      later = drop 1 plays;
      plays_are = drop-cons plays 0 first some ∙ ap (λ (play : Play). play ∷ drop 1 plays) (sym c.index.ensures);
      begins = c.in-Ok-start_play.ensures.are;
      all = c.in-Ok-start_play.ensures.all;
    }
