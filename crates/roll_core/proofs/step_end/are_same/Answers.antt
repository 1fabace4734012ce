use Rattle.std.proofs.Common.{◌≡◌, Decides, map, string_bytes, sym, refl, subst}
use Rattle.roll_core.proofs.WayLemmas.{words_decide}
use Rattle.roll_core.proofs.step_end.are_same.Goals as goal

pub returns : goal.returns
returns c =
    subst (λ b. Decides b (map string_bytes c.args.words.now ≡ map string_bytes c.args.given.now)) (sym c.eq.ensures) (words_decide _ (λ a b. refl) c.args.words.now c.args.given.now)
