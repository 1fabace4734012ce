use Rattle.std.proofs.Common.{◌-◌, ℕ, List, length, refl, take, sym, ap}
use Rattle.std.specs.Prelude.{if◌then◌else◌}
use Rattle.expectations.proofs.UnmetLemmas.{not_ending}
use Rattle.rollout.proofs.list.without_comma.Goals as goal

pub returns-in-None : goal.returns-in-None
unfolding lib.Utf8.encode
returns-in-None c =
    let list : List ℕ = c.args.list.now in
    sym (ap (λ b. if b then take (length list - 1) list else list) (not_ending 44 refl list (λ f e. c.in-None.ensures.cases f e)))
