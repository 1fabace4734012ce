-- A play goes by the rules by which it is rehearsed.
use Rattle.std.proofs.Common.{◌≡◌, ◌==◌, ℕ, zero, suc, ◌-◌, ◌<◌, ◌≤◌, Bool, true, false, cond, Option, Some, None, List, [], ◌∷◌, length, map, get_or, refl, sym, ap, ◌∙◌, arith}
use Rattle.std.specs.Prelude.{min, option_and_then, slice_get, All, IfSome}
use Rattle.std.proofs.lemmas.Bool.Decides.{nat_tests}
use Rattle.std.proofs.lemmas.List.{length-map}
use Rattle.std.proofs.lemmas.List.Elements.{All-cons, All-nil}
use Rattle.play_model.specs.declared.size.Size.{Size}
use Rattle.play_model.specs.declared.size.Size.TheVariants.{Count, Percent}
use Rattle.play_model.specs.Sizes.{bound, cap, count_bound}
use Rattle.rehearse.specs.Stacks.{cap_at}
use Rattle.rehearse.specs.Plays.{caps_of}

cap_there : (sizes : List Size) (targeted place : ℕ) → get_or (caps_of sizes targeted) place None ≡ option_and_then (λ size. bound size targeted) (slice_get sizes place)
cap_there [] targeted place = refl
cap_there (size ∷ sizes) targeted zero = refl
cap_there (size ∷ sizes) targeted (suc place) = cap_there sizes targeted place

-- the caps of a list are those that a play has
pub same_caps : (sizes : List Size) (targeted opened : ℕ) → cap sizes targeted opened ≡ cap_at (caps_of sizes targeted) opened
same_caps sizes targeted opened =
    let many : length (caps_of sizes targeted) ≡ length sizes = length-map sizes (λ size. bound size targeted) in
    sym (cap_there sizes targeted (min (length sizes - 1) opened))
    ∙ ap (λ n. get_or (caps_of sizes targeted) (min (n - 1) opened) None) (sym many)

-- a cap is at least one host
abbrev pub HasHosts : Option ℕ → Type 0
HasHosts cap = IfSome cap (λ hosts. 0 < hosts)

some_bound : (size : Size) (targeted : ℕ) → HasHosts (bound size targeted)
some_bound (Count hosts) targeted = by_test (hosts == 0) refl
  where
    by_test : (b : Bool) → (hosts == 0) ≡ b → HasHosts (cond b None (Some hosts))
    by_test true e = tt
    by_test false e = grind (arith, nat_tests)
some_bound (Percent share) targeted = omega arith

pub some_caps : (sizes : List Size) (targeted : ℕ) → All HasHosts (caps_of sizes targeted)
some_caps [] targeted = All-nil HasHosts
some_caps (size ∷ sizes) targeted = All-cons HasHosts (bound size targeted) (caps_of sizes targeted) (some_bound size targeted) (some_caps sizes targeted)
