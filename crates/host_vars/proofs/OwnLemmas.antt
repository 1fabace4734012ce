-- A host's own variables, list by list.
use Rattle.std.proofs.Common.{◌≡◌, ℕ, ◌+◌, ◌<◌, Bool, true, false, cond, List, [], ◌∷◌, ◌++◌, length, filter, get_or, take, sym, ap, ◌∙◌, append-nil}
use Rattle.std.specs.List.{flat_map}
use Rattle.std.proofs.lemmas.Grind.{flat_map-append}
use Rattle.std.proofs.lemmas.List.Elements.{filter_more}
use Rattle.group_tree.specs.Names.{Name, same_name}
use Rattle.group_tree.specs.Variables.{Variable}
use Rattle.group_tree.specs.Subtrees.{Host}
use Rattle.host_vars.specs.Own.{own_in}

abbrev variables : Host → List Variable
variables host = host.variables

module _ (name : Name) (hosts : List Host) (i : ℕ) (host : Host) (within : i < length hosts) (is : host ≡ get_or hosts i host) where
  abbrev is_own : Host → Bool
  is_own host = same_name name host.name

  abbrev before : List Host
  before = filter is_own (take i hosts)

  next : (test : Bool) → same_name name host.name ≡ test → own_in name (take (i + 1) hosts) ≡ own_in name (take i hosts) ++ flat_map variables (cond test (host ∷ []) [])
  next test e =
      let one = filter_more is_own hosts i host within ∙ ap (λ (h : Host). before ++ cond (is_own h) (h ∷ []) []) (sym is) in
      ap (flat_map variables) (one ∙ ap (λ (b : Bool). before ++ cond b (host ∷ []) []) e) ∙ flat_map-append variables before (cond test (host ∷ []) [])

  pub own_here : same_name name host.name ≡ true → own_in name (take (i + 1) hosts) ≡ own_in name (take i hosts) ++ host.variables
  own_here e =
      next true e ∙ ap (λ (l : List Variable). own_in name (take i hosts) ++ l) (append-nil host.variables)

  pub own_elsewhere : same_name name host.name ≡ false → own_in name (take (i + 1) hosts) ≡ own_in name (take i hosts)
  own_elsewhere e = next false e ∙ append-nil (own_in name (take i hosts))
