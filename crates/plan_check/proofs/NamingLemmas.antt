-- Batches of names, line by line.
use Rattle.std.proofs.Common.{◌≡◌, ℕ, ◌+◌, ◌≤◌, ◌<◌, ◌++◌, None, Some, Option, List, [], ◌∷◌, length, sym, ap, ◌∙◌, arith, append_assoc, length-append}
use Rattle.std.specs.Prelude.{IfSome}
use Rattle.std.specs.Borrow.{Bor}
use Rattle.std.specs.Option.{option_map_or}
use Rattle.group_tree.specs.Names.{Name}
use Rattle.domains.specs.FleetViews.{FleetView}
use Rattle.plan_check.specs.Inside.{Goes}
use Rattle.plan_check.specs.Listings.{batch_of, batches_from, batches_of, count_of, lines_of, one_batch}
use Rattle.plan_check.specs.Names.{Nobody, batches_named, nobody_from, nobody_in, nobody_or, numbers_named}

-- the lines that are left
abbrev pub lines_left : Option (Bor (List ℕ)) → List (List ℕ)
lines_left left = option_map_or (λ (t : Bor (List ℕ)). lines_of t.now) left []

abbrev pub bytes_left : Option (Bor (List ℕ)) → ℕ
bytes_left left = option_map_or (λ (t : Bor (List ℕ)). length t.now + 1) left 0

pub fewer_left : (rest : Option (Bor (List ℕ))) (bytes : List ℕ) → IfSome rest (λ t. length t.now < length bytes) → bytes_left rest ≤ length bytes
fewer_left None bytes shorter = omega arith
fewer_left (Some t) bytes shorter = omega (arith, shorter)

-- these batches were found, and no name before them is nobody's
pub record IsReadTo (fleet : FleetView) (text : List ℕ) (found : List (List ℕ)) (left : Option (Bor (List ℕ))) : Type 0 where
  pub nobody : nobody_in fleet (batches_of text) ≡ nobody_from fleet (length found + 1) (batches_from (length found) (lines_left left))
  pub named : batches_named fleet (batches_of text) ≡ found ++ batches_named fleet (batches_from (length found) (lines_left left))

module _ (fleet : FleetView) (text : List ℕ) (before after : List (List ℕ)) (left rest : Option (Bor (List ℕ))) (bytes line : Bor (List ℕ)) where
  module _ (read : IsReadTo fleet text before left) (is : left ≡ Some bytes) (lines : lines_of bytes.now ≡ line.now ∷ lines_left rest) where
    left_is : lines_left left ≡ line.now ∷ lines_left rest
    left_is = ap lines_left is ∙ lines

    abbrev said : Option (List Name)
    said = batch_of (length before) line.now

    abbrev behind : ℕ → List (List Name)
    behind count = batches_from count (lines_left rest)

    pub found_nobody : (name : Bor Name) → Goes fleet before after said (Some name)
        → nobody_in fleet (batches_of text) ≡ Some (record { batch = length after + 1; name = name.now })
    found_nobody name goes =
        read.nobody ∙ ap (λ (l : List (List ℕ)). nobody_from fleet (length before + 1) (batches_from (length before) l)) left_is ∙ by_case said goes
      where
        by_case : (o : Option (List Name)) → Goes fleet before after o (Some name)
            → nobody_from fleet (length before + 1) (one_batch o ++ batches_from (length before + count_of o) (lines_left rest)) ≡ Some (record { batch = length after + 1; name = name.now })
        by_case None goes = absurd goes
        by_case (Some names) goes =
            ap (λ o. nobody_or (length before + 1) o (nobody_from fleet (length before + 1 + 1) (batches_from (length before + 1) (lines_left rest)))) goes.0
            ∙ ap (λ (l : List (List ℕ)). let n : Nobody = record { batch = length l + 1; name = name.now } in Some n) (sym goes.1)

    pub reads_on : Goes fleet before after said None → IsReadTo fleet text after rest × (length after ≤ length before + 1)
    reads_on goes = by_case said goes
        (read.nobody ∙ ap (λ (l : List (List ℕ)). nobody_from fleet (length before + 1) (batches_from (length before) l)) left_is)
        (read.named ∙ ap (λ (l : List (List ℕ)). before ++ batches_named fleet (batches_from (length before) l)) left_is)
      where
        by_case : (o : Option (List Name)) → Goes fleet before after o None
            → nobody_in fleet (batches_of text) ≡ nobody_from fleet (length before + 1) (one_batch o ++ batches_from (length before + count_of o) (lines_left rest))
            → batches_named fleet (batches_of text) ≡ before ++ batches_named fleet (one_batch o ++ batches_from (length before + count_of o) (lines_left rest))
            → IsReadTo fleet text after rest × (length after ≤ length before + 1)
        by_case None goes nobody named =
            let same : length before + 0 ≡ length after = omega (arith, ap length goes) in
            let one : length before ≡ length after = omega arith in (
              record {
                nobody = nobody ∙ ap (λ n. nobody_from fleet (n + 1) (batches_from (length before + 0) (lines_left rest))) one
                    ∙ ap (λ n. nobody_from fleet (length after + 1) (batches_from n (lines_left rest))) same;
                named = named ∙ ap (λ n. before ++ batches_named fleet (batches_from n (lines_left rest))) same
                    ∙ ap (λ (l : List (List ℕ)). l ++ batches_named fleet (batches_from (length after) (lines_left rest))) (sym goes);
              },
              omega (arith, one),
            )
        by_case (Some names) goes nobody named =
            let longer : length after ≡ length before + 1 = ap length goes.1 ∙ omega (arith, length-append before (numbers_named fleet names ∷ [])) in (
              record {
                nobody = nobody
                    ∙ ap (λ o. nobody_or (length before + 1) o (nobody_from fleet (length before + 1 + 1) (batches_from (length before + 1) (lines_left rest)))) goes.0
                    ∙ ap (λ n. nobody_from fleet (n + 1) (batches_from n (lines_left rest))) (sym longer);
                named = named
                    ∙ sym (append_assoc before (numbers_named fleet names ∷ []) (batches_named fleet (batches_from (length before + 1) (lines_left rest))))
                    ∙ ap (λ (l : List (List ℕ)). l ++ batches_named fleet (batches_from (length before + 1) (lines_left rest))) (sym goes.1)
                    ∙ ap (λ n. after ++ batches_named fleet (batches_from n (lines_left rest))) (sym longer);
              },
              omega (arith, longer),
            )
