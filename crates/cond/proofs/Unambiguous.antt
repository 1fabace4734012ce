-- One list of tokens has at most one reading, up to the end of a part.
use Rattle.std.proofs.Common.{◌≡◌, true, false, List, [], ◌∷◌, sym, refl, ap}
use Rattle.cond.specs.Tokens.{Token, Not, And, Or, Opening, Closing}
use Rattle.cond.specs.Grammar.{Any, all, or, All, neg, and, Neg, not, primary, Primary, brackets, test, any_then, all_then, neg_then, primary_then}
use Rattle.cond.specs.Readings.{ends_any, ends_all, ends_neg}
use Rattle.cond.proofs.TestLaws.{test_same, no_test}

pub any_ends_all : (m : List Token) → ends_any m ≡ true → ends_all m ≡ true
any_ends_all [] h = refl
any_ends_all (Closing ∷ rest) h = refl
any_ends_all (token ∷ rest) h = absurd (cc)

pub all_ends_neg : (m : List Token) → ends_all m ≡ true → ends_neg m ≡ true
all_ends_neg [] h = refl
all_ends_neg (Closing ∷ rest) h = refl
all_ends_neg (Or ∷ rest) h = refl
all_ends_neg (token ∷ rest) h = absurd (cc)

pub no_or : (m rest : List Token) → ends_any m ≡ true → m ≡ Or ∷ rest → ⊥
no_or m rest h e = let no : ends_any m ≡ false = ap ends_any e in cc

pub no_and : (m rest : List Token) → ends_all m ≡ true → m ≡ And ∷ rest → ⊥
no_and m rest h e = let no : ends_all m ≡ false = ap ends_all e in cc

mutual
  pub any_same : (a b : Any) (m k : List Token) → ends_any m ≡ true → ends_any k ≡ true → any_then a m ≡ any_then b k → (a ≡ b) × (m ≡ k)
  any_same (all a) (all b) m k h g e =
      let same = all_same a b m k (any_ends_all m h) (any_ends_all k g) e in
      (ap all same.0, same.1)
  any_same (all a) (or b more) m k h g e =
      absurd (no_or m (any_then more k) h (all_same a b m (Or ∷ any_then more k) (any_ends_all m h) refl e).1)
  any_same (or a more) (all b) m k h g e =
      absurd (no_or k (any_then more m) g (sym (all_same a b (Or ∷ any_then more m) k refl (any_ends_all k g) e).1))
  any_same (or a more) (or b others) m k h g e =
      let first = all_same a b (Or ∷ any_then more m) (Or ∷ any_then others k) refl refl e in
      let rest = first.1 in
      let later = any_same more others m k h g (cc) in
      let one = first.0 in
      let two = later.0 in
      (cc, later.1)

  pub all_same : (a b : All) (m k : List Token) → ends_all m ≡ true → ends_all k ≡ true → all_then a m ≡ all_then b k → (a ≡ b) × (m ≡ k)
  all_same (neg a) (neg b) m k h g e =
      let same = neg_same a b m k (all_ends_neg m h) (all_ends_neg k g) e in
      (ap neg same.0, same.1)
  all_same (neg a) (and b more) m k h g e =
      absurd (no_and m (all_then more k) h (neg_same a b m (And ∷ all_then more k) (all_ends_neg m h) refl e).1)
  all_same (and a more) (neg b) m k h g e =
      absurd (no_and k (all_then more m) g (sym (neg_same a b (And ∷ all_then more m) k refl (all_ends_neg k g) e).1))
  all_same (and a more) (and b others) m k h g e =
      let first = neg_same a b (And ∷ all_then more m) (And ∷ all_then others k) refl refl e in
      let rest = first.1 in
      let later = all_same more others m k h g (cc) in
      let one = first.0 in
      let two = later.0 in
      (cc, later.1)

  pub neg_same : (a b : Neg) (m k : List Token) → ends_neg m ≡ true → ends_neg k ≡ true → neg_then a m ≡ neg_then b k → (a ≡ b) × (m ≡ k)
  neg_same (not a) (not b) m k h g e =
      let same = neg_same a b m k h g (cc) in
      (ap not same.0, same.1)
  neg_same (not a) (primary (brackets b)) m k h g e = absurd (cc)
  neg_same (not a) (primary (test t)) m k h g e = absurd (no_test t k (Not ∷ neg_then a m) refl (sym e))
  neg_same (primary (brackets a)) (not b) m k h g e = absurd (cc)
  neg_same (primary (test t)) (not b) m k h g e = absurd (no_test t m (Not ∷ neg_then b k) refl e)
  neg_same (primary a) (primary b) m k h g e =
      let same = primary_same a b m k h g e in
      (ap primary same.0, same.1)

  pub primary_same : (a b : Primary) (m k : List Token) → ends_neg m ≡ true → ends_neg k ≡ true → primary_then a m ≡ primary_then b k → (a ≡ b) × (m ≡ k)
  primary_same (brackets a) (brackets b) m k h g e =
      let same = any_same a b (Closing ∷ m) (Closing ∷ k) refl refl (cc) in
      let rest = same.1 in
      (ap brackets same.0, cc)
  primary_same (brackets a) (test t) m k h g e =
      absurd (no_test t k (Opening ∷ any_then a (Closing ∷ m)) refl (sym e))
  primary_same (test t) (brackets b) m k h g e =
      absurd (no_test t m (Opening ∷ any_then b (Closing ∷ k)) refl e)
  primary_same (test t) (test u) m k h g e =
      let same = test_same t u m k h g e in
      (ap test same.0, same.1)

pub one_reading : (a b : Any) → any_then a [] ≡ any_then b [] → a ≡ b
one_reading a b e = (any_same a b [] [] refl refl e).0
