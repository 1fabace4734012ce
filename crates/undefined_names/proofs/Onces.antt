-- Names, each where it stands first.
use Rattle.std.proofs.Common.{◌≡◌, ℕ, Bool, true, false, cond, ◌||◌, Bor, List, [], ◌∷◌, ◌++◌, flat_map, sym, refl, ap, subst, ◌∙◌}
use Rattle.std.specs.Prelude.{if◌then◌else◌}
use Rattle.std.specs.List.{list_any}
use Rattle.std.proofs.lemmas.Slice.Eq.{bytes_eq-Decides}
use Rattle.std.proofs.lemmas.List.{map-append}
use Rattle.std.proofs.lemmas.List.Folds.{list_any-append}
use Rattle.group_tree.specs.Names.{Name, same_name, is_among}
use Rattle.text_syntax.specs.Words.{Part, parts_of}
use Rattle.undefined_names.specs.Lent.{lent_names}
use Rattle.undefined_names.specs.UndefinedReads.{missed_in_part, missed_in_word, missed_in_words, once_behind, with_name}
use Rattle.undefined_names.specs.InitialEnv.{InitialEnv}
use Rattle.undefined_names.proofs.Foresights.{or_left, or_right, stands_alone}

stays : (before : List Name) (other name : Name) → is_among name before ≡ true → is_among name (with_name before other) ≡ true
stays before other name is = by_case (is_among other before)
  where
    by_case : (b : Bool) → is_among name (if b then before else before ++ other ∷ []) ≡ true
    by_case true = is
    by_case false = list_any-append (same_name name) before (other ∷ []) ∙ or_left (is_among name before) (is_among name (other ∷ [])) is

comes : (before : List Name) (name : Name) → is_among name (with_name before name) ≡ true
comes before name = by_case (is_among name before) refl
  where
    by_case : (b : Bool) → is_among name before ≡ b → is_among name (if b then before else before ++ name ∷ []) ≡ true
    by_case true is = is
    by_case false is = list_any-append (same_name name) before (name ∷ []) ∙ or_right (is_among name before) (is_among name (name ∷ [])) (stands_alone name)

stays_once : (names before : List Name) (name : Name) → is_among name before ≡ true → is_among name (once_behind before names) ≡ true
stays_once [] before name is = is
stays_once (other ∷ names) before name is = stays_once names (with_name before other) name (stays before other name is)

pub among_once : (names before : List Name) (name : Name) → is_among name names ≡ true → is_among name (once_behind before names) ≡ true
among_once [] before name is = absurd (cc)
among_once (other ∷ names) before name is = by_case (same_name name other) refl (among_once names (with_name before other) name)
  where
    by_case : (b : Bool) → same_name name other ≡ b → (is_among name names ≡ true → is_among name (once_behind (with_name before other) names) ≡ true)
        → is_among name (once_behind (with_name before other) names) ≡ true
    by_case true same later =
        let one : name ≡ other = (bytes_eq-Decides name other).0 same in
        stays_once names (with_name before other) name (subst (λ (of : Name). is_among name (with_name before of) ≡ true) one (comes before name))
    by_case false same later = later (sym (ap (λ b. b || is_among name names) same) ∙ is)

pub among_lent : (name : Name) (keys : List (Bor Name)) → is_among name (lent_names keys) ≡ list_any (λ (key : Bor Name). same_name name key.now) keys
among_lent name [] = refl
among_lent name (key ∷ keys) = ap (λ b. same_name name key.now || b) (among_lent name keys)

-- a key more, where it doesn't stand there
pub with_key : (keys : List (Bor Name)) (key : Bor Name)
    → lent_names (cond (list_any (λ (other : Bor Name). same_name key.now other.now) keys) keys (keys ++ key ∷ [])) ≡ with_name (lent_names keys) key.now
with_key keys key =
    by_case (list_any (λ (other : Bor Name). same_name key.now other.now) keys)
    ∙ ap (λ b. if b then lent_names keys else lent_names keys ++ key.now ∷ []) (sym (among_lent key.now keys))
  where
    by_case : (b : Bool) → lent_names (cond b keys (keys ++ key ∷ [])) ≡ (if b then lent_names keys else lent_names keys ++ key.now ∷ [])
    by_case true = refl
    by_case false = map-append (λ (name : Bor Name). name.now) keys (key ∷ [])

pub once_append : (before names others : List Name) → once_behind before (names ++ others) ≡ once_behind (once_behind before names) others
once_append before [] others = refl
once_append before (name ∷ names) others = once_append (with_name before name) names others

-- the first part of a word, and the rest behind it
pub once_part : (outset : InitialEnv) (found : List Name) (first : Part) (word rest : List ℕ) → parts_of word ≡ first ∷ parts_of rest
    → once_behind (once_behind found (missed_in_part outset first)) (missed_in_word outset rest) ≡ once_behind found (missed_in_word outset word)
once_part outset found first word rest is =
    sym (once_append found (missed_in_part outset first) (missed_in_word outset rest))
    ∙ sym (ap (λ (parts : List Part). once_behind found (flat_map (missed_in_part outset) parts)) is)

-- word by word
abbrev pub once_words : InitialEnv → List Name → List (List ℕ) → List Name
once_words outset found [] = found
once_words outset found (word ∷ words) = once_words outset (once_behind found (missed_in_word outset word)) words

pub once_words_is : (outset : InitialEnv) (found : List Name) (words : List (List ℕ)) → once_words outset found words ≡ once_behind found (missed_in_words outset words)
once_words_is outset found [] = refl
once_words_is outset found (word ∷ words) =
    once_words_is outset (once_behind found (missed_in_word outset word)) words ∙ sym (once_append found (missed_in_word outset word) (missed_in_words outset words))
