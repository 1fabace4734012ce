-- What is known of a condition at the outset is so on each host that turns out as was foreseen.
use Rattle.std.proofs.Common.{◌≡◌, ℕ, Bool, true, false, not, ◌&&◌, ◌||◌, bytes_eq, is_some, option_map, Option, Some, None, Ok, Err, List, [], ◌∷◌, ◌++◌, map, take, drop, sym, refl, ap, subst, ◌∙◌, inl, inr}
use Rattle.std.specs.Prelude.{codes, box_value, string_bytes, if◌then◌else◌}
use Rattle.std.proofs.lemmas.Slice.Eq.{bytes_eq-Decides}
use Rattle.std.proofs.lemmas.List.Folds.{list_any-append}
use Rattle.group_tree.specs.Names.{Name, same_name, is_among}
use Rattle.group_tree.specs.Variables.{Scalar}
use Rattle.text_syntax.specs.Words.{name_of}
use Rattle.cond.specs.Grammar as grammar
use Rattle.cond.specs.Meaning.{Environment, Value, Plain, value_holds, Verdict, Found, named, value_at, ref_value, operand_value, found_holds, found_same, is_found, state_holds, test_meaning, contrary_if, turned, either, both}
use Rattle.undefined_names.specs.InitialEnv.{InitialEnv, NameStatus, variable, registered, perhaps, nothing, is_there, is_field_there, has_value}
use Rattle.undefined_names.specs.Outlook as outlook
use Rattle.undefined_names.specs.Outlook.{Outlook, is_missed, is_result_missed, missed_if, missed_in_ref, missed_in_operand, missed_in_test, known_operand, known_same, eval_partially, test_outlook, linked, chained, outlook_step, tree_outlook, part_outlook, outlooks, outlook_of, decides, known_chain}
use Rattle.undefined_names.specs.Accords.{Accords, IsForetold, IsForeseen}
use Rattle.cond.specs.Trees.{written, any_of, all_of, verdict_step, tree_verdict, part_verdict, verdicts, verdict_of, bytes_of, trees_of}
use Rattle.cond.specs.declared.states.State.{State}
use Rattle.cond.specs.declared.states.State.TheVariants as state
use Rattle.text_syntax.specs.declared.field.Field.{Field}
use Rattle.text_syntax.specs.declared.field.Field.TheVariants as field
use Rattle.cond.specs.declared.tree.Tree.{Tree}
use Rattle.cond.specs.declared.tree.Tree.TheOpen.{Tree-F}
use Rattle.cond.specs.declared.tree.Tree.TheViews.{roll-Tree}
use Rattle.cond.specs.declared.tree.Tree.TheOpen as tree
use Rattle.cond.specs.declared.tree.Tree.TheFolds.{map-Tree, fold-roll-Tree, ind-Tree}
use Rattle.cond.specs.declared.condition.Part.{Part}
use Rattle.cond.specs.declared.condition.Part.TheVariants as part
use Rattle.cond.specs.declared.condition.Cond.{Cond}

pub same_itself : (name : Name) → same_name name name ≡ true
same_itself name = (bytes_eq-Decides name name).1 refl

pub stands_alone : (name : Name) → is_among name (name ∷ []) ≡ true
stands_alone name = ap (λ b. b || false) (same_itself name)

pub or_left : (a b : Bool) → a ≡ true → (a || b) ≡ true
or_left true b is = refl
or_left false b is = absurd (cc)

pub or_right : (a b : Bool) → b ≡ true → (a || b) ≡ true
or_right true b is = refl
or_right false b is = is

found_some : (name : Name) (value : Option Value) → is_found (named name value) ≡ is_some value
found_some name None = refl
found_some name (Some value) = refl

none_of : (name other : Name) (value : Option Value) → named name value ≡ Err other → value ≡ None
none_of name other None is = refl
none_of name other (Some value) is = absurd (cc)

named_so : (name other : Name) (value : Option Value) → named name value ≡ Err other → name ≡ other
named_so name other None is = cc
named_so name other (Some value) is = absurd (cc)

-- what is there has a value
pub there_not : {X : Type 0} (value : Option X) → is_some value ≡ true → value ≡ None → ⊥
there_not None is none = cc
there_not (Some x) is none = cc

whole_missed : (standing : NameStatus) (name : Name) (value : Option Value) → ((is : Bool) → is_there standing ≡ Some is → is_some value ≡ is) → value ≡ None
    → is_among name (missed_if (is_missed standing) name) ≡ true
whole_missed (variable scalar) name value there none = absurd (there_not value (there true refl) none)
whole_missed registered name value there none = absurd (there_not value (there true refl) none)
whole_missed (perhaps true) name value there none = absurd (there_not value (there true refl) none)
whole_missed (perhaps false) name value there none = stands_alone name
whole_missed nothing name value there none = stands_alone name

module _ (outset : InitialEnv) (e : Environment) (accords : Accords outset e) where
  abbrev pub Told : List Name → Name → Type 0
  Told = IsForetold outset e

  pub told_left : (names others : List Name) (name : Name) → Told names name → Told (names ++ others) name
  told_left names others name (inl is) =
      inl (list_any-append (same_name name) names others ∙ or_left (is_among name names) (is_among name others) is)
  told_left names others name (inr lacks) = inr lacks

  pub told_right : (names others : List Name) (name : Name) → Told others name → Told (names ++ others) name
  told_right names others name (inl is) =
      inl (list_any-append (same_name name) names others ∙ or_right (is_among name names) (is_among name others) is)
  told_right names others name (inr lacks) = inr lacks

  field_missed : (standing : NameStatus) (name : Name) (of : Field) → outset.standing name ≡ standing → ((is : Bool) → is_field_there standing of ≡ Some is → is_some (value_at e (grammar.part name of)) ≡ is)
      → value_at e (grammar.part name of) ≡ None → Told (missed_if (is_result_missed standing) name) name
  field_missed (variable scalar) name of so there none = inl (stands_alone name)
  field_missed (perhaps is_variable) name of so there none = inl (stands_alone name)
  field_missed nothing name of so there none = inl (stands_alone name)
  field_missed registered name field.Rc so there none = inr (record { stands = so; lacks = no_scalar (e.field name field.Rc) none })
    where
      no_scalar : (scalar : Option Scalar) → option_map Plain scalar ≡ None → scalar ≡ None
      no_scalar None is = refl
      no_scalar (Some scalar) is = absurd (cc)
  field_missed registered name field.Stdout so there none = absurd (there_not (value_at e (grammar.part name field.Stdout)) (there true refl) none)
  field_missed registered name field.Stderr so there none = absurd (there_not (value_at e (grammar.part name field.Stderr)) (there true refl) none)
  field_missed registered name field.Changed so there none = absurd (there_not (value_at e (grammar.part name field.Changed)) (there true refl) none)
  field_missed registered name field.Failed so there none = absurd (there_not (value_at e (grammar.part name field.Failed)) (there true refl) none)
  field_missed registered name field.Skipped so there none = absurd (there_not (value_at e (grammar.part name field.Skipped)) (there true refl) none)

  whole_said : (name : Name) → value_at e (grammar.whole name) ≡ None → Told (missed_in_ref outset (grammar.whole name)) name
  whole_said name none = inl (whole_missed (outset.standing name) name (value_at e (grammar.whole name)) (accords.there (grammar.whole name)) none)

  pub field_said : (name : Name) (of : Field) → value_at e (grammar.part name of) ≡ None → Told (missed_if (is_result_missed (outset.standing name)) name) name
  field_said name of none = field_missed (outset.standing name) name of refl (accords.there (grammar.part name of)) none

  ref_missed : (of : grammar.Ref) (name : Name) → ref_value e of ≡ Err name → Told (missed_in_ref outset of) name
  ref_missed (grammar.whole one) name is =
      subst (Told (missed_in_ref outset (grammar.whole one))) (named_so one name (value_at e (grammar.whole one)) is)
      (whole_said one (none_of one name (value_at e (grammar.whole one)) is))
  ref_missed (grammar.part one of) name is =
      subst (Told (missed_in_ref outset (grammar.part one of))) (named_so one name (value_at e (grammar.part one of)) is)
      (field_said one of (none_of one name (value_at e (grammar.part one of)) is))
  ref_missed grammar.hostname name is = absurd (cc)

  operand_missed : (operand : grammar.Operand) (name : Name) → operand_value e operand ≡ Err name → Told (missed_in_operand outset operand) name
  operand_missed (grammar.text bytes) name is = absurd (cc)
  operand_missed (grammar.number value) name is = absurd (cc)
  operand_missed (grammar.truth value) name is = absurd (cc)
  operand_missed (grammar.ref of) name is = ref_missed of name is

  operand_known : (operand : grammar.Operand) (value : Value) → known_operand outset operand ≡ Some value → operand_value e operand ≡ Ok value
  operand_known (grammar.text bytes) value is = cc
  operand_known (grammar.number number) value is = cc
  operand_known (grammar.truth truth) value is = cc
  operand_known (grammar.ref of) value is = ap (named (name_of of)) (accords.value of value is)

  holds_missed : (found : Found) (name : Name) → found_holds found ≡ Err name → found ≡ Err name
  holds_missed (Ok value) name is = absurd (cc)
  holds_missed (Err other) name is = cc

  turned_missed : (contrary : Bool) (verdict : Verdict) (name : Name) → turned contrary verdict ≡ Err name → verdict ≡ Err name
  turned_missed contrary (Ok holds) name is = absurd (cc)
  turned_missed contrary (Err other) name is = cc

  state_missed : (one : Name) (of : State) (name : Name) → state_holds e one of ≡ Err name → Told (missed_if (is_result_missed (outset.standing one)) one) name
  state_missed one state.Changed name is = ref_missed (grammar.part one field.Changed) name (holds_missed (ref_value e (grammar.part one field.Changed)) name is)
  state_missed one state.Failed name is = ref_missed (grammar.part one field.Failed) name (holds_missed (ref_value e (grammar.part one field.Failed)) name is)
  state_missed one state.Skipped name is = ref_missed (grammar.part one field.Skipped) name (holds_missed (ref_value e (grammar.part one field.Skipped)) name is)
  state_missed one state.Succeeded name is =
      ref_missed (grammar.part one field.Failed) name
      (holds_missed (ref_value e (grammar.part one field.Failed)) name (turned_missed true (found_holds (ref_value e (grammar.part one field.Failed))) name is))

  same_missed : (left right : grammar.Operand) (name : Name) (one other : Found) → operand_value e left ≡ one → operand_value e right ≡ other → found_same one other ≡ Err name
      → Told (missed_in_operand outset left ++ missed_in_operand outset right) name
  same_missed left right name (Err of) other l r is =
      let so : operand_value e left ≡ Err name = cc in
      told_left (missed_in_operand outset left) (missed_in_operand outset right) name (operand_missed left name so)
  same_missed left right name (Ok value) (Err of) l r is =
      let so : operand_value e right ≡ Err name = cc in
      told_right (missed_in_operand outset left) (missed_in_operand outset right) name (operand_missed right name so)
  same_missed left right name (Ok value) (Ok of) l r is = absurd (cc)

  test_missed : (test : grammar.Test) (name : Name) → test_meaning e test ≡ Err name → Told (missed_in_test outset test) name
  test_missed (grammar.stands one contrary of) name is = state_missed one of name (turned_missed contrary (state_holds e one of) name is)
  test_missed (grammar.defined of contrary) name is = absurd (cc)
  test_missed (grammar.equals left contrary right) name is =
      same_missed left right name (operand_value e left) (operand_value e right) refl refl
      (turned_missed contrary (found_same (operand_value e left) (operand_value e right)) name is)
  test_missed (grammar.within group contrary) name is = absurd (cc)
  test_missed (grammar.alone operand) name is = operand_missed operand name (holds_missed (operand_value e operand) name is)

  defined_known : (of : grammar.Ref) (contrary holds foreseen : Bool) (known : Option Bool) → has_value outset of ≡ known → test_meaning e (grammar.defined of contrary) ≡ Ok holds
      → option_map (contrary_if contrary) known ≡ Some foreseen → holds ≡ foreseen
  defined_known of contrary holds foreseen None so is known = absurd (cc)
  defined_known of contrary holds foreseen (Some there) so is known =
      let found = found_some (name_of of) (value_at e of) in
      let has = accords.there of there so in
      let same : contrary_if contrary (is_found (ref_value e of)) ≡ contrary_if contrary there = ap (contrary_if contrary) (found ∙ has) in
      let one : holds ≡ contrary_if contrary (is_found (ref_value e of)) = cc in
      let other : contrary_if contrary there ≡ foreseen = cc in
      one ∙ same ∙ other

  same_known : (left right : grammar.Operand) (contrary holds foreseen : Bool) (one other : Option Value) → known_operand outset left ≡ one → known_operand outset right ≡ other
      → turned contrary (found_same (operand_value e left) (operand_value e right)) ≡ Ok holds → option_map (contrary_if contrary) (known_same one other) ≡ Some foreseen → holds ≡ foreseen
  same_known left right contrary holds foreseen None other l r is known = absurd (cc)
  same_known left right contrary holds foreseen (Some a) None l r is known = absurd (cc)
  same_known left right contrary holds foreseen (Some a) (Some b) l r is known =
      let here = operand_known left a l in
      let there = operand_known right b r in
      let both_known : turned contrary (found_same (operand_value e left) (operand_value e right)) ≡ turned contrary (found_same (Ok a) (Ok b)) =
      ap (λ (of : Found). turned contrary (found_same of (operand_value e right))) here ∙ ap (λ (of : Found). turned contrary (found_same (Ok a) of)) there in
      cc

  alone_known : (operand : grammar.Operand) (holds foreseen : Bool) (one : Option Value) → known_operand outset operand ≡ one → found_holds (operand_value e operand) ≡ Ok holds
      → option_map value_holds one ≡ Some foreseen → holds ≡ foreseen
  alone_known operand holds foreseen None so is known = absurd (cc)
  alone_known operand holds foreseen (Some value) so is known =
      let here = ap found_holds (operand_known operand value so) in cc

  test_known : (test : grammar.Test) (holds foreseen : Bool) → test_meaning e test ≡ Ok holds → eval_partially outset test ≡ Some foreseen → holds ≡ foreseen
  test_known (grammar.stands one contrary of) holds foreseen is known = absurd (cc)
  test_known (grammar.defined of contrary) holds foreseen is known = defined_known of contrary holds foreseen (has_value outset of) refl is known
  test_known (grammar.equals left contrary right) holds foreseen is known =
      same_known left right contrary holds foreseen (known_operand outset left) (known_operand outset right) refl refl is known
  test_known (grammar.within group contrary) holds foreseen is known =
      let same = ap (λ (held : Bool). contrary_if contrary (not (bytes_eq group (codes "all")) && held)) (accords.in_group group) in cc
  test_known (grammar.alone operand) holds foreseen is known = alone_known operand holds foreseen (known_operand outset operand) refl is known

  abbrev Sound : Outlook → Verdict → Type 0
  Sound = IsForeseen outset e

  test_sound : (test : grammar.Test) → Sound (test_outlook outset test) (test_meaning e test)
  test_sound test = record { known = test_known test; missed = test_missed test }

  turned_known : (contrary holds foreseen : Bool) (verdict : Verdict) (known : Option Bool) → ((b c : Bool) → verdict ≡ Ok b → known ≡ Some c → b ≡ c)
      → turned contrary verdict ≡ Ok holds → option_map (contrary_if contrary) known ≡ Some foreseen → holds ≡ foreseen
  turned_known contrary holds foreseen (Err name) known sound is so = absurd (cc)
  turned_known contrary holds foreseen (Ok b) None sound is so = absurd (cc)
  turned_known contrary holds foreseen (Ok b) (Some c) sound is so = let same = ap (contrary_if contrary) (sound b c refl refl) in cc

  turned_sound : (contrary : Bool) (of : Outlook) (verdict : Verdict) → Sound of verdict → Sound (outlook.turned contrary of) (turned contrary verdict)
  turned_sound contrary of verdict sound = record {
    known = λ holds foreseen is so. turned_known contrary holds foreseen verdict of.holds sound.known is so;
    missed = λ name is. sound.missed name (turned_missed contrary verdict name is);
  }

  -- the first part of a chain, and what the others say
  abbrev joined_by : Bool → Verdict → Verdict → Verdict
  joined_by true = either
  joined_by false = both

  -- a verdict that goes on to the others is not known to decide
  pub goes_on : (deciding : Bool) (known : Option Bool) (holds : Bool) → holds ≡ not deciding → ((foreseen : Bool) → known ≡ Some foreseen → holds ≡ foreseen) → decides deciding known ≡ false
  goes_on deciding None holds is so = refl
  goes_on true (Some foreseen) holds is so = sym (so foreseen refl) ∙ is
  goes_on false (Some foreseen) holds is so = ap not (sym (so foreseen refl) ∙ is)

  pub behind_same : (deciding : Bool) (known : Option Bool) (names : List Name) → decides deciding known ≡ false → (if decides deciding known then [] else names) ≡ names
  behind_same deciding known names is = ap (λ (b : Bool). if b then [] else names) is

  later_missed : (deciding : Bool) (first later : Outlook) (name : Name) → decides deciding first.holds ≡ false → Told later.missed name → Told (linked deciding first later).missed name
  later_missed deciding first later name on told =
      told_right first.missed (if decides deciding first.holds then [] else later.missed) name
      (subst (λ (names : List Name). Told names name) (sym (behind_same deciding first.holds later.missed on)) told)

  -- where a part decides, the chain is known to be decided if anything is known of it
  decided_known : (deciding : Bool) (first later : Option Bool) (foreseen : Bool) → ((c : Bool) → first ≡ Some c → deciding ≡ c) → known_chain deciding first later ≡ Some foreseen → deciding ≡ foreseen
  decided_known true None (Some true) foreseen so is = cc
  decided_known true None (Some false) foreseen so is = absurd (cc)
  decided_known true None None foreseen so is = absurd (cc)
  decided_known false None (Some true) foreseen so is = absurd (cc)
  decided_known false None (Some false) foreseen so is = cc
  decided_known false None None foreseen so is = absurd (cc)
  decided_known true (Some true) later foreseen so is = cc
  decided_known true (Some false) later foreseen so is = absurd (let wrong = so false refl in cc)
  decided_known false (Some true) later foreseen so is = absurd (let wrong = so true refl in cc)
  decided_known false (Some false) later foreseen so is = cc

  -- where a part doesn't, the others say what the chain says
  later_known : (deciding holds foreseen : Bool) (first later : Option Bool) → decides deciding first ≡ false → ((c : Bool) → later ≡ Some c → holds ≡ c) → known_chain deciding first later ≡ Some foreseen → holds ≡ foreseen
  later_known true holds foreseen None (Some true) on so is = so true refl ∙ (let same : true ≡ foreseen = cc in same)
  later_known true holds foreseen None (Some false) on so is = absurd (cc)
  later_known true holds foreseen None None on so is = absurd (cc)
  later_known false holds foreseen None (Some true) on so is = absurd (cc)
  later_known false holds foreseen None (Some false) on so is = so false refl ∙ (let same : false ≡ foreseen = cc in same)
  later_known false holds foreseen None None on so is = absurd (cc)
  later_known true holds foreseen (Some true) later on so is = absurd (cc)
  later_known true holds foreseen (Some false) later on so is = so foreseen is
  later_known false holds foreseen (Some true) later on so is = so foreseen is
  later_known false holds foreseen (Some false) later on so is = absurd (cc)

  linked_known : (deciding : Bool) (first later : Outlook) (one other : Verdict) → Sound first one → Sound later other → (holds foreseen : Bool)
      → joined_by deciding one other ≡ Ok holds → (linked deciding first later).holds ≡ Some foreseen → holds ≡ foreseen
  linked_known true first later (Ok true) other sound after holds foreseen is so =
      let decided = decided_known true first.holds later.holds foreseen (λ c known. sound.known true c refl known) so in cc
  linked_known true first later (Ok false) other sound after holds foreseen is so =
      later_known true holds foreseen first.holds later.holds (goes_on true first.holds false refl (λ c known. sound.known false c refl known)) (λ c known. after.known holds c is known) so
  linked_known true first later (Err name) other sound after holds foreseen is so = absurd (cc)
  linked_known false first later (Ok false) other sound after holds foreseen is so =
      let decided = decided_known false first.holds later.holds foreseen (λ c known. sound.known false c refl known) so in cc
  linked_known false first later (Ok true) other sound after holds foreseen is so =
      later_known false holds foreseen first.holds later.holds (goes_on false first.holds true refl (λ c known. sound.known true c refl known)) (λ c known. after.known holds c is known) so
  linked_known false first later (Err name) other sound after holds foreseen is so = absurd (cc)

  first_missed : (deciding : Bool) (first later : Outlook) (of name : Name) (one : Verdict) → Sound first one → one ≡ Err of → of ≡ name → Told (linked deciding first later).missed name
  first_missed deciding first later of name one sound is so =
      told_left first.missed (if decides deciding first.holds then [] else later.missed) name (sound.missed name (is ∙ ap Err so))

  linked_missed : (deciding : Bool) (first later : Outlook) (one other : Verdict) → Sound first one → Sound later other → (name : Name) → joined_by deciding one other ≡ Err name
      → Told (linked deciding first later).missed name
  linked_missed true first later (Ok true) other sound after name is = absurd (cc)
  linked_missed true first later (Ok false) other sound after name is =
      later_missed true first later name (goes_on true first.holds false refl (λ c known. sound.known false c refl known)) (after.missed name is)
  linked_missed true first later (Err of) other sound after name is = first_missed true first later of name (Err of) sound refl (cc)
  linked_missed false first later (Ok false) other sound after name is = absurd (cc)
  linked_missed false first later (Ok true) other sound after name is =
      later_missed false first later name (goes_on false first.holds true refl (λ c known. sound.known true c refl known)) (after.missed name is)
  linked_missed false first later (Err of) other sound after name is = first_missed false first later of name (Err of) sound refl (cc)

  linked_sound : (deciding : Bool) (first later : Outlook) (one other : Verdict) → Sound first one → Sound later other → Sound (linked deciding first later) (joined_by deciding one other)
  linked_sound deciding first later one other sound after = record {
    known = linked_known deciding first later one other sound after;
    missed = linked_missed deciding first later one other sound after;
  }

  none_sound : (deciding : Bool) → Sound (chained deciding []) (Ok (not deciding))
  none_sound deciding = record {
    known = λ holds foreseen is so. cc;
    missed = λ name is. absurd (cc);
  }

  module _ (text : List ℕ) where
    abbrev IsSound : Tree → Type 0
    IsSound of = Sound (tree_outlook text outset of) (tree_verdict text e of)

    abbrev Row : Type 0
    Row = (of : Tree) × IsSound of

    abbrev tree_of : Row → Tree
    tree_of row = row.0

    any_sound : (rows : List Row) → Sound (chained true (map (tree_outlook text outset) (map tree_of rows))) (any_of (map (tree_verdict text e) (map tree_of rows)))
    any_sound [] = none_sound true
    any_sound (row ∷ rows) =
        linked_sound true (tree_outlook text outset row.0) (chained true (map (tree_outlook text outset) (map tree_of rows)))
        (tree_verdict text e row.0) (any_of (map (tree_verdict text e) (map tree_of rows))) row.1 (any_sound rows)

    all_sound : (rows : List Row) → Sound (chained false (map (tree_outlook text outset) (map tree_of rows))) (all_of (map (tree_verdict text e) (map tree_of rows)))
    all_sound [] = none_sound false
    all_sound (row ∷ rows) =
        linked_sound false (tree_outlook text outset row.0) (chained false (map (tree_outlook text outset) (map tree_of rows)))
        (tree_verdict text e row.0) (all_of (map (tree_verdict text e) (map tree_of rows))) row.1 (all_sound rows)

    level_sound : (level : Tree-F Row) → Sound (outlook_step text outset (map-Tree Tree Outlook (tree_outlook text outset) (map-Tree Row Tree tree_of level)))
        (verdict_step text e (map-Tree Tree Verdict (tree_verdict text e) (map-Tree Row Tree tree_of level)))
    level_sound (tree.Either parts) = any_sound parts.items
    level_sound (tree.Both parts) = all_sound parts.items
    level_sound (tree.Negated part) =
        turned_sound true (tree_outlook text outset (box_value part).0) (tree_verdict text e (box_value part).0) (box_value part).1
    level_sound (tree.Leaf test) = test_sound (written text test)
    level_sound (tree.Denied test) =
        turned_sound true (test_outlook outset (written text test)) (test_meaning e (written text test)) (test_sound (written text test))

    rolled_sound : (level : Tree-F Row) → IsSound (roll-Tree (map-Tree Row Tree tree_of level))
    rolled_sound level =
        let trees = map-Tree Row Tree tree_of level in
        subst (λ (of : Outlook). Sound of (tree_verdict text e (roll-Tree trees))) (sym (fold-roll-Tree Outlook (outlook_step text outset) trees))
        (subst (λ (of : Verdict). Sound (outlook_step text outset (map-Tree Tree Outlook (tree_outlook text outset) trees)) of) (sym (fold-roll-Tree Verdict (verdict_step text e) trees)) (level_sound level))

    tree_sound : (of : Tree) → IsSound of
    tree_sound =
        ind-Tree IsSound (λ x y is. subst (λ (level : Tree-F Tree). IsSound (roll-Tree level)) is (rolled_sound y))

    trees_sound : (trees : List Tree) → Sound (chained false (map (tree_outlook text outset) trees)) (all_of (map (tree_verdict text e) trees))
    trees_sound [] = none_sound false
    trees_sound (of ∷ trees) =
        linked_sound false (tree_outlook text outset of) (chained false (map (tree_outlook text outset) trees)) (tree_verdict text e of)
        (all_of (map (tree_verdict text e) trees)) (tree_sound of) (trees_sound trees)

    part_sound : (trees : List Tree) (of : Part) → Sound (part_outlook outset text trees of) (part_verdict e text trees of)
    part_sound trees (part.Test denied bytes test) =
        turned_sound denied (test_outlook outset (written text test)) (test_meaning e (written text test)) (test_sound (written text test))
    part_sound trees (part.Trees bytes count) = trees_sound trees

  parts_sound : (text : List ℕ) (trees : List Tree) (parts : List Part) → Sound (chained false (outlooks outset text trees parts)) (all_of (verdicts e text trees parts))
  parts_sound text trees [] = none_sound false
  parts_sound text trees (of ∷ parts) =
      let own = take (bytes_of of) text in
      let with_it = take (trees_of of) trees in
      linked_sound false (part_outlook outset own with_it of) (chained false (outlooks outset (drop (bytes_of of) text) (drop (trees_of of) trees) parts))
      (part_verdict e own with_it of) (all_of (verdicts e (drop (bytes_of of) text) (drop (trees_of of) trees) parts)) (part_sound own with_it of)
      (parts_sound (drop (bytes_of of) text) (drop (trees_of of) trees) parts)

pub condition_foreseen : (outset : InitialEnv) (e : Environment) (condition : Cond) → Accords outset e → IsForeseen outset e (outlook_of outset condition) (verdict_of e condition)
condition_foreseen outset e condition accords =
    parts_sound outset e accords (string_bytes condition.text) condition.trees.items condition.parts.items
