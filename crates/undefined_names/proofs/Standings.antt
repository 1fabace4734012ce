-- A host that follows what was known of it turns out as was foreseen.
use Rattle.std.proofs.Common.{◌≡◌, ℤ, Bool, true, false, cond, is_some, option_map, Option, Some, None, sym, refl, ap, subst, ◌∙◌}
use Rattle.std.specs.Prelude.{option_and_then, if◌then◌else◌}
use Rattle.group_tree.specs.Names.{Name, is_among}
use Rattle.group_tree.specs.Variables.{Scalar, Text}
use Rattle.cond.specs.Grammar as grammar
use Rattle.cond.specs.Meaning.{Value, Registered, Plain, value_at}
use Rattle.text_syntax.specs.declared.field.Field.{Field}
use Rattle.text_syntax.specs.declared.field.Field.TheVariants as field
use Rattle.play_model.specs.Results.{Row}
use Rattle.play_model.specs.declared.step.Step.{Step}
use Rattle.host_vars.specs.HostVars.{field_in_row, number_of}
use Rattle.host_vars.specs.Conditions.{result_or_variable}
use Rattle.host_track.specs.Hosts.{Known, environment_in, with_result}
use Rattle.host_track.specs.Judging.{register_of}
use Rattle.host_track.specs.Summaries.{does_register}
use Rattle.undefined_names.specs.Accords.{Accords}
use Rattle.undefined_names.specs.Laws.{Follows}
use Rattle.undefined_names.specs.UndefinedReads.{behind, outset_of, standing_by}
use Rattle.undefined_names.specs.InitialEnv.{InitialEnv, NameStatus, has_value, known_at, variable, registered, perhaps, nothing, is_there, is_field_there, value_of}
use Rattle.undefined_names.specs.EarlierSteps.{EarlierSteps, is_registered}

abbrev pub field_of : Option Row → Field → Option Scalar
field_of row of = option_and_then (λ (row : Row). field_in_row row of) row

-- what is known of a name is so where it has this result and this variable
pub record Fits (standing : NameStatus) (row : Option Row) (scalar : Option Scalar) : Type 0 where
  pub value : (value : Value) → value_of standing ≡ Some value → result_or_variable row scalar ≡ Some value
  pub there : (is : Bool) → is_there standing ≡ Some is → is_some (result_or_variable row scalar) ≡ is
  pub field : (of : Field) (is : Bool) → is_field_there standing of ≡ Some is → is_some (option_map Plain (field_of row of)) ≡ is

registered_field : (row : Row) (of : Field) (is : Bool) → is_field_there registered of ≡ Some is → is_some (option_map Plain (field_of (Some row) of)) ≡ is
registered_field row field.Rc is so = absurd (cc)
registered_field row field.Stdout is so = cc
registered_field row field.Stderr is so = cc
registered_field row field.Changed is so = cc
registered_field row field.Failed is so = cc
registered_field row field.Skipped is so = cc

pub fits_registered : (row : Row) (scalar : Option Scalar) → Fits registered (Some row) scalar
fits_registered row scalar = record {
  value = λ value so. so;
  there = λ is so. cc;
  field = registered_field row;
}

fits_variable : (scalar : Scalar) → Fits (variable scalar) None (Some scalar)
fits_variable scalar = record {
  value = λ value so. so;
  there = λ is so. cc;
  field = λ of is so. cc;
}

fits_nothing : Fits nothing None None
fits_nothing = record {
  value = λ value so. absurd (cc);
  there = λ is so. cc;
  field = λ of is so. cc;
}

any_there : (row : Option Row) (scalar : Scalar) (is : Bool) → Some true ≡ Some is → is_some (result_or_variable row (Some scalar)) ≡ is
any_there None scalar is so = cc
any_there (Some row) scalar is so = cc

fits_perhaps : (row : Option Row) (scalar : Scalar) → Fits (perhaps true) row (Some scalar)
fits_perhaps row scalar = record {
  value = λ value so. absurd (cc);
  there = λ is so. any_there row scalar is so;
  field = λ of is so. absurd (cc);
}

fits_anything : (row : Option Row) → Fits (perhaps false) row None
fits_anything row = record {
  value = λ value so. absurd (cc);
  there = λ is so. absurd (cc);
  field = λ of is so. absurd (cc);
}

-- what has become of a name's result
record Comes (sure may : Bool) (was row : Option Row) : Type 0 where
  kept : is_some was ≡ true → is_some row ≡ true
  sure_is : sure ≡ true → is_some row ≡ true
  others : may ≡ false → sure ≡ false → was ≡ None → row ≡ None

none_there : (row : Option Row) → row ≡ None → is_some row ≡ true → ⊥
none_there None none is = cc
none_there (Some row) none is = cc

standing_fits : (sure may : Bool) (was row : Option Row) (scalar : Option Scalar) → Comes sure may was row → Fits (standing_by sure may (result_or_variable was scalar)) row scalar
standing_fits true may was (Some row) scalar comes = fits_registered row scalar
standing_fits true may was None scalar comes = absurd (none_there None refl (comes.sure_is refl))
standing_fits false true (Some old) (Some row) scalar comes = fits_registered row scalar
standing_fits false false (Some old) (Some row) scalar comes = fits_registered row scalar
standing_fits false true (Some old) None scalar comes = absurd (none_there None refl (comes.kept refl))
standing_fits false false (Some old) None scalar comes = absurd (none_there None refl (comes.kept refl))
standing_fits false true None row (Some scalar) comes = fits_perhaps row scalar
standing_fits false true None row None comes = fits_anything row
standing_fits false false None row (Some scalar) comes =
    subst (λ (of : Option Row). Fits (variable scalar) of (Some scalar)) (sym (comes.others refl refl refl)) (fits_variable scalar)
standing_fits false false None row None comes =
    subst (λ (of : Option Row). Fits nothing of None) (sym (comes.others refl refl refl)) fits_nothing

module _ (past : EarlierSteps) (start known : Known) (follows : Follows past start known) where
  comes_so : (name : Name) → Comes (is_registered past.sure name) (is_registered past.may name) (start.results name) (known.results name)
  comes_so name = record {
    kept = follows.kept name;
    sure_is = follows.sure name;
    others = follows.others name;
  }

  same_variable : (name : Name) → start.variables.variable name ≡ known.variables.variable name
  same_variable name = λ i. (sym follows.variables i).variable name

  pub name_fits : (name : Name) → Fits ((outset_of past start).standing name) (known.results name) (known.variables.variable name)
  name_fits name =
      subst (λ (scalar : Option Scalar). Fits ((outset_of past start).standing name) (known.results name) scalar) (same_variable name)
      (standing_fits (is_registered past.sure name) (is_registered past.may name) (start.results name) (known.results name) (start.variables.variable name) (comes_so name))

-- Accordance by names.
module _ (outset : InitialEnv) (known : Known) (fits : (name : Name) → Fits (outset.standing name) (known.results name) (known.variables.variable name))
    (in_group : (group : Name) → (environment_in known).in_group group ≡ outset.in_group group) (host : known.variables.name ≡ outset.host) where
  value_so : (of : grammar.Ref) (value : Value) → known_at outset of ≡ Some value → value_at (environment_in known) of ≡ Some value
  value_so (grammar.whole name) value so = (fits name).value value so
  value_so (grammar.part name of) value so = absurd (cc)
  value_so grammar.hostname value so = ap (λ (host : Name). Some (Plain (Text host))) host ∙ so

  there_so : (of : grammar.Ref) (is : Bool) → has_value outset of ≡ Some is → is_some (value_at (environment_in known) of) ≡ is
  there_so (grammar.whole name) is so = (fits name).there is so
  there_so (grammar.part name of) is so = (fits name).field of is so
  there_so grammar.hostname is so = cc

  pub accords : Accords outset (environment_in known)
  accords = record { value = value_so; there = there_so; in_group = in_group; host = host }

pub accords_before : (past : EarlierSteps) (start known : Known) → Follows past start known → Accords (outset_of past start) (environment_in known)
accords_before past start known follows =
    accords (outset_of past start) known (name_fits past start known follows) (λ group i. is_among group (follows.variables i).groups) (λ i. (follows.variables i).name)

-- behind the step's own program
module _ (outset : InitialEnv) (known : Known) (step : Step) (row : Row) where
  abbrev pub judged : Known
  judged = with_result (register_of step) row known

  own_fits : (name : Name) (own : Bool) → does_register name step ≡ own → Fits (outset.standing name) (known.results name) (known.variables.variable name)
      → Fits ((behind step outset).standing name) (judged.results name) (known.variables.variable name)
  own_fits name true is fits =
      subst (λ (b : Bool). Fits (if b then registered else outset.standing name) (cond b (Some row) (known.results name)) (known.variables.variable name)) (sym is)
      (fits_registered row (known.variables.variable name))
  own_fits name false is fits =
      subst (λ (b : Bool). Fits (if b then registered else outset.standing name) (cond b (Some row) (known.results name)) (known.variables.variable name)) (sym is) fits

  pub behind_fits : ((name : Name) → Fits (outset.standing name) (known.results name) (known.variables.variable name)) → (name : Name)
      → Fits ((behind step outset).standing name) (judged.results name) (judged.variables.variable name)
  behind_fits fits name = own_fits name (does_register name step) refl (fits name)

pub accords_behind : (past : EarlierSteps) (start known : Known) (step : Step) (row : Row) → Follows past start known
    → Accords (behind step (outset_of past start)) (environment_in (with_result (register_of step) row known))
accords_behind past start known step row follows =
    accords (behind step (outset_of past start)) (with_result (register_of step) row known)
    (behind_fits (outset_of past start) known step row (name_fits past start known follows)) (λ group i. is_among group (follows.variables i).groups) (λ i. (follows.variables i).name)

-- a result without a return code
no_number : (rc : Option ℤ) → number_of rc ≡ None → rc ≡ None
no_number None is = refl
no_number (Some rc) is = absurd (cc)

never_plain : (scalar : Option Scalar) → option_map Plain scalar ≡ Some Registered → ⊥
never_plain None is = cc
never_plain (Some scalar) is = cc

pub without_code : (row : Option Row) (scalar : Option Scalar) → Fits registered row scalar → field_of row field.Rc ≡ None → (of : Row) × (row ≡ Some of) × (of.rc ≡ None)
without_code None scalar fits none = absurd (never_plain scalar (fits.value Registered refl))
without_code (Some row) scalar fits none = (row, refl, no_number row.rc none)
