-- A host that turns out as was foreseen at the outset, and what that says of its conditions.
use Rattle.std.specs.Prelude.{◌≡◌, ◌⊎◌, Bool, true, is_some, Some, None, Ok, Err, List}
use Rattle.group_tree.specs.Names.{Name, is_among}
use Rattle.cond.specs.Grammar.{Ref}
use Rattle.cond.specs.Meaning.{Environment, Value, Verdict, value_at}
use Rattle.undefined_names.specs.InitialEnv.{InitialEnv, registered, has_value, known_at}
use Rattle.undefined_names.specs.Outlook.{Outlook}
use Rattle.text_syntax.specs.declared.field.Field.TheVariants.{Rc}

-- what is known of a reference is so
pub record Accords (outset : InitialEnv) (e : Environment) : Type 0 where
  pub value : (of : Ref) (value : Value) → known_at outset of ≡ Some value → value_at e of ≡ Some value
  pub there : (of : Ref) (is : Bool) → has_value outset of ≡ Some is → is_some (value_at e of) ≡ is
  pub in_group : (group : Name) → e.in_group group ≡ outset.in_group group
  pub host : e.host ≡ outset.host

-- a result is registered whose program didn't run
pub record LacksCode (outset : InitialEnv) (e : Environment) (name : Name) : Type 0 where
  pub stands : outset.standing name ≡ registered
  pub lacks : e.field name Rc ≡ None

-- the name was told as one that may be looked up in vain, or its result has no `rc`
abbrev pub IsForetold : InitialEnv → Environment → List Name → Name → Type 0
IsForetold outset e missed name = (is_among name missed ≡ true) ⊎ LacksCode outset e name

-- a verdict, by what was known of it at the outset
pub record IsForeseen (outset : InitialEnv) (e : Environment) (outlook : Outlook) (verdict : Verdict) : Type 0 where
  pub known : (holds foreseen : Bool) → verdict ≡ Ok holds → outlook.holds ≡ Some foreseen → holds ≡ foreseen
  pub missed : (name : Name) → verdict ≡ Err name → IsForetold outset e outlook.missed name
