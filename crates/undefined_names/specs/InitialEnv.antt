-- A host at the outset: what each name will stand for when a condition is asked, as far as that is known before anything has run.
use Rattle.std.specs.Prelude.{Bool, true, false, if◌then◌else◌, Option, Some, None}
use Rattle.group_tree.specs.Names.{Name}
use Rattle.group_tree.specs.Variables.{Scalar, Text}
use Rattle.cond.specs.Grammar.{Ref, whole, part, hostname}
use Rattle.cond.specs.Meaning.{Value, Registered, Plain}
use Rattle.text_syntax.specs.declared.field.Field.{Field}
use Rattle.text_syntax.specs.declared.field.Field.TheVariants.{Rc, Stdout, Stderr, Changed, Failed, Skipped}

-- a variable, which has this value; a registered result; perhaps a result, and else a variable, where it says so, or nothing; nothing
pub data NameStatus : Type 0 where
  variable : Scalar → NameStatus
  registered : NameStatus
  perhaps : Bool → NameStatus
  nothing : NameStatus

pub record InitialEnv : Type 0 where
  pub standing : Name → NameStatus
  pub in_group : Name → Bool
  pub host : Name

-- whether the name has a value, where that is known
abbrev pub is_there : NameStatus → Option Bool
is_there (variable scalar) = Some true
is_there registered = Some true
is_there (perhaps is_variable) = if is_variable then Some true else None
is_there nothing = Some false

-- a result has no `rc` where its program didn't run
abbrev pub is_field_there : NameStatus → Field → Option Bool
is_field_there (variable scalar) field = Some false
is_field_there registered Rc = None
is_field_there registered Stdout = Some true
is_field_there registered Stderr = Some true
is_field_there registered Changed = Some true
is_field_there registered Failed = Some true
is_field_there registered Skipped = Some true
is_field_there (perhaps is_variable) field = None
is_field_there nothing field = Some false

abbrev pub has_value : InitialEnv → Ref → Option Bool
has_value outset (whole name) = is_there (outset.standing name)
has_value outset (part name field) = is_field_there (outset.standing name) field
has_value outset hostname = Some true

-- the value, where it is known
abbrev pub value_of : NameStatus → Option Value
value_of (variable scalar) = Some (Plain scalar)
value_of registered = Some Registered
value_of (perhaps is_variable) = None
value_of nothing = None

-- what fields will hold is not known
abbrev pub known_at : InitialEnv → Ref → Option Value
known_at outset (whole name) = value_of (outset.standing name)
known_at outset (part name field) = None
known_at outset hostname = Some (Plain (Text outset.host))
