-- What is lent of the outset and of names.
use Rattle.std.specs.Prelude.{List, map}
use Rattle.std.specs.Borrow.{Bor}
use Rattle.group_tree.specs.Names.{Name}
use Rattle.group_tree.specs.Scalars.{lent_scalar}
use Rattle.undefined_names.specs.InitialEnv as outset
use Rattle.undefined_names.specs.declared.name_status.NameStatus.{NameStatus}
use Rattle.undefined_names.specs.declared.name_status.NameStatus.TheVariants as standing
use Rattle.undefined_names.specs.declared.found.Found.{Found}

abbrev pub stood : NameStatus → outset.NameStatus
stood (standing.Variable scalar) = outset.variable (lent_scalar scalar)
stood standing.Registered = outset.registered
stood (standing.Perhaps is_variable) = outset.perhaps is_variable
stood standing.Nothing = outset.nothing

abbrev pub lent_names : List (Bor Name) → List Name
lent_names names = map (λ (name : Bor Name). name.now) names

-- the names that were found
abbrev pub names_found : Found → List Name
names_found found = lent_names found.names.keys
