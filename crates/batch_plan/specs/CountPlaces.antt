-- What a host counts as.
use Rattle.std.specs.Prelude.{Bool, true, false}
use Rattle.batch_plan.specs.declared.place.Place.{Place}
use Rattle.batch_plan.specs.declared.place.Place.TheVariants.{Up, Waits, Down}

abbrev pub waits : Place → Bool
waits Waits = true
waits Up = false
waits Down = false

abbrev pub is_down : Place → Bool
is_down Down = true
is_down Up = false
is_down Waits = false
