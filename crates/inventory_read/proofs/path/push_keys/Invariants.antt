use Rattle.std.proofs.Common.{◌≡◌, ◌++◌, take}
use Rattle.std.specs.String.{string_bytes}
use Rattle.inventory_read.specs.Listings.{texts}
use Rattle.inventory_read.specs.Paths.{keys_text}
use Rattle.inventory_read.proofs.path.push_keys.Given as goal

abbrev pub invariant-loop-key : goal.invariant-loop-key
invariant-loop-key l =
    string_bytes l.path ≡ string_bytes l.initial.path ++ keys_text (texts (take l.key-index l.keys))
