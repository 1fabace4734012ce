-- The key that more than one format gives a meaning.
use Rattle.std.specs.Prelude.{ℕ, List, codes}

abbrev pub hosts_key : List ℕ
hosts_key = codes "hosts"
