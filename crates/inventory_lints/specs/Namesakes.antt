-- Whether there is a group.
use Rattle.std.specs.Prelude.{Bool, is_some, List, position}
use Rattle.group_tree.specs.Names.{Name, same_name}

-- one of the groups has the name
abbrev pub is_group : List Name → Name → Bool
is_group groups name = is_some (position (same_name name) groups)
