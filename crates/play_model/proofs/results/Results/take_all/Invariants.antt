use Rattle.std.proofs.Common.{◌≡◌, ◌||◌, Bool, None, IsTrue, cond, take}
use Rattle.group_tree.specs.Names.{Name}
use Rattle.play_model.specs.Registers.{stands_in}
use Rattle.play_model.specs.Results.{has_place, result_of}
use Rattle.play_model.proofs.results.Results.take_all.Given as goal

abbrev pub invariant-loop-name : goal.invariant-loop-name
invariant-loop-name l =
    record {
      places : (other : Name) → IsTrue (has_place l.initial.self other) → IsTrue (has_place l.self other);
      results : (taken : Name → Bool) → ((other : Name) → result_of l.initial.self other ≡ cond (taken other) (result_of l.from other) None) → (other : Name) → result_of l.self other ≡ cond (stands_in other (take l.name-index l.names) || taken other) (result_of l.from other) None;
    }
