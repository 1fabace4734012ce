use Rattle.std.proofs.Common.{◌≡◌, ℕ, ◌<◌, false}
use Rattle.fleet_states.specs.Groups.{group_at, groups_of, is_over}
use Rattle.resume_state.proofs.over.first_over.Given as goal

abbrev pub invariant-loop-index : goal.invariant-loop-index
invariant-loop-index l = (earlier : ℕ) → earlier < l.index → is_over l.statuses (group_at (groups_of l.fleet) earlier) ≡ false
