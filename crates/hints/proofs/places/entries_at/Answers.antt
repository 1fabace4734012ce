use Rattle.std.proofs.Common.{ℕ, ◌+◌, ◌≤◌, Option, Some, None, IfSome, sym, arith}
use Rattle.serde_json.specs.Data.{members_depth}
use Rattle.serde_json.specs.View.{view, members_view}
use Rattle.inventory_read.proofs.Depths.{depth-get}
use Rattle.hints.proofs.places.entries_at.Goals as goal

deeper : {T : Type 0} (size : T → ℕ) (found : Option T) (part whole : ℕ) → part + 1 ≤ whole → IfSome found (λ m. size m + 1 ≤ part) → IfSome found (λ m. size m + 2 ≤ whole)
deeper size None part whole below is = tt
deeper size (Some m) part whole below is = omega arith

pub returns-in-Some : goal.returns-in-Some
returns-in-Some c = record {
  shallower =
      deeper (λ m. members_depth (members_view m.now.entries)) c.entries_of.result _ _
      (depth-get c.args.key.now (view c.args.value.now) (view c.in-Some.part.now) (sym c.in-Some.ensures)) c.entries_of.ensures.shallower;
}
