use Rattle.std.proofs.Common.{◌≡◌, ◌||◌, ◌-◌, ℕ, take}
use Rattle.group_tree.specs.Names.{Name}
use Rattle.command_preview.specs.Unsure.{is_registered}
use Rattle.command_preview.specs.Holes.{is_kept_before}
use Rattle.command_preview.proofs.holes.Holes.add_all.Given as goal

abbrev pub invariant-loop-place : goal.invariant-loop-place
invariant-loop-place l =
    (count : ℕ) (name : Name)
    → is_kept_before l.self.names count name ≡ (is_kept_before l.initial.self.names count name || is_registered (take (count - l.since) (take l.place l.steps)) name)
