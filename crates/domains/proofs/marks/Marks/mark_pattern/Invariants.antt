use Rattle.std.proofs.Common.{◌≡◌, ℕ, ◌<◌, ◌||◌, false, length, get_or}
use denote.Text.{Utf8}
use denote.Shadow.{shadow}
use Rattle.std.specs.List.{list_any, find}
use Rattle.text_syntax.specs.Patterns.{parts_of}
use Rattle.domains.specs.Patterns.{AreFlags, is_named_by, names_nothing}
use Rattle.domains.proofs.marks.Marks.mark_pattern.Given as goal

abbrev pub invariant-loop-part : goal.invariant-loop-part
invariant-loop-part l =
    shadow (Utf8 l.rest) × AreFlags l.fleet l.self.groups.items l.self.hosts.items
    × ((host : ℕ) → host < length l.fleet.hosts
    → (get_or l.self.hosts.items host false || list_any (is_named_by l.fleet host) (parts_of l.rest))
    ≡ (get_or l.initial.self.hosts.items host false || list_any (is_named_by l.fleet host) (parts_of l.pattern)))
    × (find (names_nothing l.fleet) (parts_of l.pattern) ≡ find (names_nothing l.fleet) (parts_of l.rest))

abbrev pub decreases-loop-part : goal.decreases-loop-part
decreases-loop-part l = length l.rest
