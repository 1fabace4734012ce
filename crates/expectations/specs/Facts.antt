-- The numbers of the table of limits and of a plan, and the first expectation that they don't meet.
use Rattle.std.specs.Prelude.{ℕ, Bool, false, not, nat_eq, nat_le, codes, is_some, Option}
use Rattle.std.specs.Prelude.{Some, None, option_and_then, option_map, position, List, length, count_by, slice_index_or, if◌then◌else◌}
use Rattle.std.specs.List.{find}
use Rattle.group_tree.specs.Names.{Name, same_name}
use Rattle.domains.specs.FleetViews.{FleetView}
use Rattle.batch_plan.specs.declared.answers.Answer.{Answer}
use Rattle.batch_plan.specs.declared.answers.Answer.TheVariants.{Planned, Blocked}
use Rattle.expectations.specs.Lists.{Expectation}
use Rattle.expectations.specs.declared.expectation.Relation.{Relation}
use Rattle.expectations.specs.declared.expectation.Relation.TheVariants.{Equal, AtMost}

-- how many groups have a limit
abbrev pub limited_count : FleetView → ℕ
limited_count fleet = count_by is_some fleet.limits

-- the limit of the group of this name, where there is one and it has a limit
abbrev pub limit_named : FleetView → Name → Option ℕ
limit_named fleet name =
    option_and_then (λ group. slice_index_or fleet.limits group None) (position (same_name name) fleet.groups)

-- `hosts` and `limited` are the numbers of the table's last line, whatever groups there are; another name is a group's, and stands for its limit
abbrev pub number_in_table : FleetView → Name → Option ℕ
number_in_table fleet name =
    if same_name name (codes "hosts") then Some (length fleet.hosts)
    else (if same_name name (codes "limited") then Some (limited_count fleet) else limit_named fleet name)

abbrev pub batch_count : Answer → Option ℕ
batch_count (Planned plan) = Some (length plan.batches)
batch_count (Blocked group waiting) = None

-- `batches` is the number of a plan's batches; a plan that is blocked has none
abbrev pub number_in_plan : Answer → Name → Option ℕ
number_in_plan answer name = if same_name name (codes "batches") then batch_count answer else None

abbrev pub holds : Relation → ℕ → ℕ → Bool
holds Equal expected found = nat_eq found expected
holds AtMost expected found = nat_le found expected

-- there is a number, and it is as expected
abbrev pub is_met : Expectation → Option ℕ → Bool
is_met expectation None = false
is_met expectation (Some found) = holds expectation.relation expectation.number found

-- an expectation, and the number that stands there, if one does
pub record Unmet : Type 0 where
  pub expectation : Expectation
  pub found : Option ℕ

abbrev pub unmet_by : (Name → Option ℕ) → Expectation → Unmet
unmet_by facts expectation = record { expectation = expectation; found = facts expectation.name }

-- the first expectation that isn't met
abbrev pub first_unmet : (Name → Option ℕ) → List Expectation → Option Unmet
first_unmet facts expectations =
    option_map (unmet_by facts) (find (λ expectation. not (is_met expectation (facts expectation.name))) expectations)
