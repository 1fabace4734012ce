use Rattle.std.proofs.Common.{rules, List, ap, ◌∙◌}
use Rattle.std.proofs.lemmas.Fn.{always_returns_same}
use Rattle.group_tree.specs.Names.{Name}
use Rattle.group_tree.specs.Variables.{value_of}
use Rattle.host_vars.specs.Entries.{entry_name, entry_variable, entry_variables, is_before}
use Rattle.host_vars.specs.declared.entry.Entry.{Entry}
use Rattle.host_vars.proofs.TableLemmas.{names_order, sorted_values}
use Rattle.host_vars.proofs.table.Table.of.Goals as goal

pub invariant_of-result : goal.invariant_of-result
invariant_of-result c =
    record {
      ordered = c.in_ok-sort_by.ensures.sorted is_before (names_order entry_name) (always_returns_same _ _ _ (λ a r f k. search rules));
    }

pub returns : goal.returns
returns c =
    let fitted = c.shrink_to_fit.new.self.items in
    let sorted = c.sort_by.new.self.items in
    let stable = c.sort_by.ensures.stable is_before (names_order entry_name) (always_returns_same _ _ _ (λ a r f k. search rules)) in
    λ (name : Name).
    sorted_values entry_variable name fitted sorted stable ∙ ap (λ (l : List Entry). value_of name (entry_variables l)) c.shrink_to_fit.ensures.items
