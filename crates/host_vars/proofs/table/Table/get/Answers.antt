use Rattle.std.proofs.Common.{◌≡◌, ℕ, ◌-◌, true, Some, List, length, take, ap, sym, subst, ◌∙◌, arith}
use Rattle.group_tree.specs.Names.{same_name}
use Rattle.group_tree.specs.Variables.{value_of}
use Rattle.host_vars.specs.Entries.{entry_name, entry_variable, entry_variables, AreOrdered}
use Rattle.host_vars.specs.declared.entry.Entry.{Entry}
use Rattle.host_vars.proofs.TableLemmas.{names_rise, no_front, last_named, last_other}
use Rattle.host_vars.proofs.table.Table.get.Goals.{in_default-via-in-Some+else-eq, in_default-via-in_default}
use Rattle.host_vars.proofs.table.Table.get.Goals as goal

pub returns-in-Some : goal.returns-in-Some
returns-in-Some c =
    let entries = c.as_slice-entries.result.now in
    let name = c.args.name.now in
    let past = c.count_up_to-past.result in
    let entry = c.in-Some.entry.now in
    let got = c.in-Some.ensures.item in
    let ordered : AreOrdered entries = subst (λ (l : List Entry). AreOrdered l) (sym c.as_slice-entries.ensures.value) c.args.self.now.ordered in
    let named : same_name name (entry_name entry) ≡ true = ap (same_name name) (sym c.as_str.ensures.value) ∙ sym c.if-eq.ensures in
    let rises = names_rise entry_name name entries ordered in
    let last = last_named entry_variable name entries past rises c.count_up_to-past.ensures.point entry (length (take past entries) - 1) (omega (arith, got.3.0)) got.1 named in
    ap Some c.lend.ensures ∙ sym last ∙ ap (λ (l : List Entry). value_of name (entry_variables l)) c.as_slice-entries.ensures.value

pub returns-in_default : goal.returns-in_default
returns-in_default c =
    let entries = c.as_slice-entries.result.now in
    let name = c.args.name.now in
    let past = c.count_up_to-past.result in
    let ordered : AreOrdered entries = subst (λ (l : List Entry). AreOrdered l) (sym c.as_slice-entries.ensures.value) c.args.self.now.ordered in
    let rises = names_rise entry_name name entries ordered in
    let point = c.count_up_to-past.ensures.point in
    let same = ap (λ (l : List Entry). value_of name (entry_variables l)) c.as_slice-entries.ensures.value in
    let last : ℕ = length (take past entries) - 1 in
    elim c.in_default.branch [
      | in_default-via-in-Some+else-eq w ↦
          let other = ap (same_name name) (sym w.as_str.ensures.value) ∙ sym w.if-eq.ensures in
          let item = w.in-Some.ensures.item in
          sym (last_other entry_variable name entries past rises point w.in-Some.entry.now last (omega (arith, item.3.0)) item.1 other) ∙ same
      | in_default-via-in_default w ↦ sym (no_front entry_variable name entries past rises point (omega (arith, w.in_default.ensures.item.3))) ∙ same
    ]
