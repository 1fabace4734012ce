use Rattle.std.proofs.Common.{◌≡◌, ◌++◌, drop, string_bytes}
use Rattle.std.specs.List.{flat_map}
use Rattle.playbook_schema.specs.Settings.{behind_comma}
use Rattle.playbook_schema.specs.Verdicts.{lent_texts}
use Rattle.playbook_schema.proofs.pattern.continued.Given as goal

abbrev pub invariant-loop-text : goal.invariant-loop-text
invariant-loop-text l =
    string_bytes l.pattern ++ flat_map behind_comma (lent_texts (drop l.text-index l.texts)) ≡ string_bytes l.initial.pattern ++ flat_map behind_comma (lent_texts l.texts)
