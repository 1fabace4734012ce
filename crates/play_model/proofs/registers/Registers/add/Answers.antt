use Rattle.std.proofs.Common.{◌≡◌, ◌||◌, Bool, true, false, cond, string_bytes, subst, refl, ◌∙◌}
use Rattle.std.specs.Str.{bytes_eq}
use Rattle.std.proofs.lemmas.Map.Text.{hash_set_updates_text}
use Rattle.std.proofs.lemmas.Result.{IfOk-at_ok}
use Rattle.group_tree.specs.Names.{Name}
use Rattle.play_model.specs.Registers.{is_register}
use Rattle.play_model.specs.declared.registers.Registers.{Registers}
use Rattle.play_model.proofs.registers.Registers.add.Goals as goal

either : (a b : Bool) → cond a true b ≡ (a || b)
either true b = refl
either false b = refl

-- the new names are the old ones and this one
abbrev Adds : Registers → Registers → Name → Type 0
Adds old new name = (other : Name) → is_register new other ≡ (bytes_eq name other || is_register old other)

pub returns-clause-added : goal.returns-clause-added
returns-clause-added c =
    let is_name = IfOk-at_ok (λ s. string_bytes s ≡ c.args.name.now) c.in_ok-name.was c.from_str.ensures.ok in
    let old = c.args.self.now in
    let new : Registers = record { names = c.insert.new.self } in
    let own = string_bytes c.in_ok-name.name in
    let added : Adds old new own = λ other.
    hash_set_updates_text own old.names new.names true c.in_ok-insert.ensures.updates other
    ∙ either (bytes_eq own other) (is_register old other) in
    subst (Adds old new) is_name added
