use Rattle.std.proofs.Common.{◌≡◌, ◌&&◌, ◌||◌, nat_lt, string_bytes, sym, ap, ◌∙◌}
use Rattle.std.specs.Prelude.{option_map, true, false}
use Rattle.group_tree.specs.Names.{Name, same_name}
use Rattle.host_track.specs.Hosts.{is_called}
use Rattle.undefined_names.specs.Places.{is_kept_before}
use Rattle.undefined_names.proofs.Keeping.{put, stays}
use Rattle.undefined_names.proofs.places.Places.add.Goals as goal

pub returns-in_ok-insert : goal.returns-in_ok-insert
returns-in_ok-insert c =
    λ count name.
    let old = c.args.self.now.names in
    let key = c.as_str-then-not-has.result.now in
    let named : c.as_str.result.now ≡ key = c.as_str.ensures.value ∙ sym c.as_str-then-not-has.ensures.value in
    let none : is_kept_before old c.args.place key ≡ false = sym (c.has.ensures ∙ ap (is_kept_before old c.args.place) named) ∙ c.if-not-has.true in
    let called : same_name key name ≡ is_called (option_map string_bytes c.args.step.now.register) name =
    ap (λ (k : Name). same_name k name) c.as_str-then-not-has.ensures.value ∙ sym (ap (λ r. is_called (option_map string_bytes r) name) c.in-Some.is) in
    put old c.insert.new.self key c.args.place c.in_ok-insert.ensures.updates count name none
    ∙ ap (λ b. is_kept_before old count name || (nat_lt c.args.place count && b)) called

pub returns-else-not-has : goal.returns-else-not-has
returns-else-not-has c =
    λ count name.
    let old = c.args.self.now.names in
    let key = c.as_str.result.now in
    let there : is_kept_before old c.args.place key ≡ true = sym c.has.ensures ∙ c.if-not-has.false in
    let called : same_name key name ≡ is_called (option_map string_bytes c.args.step.now.register) name =
    ap (λ (k : Name). same_name k name) c.as_str.ensures.value ∙ sym (ap (λ r. is_called (option_map string_bytes r) name) c.in-Some.is) in
    stays old key c.args.place count name there ∙ ap (λ b. is_kept_before old count name || (nat_lt c.args.place count && b)) called
