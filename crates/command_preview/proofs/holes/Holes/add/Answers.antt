use Rattle.std.proofs.Common.{◌≡◌, ◌&&◌, ◌||◌, nat_lt, string_bytes, sym, ap, ◌∙◌}
use Rattle.std.specs.Prelude.{option_map, true, false}
use Rattle.group_tree.specs.Names.{Name, same_name}
use Rattle.host_track.specs.Hosts.{is_called}
use Rattle.command_preview.specs.Holes.{is_kept_before, hole_texts}
use Rattle.command_preview.specs.declared.hole.Hole.{Hole}
use Rattle.command_preview.proofs.Keeping.{put, stays, texts_kept}
use Rattle.command_preview.proofs.holes.Holes.add.Goals as goal

pub invariant_of-self : goal.invariant_of-self
invariant_of-self c =
    let old = c.args.self.now.names in
    let hole : Hole = record { since = c.args.since; texts = c.in_ok-texts.texts } in
    let named : c.as_str-then-not-has.result.now ≡ c.as_str-then-not-has-2.result.now = c.as_str-then-not-has.ensures.value ∙ sym c.as_str-then-not-has-2.ensures.value in
    record {
      are =
          texts_kept old c.insert.new.self c.as_str-then-not-has-2.result.now hole c.insert.result c.args.self.now.are (c.in_ok-texts.ensures ∙ ap hole_texts named)
          c.insert.ensures.updates c.insert.ensures.err;
    }

pub returns-in_ok-insert : goal.returns-in_ok-insert
returns-in_ok-insert c =
    λ count name.
    let old = c.args.self.now.names in
    let key = c.as_str-then-not-has-2.result.now in
    let hole : Hole = record { since = c.args.since; texts = c.in_ok-texts.texts } in
    let named : c.as_str.result.now ≡ key = c.as_str.ensures.value ∙ sym c.as_str-then-not-has-2.ensures.value in
    let none : is_kept_before old c.args.since key ≡ false = sym (c.has.ensures ∙ ap (is_kept_before old c.args.since) named) ∙ c.if-not-has.true in
    let called : same_name key name ≡ is_called (option_map string_bytes c.args.step.now.register) name =
    ap (λ (k : Name). same_name k name) c.as_str-then-not-has-2.ensures.value ∙ sym (ap (λ r. is_called (option_map string_bytes r) name) c.in-Some.is) in
    put old c.insert.new.self key hole c.in_ok-insert.ensures.updates count name none
    ∙ ap (λ b. is_kept_before old count name || (nat_lt c.args.since count && b)) called

pub returns-else-not-has : goal.returns-else-not-has
returns-else-not-has c =
    λ count name.
    let old = c.args.self.now.names in
    let key = c.as_str.result.now in
    let there : is_kept_before old c.args.since key ≡ true = sym c.has.ensures ∙ c.if-not-has.false in
    let called : same_name key name ≡ is_called (option_map string_bytes c.args.step.now.register) name =
    ap (λ (k : Name). same_name k name) c.as_str.ensures.value ∙ sym (ap (λ r. is_called (option_map string_bytes r) name) c.in-Some.is) in
    stays old key c.args.since count name there ∙ ap (λ b. is_kept_before old count name || (nat_lt c.args.since count && b)) called
