use Rattle.std.proofs.Common.{ℕ, codes, refl, subst}
use Rattle.bounded_io.specs.Writing.{Writes}
use Rattle.bounded_io.proofs.Pieces.{writes_seven}
use Rattle.recap.specs.LimitsText.{field_text}
use Rattle.json_output.proofs.limits.write_limit.Goals as goal

pub returns : goal.returns
returns g c =
    let room = subst (λ (n : ℕ). Writes g.W.Write.contents c.write_field-3.new.text c.write_field-4.new.text (field_text (codes ",\"room\":") n)) c.saturating_sub.ensures c.write_field-4.ensures in
    writes_seven _ c.args.text.now c.write_str.new.self c.write_quoted.new.text c.write_field.new.text c.write_field-2.new.text c.write_field-3.new.text c.write_field-4.new.text c.write_str-2.new.self
    _ _ _ _ _ _ _ _ c.write_str.ensures c.write_quoted.ensures c.write_field.ensures c.write_field-2.ensures c.write_field-3.ensures room c.write_str-2.ensures refl
