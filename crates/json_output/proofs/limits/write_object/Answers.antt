use Rattle.std.proofs.Common.{ℕ, codes, refl, subst}
use Rattle.bounded_io.specs.Writing.{Writes}
use Rattle.bounded_io.proofs.Pieces.{writes_five}
use Rattle.recap.specs.LimitsText.{field_text}
use Rattle.json_output.proofs.limits.write_object.Goals as goal

pub returns : goal.returns
returns g c =
    let hosts = subst (λ (n : ℕ). Writes g.W.Write.contents c.write_array-limited.new.text c.write_field.new.text (field_text (codes ",\"hosts\":") n)) c.hosts.ensures.count c.write_field.ensures in
    let limited = subst (λ (n : ℕ). Writes g.W.Write.contents c.write_field.new.text c.write_field-2.new.text (field_text (codes ",\"limited\":") n)) c.write_array-limited.ensures.limited c.write_field-2.ensures in
    writes_five _ c.args.text.now c.write_str.new.self c.write_array-limited.new.text c.write_field.new.text c.write_field-2.new.text c.write_str-2.new.self _ _ _ _ _ _
    c.write_str.ensures c.write_array-limited.ensures.writes hosts limited c.write_str-2.ensures refl
