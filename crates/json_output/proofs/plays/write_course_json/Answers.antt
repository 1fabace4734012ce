use Rattle.std.proofs.Common.{ℕ, refl, subst}
use Rattle.bounded_io.specs.Writing.{Writes}
use Rattle.bounded_io.proofs.Pieces.{writes_six}
use Rattle.json_output.specs.PlayJson.{boundaries_json}
use Rattle.json_output.proofs.plays.write_course_json.Goals as goal

pub returns : goal.returns
returns g c =
    let boundaries = subst (λ (n : ℕ). Writes g.W.Write.contents c.write_str.new.self c.write_boundaries.new.text (boundaries_json c.args.fleet.now n c.args.boundaries.now)) c.saturating_sub.ensures c.write_boundaries.ensures in
    writes_six _ c.args.text.now c.write_field.new.text c.write_str.new.self c.write_boundaries.new.text c.write_str-2.new.self c.write_ended.new.text c.write_str-3.new.self _ _ _ _ _ _ _
    c.write_field.ensures c.write_str.ensures boundaries c.write_str-2.ensures c.write_ended.ensures c.write_str-3.ensures refl
