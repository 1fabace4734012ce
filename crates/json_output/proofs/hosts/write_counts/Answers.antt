use Rattle.std.proofs.Common.{◌≡◌, ℕ, ◌++◌, List, codes, refl, ap, ◌∙◌, subst}
use Rattle.bounded_io.specs.Writing.{Writes}
use Rattle.bounded_io.proofs.Pieces.{writes_five}
use Rattle.recap.specs.LimitsText.{field_text}
use Rattle.json_output.specs.PlayJson.{counts_json}
use Rattle.json_output.proofs.hosts.write_counts.Goals as goal

pub returns : goal.returns
returns g c =
    let counts = c.args.counts in
    let made : ℕ → ℕ → ℕ → ℕ → ℕ → List ℕ =
    λ ok changed failed skipped ignored.
    field_text (codes ",\"ok\":") ok
    ++ (field_text (codes ",\"changed\":") changed
    ++ (field_text (codes ",\"failed\":") failed ++ (field_text (codes ",\"skipped\":") skipped ++ field_text (codes ",\"ignored\":") ignored))) in
    let written : Writes g.W.Write.contents c.args.text.now c.write_field-5.new.text (made c.from.result c.from-2.result c.from-3.result c.from-4.result c.from-5.result) =
    writes_five _ c.args.text.now c.write_field.new.text c.write_field-2.new.text c.write_field-3.new.text c.write_field-4.new.text c.write_field-5.new.text _ _ _ _ _ _
    c.write_field.ensures c.write_field-2.ensures c.write_field-3.ensures c.write_field-4.ensures c.write_field-5.ensures refl in
    let same : made c.from.result c.from-2.result c.from-3.result c.from-4.result c.from-5.result ≡ counts_json counts =
    ap (λ n. made n c.from-2.result c.from-3.result c.from-4.result c.from-5.result) c.from.ensures
    ∙ ap (λ n. made counts.ok n c.from-3.result c.from-4.result c.from-5.result) c.from-2.ensures
    ∙ ap (λ n. made counts.ok counts.changed n c.from-4.result c.from-5.result) c.from-3.ensures
    ∙ ap (λ n. made counts.ok counts.changed counts.failed n c.from-5.result) c.from-4.ensures
    ∙ ap (made counts.ok counts.changed counts.failed counts.skipped) c.from-5.ensures in
    subst (λ (l : List ℕ). Writes g.W.Write.contents c.args.text.now c.write_field-5.new.text l) same written
