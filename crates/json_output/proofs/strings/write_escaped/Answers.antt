use Rattle.std.proofs.Common.{List, ℕ, subst, sym}
use Rattle.std.proofs.lemmas.List.Folds.{flat_map-map}
use Rattle.bounded_io.specs.Writing.{Writes}
use Rattle.recap.specs.Printable.{printable}
use Rattle.json_output.specs.Strings.{escaped}
use Rattle.json_output.proofs.strings.write_escaped.Goals as goal

pub returns : goal.returns
returns g c =
    subst (λ (text : List ℕ). Writes g.W.Write.contents c.args.text.now c.write_each_escaped.new.text text) (sym (flat_map-map escaped printable c.args.bytes.now)) c.write_each_escaped.ensures
