use Rattle.std.proofs.Common.{ap, sym, ◌∙◌, string_bytes, is_some}
use Rattle.std.specs.Option.{option_and_then}
use Rattle.std.specs.Arc.{arc_value}
use Rattle.std.specs.Str.{bytes_eq}
use Rattle.play_model.specs.Registers.{stands_in, number_in}
use Rattle.play_model.proofs.ListLemmas.{is_found}
use Rattle.play_model.proofs.results.Results.shared_names.Goals as goal

pub returns-in-Some : goal.returns-in-Some
returns-in-Some c =
    λ name.
    ap (stands_in name) (c.names.ensures ∙ ap (λ registers. registers.names.keys) c.deref.ensures)
    ∙ sym (is_found (λ key. bytes_eq name (string_bytes key)) (arc_value c.in-Some.registers).names.keys)
    ∙ ap (λ r. is_some (option_and_then (λ registers. number_in (arc_value registers) name) r)) (sym c.in-Some.is)
