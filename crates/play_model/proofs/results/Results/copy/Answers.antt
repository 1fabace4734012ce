use Rattle.std.proofs.Common.{ap, sym, ◌∙◌, string_bytes, is_some, Result, Ok, Err}
use Rattle.std.specs.Result.{IfOk}
use Rattle.std.specs.Option.{option_and_then}
use Rattle.std.specs.Arc.{arc_value}
use Rattle.std.specs.Str.{bytes_eq}
use Rattle.play_model.specs.Registers.{number_in}
use Rattle.play_model.proofs.ListLemmas.{is_found}
use Rattle.play_model.proofs.results.Results.copy.Goals as goal

on_ok : {T E : Type 0} {P Q : T → Type 0} (r : Result T E) → ((v : T) → P v → Q v) → IfOk r P → IfOk r Q
on_ok (Ok v) more p = more v p
on_ok (Err e) more p = p

pub returns-in-Some-clause-places : goal.returns-in-Some-clause-places
returns-in-Some-clause-places c =
    on_ok c.begin_play.result
    (λ copy places name there.
    places name (sym (is_found (λ key. bytes_eq name (string_bytes key)) (arc_value c.in-Some.registers).names.keys) ∙ ap (λ r. is_some (option_and_then (λ registers. number_in (arc_value registers) name) r)) (sym c.in-Some.is) ∙ there))
    c.begin_play.ensures.places
