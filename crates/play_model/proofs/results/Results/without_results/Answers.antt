use Rattle.std.proofs.Common.{None, length, replicate, string_bytes, ap, ◌∙◌, is_some}
use Rattle.std.specs.Arc.{arc_value}
use Rattle.std.specs.List.{slice_get}
use Rattle.std.specs.Map.{lookup}
use Rattle.std.specs.Option.{option_and_then}
use Rattle.std.specs.Str.{bytes_eq}
use Rattle.play_model.specs.Registers.{number_in, is_register}
use Rattle.play_model.proofs.BeginLemmas.{free_place, free_alone, is_free, free_result}
use Rattle.play_model.proofs.PlaceLemmas.{result}
use Rattle.play_model.proofs.results.Results.without_results.Goals as goal

pub returns-clause-places : goal.returns-clause-places
returns-clause-places c =
    λ name.
    let registers = arc_value c.args.registers.now in
    let rows = c.in_ok-rows.rows.items in
    let are = c.in_ok-rows.ensures ∙ ap (λ names. replicate (length names) None) (c.names.ensures ∙ ap (λ r. r.names.keys) c.deref.ensures) in
    let free = ap (λ r. option_and_then (slice_get rows) (number_in r name)) c.in_ok-registers.ensures ∙ free_place (λ key. bytes_eq name (string_bytes key)) registers.names.keys rows are in
    let none = ap (λ entries. lookup (λ key. bytes_eq name (string_bytes key)) entries) c.new.ensures.empty in
    ap is_some (free_alone _ _ (is_register registers name) free none) ∙ is_free (is_register registers name)

pub returns-clause-results : goal.returns-clause-results
returns-clause-results c =
    λ name.
    let registers = arc_value c.args.registers.now in
    let rows = c.in_ok-rows.rows.items in
    let are = c.in_ok-rows.ensures ∙ ap (λ names. replicate (length names) None) (c.names.ensures ∙ ap (λ r. r.names.keys) c.deref.ensures) in
    let free = ap (λ r. option_and_then (slice_get rows) (number_in r name)) c.in_ok-registers.ensures ∙ free_place (λ key. bytes_eq name (string_bytes key)) registers.names.keys rows are in
    let none = ap (λ entries. lookup (λ key. bytes_eq name (string_bytes key)) entries) c.new.ensures.empty in
    ap result (free_alone _ _ (is_register registers name) free none) ∙ free_result (is_register registers name)
