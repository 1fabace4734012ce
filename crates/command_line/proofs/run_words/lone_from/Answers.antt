use Rattle.std.proofs.Common.{map, string_bytes, sym, ap, ◌∙◌, Some, None}
use Rattle.std.specs.Option.{option_map}
use Rattle.command_line.specs.Runs.{one_and_value, without_option}
use Rattle.command_line.proofs.RunWordsLemmas.{alone, left_behind, not_alone}
use Rattle.command_line.proofs.run_words.lone_from.Goals as goal

pub returns-then-not-is_operand : goal.returns-then-not-is_operand
returns-then-not-is_operand c =
    let first = string_bytes c.args.first.now in
    let rest = map string_bytes c.args.rest.now in
    let inside = sym c.is_word.ensures ∙ c.if-is_word.false in
    let plain = sym c.is_operand.ensures ∙ c.if-not-is_operand.true in
    not_alone first (without_option rest).0 (without_option rest).1 inside plain ∙ ap one_and_value (sym (left_behind first rest (sym c.in_default.ensures) inside))

pub returns-in_err-value : goal.returns-in_err-value
returns-in_err-value c =
    let first = string_bytes c.args.first.now in
    let rest = map string_bytes c.args.rest.now in
    let inside = sym c.is_word.ensures ∙ c.if-is_word.false in
    let plain = sym c.is_operand.ensures ∙ c.if-not-is_operand.false in
    rw c.from_residual-in_err-value.ensures
    (alone first (without_option rest).0 (without_option rest).1 None plain c.in_err-value.ensures ∙ ap one_and_value (sym (left_behind first rest (sym c.in_default.ensures) inside)))

pub returns : goal.returns
returns c =
    let first = string_bytes c.args.first.now in
    let rest = map string_bytes c.args.rest.now in
    let inside = sym c.is_word.ensures ∙ c.if-is_word.false in
    let plain = sym c.is_operand.ensures ∙ c.if-not-is_operand.false in
    rw c.as_str.ensures.value
    (alone first (without_option rest).0 (without_option rest).1 (Some (option_map (λ s. s.now) c.in_ok-value.value)) plain c.in_ok-value.ensures
    ∙ ap one_and_value (sym (left_behind first rest (sym c.in_default.ensures) inside)))
