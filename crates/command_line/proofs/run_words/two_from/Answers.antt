use Rattle.std.proofs.Common.{map, string_bytes, sym, ap, ◌∙◌, Some, None}
use Rattle.std.specs.Option.{option_map}
use Rattle.command_line.specs.Runs.{two_and_value, without_option}
use Rattle.command_line.proofs.RunWordsLemmas.{first_of_two, left_behind}
use Rattle.command_line.proofs.run_words.two_from.Goals as goal

pub returns-in_err-second : goal.returns-in_err-second
returns-in_err-second c =
    let first = string_bytes c.args.first.now in
    let rest = map string_bytes c.args.rest.now in
    let inside = sym c.is_word.ensures ∙ c.if-is_word.false in
    let plain = sym c.is_operand.ensures ∙ c.if-not-is_operand.false in
    rw c.from_residual-in_err-second.ensures (first_of_two first (without_option rest) None plain c.in_err-second.ensures ∙ ap two_and_value (sym (left_behind first rest (sym c.in_default.ensures) inside)))

pub returns : goal.returns
returns c =
    let first = string_bytes c.args.first.now in
    let rest = map string_bytes c.args.rest.now in
    let inside = sym c.is_word.ensures ∙ c.if-is_word.false in
    let plain = sym c.is_operand.ensures ∙ c.if-not-is_operand.false in
    rw c.as_str.ensures.value
    (first_of_two first (without_option rest) (Some (c.in_ok-second.second.now, option_map (λ s. s.now) c.in_ok-second.value)) plain c.in_ok-second.ensures
    ∙ ap two_and_value (sym (left_behind first rest (sym c.in_default.ensures) inside)))
