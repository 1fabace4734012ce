use Rattle.std.proofs.Common.{◌≡◌, ◌-◌, ◌++◌, length, length-append, append_assoc, sym, ap, ◌∙◌, arith}
use Rattle.bounded_io.proofs.Pieces.{writes_three}
use Rattle.occupancy_table.specs.TableText.{blanks, leftwards}
use Rattle.occupancy_table.proofs.padding.write_left.Goals as goal

pub returns : goal.returns
returns g c =
    let word = c.args.word.now in
    let mark = c.args.mark.now in
    let left : c.saturating_sub-2.result ≡ c.args.width - length (word ++ mark) = omega (arith, c.saturating_sub.ensures, c.saturating_sub-2.ensures, length-append word mark) in
    let whole : word ++ (mark ++ blanks c.saturating_sub-2.result) ≡ leftwards c.args.width (word ++ mark) = sym (append_assoc word mark (blanks c.saturating_sub-2.result))
    ∙ ap (λ n. (word ++ mark) ++ blanks n) left in
    writes_three _ c.args.text.now c.write_str.new.self c.write_str-2.new.self c.write_blanks.new.text word mark (blanks c.saturating_sub-2.result) _ c.write_str.ensures c.write_str-2.ensures
    c.write_blanks.ensures whole
