use Rattle.std.proofs.Common.{◌≡◌, ℕ, ◌+◌, ◌++◌, length, flat_map, sym, ap, ◌∙◌, arith}
use Rattle.bounded_io.proofs.WritingLemmas.{writes_two}
use Rattle.recap.specs.LimitsText.{line_text, totals_text, table_text}
use Rattle.recap.specs.LimitsTable.{line_with, lines_with, table_with}
use Rattle.recap.specs.Moments.{down_then}
use Rattle.recap.proofs.LimitsLemmas.{lines_text-more, lines_count-more, one_line_at_most}
use Rattle.recap.proofs.limits.write_table.Goals as goal

pub loop-index-preserved : goal.loop-index-preserved
loop-index-preserved g c =
    let fleet = c.args.fleet.now in
    let downs : ℕ → ℕ = down_then fleet c.args.moment.now in
    let index = c.loop-index.index in
    let count = c.write_group-limited.ensures.limited in (
      writes_two _ c.args.text.now c.loop-index.text c.write_group-limited.new.text _ _ _ c.loop-index.invariant.0 c.write_group-limited.ensures.writes (lines_text-more fleet downs index),
      ap (λ n. n + c.write_group-limited.result) c.loop-index.invariant.1 ∙ ap (λ n. length (lines_with fleet downs index) + n) count ∙ sym (lines_count-more fleet downs index),
      omega (arith, one_line_at_most (line_with fleet (downs index) index), count, c.loop-index.invariant.2),
    )

pub returns : goal.returns
returns g c =
    let fleet = c.args.fleet.now in
    let downs : ℕ → ℕ = down_then fleet c.args.moment.now in
    let all : c.loop-index.index ≡ length fleet.groups = omega (arith, c.groups-index-end.ensures, c.loop-index.auto.index-end, c.loop-index-test.false) in
    let lines = flat_map line_text (lines_with fleet downs c.loop-index.index) in
    let hosts = ap (λ n. lines ++ totals_text n c.loop-index.limited) c.hosts.ensures.count in
    let limited = ap (λ n. lines ++ totals_text (length fleet.hosts) n) c.loop-index.invariant.1 in
    let groups = ap (λ n. table_text (lines_with fleet downs n) (length fleet.hosts)) all in
    let whole : lines ++ totals_text c.hosts.result c.loop-index.limited ≡ table_with fleet downs = hosts ∙ limited ∙ groups in
    writes_two _ c.args.text.now c.loop-index.text c.write_totals.new.text _ _ _ c.loop-index.invariant.0 c.write_totals.ensures whole
