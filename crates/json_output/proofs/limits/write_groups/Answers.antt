use Rattle.std.proofs.Common.{◌≡◌, ℕ, ◌+◌, ◌++◌, Option, List, length, is_some, sym, ap, ◌∙◌, subst, arith}
use Rattle.bounded_io.specs.Writing.{Writes}
use Rattle.bounded_io.proofs.WritingLemmas.{writes_two}
use Rattle.domains.specs.FleetViews.{down_at_start}
use Rattle.recap.specs.LimitsTable.{fleet_line, lines_with}
use Rattle.recap.specs.LimitsText.{LimitLine}
use Rattle.json_output.specs.Arrays.{added, entries_text}
use Rattle.json_output.specs.LimitsJson.{limit_json}
use Rattle.json_output.proofs.ArrayLemmas.{added_text, found_count, found_more, one_at_most}
use Rattle.json_output.proofs.limits.write_groups.Goals as goal

pub loop-index-preserved : goal.loop-index-preserved
loop-index-preserved g c =
    let fleet = c.args.fleet.now in
    let at : ℕ → Option LimitLine = fleet_line fleet in
    let index : ℕ = c.loop-index.index in
    let lines : List LimitLine = lines_with fleet (down_at_start fleet) index in
    let all : List LimitLine → List ℕ = λ l. entries_text (λ place line. limit_json line) l in
    let kept = c.loop-index.invariant in
    let count = c.write_group-limited.ensures.limited in
    let entry = subst (λ (n : ℕ). Writes g.W.Write.contents c.loop-index.text c.write_group-limited.new.text (added limit_json n (at index))) kept.limited c.write_group-limited.ensures.writes in
    let more : all lines ++ added limit_json (length lines) (at index) ≡ all (lines_with fleet (down_at_start fleet) (index + 1)) = sym (ap all (found_more at index) ∙ added_text limit_json lines (at index)) in
    record {
      written = writes_two _ c.args.text.now c.loop-index.text c.write_group-limited.new.text _ _ _ kept.written entry more;
      limited = ap (λ n. n + c.write_group-limited.result) kept.limited ∙ ap (λ n. length lines + n) count ∙ sym (found_count at index);
      few = omega (arith, one_at_most (is_some (at index)), count, kept.few);
    }

pub returns : goal.returns
returns g c =
    let fleet = c.args.fleet.now in
    let lines : ℕ → List LimitLine = lines_with fleet (down_at_start fleet) in
    let all : c.loop-index.index ≡ length fleet.groups = omega (arith, c.groups-index-end.ensures, c.loop-index.auto.index-end, c.loop-index-test.false) in
    record {
      writes = subst (λ (n : ℕ). Writes g.W.Write.contents c.args.text.now c.loop-index.text (entries_text (λ place line. limit_json line) (lines n))) all c.loop-index.invariant.written;
      limited = c.loop-index.invariant.limited ∙ ap (λ n. length (lines n)) all;
    }
