use Rattle.std.proofs.Common.{◌≡◌, ℕ, ◌+◌, ◌++◌, Bool, List, length, nat_lt, cond, sym, ap, ◌∙◌, subst, arith}
use Rattle.bounded_io.specs.Writing.{Writes}
use Rattle.bounded_io.proofs.WritingLemmas.{writes_two}
use Rattle.domains.specs.Numbered.{host_at}
use Rattle.fleet_index.specs.NumberLists.{numbers_where}
use Rattle.fleet_index.proofs.RisingLemmas.{numbers_where_more}
use Rattle.fleet_states.specs.Statuses.{status_at}
use Rattle.fleet_states.specs.declared.status.Status.{Status}
use Rattle.recap.specs.RecapText.{text_by_place}
use Rattle.json_output.specs.Arrays.{comma_if, entries_text}
use Rattle.json_output.specs.PlayJson.{is_told}
use Rattle.json_output.specs.StateJson.{state_entry, state_json}
use Rattle.json_output.proofs.ArrayLemmas.{one_at_most, pushed_if, where_count}
use Rattle.json_output.proofs.states.write_each_state.Goals as goal

pub loop-index-preserved : goal.loop-index-preserved
loop-index-preserved g c =
    let fleet = c.args.fleet.now in
    let statuses : List Status = c.args.statuses.now in
    let test : ℕ → Bool = λ host. is_told (status_at statuses host) in
    let index : ℕ = c.loop-index.index in
    let hosts : List ℕ = numbers_where test index in
    let piece : ℕ → ℕ → List ℕ = λ place host. comma_if (nat_lt 0 place) ++ state_json (host_at fleet.hosts host) (status_at statuses host) in
    let kept = c.loop-index.invariant in
    let status : c.status_of-status.result ≡ status_at statuses index = c.status_of-status.ensures in
    let count : c.write_entry-told.result ≡ cond (test index) 1 0 = c.write_entry-told.ensures.told ∙ ap (λ (s : Status). cond (is_told s) 1 0) status in
    let same : state_entry fleet c.loop-index.told index c.status_of-status.result ≡ state_entry fleet (length hosts) index (status_at statuses index) =
    ap (λ (n : ℕ). state_entry fleet n index c.status_of-status.result) kept.told ∙ ap (λ (s : Status). state_entry fleet (length hosts) index s) status in
    let entry = subst (λ (l : List ℕ). Writes g.W.Write.contents c.loop-index.text c.write_entry-told.new.text l) same c.write_entry-told.ensures.writes in
    let more : text_by_place piece 0 hosts ++ state_entry fleet (length hosts) index (status_at statuses index) ≡ text_by_place piece 0 (numbers_where test (index + 1)) =
    sym (ap (text_by_place piece 0) (numbers_where_more test index) ∙ pushed_if piece hosts index (test index)) in
    record {
      written = writes_two _ c.args.text.now c.loop-index.text c.write_entry-told.new.text _ _ _ kept.written entry more;
      told = ap (λ n. n + c.write_entry-told.result) kept.told ∙ ap (λ n. length hosts + n) count ∙ sym (where_count test index);
      few = omega (arith, one_at_most (test index), count, kept.few);
    }

pub returns : goal.returns
returns g c =
    let fleet = c.args.fleet.now in
    let statuses : List Status = c.args.statuses.now in
    let all : c.loop-index.index ≡ length fleet.hosts = omega (arith, c.hosts-index-end.ensures.count, c.loop-index.auto.index-end, c.loop-index-test.false) in
    subst (λ (n : ℕ). Writes g.W.Write.contents c.args.text.now c.loop-index.text
    (entries_text (λ place host. state_json (host_at fleet.hosts host) (status_at statuses host)) (numbers_where (λ host. is_told (status_at statuses host)) n))) all c.loop-index.invariant.written
