use Rattle.std.proofs.Common.{◌≡◌, ◌+◌, ◌++◌, [], ℕ, Option, List, decimal, length, nat_lt, map, take, drop, ap, ◌∙◌, subst, sym}
use Rattle.std.proofs.lemmas.List.{drop_all}
use Rattle.serde_json.specs.View.{view}
use Rattle.serde_json.specs.declared.value.Value.{Value}
use Rattle.playbook_schema.specs.Plays.{checks_of_play, checks_of_plays, play_of, told}
use Rattle.playbook_schema.proofs.AddLaws.{leads_end, leads_on, silent_before}
use Rattle.play_read.specs.Reads.{IsPlay}
use Rattle.play_read.proofs.Lists.{left_at, taken_at, all_zip_more}
use Rattle.play_read.proofs.document.read_each.Goals as goal

pub loop-index-preserved : goal.loop-index-preserved
loop-index-preserved c =
    let l = c.loop-index in
    let plays = c.args.plays.now in
    let play = c.index-plays-index.result in
    let several = nat_lt 1 (length plays) in
    let left = left_at view plays l.index play c.loop-index-test.true c.index-plays-index.is in
    let taken = taken_at view plays l.index play c.loop-index-test.true c.index-plays-index.is in
    let place = c.place_of-place.result in
    let own = checks_of_play (decimal place.index) place.told (view play) in
    let rest = checks_of_plays several (l.index + 1) (map view (drop (l.index + 1) plays)) in
    let here = ap (λ (n : ℕ). checks_of_play (decimal n) place.told (view play)) c.place_of-place.ensures.place ∙ ap (λ (of : Option ℕ). checks_of_play (decimal l.index) of (view play)) c.place_of-place.ensures.told in
    let split = ap (checks_of_plays several l.index) left ∙ ap (λ checks. checks ++ rest) (sym here) in
    let read = c.in_ok-read_one.ensures in
    record {
      found = leads_on [] _ _ _ _ l.invariant.found c.read_one.new.faults own rest split read.found;
      says = λ silent.
          let new = read.says silent in
          all_zip_more IsPlay play_of (map view (take l.index plays)) _ l.read.items _ (view play) new.0 taken new.2 (l.invariant.says (silent_before [] _ _ own read.found silent)) new.1;
    }

pub returns-clause-found : goal.returns-clause-found
returns-clause-found c =
    let l = c.loop-index in
    let several = nat_lt 1 (length c.args.plays.now) in
    leads_end [] _ _ _ _ l.invariant.found (ap (λ (list : List Value). checks_of_plays several l.index (map view list)) (drop_all l.index c.args.plays.now c.loop-index-test.false))
