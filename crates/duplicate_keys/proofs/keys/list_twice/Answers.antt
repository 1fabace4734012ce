use Rattle.std.proofs.Common.{◌≡◌, ◌+◌, IfOk, List, [], ◌∷◌, ◌++◌, take, filter, nat_lt, ◌&&◌, ◌||◌, sym, ap, ◌∙◌, subst, arith, take_all}
use Rattle.std.specs.List.{list_any}
use Rattle.std.specs.Str.{bytes_eq}
use Rattle.indexmap.specs.IndexSet.{insert_key}
use Rattle.json.specs.Strict.{keys}
use Rattle.json.specs.Value.{members_view}
use Rattle.duplicate_keys.specs.Inside.{has, names_of}
use Rattle.duplicate_keys.specs.Repeats.{Name, how_often, once_each, repeated}
use Rattle.duplicate_keys.proofs.Counts.{is_there, keys_more, once_more, stands_lent, twice_more}
use Rattle.duplicate_keys.proofs.keys.list_twice.Goals as goal

pub loop-member-preserved : goal.loop-member-preserved
loop-member-preserved c =
    let l = c.loop-member in
    let place = l.member-index in
    let members = c.args.members.now in
    let key : Name = c.member-item.result.0.now in
    let read : List Name = keys (members_view (take place members)) in
    let more : keys (members_view (take (place + 1) members)) ≡ read ++ key ∷ [] = keys_more members place c.member-item.result (omega arith) c.member-item.is in
    let there : has l.seen key ≡ nat_lt 0 (how_often key read) = stands_lent key l.seen.keys ∙ ap (λ (l : List Name). list_any (bytes_eq key) l) l.invariant.0 ∙ is_there key read in (
      c.in_ok-note.ensures.seen ∙ ap (λ (l : List Name). insert_key bytes_eq l key) l.invariant.0 ∙ sym (once_more read key) ∙ sym (ap once_each more),
      λ name.
          c.in_ok-note.ensures.again name ∙ (λ i. l.invariant.1 name i || (there i && bytes_eq name key)) ∙ twice_more read key name
          ∙ sym (ap (λ (l : List Name). nat_lt 1 (how_often name l)) more),
    )

pub returns : goal.returns
returns c =
    let l = c.loop-member in
    let members = c.args.members.now in
    let all : keys (members_view (take l.member-index members)) ≡ keys (members_view members) = ap (λ ms. keys (members_view ms)) (take_all l.member-index members (omega arith)) in
    let whole : filter (has l.again) (names_of c.as_slice.result.now) ≡ repeated (keys (members_view members)) =
    ap (λ keys. filter (has l.again) (names_of keys)) c.as_slice.ensures.keys
    ∙ (λ i. filter (λ name. l.invariant.1 name i) (l.invariant.0 i)) ∙ ap repeated all in
    subst (λ (names : List Name). IfOk c.keep_those.result (λ found. names_of found.items ≡ names)) whole c.keep_those.ensures
