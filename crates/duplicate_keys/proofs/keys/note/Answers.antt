use Rattle.std.proofs.Common.{◌≡◌, refl, Bool, true, false, not, ◌&&◌, ◌||◌, ap, sym, ◌∙◌}
use Rattle.std.specs.Str.{bytes_eq}
use Rattle.duplicate_keys.specs.Inside.{has, names_of}
use Rattle.duplicate_keys.proofs.Counts.{also_stands, lent_more, stands_in}
use Rattle.duplicate_keys.proofs.keys.note.Goals as goal

was_there : (is_new there : Bool) → is_new ≡ not there → is_new ≡ false → there ≡ true
was_there is_new true added was = refl
was_there is_new false added was = absurd (cc)

pub returns-in_ok-insert-2-clause-seen : goal.returns-in_ok-insert-2-clause-seen
returns-in_ok-insert-2-clause-seen c = ap names_of c.in_ok-insert.ensures.keys ∙ lent_more c.args.seen.now.keys c.args.key

pub returns-in_ok-insert-2-clause-again : goal.returns-in_ok-insert-2-clause-again
returns-in_ok-insert-2-clause-again c = λ name.
    let key = c.args.key in
    let there : has c.args.seen.now key.now ≡ true = was_there c.in_ok-insert.field-0 (has c.args.seen.now key.now) c.in_ok-insert.ensures.added c.if-not-branch.true in
    ap (stands_in name) c.in_ok-insert-2.ensures.keys ∙ also_stands c.args.again.now.keys key name
    ∙ sym (ap (λ b. has c.args.again.now name || (b && bytes_eq name key.now)) there)

pub returns-else-not-branch-clause-seen : goal.returns-else-not-branch-clause-seen
returns-else-not-branch-clause-seen c = ap names_of c.in_ok-insert.ensures.keys ∙ lent_more c.args.seen.now.keys c.args.key
