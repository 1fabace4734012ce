use Rattle.std.proofs.Common.{[], Bool, nat_lt, map, refl, ap}
use Rattle.std.specs.Prelude.{nat_le}
use Rattle.playbook_schema.specs.Breaches.{BadShape, Broken, ManyPlays, unless}
use Rattle.playbook_schema.proofs.AddLaws.{adds_rules, adds_same}
use Rattle.play_read.proofs.document.check_number.Goals as goal

pub returns : goal.returns
returns c =
    adds_rules [] _ _ _ (unless (nat_lt 0 c.args.plays) (BadShape [])) (unless (nat_le c.args.plays c.args.most) ManyPlays) _ c.in_ok-check.ensures
    (adds_same [] _ _ _ _ c.in_ok-check-2.ensures (ap (λ (few : Bool). map Broken (unless few ManyPlays)) c.are_few.ensures)) refl
