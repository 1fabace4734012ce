use Rattle.std.proofs.Common.{◌*◌, ◌+◌, Bool, false, List, get_or, length, ap, ◌∙◌}
use Rattle.std.proofs.lemmas.List.{get_or-replicate, length-replicate}
use Rattle.std.proofs.lemmas.Nat.{mul-add-lt}
use Rattle.domains.proofs.crossings.Crossings.new.Goals as goal

pub returns-clause-sized : goal.returns-clause-sized
returns-clause-sized c = ap length (c.in_ok-marks.ensures.items_if_clones_equal (λ y e. e)) ∙ length-replicate (c.args.groups * c.args.groups) false

pub returns-clause-seen : goal.returns-clause-seen
returns-clause-seen c =
    let n = c.args.groups in
    record {
      found_once = c.new-found.ensures.items;
      marked = λ first second l m.
          ap (λ (marks : List Bool). get_or marks (first * n + second) false) (c.in_ok-marks.ensures.items_if_clones_equal (λ y e. e))
          ∙ get_or-replicate (n * n) (first * n + second) false false (mul-add-lt first n second n l m);
    }
