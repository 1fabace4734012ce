use Rattle.std.proofs.Common.{sym}
use Rattle.std.proofs.lemmas.Result.{on_ok_weaker}
use Rattle.inventory_read.specs.Listings.{texts}
use Rattle.inventory_read.specs.Paths.{text_path}
use Rattle.inventory_read.specs.Rules.{placed}
use Rattle.text_syntax.proofs.Tellings.{tested, with_none}
use Rattle.inventory_read.proofs.rules.check_host.Goals as goal

pub returns : goal.returns
returns c =
    let put = placed (text_path (texts c.args.names.now)) in
    on_ok_weaker c.check-3.result
    (λ down.
    tested _ _ _ put _ _ _ _ c.is_name.ensures c.in_ok-check.ensures
    (tested _ _ _ put _ _ _ _ c.has_shape.ensures c.in_ok-check-2.ensures
    (tested _ _ _ put _ _ _ _ c.has_truth_or_none.ensures down (sym (with_none _)))))
    c.check-3.ensures
