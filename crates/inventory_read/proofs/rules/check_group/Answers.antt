use Rattle.std.proofs.Common.{sym}
use Rattle.std.proofs.lemmas.Result.{on_ok_weaker}
use Rattle.inventory_read.specs.Listings.{texts}
use Rattle.inventory_read.specs.Paths.{text_path}
use Rattle.inventory_read.specs.Rules.{placed}
use Rattle.text_syntax.proofs.Tellings.{after_map, tested, with_none}
use Rattle.inventory_read.proofs.rules.check_group.Goals as goal

pub returns : goal.returns
returns c =
    let put = placed (text_path (texts c.args.names.now)) in
    on_ok_weaker c.check_hosts.result
    (λ hosts.
    tested _ _ _ put _ _ _ _ c.is_name.ensures c.in_ok-check.ensures
    (tested _ _ _ put _ _ _ _ c.has_shape.ensures c.in_ok-check-2.ensures
    (after_map _ _ _ put _ _ c.in_ok-check_keys.ensures
    (tested _ _ _ put _ _ _ _ c.has_shaped_part.ensures c.in_ok-check-3.ensures
    (tested _ _ _ put _ _ _ _ c.has_shaped_part-2.ensures c.in_ok-check-4.ensures
    (tested _ _ _ put _ _ _ _ c.has_shaped_part-3.ensures c.in_ok-check-5.ensures
    (tested _ _ _ put _ _ _ _ c.has_limit_or_none.ensures c.in_ok-check-6.ensures
    (after_map _ _ _ put _ _ hosts (sym (with_none _))))))))))
    c.check_hosts.ensures
