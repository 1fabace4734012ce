use Rattle.std.proofs.Common.{List, ap, ◌∙◌, arith}
use Rattle.group_tree.specs.declared.ids.HostId.{HostId}
use Rattle.domains.specs.Ids.{host_numbers}
use Rattle.run_diagnosis.proofs.NamedLemmas.{named_more}
use Rattle.run_diagnosis.proofs.skipped.flag_named.Goals as goal

pub loop-play-preserved : goal.loop-play-preserved
loop-play-preserved c =
    let was = c.loop-play.invariant in (
      c.flag_all.ensures.len ∙ was.0,
      λ host within. named_more c.args.fleet.now host _ _ _ c.args.plays.now c.loop-play.play-index _ c.loop-play-test.true c.play-item.is
          (ap (λ (l : List HostId). host_numbers l) c.as_slice.ensures.value ∙ c.in_ok-hosts.ensures) (was.1 host within)
          (c.flag_all.ensures.flagged host (omega (arith, within, was.0))),
    )
