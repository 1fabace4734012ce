use Rattle.std.proofs.Common.{◌+◌, List, sym, subst, take}
use Rattle.host_vars.specs.declared.vars.Vars.{Vars}
use Rattle.host_vars.specs.HostVars.{IsSameHost}
use Rattle.roll_run.specs.Plays.{AreSameHosts}
use Rattle.roll_run.proofs.Following.{same_more}
use Rattle.roll_run.proofs.next.copy_all.Goals as goal

pub loop-index-preserved : goal.loop-index-preserved
loop-index-preserved c =
    let vars = c.args.vars.now in
    let i = c.loop-index.index in
    let other = c.index-vars-index.result in
    let copy = c.in_ok-copy.field-0 in
    let same = subst (λ (v : Vars). IsSameHost copy v) c.index-vars-index.is c.in_ok-copy.ensures in
    subst (λ (l : List Vars). AreSameHosts l (take (i + 1) vars)) (sym c.in_ok-push.ensures.items) (same_more c.loop-index.copies.items vars i other copy c.loop-index-test.true c.loop-index.invariant same)
