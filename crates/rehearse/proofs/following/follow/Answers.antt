use Rattle.std.proofs.Common.{refl, subst}
use Rattle.rehearse.specs.CourseSteps.{HasMoved, setting_of}
use Rattle.rehearse.specs.declared.following.Turn.{Turn}
use Rattle.rehearse.proofs.CourseLemmas.{ends_whole, goes_behind, smaller}
use Rattle.rehearse.proofs.following.follow.Goals as goal

pub loop-boundaries-smaller : goal.loop-boundaries-smaller
loop-boundaries-smaller c =
    let setting = setting_of c.args.setting.now in
    let old = c.loop-boundaries.boundaries.items in
    let new = c.move_on.new.boundaries.items in
    let standing = c.loop-boundaries.standing in
    let moved = subst (λ (turn : Turn). HasMoved setting old new standing turn) c.in-Behind.is c.in_ok-next.ensures in
    smaller setting c.args.statuses.items old new standing c.loop-boundaries.invariant c.in-Behind.next moved

pub loop-boundaries-preserved : goal.loop-boundaries-preserved
loop-boundaries-preserved c =
    let setting = setting_of c.args.setting.now in
    let old = c.loop-boundaries.boundaries.items in
    let new = c.move_on.new.boundaries.items in
    let standing = c.loop-boundaries.standing in
    let moved = subst (λ (turn : Turn). HasMoved setting old new standing turn) c.in-Behind.is c.in_ok-next.ensures in
    goes_behind setting c.args.statuses.items old new standing c.loop-boundaries.invariant c.in-Behind.next moved

pub returns-in-Ended : goal.returns-in-Ended
returns-in-Ended c =
    let setting = setting_of c.args.setting.now in
    let old = c.loop-boundaries.boundaries.items in
    let new = c.move_on.new.boundaries.items in
    let standing = c.loop-boundaries.standing in
    let moved = subst (λ (turn : Turn). HasMoved setting old new standing turn) c.in-Ended.is c.in_ok-next.ensures in
    ends_whole setting c.args.statuses.items old new standing c.loop-boundaries.invariant c.in-Ended.end _ moved refl refl c.requires.all
