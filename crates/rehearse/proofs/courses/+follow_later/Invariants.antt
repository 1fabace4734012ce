use Rattle.std.proofs.Common.{length}
use Rattle.rehearse.proofs.courses.+follow_later.Given as goal

abbrev pub decreases-follow_later : goal.decreases-follow_later
decreases-follow_later l = length l.plays.now
