use Rattle.std.proofs.Common.{length}
use Rattle.command_line.proofs.spelling.+spelled.Given as goal

abbrev pub decreases-spelled : goal.decreases-spelled
decreases-spelled l = length l.options.now
