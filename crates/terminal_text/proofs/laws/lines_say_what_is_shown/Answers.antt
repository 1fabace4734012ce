use Rattle.terminal_text.proofs.ReadingLemmas.{lines_say}
use Rattle.terminal_text.proofs.laws.lines_say_what_is_shown.Goals as goal

pub returns : goal.returns
returns c = lines_say
