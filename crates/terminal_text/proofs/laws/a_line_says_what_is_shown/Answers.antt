use Rattle.terminal_text.proofs.ReadingLemmas.{line_says}
use Rattle.terminal_text.proofs.laws.a_line_says_what_is_shown.Goals as goal

pub returns : goal.returns
returns c = line_says
