use Rattle.terminal_text.proofs.ReadingLemmas.{text_says}
use Rattle.terminal_text.proofs.laws.a_text_says_what_is_shown.Goals as goal

pub returns : goal.returns
returns c = text_says
