use Rattle.journal_writer.proofs.PlayLemmas.{journal_matches_plays}
use Rattle.journal_writer.proofs.laws.journal_matches_plays.Goals as goal

pub returns : goal.returns
returns c = journal_matches_plays
