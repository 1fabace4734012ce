use Rattle.cond.proofs.Runs.{name_ends}
use Rattle.cond.proofs.front.word_at.Goals as goal

pub split_at-requires : goal.split_at-requires
split_at-requires c = rw c.name_bytes.ensures (name_ends c.args.text.now c.utf8.text)
