use Rattle.cond.proofs.Runs.{inside_ends}
use Rattle.cond.proofs.front.text_at.Goals as goal

pub split_at-requires : goal.split_at-requires
split_at-requires c =
    rw c.inside.ensures (inside_ends c.args.quote c.args.text.now c.requires c.utf8.text)
