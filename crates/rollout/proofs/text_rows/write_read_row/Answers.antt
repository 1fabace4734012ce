-- Where a name is long, the rows are told equal by computing them.
use Rattle.rollout.proofs.text_rows.write_read_row.Goals as goal

pub returns-in-TwicePlaced : goal.returns-in-TwicePlaced
returns-in-TwicePlaced g c = rw c.in-TwicePlaced.is c.row-in-TwicePlaced.ensures

pub returns-in-UnknownKey : goal.returns-in-UnknownKey
returns-in-UnknownKey g c = rw (c.in-UnknownKey.is, ← c.as_str-in-UnknownKey.ensures.value) c.row-in-UnknownKey.ensures
