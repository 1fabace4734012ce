use Rattle.rollout.proofs.text_rows.write_input_row.Goals as goal

pub returns-in-TooLarge : goal.returns-in-TooLarge
returns-in-TooLarge g c = rw c.in-TooLarge.is c.row-in-TooLarge.ensures
