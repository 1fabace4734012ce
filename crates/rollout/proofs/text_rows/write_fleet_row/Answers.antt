use Rattle.rollout.proofs.text_rows.write_fleet_row.Goals as goal

pub returns-in-TooManyHosts : goal.returns-in-TooManyHosts
returns-in-TooManyHosts g c = rw c.in-TooManyHosts.is c.row.ensures
