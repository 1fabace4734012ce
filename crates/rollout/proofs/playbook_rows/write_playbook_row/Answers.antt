-- Where a name is long, the rows are told equal by computing them.
use Rattle.rollout.proofs.playbook_rows.write_playbook_row.Goals as goal

pub returns-in-UnknownKey : goal.returns-in-UnknownKey
returns-in-UnknownKey g c = rw c.in-UnknownKey.is c.path_row-in-UnknownKey.ensures

pub returns-in-NoSuchHandler : goal.returns-in-NoSuchHandler
returns-in-NoSuchHandler g c = rw c.in-NoSuchHandler.is c.name_row.ensures

pub returns-in-TwiceHandler : goal.returns-in-TwiceHandler
returns-in-TwiceHandler g c = rw c.in-TwiceHandler.is c.name_row-in-TwiceHandler.ensures

pub returns-in-BadPercent : goal.returns-in-BadPercent
returns-in-BadPercent g c = rw c.in-BadPercent.is c.path_row-in-BadPercent.ensures

pub returns-in-BadSerial : goal.returns-in-BadSerial
returns-in-BadSerial g c = rw c.in-BadSerial.is c.path_row-in-BadSerial.ensures

pub returns-in-TooManySteps : goal.returns-in-TooManySteps
returns-in-TooManySteps g c = rw c.in-TooManySteps.is c.row-in-TooManySteps.ensures
