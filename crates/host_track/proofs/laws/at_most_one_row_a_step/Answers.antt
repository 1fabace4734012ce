use Rattle.host_track.proofs.TrackLaws.{rise}
use Rattle.host_track.proofs.laws.at_most_one_row_a_step.Goals as goal

pub returns : goal.returns
returns c = rise
