use Rattle.rehearse.proofs.KeepLemmas.{sessions_rehearse}
use Rattle.rehearse.proofs.laws.sessions_rehearse.Goals as goal

pub returns : goal.returns
returns c = sessions_rehearse
