use Rattle.std.proofs.Common.{arith}
use Rattle.ticket_channel.proofs.StepLemmas.{takes}
use Rattle.ticket_channel.proofs.channel_receiver.ChannelReceiver.take.Goals as goal

pub recv_as-requires-clause-rule : goal.recv_as-requires-clause-rule
recv_as-requires-clause-rule g c = (takes _ _ c.self.invariant.2 (omega (arith, c.self.invariant.1)), λ _ _ _ _. tt)
