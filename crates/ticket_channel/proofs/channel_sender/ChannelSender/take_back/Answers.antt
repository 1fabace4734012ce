use Rattle.std.proofs.Common.{arith}
use Rattle.ticket_channel.proofs.StepLemmas.{takes_back, learns}
use Rattle.ticket_channel.proofs.channel_sender.ChannelSender.take_back.Goals as goal

pub try_recv_as-requires-clause-rule : goal.try_recv_as-requires-clause-rule
try_recv_as-requires-clause-rule g c = (takes_back _ _ (omega (arith, c.self.invariant.2)), learns _ _ (omega (arith, c.self.invariant.2)))
