use Rattle.std.proofs.Common.{arith}
use Rattle.ticket_channel.proofs.StepLemmas.{gathers}
use Rattle.ticket_channel.proofs.channel_sender.ChannelSender.gather.Goals as goal

pub absorb-requires-clause-rule : goal.absorb-requires-clause-rule
absorb-requires-clause-rule g c = gathers _ _ _ _ (omega (arith, c.self.invariant.2)) c.end.invariant.2
