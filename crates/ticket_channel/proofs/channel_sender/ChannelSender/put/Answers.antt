use Rattle.std.proofs.Common.{arith}
use Rattle.ticket_channel.proofs.StepLemmas.{puts}
use Rattle.ticket_channel.proofs.channel_sender.ChannelSender.put.Goals as goal

pub try_send_as-requires-clause-rule : goal.try_send_as-requires-clause-rule
try_send_as-requires-clause-rule g c = (puts _ _ _ _ (omega (arith, c.self.invariant.2)), λ _ _ _ _. tt)
