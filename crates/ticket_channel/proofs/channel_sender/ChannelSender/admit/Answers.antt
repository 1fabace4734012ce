use Rattle.std.proofs.Common.{arith, ap}
use Rattle.ticket_channel.proofs.StepLemmas.{admits}
use Rattle.ticket_channel.proofs.channel_sender.ChannelSender.admit.Goals as goal

pub another-pass-requires-clause-rule : goal.another-pass-requires-clause-rule
another-pass-requires-clause-rule g c = admits _ _ (omega (arith, c.self.invariant.2, c.requires, ap (λ v. v.takers) c.self.view_is))
