-- What stays of a pool while it is at work.
use Rattle.std.specs.Prelude.{◌≡◌}
use Rattle.ticket_channel.specs.Ends.{PutView}
use Rattle.fork_pool.specs.declared.ticket.Ticket.{Ticket}

-- it is the same line, with as much room and as many ends that take
pub record IsSameLine (before after : PutView Ticket) : Type 0 where
  pub line : after.line ≡ before.line
  pub room : after.room ≡ before.room
  pub takers : after.takers ≡ before.takers
