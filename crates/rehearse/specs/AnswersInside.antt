-- What the steps of an answer have to give.
use Rattle.std.specs.Prelude.{◌≡◌, Option, Some, None, Result, Ok, Err, List, drop}
use Rattle.group_tree.specs.Names.{Name}
use Rattle.domains.specs.FleetViews.{FleetView}
use Rattle.domains.specs.Ids.{host_numbers}
use Rattle.rehearse.specs.Stacks.{RehearsalView, batches_to, top}
use Rattle.group_tree.specs.declared.ids.HostId.{HostId}
use Rattle.rehearse.specs.Histories.{HistoryView}
use Rattle.rehearse.specs.GoingOn.{HasAdvanced}
use Rattle.rehearse.specs.declared.command.Command.{Command}
use Rattle.rehearse.specs.declared.command.Command.TheVariants as says
use Rattle.rehearse.specs.declared.names.Named.{Named}
use Rattle.rehearse.specs.declared.names.Named.TheVariants.{Hosts, Nobody}
use Rattle.rehearse.specs.declared.refusal.Refusal.{Refusal}
use Rattle.rehearse.specs.declared.refusal.Refusal.TheVariants.{NoSuchName, Over, NotInBatch, NotWaiting, BadCommand}
use Rattle.rehearse.specs.declared.reply.Reply.{Reply}
use Rattle.rehearse.specs.declared.reply.Reply.TheVariants as reply
use Rattle.rehearse.specs.Replies as replies
use Rattle.rehearse.specs.Replies.{Refused}
use Rattle.rehearse.specs.Commands as commands
use Rattle.rehearse.specs.Commands.{words_of}
use Rattle.rehearse.specs.Names.{first_nobody, host_named, hosts_named}
use Rattle.rehearse.specs.Answers.{mark_refusal, refusal}

-- what a command asks for
abbrev pub asked : Command → commands.Command
asked says.Nothing = commands.nothing
asked (says.Advance names) = commands.advance (words_of names.now)
asked (says.Next count) = commands.next count
asked says.Finish = commands.finish
asked (says.Fail host) = commands.fail host.now
asked says.Undo = commands.undo
asked says.Plan = commands.plan
asked says.Show = commands.show
asked (says.Hosts group) = commands.hosts group.now
asked says.Help = commands.help
asked says.Quit = commands.quit
asked says.Unknown = commands.unknown

-- these are the hosts of the names, or this is the first name that is no host's
abbrev pub AreNamed : FleetView → List Name → Named → Type 0
AreNamed fleet names (Hosts hosts) = (first_nobody fleet names ≡ None) × (hosts.items ≡ hosts_named fleet names)
AreNamed fleet names (Nobody name) = first_nobody fleet names ≡ Some name.now

-- why a line is refused
abbrev pub why_of : Refusal → Refused
why_of (NoSuchName name) = replies.no_such_name name.now
why_of Over = replies.over
why_of (NotInBatch host) = replies.not_in_batch host
why_of (NotWaiting host) = replies.not_waiting host
why_of BadCommand = replies.bad_command

-- what is answered, of the rehearsal to which a line led
abbrev pub said : RehearsalView → Reply → replies.Reply
said rehearsal (reply.Refused why) = replies.refused (why_of why)
said rehearsal (reply.Advanced from) = replies.advanced (drop from (batches_to rehearsal.first rehearsal.above))
said rehearsal (reply.Marked host) = replies.marked host
said rehearsal reply.Undone = replies.undone
said rehearsal reply.NothingToUndo = replies.nothing_to_undo
said rehearsal reply.Plan = replies.plan (top rehearsal).boundary.answer
said rehearsal reply.Show = replies.show (top rehearsal)
said rehearsal (reply.Hosts hosts) = replies.hosts (top rehearsal) (host_numbers hosts.now)
said rehearsal reply.Help = replies.help

-- a session that was to advance is refused so, or its rehearsal went on
abbrev pub IsSettled : HistoryView → List Name → HistoryView → Option Refusal → Type 0
IsSettled before names after (Some refused) = (refusal before.place.rehearsal names ≡ Some (why_of refused)) × (after ≡ before)
IsSettled before names after None =
    (refusal before.place.rehearsal names ≡ None) × HasAdvanced (hosts_named before.place.rehearsal.rules.fleet names) before after

-- why no host of this name is marked, or the host of the name
abbrev pub IsMarkable : RehearsalView → Name → Result HostId Refusal → Type 0
IsMarkable before name (Ok host) = (mark_refusal before name ≡ None) × (host ≡ host_named before.rules.fleet name)
IsMarkable before name (Err refused) = mark_refusal before name ≡ Some (why_of refused)
