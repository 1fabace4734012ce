use Rattle.std.proofs.Common.{◌≡◌, true, length, cond, sym, ap, ◌∙◌}
use Rattle.domains.specs.Ids.{host_numbers}
use Rattle.fleet_states.specs.declared.status.Status.TheVariants.{Running}
use Rattle.fleet_states.proofs.StatusLemmas.{length-changed}
use Rattle.down_ledger.specs.Rosters.{seated_at}
use Rattle.down_ledger.proofs.OpeningLemmas.{put_back, ready_distinct}
use Rattle.down_ledger.proofs.roster.Roster.test_room.Goals as goal

pub give_all_back-requires-clause-all : goal.give_all_back-requires-clause-all
give_all_back-requires-clause-all c =
    let old = c.args.self.now in
    let there = c.in-Ok.ensures.1 in
    there.len ∙ c.requires.all ∙ sym (ap length there.statuses ∙ length-changed (λ _. Running) (host_numbers c.args.hosts.now) old.statuses)

pub give_all_back-requires-clause-distinct : goal.give_all_back-requires-clause-distinct
give_all_back-requires-clause-distinct c =
    ready_distinct c.args.self.now.statuses (host_numbers c.args.hosts.now) c.requires.ready

pub give_all_back-requires-clause-rest : goal.give_all_back-requires-clause-rest
give_all_back-requires-clause-rest c host here =
    let old = c.args.self.now in
    c.in-Ok.ensures.1.seats host ∙ ap (λ b. cond b true (seated_at old.seated host)) here

pub returns-clause-same : goal.returns-clause-same
returns-clause-same c =
    put_back c.args.self.now c.take_all.new.self c.give_all_back.new.self (host_numbers c.args.hosts.now) c.requires.rest c.requires.ready c.in-Ok.ensures.1 c.give_all_back.ensures
