use Rattle.std.proofs.Common.{◌≡◌, List, length, ap, ◌∙◌, arith}
use Rattle.std.specs.List.{list_any}
use Rattle.text_syntax.specs.Patterns.{parts_of}
use Rattle.domains.specs.Ids.{host_numbers}
use Rattle.domains.specs.Patterns.{is_named_by, named_hosts}
use Rattle.batch_plan.proofs.WhereLemmas.{length-where}
use Rattle.fleet_states.proofs.HostLemmas.{length-host_numbers}
use Rattle.play_forecast.specs.PlayPlans.{parts_of_play, targets}
use Rattle.roll_run.proofs.opening.count_targets.Goals as goal

pub returns-in-Ok : goal.returns-in-Ok
returns-in-Ok c =
    let fleet = c.args.fleet.now in
    let play = c.args.play.now in
    let hosts = c.in-Ok.hosts.items in
    let named : length (host_numbers hosts) ≡ length (targets fleet play) = ap length (c.in-Ok.ensures.hosts ∙ ap (λ l. named_hosts fleet (parts_of l)) c.pattern.ensures) in
    let few = length-where (λ host. list_any (is_named_by fleet host) (parts_of_play play)) (length fleet.hosts) in
    omega (arith, named, few, length-host_numbers hosts, c.len.ensures, c.hosts.ensures.count, c.min.ensures)
