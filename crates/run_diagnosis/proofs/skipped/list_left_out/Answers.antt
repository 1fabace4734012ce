use Rattle.std.proofs.Common.{◌&&◌, Bool, List, false, get_or, length, ap, ◌∙◌}
use Rattle.std.proofs.lemmas.Result.{IfOk-weaker}
use Rattle.domains.proofs.WhereLemmas.{numbers_where-same}
use Rattle.fleet_states.specs.Statuses.{status_at}
use Rattle.run_diagnosis.specs.LeftOut.{is_named, is_off}
use Rattle.run_diagnosis.proofs.skipped.list_left_out.Goals as goal

pub returns : goal.returns
returns c =
    let fleet = c.args.fleet.now in
    let statuses = c.args.statuses.now in
    let flags = c.as_slice.result.now in
    IfOk-weaker c.list_flagged.result _ _
    (λ hosts is. is ∙ numbers_where-same (λ host. is_off (status_at statuses host) && get_or flags host false) (λ host. is_off (status_at statuses host) && is_named fleet c.args.plays.now host)
    (length fleet.hosts)
    (λ host within. ap (λ b. is_off (status_at statuses host) && b) (ap (λ (l : List Bool). get_or l host false) c.as_slice.ensures.value ∙ c.in_ok-flags.ensures.named host within)))
    c.list_flagged.ensures
