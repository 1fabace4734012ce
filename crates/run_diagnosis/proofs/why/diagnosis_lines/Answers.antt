use Rattle.std.proofs.Common.{ℕ, Bool, Option, List, false, get_or, map, option_map, ap, ◌∙◌, arith}
use Rattle.std.proofs.lemmas.Result.{IfOk-weaker}
use Rattle.run_diagnosis.specs.Fulls.{is_full}
use Rattle.run_diagnosis.specs.Rows.{last_row, seen_at, shown}
use Rattle.run_diagnosis.specs.declared.rows.Row.{Row}
use Rattle.run_diagnosis.proofs.TextLemmas.{same_why}
use Rattle.run_diagnosis.proofs.why.diagnosis_lines.Goals as goal

pub returns : goal.returns
returns c =
    let ended = c.args.ended.now in
    let fleet = ended.fleet.now in
    let statuses = ended.statuses.now in
    let full : ℕ → Bool = λ group. get_or c.as_slice-2.result.now group false in
    IfOk-weaker c.why_bytes.result _ _
    (λ lines is. is ∙ same_why fleet ended.several statuses (option_map (λ call. call.now) ended.call) (seen_at c.as_slice.result.now) (last_row (map shown c.args.played.now)) full (is_full fleet statuses)
    (λ host within. ap (λ (l : List (Option Row)). seen_at l host) c.as_slice.ensures.value ∙ c.in_ok-rows.ensures host (omega (arith, within, c.hosts.ensures.count)))
    (λ group. ap (λ (l : List Bool). get_or l group false) c.as_slice-2.ensures.value ∙ c.in_ok-full.ensures group))
    c.why_bytes.ensures
