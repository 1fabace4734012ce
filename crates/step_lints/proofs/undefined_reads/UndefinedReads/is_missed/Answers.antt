use Rattle.std.proofs.Common.{◌≡◌, ◌<◌, length, arith, ◌∙◌}
use Rattle.step_lints.specs.Inside.{missed_from}
use Rattle.step_lints.proofs.AskedLemmas.{as_many, set_at}
use Rattle.step_lints.proofs.undefined_reads.UndefinedReads.is_missed.Goals as goal

pub returns : goal.returns
returns c =
    let self = c.args.self.now in
    let waiting = self.crowd.lacks.now.waiting.now in
    let missed = missed_from self.stand self.crowd.lacks.now.vars.now in
    let many : length self.sets.items ≡ length waiting = as_many missed waiting self.sets.items self.missed in
    let within : c.args.place < length self.sets.items = omega (arith, many, c.requires) in
    c.has.ensures ∙ set_at missed waiting self.sets.items c.args.place c.index.result.now c.args.name.now c.requires within c.index.ensures self.missed
