use Rattle.std.proofs.Common.{◌≡◌, ℕ, suc, ◌-◌, ◌<◌, List, length, sym, ap, ◌∙◌, arith}
use Rattle.fleet_index.specs.NumberLists.{list_at}
use Rattle.play_forecast.specs.Courses.{next_batch}
use Rattle.rehearse.specs.declared.stage.Stage.{Stage}
use Rattle.rehearse.specs.Stacks.{RehearsalView, batches_to}
use Rattle.rehearse.proofs.GoingOnLemmas.{first_batch_to, later_batch_to}
use Rattle.rehearse.proofs.rehearsal.Rehearsal.batch.Goals as goal

pub returns-then-place-eq0 : goal.returns-then-place-eq0
returns-then-place-eq0 c =
    let above = c.self.inside.above.items in
    let long : length above ≡ length c.args.self.now.above = ap (λ (r : RehearsalView). length r.above) c.self.view_is in
    c.next_batch.ensures ∙ first_batch_to c.self.inside.first above (omega (arith, long, c.requires, c.if-place-eq0.true))
    ∙ ap (λ (r : RehearsalView). list_at (batches_to r.first r.above) 0) c.self.view_is
    ∙ ap (list_at (batches_to c.args.self.now.first c.args.self.now.above)) (sym c.if-place-eq0.true)

pub returns-else-place-eq0 : goal.returns-else-place-eq0
returns-else-place-eq0 c =
    let above = c.self.inside.above.items in
    let place : ℕ = c.args.place - 1 in
    let long : length above ≡ length c.args.self.now.above = ap (λ (r : RehearsalView). length r.above) c.self.view_is in
    let whole : suc place ≡ c.args.place = omega (arith, c.if-place-eq0.false) in
    c.next_batch-else-place-eq0.ensures
    ∙ ap (λ (s : Stage). next_batch s.boundary.answer) c.index.ensures
    ∙ later_batch_to c.self.inside.first above place c.index.result.now (omega (arith, long, c.requires, whole))
    ∙ ap (λ (r : RehearsalView). list_at (batches_to r.first r.above) (suc place)) c.self.view_is
    ∙ ap (list_at (batches_to c.args.self.now.first c.args.self.now.above)) whole
