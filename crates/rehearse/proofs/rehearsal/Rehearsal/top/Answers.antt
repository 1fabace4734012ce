use Rattle.std.proofs.Common.{◌≡◌, ◌-◌, List, Some, length, slice_get, sym, ap, ◌∙◌}
use Rattle.rehearse.specs.declared.stage.Stage.{Stage}
use Rattle.rehearse.specs.Stacks.{top}
use Rattle.rehearse.proofs.StackLemmas.{last_stage}
use Rattle.rehearse.proofs.rehearsal.Rehearsal.top.Goals as goal

pub returns-in-Some : goal.returns-in-Some
returns-in-Some c =
    let above = c.self.inside.above.items in
    let there : slice_get above (length above - 1) ≡ Some c.in-Some.stage.now = sym (c.in-Some.ensures.value ∙ ap (λ (l : List Stage). slice_get l (length l - 1)) c.deref.ensures.value) in
    last_stage c.self.inside.first above c.in-Some.stage.now there ∙ ap top c.self.view_is
