use Rattle.std.proofs.Common.{List, ap, ap₂, ◌∙◌}
use Rattle.std.proofs.lemmas.Result.{IfOk-weaker}
use Rattle.group_tree.specs.declared.ids.HostId.{HostId}
use Rattle.domains.specs.Ids.{host_numbers}
use Rattle.run_diagnosis.specs.LeftOut.{note_of}
use Rattle.run_diagnosis.proofs.notes.left_out_lines.Goals as goal

pub returns : goal.returns
returns c =
    let numbers = ap (λ (l : List HostId). host_numbers l) c.as_slice.ensures.value ∙ c.in_ok-hosts.ensures in
    IfOk-weaker c.note_bytes.result _ _ (λ lines is. is ∙ ap₂ (note_of c.args.fleet.now) c.are_several.ensures numbers) c.note_bytes.ensures
