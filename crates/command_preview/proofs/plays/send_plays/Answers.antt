use Rattle.std.proofs.Common.{rules}
use Rattle.command_preview.proofs.Sent.{broke_off}
use Rattle.command_preview.proofs.plays.send_plays.Goals as goal

pub returns-in-Err : goal.returns-in-Err
returns-in-Err g c =
    let h =
    broke_off g.W.Write.contents _ c.new-text.result c.write_plays-told.new.text _ _ _ c.new-text.ensures c.write_plays-told.result c.in-Err.fault c.write_plays-told.ensures
    c.in-Err.ensures.finishes in
    search (rules, h)
