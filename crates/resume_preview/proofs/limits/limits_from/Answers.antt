use Rattle.std.proofs.Common.{List, ℕ, ap, ◌∙◌, subst}
use Rattle.std.proofs.KnownBytes.{Keeps-refl}
use Rattle.std.specs.Io.KnownBytes.{Appends}
use Rattle.bounded_io.specs.Sending.{SendsFirst}
use Rattle.fleet_states.specs.declared.status.Status.{Status}
use Rattle.recap.specs.LimitsTable.{table_by}
use Rattle.resume_preview.proofs.TableLemmas.{table_refused, table_so}
use Rattle.resume_preview.proofs.limits.limits_from.Goals as goal

pub returns-in-Err-stand_by-clause-err : goal.returns-in-Err-stand_by-clause-err
returns-in-Err-stand_by-clause-err g c = (
  table_refused c.in-Ok.fleet c.args.inventory.now c.args.wish.journal.now c.args.wish.mended.now c.args.wish.takes_others c.in-Ok.ensures.ok c.in-Err-stand_by.fault c.in-Err-stand_by.ensures.err,
  Keeps-refl (g.W.Write.contents c.args.out.now),
)

pub returns-in-Ok-write_limits_by-clause-ok : goal.returns-in-Ok-write_limits_by-clause-ok
returns-in-Ok-write_limits_by-clause-ok g c =
    let fleet = c.in-Ok.fleet in
    let stood = c.in-Ok-stand_by.ensures.ok in
    let statuses : List Status = c.in-Ok-stand_by.statuses.items in
    record {
      text = table_by fleet statuses;
      is = record { fleet = fleet; built = c.in-Ok.ensures.ok; mended = stood.mended; named = stood.named; state = stood.state; begun = stood.begun; text_is = table_so fleet stood.state stood.mended statuses stood.left };
      written = subst (λ (l : List Status). Appends (g.W.Write.contents c.args.out.now) (g.W.Write.contents c.write_limits_by.new.out) (table_by fleet l)) c.as_slice.ensures.value c.in-Ok-write_limits_by.ensures;
    }

pub returns-clause-err : goal.returns-clause-err
returns-clause-err g c =
    let fleet = c.in-Ok.fleet in
    let stood = c.in-Ok-stand_by.ensures.ok in
    let statuses : List Status = c.in-Ok-stand_by.statuses.items in
    record {
      text = table_by fleet statuses;
      is = record { fleet = fleet; built = c.in-Ok.ensures.ok; mended = stood.mended; named = stood.named; state = stood.state; begun = stood.begun; text_is = table_so fleet stood.state stood.mended statuses stood.left };
      written = subst (λ (l : List Status). SendsFirst (g.W.Write.contents c.args.out.now) (g.W.Write.contents c.write_limits_by.new.out) (table_by fleet l) c.in-Err-write_limits_by.fault.written)
          c.as_slice.ensures.value c.in-Err-write_limits_by.ensures;
    }
