use Rattle.std.proofs.Common.{inl}
use Rattle.std.proofs.KnownBytes.{Keeps-refl}
use Rattle.rollout.proofs.commands.groups.groups.Goals as goal

pub returns-in-Err : goal.returns-in-Err
returns-in-Err g c = record {
  paint = c.paint_of-paint.result;
  painted = c.paint_of-paint.ensures;
  surveys = inl (c.in-Err.ensures.err, Keeps-refl (g.W.Write.contents c.args.out.now));
}
