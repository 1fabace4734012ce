use Rattle.std.proofs.Common.{length, sym, ap, arith}
use Rattle.command_preview.proofs.holes.Holes.text_at.Goals as goal

pub at-requires : goal.at-requires
at-requires c =
    let texts = c.args.self.now.are c.args.name.now c.in-Some.hole.now (sym c.in-Some.ensures.value) in
    omega (arith, ap length texts, c.requires)
