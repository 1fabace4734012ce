use Rattle.std.proofs.Common.{◌≡◌, ◌++◌, false, drop}
use Rattle.undefined_names.specs.Lent.{lent_names}
use Rattle.undefined_names.specs.Outlook.{chained, decides, linked, outlook_of, outlooks}
use Rattle.undefined_names.proofs.missing.foresee.Given as goal

-- what was read so far and what is left make the whole
abbrev pub invariant-loop-part : goal.invariant-loop-part
invariant-loop-part g l =
    record {
      goes_on : decides false l.known ≡ false;
      whole : linked false (record { holds = l.known; missed = lent_names l.missed.items }) (chained false (outlooks (g.F.StaticEnv.outset l.foresight) l.left l.trees (drop l.part-index l.part-items)))
          ≡ record { holds = (outlook_of (g.F.StaticEnv.outset l.foresight) l.cond).holds; missed = lent_names l.fn.missed.items ++ (outlook_of (g.F.StaticEnv.outset l.foresight) l.cond).missed };
    }
