use Rattle.std.proofs.Common.{◌≡◌, ◌++◌, false, map, drop}
use Rattle.undefined_names.specs.Lent.{lent_names}
use Rattle.undefined_names.specs.Outlook.{chained, decides, linked, tree_outlook}
use Rattle.undefined_names.proofs.missing.+missing.Given as goal

-- what was read so far and what is left make the whole
abbrev pub invariant-foresee_chain-loop-tree : goal.invariant-foresee_chain-loop-tree
invariant-foresee_chain-loop-tree g l =
    record {
      goes_on : decides l.deciding l.known ≡ false;
      whole : linked l.deciding (record { holds = l.known; missed = lent_names l.missed.items }) (chained l.deciding (map (tree_outlook l.text (g.F.StaticEnv.outset l.foresight)) (drop l.tree-index l.trees)))
          ≡ record { holds = (chained l.deciding (map (tree_outlook l.text (g.F.StaticEnv.outset l.foresight)) l.trees)).holds; missed = lent_names l.fn.missed.items ++ (chained l.deciding (map (tree_outlook l.text (g.F.StaticEnv.outset l.foresight)) l.trees)).missed };
    }
