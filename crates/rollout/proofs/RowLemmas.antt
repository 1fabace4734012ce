-- The row of a fault: its name, and its details behind it.
use Rattle.std.proofs.Common.{◌≡◌, ℕ, List, [], ◌++◌, append_assoc, ap}
use Rattle.std.specs.Prelude.{codes}
use Rattle.json_output.specs.declared.form.Form.{Form}
use Rattle.json_output.specs.declared.form.Form.TheVariants.{Plain, Json}
use Rattle.rollout.specs.FaultLines.{named_row}

pub row_whole : (form : Form) (name details : List ℕ) → named_row form name [] ++ details ≡ named_row form name details
row_whole Plain name details = append_assoc name [] details
row_whole Json name details = ap (λ l. codes "\"kind\":\"" ++ l) (append_assoc name (codes "\"") details)
