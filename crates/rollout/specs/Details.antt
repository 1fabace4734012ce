-- The details of a fault, as the program's table gives them.
use Rattle.std.specs.Prelude.{true, false, decimal}
use Rattle.recap.specs.Printable.{printed}
use Rattle.rollout.specs.FaultLines.{ShownDetail}
use Rattle.rollout.specs.declared.detail.Detail.{Detail}
use Rattle.rollout.specs.declared.detail.Detail.TheVariants.{Text, Number}

-- a text has its unprintable bytes replaced, and a number is decimal
abbrev pub shown : Detail → ShownDetail
shown (Text key value) = record { key = key.now; value = printed value.now; is_number = false }
shown (Number key value) = record { key = key.now; value = decimal value; is_number = true }
