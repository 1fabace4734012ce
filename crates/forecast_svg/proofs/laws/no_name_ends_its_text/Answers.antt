use Rattle.std.specs.Str.{chars}
use Rattle.forecast_svg.proofs.EscapeLemmas.{name_ends}
use Rattle.forecast_svg.proofs.laws.no_name_ends_its_text.Goals as goal

pub returns : goal.returns
returns c = λ name. name_ends (chars name)
