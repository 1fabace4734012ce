use Rattle.json.specs.Json.{document}
use Rattle.json.specs.Value.{value_view}
use Rattle.duplicate_keys.proofs.Unique.{none_in_read}
use Rattle.duplicate_keys.proofs.listing.has_none.Goals as goal

pub returns-in-Ok : goal.returns-in-Ok
returns-in-Ok c = λ is. none_in_read (document c.args.text.now) (value_view c.in-Ok.field-0) c.in-Ok.ensures.ok c.in-Ok.ensures.unique
