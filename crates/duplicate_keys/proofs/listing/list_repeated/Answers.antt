use Rattle.std.proofs.Common.{◌≡◌, IfOk, List, take, ap, ◌∙◌, subst}
use Rattle.json.specs.Json.{document}
use Rattle.duplicate_keys.specs.Inside.{paths_of}
use Rattle.duplicate_keys.specs.Repeats.{Path, repeated_in_any, told_in}
use Rattle.duplicate_keys.proofs.Ways.{in_text, in_other_bytes}
use Rattle.duplicate_keys.proofs.listing.list_repeated.Goals as goal

pub returns-in-Ok : goal.returns-in-Ok
returns-in-Ok c =
    let read = c.in-Ok.ensures.cases in
    let whole : take 100 (repeated_in_any (document c.in-Ok.text.now)) ≡ told_in c.args.text.now = ap (λ bytes. take 100 (repeated_in_any (document bytes))) read.0 ∙ in_text c.args.text.now read.1 in
    subst (λ (paths : List Path). IfOk c.list_in_text.result (λ told. paths_of told.items ≡ paths)) whole c.list_in_text.ensures

pub returns-in-Err : goal.returns-in-Err
returns-in-Err c = ap paths_of c.new.ensures.items ∙ in_other_bytes c.args.text.now c.in-Err.ensures.cases.0
