use Rattle.std.proofs.Common.{inl, refl}
use Rattle.rollout.proofs.commands.strict.find_names.Goals as goal

pub returns-in-Ok-Some-clause-err : goal.returns-in-Ok-Some-clause-err
returns-in-Ok-Some-clause-err c =
    let first = rw c.in-Ok-Some.field-0-is at c.in-Ok-Some.ensures.ok in
    inl (record { missing = c.in-Ok-Some.missing; is = refl; first = first })
