-- What a rehearsal keeps at all times.
use Rattle.std.specs.Prelude.{◌≡◌, ◌<◌, All, IfSome, length}
use Rattle.rehearse.specs.Stacks.{IsRehearsal, RehearsalView}

pub record IsKept (rehearsal : RehearsalView) : Type 0 where
  pub rehearsed : IsRehearsal rehearsal
  pub all : length rehearsal.opening ≡ length rehearsal.rules.fleet.hosts
  pub sizes : All (λ cap. IfSome cap (λ size. 0 < size)) rehearsal.rules.caps
