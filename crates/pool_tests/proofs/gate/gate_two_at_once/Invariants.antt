use Rattle.pool_tests.proofs.gate.gate_two_at_once.Given as goal

abbrev pub ghosts-gated : goal.ghosts-gated
ghosts-gated g a = record { name = a.blank.name; parts = a.blank.parts }
