use Rattle.pool_tests.proofs.gate.a_step_ends_or_a_worker_is_wanting.Given as goal

abbrev pub ghosts-gated : goal.ghosts-gated
ghosts-gated g a = record { name = a.blank.name; parts = a.blank.parts }
