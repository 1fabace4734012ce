use Rattle.pool_tests.proofs.memory.a_roll_ends_or_memory_is_wanting.Given as goal

abbrev pub ghosts-rolled : goal.ghosts-rolled
ghosts-rolled g a = record { name = a.blank.name; parts = a.blank.parts }
