use Rattle.pool_tests.proofs.by_hand.want_of_memory_stops_a_step.Given as goal

abbrev pub ghosts-stopped : goal.ghosts-stopped
ghosts-stopped g a = record { name = a.blank.name; parts = a.blank.parts }
