use Rattle.core_tests.proofs.refused.a_batch_comes_to_its_end_whatever_is_refused.Given as goal

abbrev pub ghosts-rolled : goal.ghosts-rolled
ghosts-rolled g a = record { name = a.blank.name; parts = a.blank.parts }
