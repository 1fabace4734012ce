use Rattle.pool_tests.proofs.faults.a_fault_hands_the_board_back.Given as goal

abbrev pub ghosts-of_another_script : goal.ghosts-of_another_script
ghosts-of_another_script g a = record { name = a.blank.name; parts = a.blank.parts }

abbrev pub ghosts-without_workers : goal.ghosts-without_workers
ghosts-without_workers g a = record { name = a.blank.name; parts = a.blank.parts }
