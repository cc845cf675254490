use Rattle.attr_rounds.proofs.rounds.guard_of.Given as goal

abbrev pub ghosts-run_with_count : goal.ghosts-run_with_count
ghosts-run_with_count g a = record { name = a.blank.name; parts = a.blank.parts }
