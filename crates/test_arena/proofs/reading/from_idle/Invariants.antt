use Rattle.test_arena.proofs.reading.from_idle.Given as goal

abbrev pub ghosts-guard_by : goal.ghosts-guard_by
ghosts-guard_by a = record { name = a.blank.name; parts = a.blank.parts }
