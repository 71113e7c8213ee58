use Rattle.tests_calls.proofs.show_bench.Given as goal

abbrev pub ghosts-fill : goal.ghosts-fill
ghosts-fill g a = record { shelves = a.opened.values }

abbrev pub ghosts-play_bench : goal.ghosts-play_bench
ghosts-play_bench g a = record { shelves = a.opened.values }
