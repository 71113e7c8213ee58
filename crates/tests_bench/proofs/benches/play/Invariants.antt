use Rattle.tests_bench.proofs.benches.play.Given as goal

abbrev pub ghosts-play_over : goal.ghosts-play_over
ghosts-play_over g a = record { shelves = a.opened.values }
