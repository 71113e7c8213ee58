use Rattle.tests_layers.proofs.benches.cases.begin.Given as goal

abbrev pub ghosts-play_part : goal.ghosts-play_part
ghosts-play_part g a = record { shelves = a.opened.values }
