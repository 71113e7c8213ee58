use Rattle.tests_layers.proofs.benches.walk.show.Given as goal

abbrev pub ghosts-take_walk : goal.ghosts-take_walk
ghosts-take_walk g a = record { shelves = a.opened.values }
