use Rattle.tests_layers.proofs.benches.stores.show.Given as goal

abbrev pub ghosts-fill : goal.ghosts-fill
ghosts-fill g a = record { shelves = a.opened.values }
