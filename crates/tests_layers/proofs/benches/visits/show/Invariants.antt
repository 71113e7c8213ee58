use Rattle.tests_layers.proofs.benches.visits.show.Given as goal

abbrev pub ghosts-show_rows : goal.ghosts-show_rows
ghosts-show_rows g a = record { shelves = a.opened.values }
