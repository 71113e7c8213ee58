use Rattle.times.proofs.benches.show_sizes.Given as goal

abbrev pub ghosts-show : goal.ghosts-show
ghosts-show g a = record { shelves = a.opened.values }
