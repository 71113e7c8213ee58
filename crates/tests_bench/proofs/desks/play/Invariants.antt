use Rattle.tests_bench.proofs.desks.play.Given as goal

abbrev pub ghosts-play_from-J-Naming : goal.ghosts-play_from-J-Naming
ghosts-play_from-J-Naming g a = record { book = a.opened.book.seen.book }

abbrev pub ghosts-play_from-J-StoreName : goal.ghosts-play_from-J-StoreName
ghosts-play_from-J-StoreName g a = record { shelves = a.opened.values.values }
