use Rattle.watch_run.proofs.start.watch.Given as goal

-- the name of the desk is that of the history and of the store that were opened
abbrev pub ghosts-watch_from-J-Naming : goal.ghosts-watch_from-J-Naming
ghosts-watch_from-J-Naming g a = record { book = a.opened.book.seen.book }

abbrev pub ghosts-watch_from-J-StoreName : goal.ghosts-watch_from-J-StoreName
ghosts-watch_from-J-StoreName g a = record { shelves = a.opened.values.values }
