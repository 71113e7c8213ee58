use Rattle.tests_calls.proofs.show_desk.Given as goal

abbrev pub ghosts-open_desk-J-Naming : goal.ghosts-open_desk-J-Naming
ghosts-open_desk-J-Naming g a = record { book = a.opened.book.seen.book }

abbrev pub ghosts-open_desk-J-StoreName : goal.ghosts-open_desk-J-StoreName
ghosts-open_desk-J-StoreName g a = record { shelves = a.opened.values.values }
