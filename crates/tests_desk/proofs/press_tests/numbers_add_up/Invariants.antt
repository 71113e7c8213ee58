use Rattle.tests_desk.proofs.press_tests.numbers_add_up.Given as goal

-- the book that was just opened
abbrev pub ghosts-added : goal.ghosts-added
ghosts-added g a = record { book = a.seed.seen.book }
