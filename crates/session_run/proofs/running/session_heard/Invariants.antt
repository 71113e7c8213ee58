use Rattle.session_run.proofs.running.session_heard.Given as goal

-- the session's desk has the history and the store that were opened
abbrev pub ghosts-session_from-J-Naming : goal.ghosts-session_from-J-Naming
ghosts-session_from-J-Naming g a = record { book = a.opened.book.seen.book }

abbrev pub ghosts-session_from-J-StoreName : goal.ghosts-session_from-J-StoreName
ghosts-session_from-J-StoreName g a = record { shelves = a.opened.values.values }
