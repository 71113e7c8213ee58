use Rattle.board.specs.Legal.{no_tests_or_models}
use Rattle.board.proofs.Counts.{counted, numbered, apart_from}
use Rattle.board.proofs.view_laws.edits_are_counted.Goals as goal

pub returns-clause-counted : goal.returns-clause-counted
returns-clause-counted c = counted

pub returns-clause-numbered : goal.returns-clause-numbered
returns-clause-numbered c = numbered

pub returns-clause-apart : goal.returns-clause-apart
returns-clause-apart c = λ ops legal. apart_from ops no_tests_or_models 0 legal
