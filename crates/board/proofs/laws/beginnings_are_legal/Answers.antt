use Rattle.board.specs.Legal.{no_tests_or_models}
use Rattle.board.proofs.Names.{beginning_is_legal}
use Rattle.board.proofs.laws.beginnings_are_legal.Goals as goal

pub returns : goal.returns
returns c = λ ops others l. beginning_is_legal ops others no_tests_or_models 0 l
