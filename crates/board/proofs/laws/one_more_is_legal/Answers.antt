use Rattle.board.specs.Legal.{no_tests_or_models}
use Rattle.board.proofs.Names as proof
use Rattle.board.proofs.laws.one_more_is_legal.Goals as goal

pub returns : goal.returns
returns c = λ ops op l may. proof.one_more_is_legal ops op no_tests_or_models 0 l may
