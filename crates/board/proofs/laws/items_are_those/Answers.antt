use Rattle.std.proofs.Common.{refl}
use Rattle.board.specs.Operations.{no_board}
use Rattle.board.specs.Legal.{no_tests_or_models}
use Rattle.board.proofs.Items.{items_from}
use Rattle.board.proofs.laws.items_are_those.Goals as goal

pub returns : goal.returns
returns c = λ ops l. items_from ops no_board no_tests_or_models 0 l refl
