use Rattle.std.proofs.Common.{refl}
use Rattle.board.specs.Operations.{no_board}
use Rattle.board.specs.Legal.{no_tests_or_models}
use Rattle.board.proofs.Names.{names_from}
use Rattle.board.proofs.laws.names_are_those.Goals as goal

pub returns : goal.returns
returns c =
    λ ops l.
    let n = names_from ops no_board no_tests_or_models 0 l (record { tests = refl; models = refl }) in
    record { tests = n.tests; models = n.models }
