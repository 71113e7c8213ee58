use Rattle.std.proofs.Common.{◌≡◌, take, map}
use Rattle.outcome_texts.specs.Cells.{cell_of, Settled}
use Rattle.session_answers.proofs.rows.cells_of.Given as goal

abbrev pub invariant-loop-outcome : goal.invariant-loop-outcome
invariant-loop-outcome l = map cell_of l.cells.items ≡ map Settled (take l.outcome-index l.outcomes)
