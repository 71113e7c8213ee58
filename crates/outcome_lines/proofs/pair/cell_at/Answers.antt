use Rattle.std.proofs.Common.{arith}
use Rattle.outcome_texts.specs.Cells.{NoCell, Settled}
use Rattle.outcome_lines.specs.Records.{model_outcome_of}
use Rattle.outcome_lines.proofs.Parts.{mapped_twice, mapped_at}
use Rattle.outcome_lines.proofs.pair.cell_at.Goals as goal

pub returns : goal.returns
returns c =
    rw (mapped_twice (λ o. Settled o.outcome) model_outcome_of c.args.outcomes.now)
    (mapped_at (λ o. Settled (model_outcome_of o).outcome) c.args.outcomes.now c.args.index
    c.index-outcomes-index.result NoCell (omega arith))
