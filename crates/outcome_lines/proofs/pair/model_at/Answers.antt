use Rattle.std.proofs.Common.{arith, []}
use Rattle.outcome_lines.specs.Records.{model_outcome_of}
use Rattle.outcome_lines.proofs.Parts.{mapped_twice, mapped_at}
use Rattle.outcome_lines.proofs.pair.model_at.Goals as goal

pub returns : goal.returns
returns c =
    rw (mapped_twice (λ o. o.model) model_outcome_of c.args.outcomes.now)
    (mapped_at (λ o. (model_outcome_of o).model) c.args.outcomes.now c.args.index
    c.index-outcomes-index.result [] (omega arith))
