use Rattle.std.proofs.Common.{◌∙◌, rules}
use Rattle.thread_runs.proofs.Counts.{stop_here}
use Rattle.thread_runs.proofs.free.label_index.Goals as goal

pub returns-then-is_label-clause-count : goal.returns-then-is_label-clause-count
returns-then-is_label-clause-count c =
    λ size. c.loop-index.invariant size
    ∙ stop_here size c.args.lines.now c.loop-index.index c.args.label _ c.loop-index-test.true
    (c.is_label.ensures.0 (search rules))
