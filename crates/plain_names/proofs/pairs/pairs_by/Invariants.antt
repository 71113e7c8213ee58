use Rattle.std.proofs.Common.{◌<◌}
use Rattle.meaning_plain.specs.Lists.{HasPairs}
use Rattle.plain_executions.specs.Executions.{AreRelated, execution_as}
use Rattle.plain_names.specs.Related.{IsRelatedBy}
use Rattle.plain_names.proofs.pairs.pairs_by.Given as goal

abbrev pub invariant-loop-from : goal.invariant-loop-from
invariant-loop-from l =
    HasPairs (λ i j. (i < l.from) × AreRelated (IsRelatedBy l.name l.shown.seen.items (execution_as l.execution)) l.shown.seen.items i j)
    l.pairs.items
