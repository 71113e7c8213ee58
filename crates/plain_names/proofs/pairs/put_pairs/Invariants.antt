use Rattle.std.proofs.Common.{◌≡◌, ◌<◌}
use Rattle.meaning_plain.specs.Lists.{Grows}
use Rattle.plain_executions.specs.Executions.{AreRelated, execution_as}
use Rattle.plain_names.specs.Related.{IsRelatedBy}
use Rattle.plain_names.proofs.pairs.put_pairs.Given as goal

abbrev pub invariant-loop-to : goal.invariant-loop-to
invariant-loop-to l =
    Grows (λ p. (p.0 ≡ l.from) × (p.1 < l.to) × AreRelated (IsRelatedBy l.name l.shown.seen.items (execution_as l.execution)) l.shown.seen.items l.from p.1)
    l.initial.pairs.items l.pairs.items
