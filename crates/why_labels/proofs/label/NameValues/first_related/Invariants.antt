use Rattle.std.proofs.Common.{ℕ, ◌<◌, get_or}
use Rattle.why_labels.specs.declared.unions.ModelName.{ModelName}
use Rattle.why_labels.specs.Labels.{Relates}
use Rattle.why_labels.proofs.label.NameValues.first_related.Given as goal

abbrev pub invariant-loop-index : goal.invariant-loop-index
invariant-loop-index l =
    (j : ℕ) → j < l.index → (d : ModelName) → Relates l.self l.pair (get_or l.names j d) → ⊥
