use Rattle.std.proofs.Common.{◌≡◌, take}
use Rattle.outcome_texts.specs.Columns.{head_fields}
use Rattle.outcome_texts.proofs.table.head_line.Given as goal

abbrev pub invariant-loop-model : goal.invariant-loop-model
invariant-loop-model l = l.fields.items ≡ head_fields (take l.model-index l.models)
