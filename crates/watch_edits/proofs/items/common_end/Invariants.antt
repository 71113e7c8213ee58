use Rattle.std.proofs.Common.{◌-◌}
use Rattle.text_values.specs.ModelValues.{clauses_of}
use Rattle.watch_edits.specs.Changes.{IsCommonEnd}
use Rattle.watch_edits.proofs.items.common_end.Given as goal

abbrev pub invariant-loop-count : goal.invariant-loop-count
invariant-loop-count l = IsCommonEnd (clauses_of l.old) (clauses_of l.new) l.count

abbrev pub decreases-loop-count : goal.decreases-loop-count
decreases-loop-count l = l.most - l.count
