use Rattle.std.proofs.Common.{◌≡◌}
use Rattle.cat_eval.proofs.evaluator.Evaluator.prepare.Given as goal

abbrev pub invariant-loop-index : goal.invariant-loop-index
invariant-loop-index l = l.self.table ≡ l.initial.self.table
