use Rattle.std.proofs.Common.{List, Bor, take}
use Rattle.text_values.specs.declared.model.ModelText.{ModelText}
use Rattle.std.specs.Result.{ForOk}
use Rattle.cat_eval.specs.Tables.{IsOver}
use Rattle.from_scratch.specs.Suites.{AreOutcomes, AreResolvedAs}
use Rattle.from_scratch.proofs.suite.each_model.Given as goal

abbrev pub invariant-loop-model : goal.invariant-loop-model
invariant-loop-model l =
    ((texts : List (Bor ModelText)) → AreResolvedAs texts l.models
    → AreOutcomes (take l.model-index texts) l.test l.outcomes.items)
    × ForOk l.space (IsOver l.evaluator)
