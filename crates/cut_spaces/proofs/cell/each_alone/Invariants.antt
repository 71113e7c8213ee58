use Rattle.std.proofs.Common.{List, Bor, take}
use Rattle.text_values.specs.declared.model.ModelText.{ModelText}
use Rattle.from_scratch.specs.Suites.{AreOutcomes, AreResolvedAs}
use Rattle.cut_spaces.proofs.cell.each_alone.Given as goal

abbrev pub invariant-loop-model : goal.invariant-loop-model
invariant-loop-model l =
    (texts : List (Bor ModelText)) → AreResolvedAs texts l.models
    → AreOutcomes (take l.model-index texts) l.test l.outcomes.items
