use Rattle.std.proofs.Common.{List, Bor, take}
use Rattle.text_values.specs.declared.model.ModelText.{ModelText}
use Rattle.from_scratch.specs.Suites.{AreSuiteRows, AreResolvedAs}
use Rattle.cut_spaces.proofs.cell.each_test.Given as goal

abbrev pub invariant-loop-test : goal.invariant-loop-test
invariant-loop-test l =
    (texts : List (Bor ModelText)) → AreResolvedAs texts l.models
    → AreSuiteRows texts (take l.test-index l.tests) l.rows.items
