use Rattle.std.proofs.Common.{List, Bor, take}
use Rattle.std.specs.List.{AllZip}
use Rattle.text_values.specs.declared.model.ModelText.{ModelText}
use Rattle.from_scratch.specs.Suites.{AreResolvedAs}
use Rattle.session_answers.specs.Rows.{HasOutcomes}
use Rattle.session_answers.proofs.outcomes.each_test.Given as goal

abbrev pub invariant-loop-test : goal.invariant-loop-test
invariant-loop-test g l =
    (texts : List (Bor ModelText)) → AreResolvedAs texts l.models
    → AllZip (HasOutcomes texts) (take l.test-index l.tests) l.rows.items
