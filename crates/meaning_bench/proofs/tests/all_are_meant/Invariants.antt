use Rattle.std.proofs.Common.{All, take}
use Rattle.meaning_outcomes.specs.Outcomes.{FromScratchIsMeant}
use Rattle.meaning_bench.proofs.tests.all_are_meant.Given as goal

abbrev pub invariant-loop-test : goal.invariant-loop-test
invariant-loop-test l = All FromScratchIsMeant (take l.test-index l.tests)
