use Rattle.std.proofs.Common.{sym, subst}
use Rattle.std.proofs.lemmas.List.{take_all}
use Rattle.std.proofs.lemmas.List.Elements.{All-more, All-same}
use Rattle.meaning_outcomes.specs.Outcomes.{FromScratchIsMeant}
use Rattle.meaning_bench.proofs.tests.all_are_meant.Goals as goal

pub loop-test-preserved : goal.loop-test-preserved
loop-test-preserved c =
    All-more FromScratchIsMeant c.args.tests.now c.loop-test.test-index c.test-item.result
    c.loop-test-test.true c.loop-test.invariant
    (subst FromScratchIsMeant c.test-item.is c.from_scratch_is_meant.ensures.meant)

pub returns : goal.returns
returns c =
    All-same FromScratchIsMeant c.args.tests.now _
    (sym (take_all c.loop-test.test-index c.args.tests.now c.loop-test-test.false))
    c.loop-test.invariant
