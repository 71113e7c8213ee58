use Rattle.std.proofs.Common.{All, List, subst}
use Rattle.text_values.specs.declared.test.Test.{Test}
use Rattle.meaning_outcomes.specs.Outcomes.{FromScratchIsMeant}
use Rattle.meaning_bench.proofs.tests.tests_are_meant.Goals as goal

pub returns : goal.returns
returns g c =
    subst (λ (ts : List Test). All FromScratchIsMeant ts)
    (rw (← c.texts.ensures, ← c.texts-2.ensures) c.tests.ensures.tests)
    c.all_are_meant.ensures
