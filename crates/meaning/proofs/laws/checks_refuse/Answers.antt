use Rattle.meaning.specs.Executions.{IsEvent}
use Rattle.meaning.specs.Evaluates.{outermost}
use Rattle.meaning.proofs.Checks.{first_are_met, others_are_met, aside_is_met, fewer_are_met}
use Rattle.meaning.proofs.laws.checks_refuse.Goals as goal

pub returns-clause-check : goal.returns-clause-check
returns-clause-check c = λ t before behind check is_check x kept.
    (kept.0, others_are_met (IsEvent t x) (outermost t x) before behind check is_check kept.1)

pub returns-clause-more : goal.returns-clause-more
returns-clause-more c = λ t items more x kept.
    (kept.0, first_are_met (IsEvent t x) (outermost t x) items more kept.1)

pub returns-clause-checks : goal.returns-clause-checks
returns-clause-checks c = λ t definitions many few are_many are_few among x kept. (
  kept.0,
  fewer_are_met (IsEvent t x) (outermost t x) definitions many few are_many are_few among
      kept.1,
)

pub returns-clause-asides : goal.returns-clause-asides
returns-clause-asides c = λ t before behind item aside x.
    let same : _ = aside_is_met (IsEvent t x) (outermost t x) before behind item aside in
    (λ kept. (kept.0, same.0 kept.1), λ kept. (kept.0, same.1 kept.1))
