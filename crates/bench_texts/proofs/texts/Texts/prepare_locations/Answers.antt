use Rattle.std.proofs.Common.{refl, ap, subst}
use Rattle.bench_texts.specs.declared.change.Change.TheVariants as changes
use Rattle.bench_texts.specs.BenchTexts.{changed_at, with_observed, with_tests}
use Rattle.bench_texts.specs.Held.{texts_of}
use Rattle.bench_texts.specs.Changes.{changed_texts}
use Rattle.bench_texts.specs.Edits.{SetLocations}
use Rattle.bench_texts.proofs.Lists.{length-changed_at}
use Rattle.bench_texts.proofs.Refusing.{limited_answers, limited_ready}
use Rattle.bench_texts.specs.Replacements.{IsTestPut}
use Rattle.bench_texts.proofs.texts.Texts.prepare_locations.Goals as goal

pub returns-in-Ok-clause-answer : goal.returns-in-Ok-clause-answer
returns-in-Ok-clause-answer c =
    limited_answers (texts_of c.args.self.now) c.args.spent
    (SetLocations c.args.test.now c.args.text.now)
    (changes.SetObserved c.in_ok-at.at c.in-Ok.observed) c.limited_alike.result
    (rw c.in_ok-at.ensures.1 refl) (
      c.in-Ok.observed.items,
      rw (← c.threads_at.ensures) c.in-Ok.ensures.found,
      ap
          (λ i. with_tests (changed_at i (with_observed c.in-Ok.observed.items))
          (texts_of c.args.self.now)) c.in_ok-at.ensures.0,
    )
    (λ r put. subst (λ i. IsTestPut i r) c.in_ok-at.ensures.0 put)
    (c.limited_alike.ensures
    (changed_texts (changes.SetObserved c.in_ok-at.at c.in-Ok.observed)
    (texts_of c.args.self.now))
    (length-changed_at (with_observed c.in-Ok.observed.items)
    (texts_of c.args.self.now).tests c.in_ok-at.at) refl)

pub returns-in-Ok-clause-ready : goal.returns-in-Ok-clause-ready
returns-in-Ok-clause-ready c =
    limited_ready (texts_of c.args.self.now) c.args.self.now c.args.spent
    (changes.SetObserved c.in_ok-at.at c.in-Ok.observed)
    (changed_texts (changes.SetObserved c.in_ok-at.at c.in-Ok.observed)
    (texts_of c.args.self.now)) c.limited_alike.result (c.in_ok-at.ensures.2)
    (c.limited_alike.ensures
    (changed_texts (changes.SetObserved c.in_ok-at.at c.in-Ok.observed)
    (texts_of c.args.self.now))
    (length-changed_at (with_observed c.in-Ok.observed.items)
    (texts_of c.args.self.now).tests c.in_ok-at.at) refl)
