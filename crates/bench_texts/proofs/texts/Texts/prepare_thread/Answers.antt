use Rattle.std.proofs.Common.{refl, ap, length, subst}
use Rattle.text_values.specs.TestValue.{thread_steps}
use Rattle.bench_texts.specs.declared.change.Change.TheVariants as changes
use Rattle.bench_texts.specs.BenchTexts.{changed_at, with_thread, with_tests}
use Rattle.bench_texts.specs.Held.{texts_of}
use Rattle.bench_texts.specs.Changes.{changed_texts}
use Rattle.bench_texts.specs.Edits.{SetThread}
use Rattle.bench_texts.proofs.Lists.{length-changed_at}
use Rattle.bench_texts.proofs.Refusing.{limited_answers, limited_ready}
use Rattle.std.proofs.Common.{◌<◌}
use Rattle.std.proofs.lemmas.Bool.{lt-ltb}
use Rattle.bench_texts.specs.Edits.{thread_count}
use Rattle.bench_texts.proofs.Lists.{held_count}
use Rattle.bench_texts.specs.Replacements.{IsTestPut}
use Rattle.bench_texts.proofs.texts.Texts.prepare_thread.Goals as goal

pub returns-in-Ok-clause-answer : goal.returns-in-Ok-clause-answer
returns-in-Ok-clause-answer c =
    let below : c.args.thread < thread_count (texts_of c.args.self.now) c.args.test.now = rw (← c.threads_at.ensures) c.if-thread-threads_at.false in
    limited_answers (texts_of c.args.self.now) c.args.spent
    (SetThread c.args.test.now c.args.thread c.args.text.now)
    (changes.SetThread c.in_ok-at.at c.args.thread c.in-Ok.other) c.limited_alike.result
    (rw (c.in_ok-at.ensures.1, lt-ltb _ _ below) refl) (
      thread_steps c.in-Ok.other,
      c.in-Ok.ensures.found,
      ap
          (λ i. with_tests (changed_at i (with_thread c.args.thread (thread_steps c.in-Ok.other)))
          (texts_of c.args.self.now)) c.in_ok-at.ensures.0,
    )
    (λ r put. subst (λ i. IsTestPut i r) c.in_ok-at.ensures.0 put)
    (c.limited_alike.ensures
    (changed_texts (changes.SetThread c.in_ok-at.at c.args.thread c.in-Ok.other)
    (texts_of c.args.self.now))
    (length-changed_at (with_thread c.args.thread (thread_steps c.in-Ok.other))
    (texts_of c.args.self.now).tests c.in_ok-at.at) refl)

pub returns-in-Ok-clause-ready : goal.returns-in-Ok-clause-ready
returns-in-Ok-clause-ready c =
    let below : c.args.thread < thread_count (texts_of c.args.self.now) c.args.test.now = rw (← c.threads_at.ensures) c.if-thread-threads_at.false in
    limited_ready (texts_of c.args.self.now) c.args.self.now c.args.spent
    (changes.SetThread c.in_ok-at.at c.args.thread c.in-Ok.other)
    (changed_texts (changes.SetThread c.in_ok-at.at c.args.thread c.in-Ok.other)
    (texts_of c.args.self.now)) c.limited_alike.result (
      c.in_ok-at.ensures.2,
      rw c.in_ok-at.ensures.0 (held_count (λ t. length t.threads)
          (texts_of c.args.self.now).tests _ c.args.thread below),
    )
    (c.limited_alike.ensures
    (changed_texts (changes.SetThread c.in_ok-at.at c.args.thread c.in-Ok.other)
    (texts_of c.args.self.now))
    (length-changed_at (with_thread c.args.thread (thread_steps c.in-Ok.other))
    (texts_of c.args.self.now).tests c.in_ok-at.at) refl)
