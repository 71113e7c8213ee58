use Rattle.std.proofs.Common.{◌<◌, length, arith, ap}
use Rattle.text_values.specs.TestValue.{content_of, thread_steps}
use Rattle.bench_texts.specs.BenchTexts.{with_thread, with_tests}
use Rattle.bench_texts.specs.Held.{texts_of}
use Rattle.bench_texts.proofs.Lists.{held_at, put_at-changed}
use Rattle.bench_texts.proofs.texts.Texts.replace_thread.Goals as goal

pub test_with_thread-requires : goal.test_with_thread-requires
test_with_thread-requires c =
    held_at content_of (λ t. c.args.thread < length t.threads) c.args.self.now.tests.items c.args.at
    c.index.result.now (omega (arith, c.requires.0)) c.index.ensures c.requires.1

pub returns-clause-texts : goal.returns-clause-texts
returns-clause-texts c =
    ap (λ ts. with_tests (λ was. ts) (texts_of c.args.self.now)) (put_at-changed content_of
    (with_thread c.args.thread (thread_steps c.args.other)) c.args.self.now.tests.items
    c.args.at c.index.result.now (content_of c.in_ok-test.test)
    (omega (arith, c.requires.0)) c.index.ensures c.in_ok-test.ensures)
