use Rattle.std.proofs.Common.{arith, ap}
use Rattle.text_values.specs.TestValue.{content_of}
use Rattle.bench_texts.specs.BenchTexts.{with_init, with_tests}
use Rattle.bench_texts.specs.Held.{texts_of}
use Rattle.bench_texts.proofs.Lists.{put_at-changed}
use Rattle.bench_texts.proofs.texts.Texts.replace_init.Goals as goal

pub returns-clause-texts : goal.returns-clause-texts
returns-clause-texts c =
    ap (λ ts. with_tests (λ was. ts) (texts_of c.args.self.now)) (put_at-changed content_of
    (with_init c.args.init.items) c.args.self.now.tests.items c.args.at c.index.result.now
    (content_of c.in_ok-test.test) (omega (arith, c.requires)) c.index.ensures
    c.in_ok-test.ensures)
