use Rattle.std.proofs.Common.{length, arith}
use Rattle.text_values.specs.TestValue.{content_of}
use Rattle.std.proofs.lemmas.Grind.{common_steps}
use Rattle.bench_texts.proofs.Lists.{index-map}
use Rattle.bench_texts.proofs.texts.Texts.threads_at.Goals as goal

pub returns : goal.returns
returns c =
    let e = index-map content_of (λ t. length t.threads) c.args.self.now.tests.items c.args.at c.index.result.now 0 (omega arith) c.index.ensures in
    grind (arith, common_steps, e)
