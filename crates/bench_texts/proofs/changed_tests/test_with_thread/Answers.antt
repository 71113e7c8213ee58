use Rattle.std.proofs.Common.{ap, ◌∙◌}
use Rattle.text_values.specs.TestValue.{thread_steps}
use Rattle.bench_texts.specs.BenchTexts.{with_thread}
use Rattle.bench_texts.proofs.changed_tests.test_with_thread.Goals as goal

pub returns : goal.returns
returns c =
    c.replace_thread.ensures
    ∙ ap (λ t. with_thread c.args.thread (thread_steps c.args.other) t) c.in_ok-copy.ensures
