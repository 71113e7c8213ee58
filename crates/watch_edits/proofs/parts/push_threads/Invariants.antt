use Rattle.std.proofs.Common.{◌≡◌, ◌++◌, take, drop, All}
use Rattle.text_values.specs.TestValue.{content_of}
use Rattle.bench_texts.specs.BenchTexts.{with_init}
use Rattle.watch_edits.specs.Parts.{with_parts, with_threads, Differs}
use Rattle.watch_edits.proofs.parts.push_threads.Given as goal

abbrev pub invariant-loop-index : goal.invariant-loop-index
invariant-loop-index l =
    (with_parts (content_of l.new) l.parts.items (content_of l.old)
    ≡ with_threads
    (take l.index (content_of l.new).threads
    ++ drop l.index (content_of l.old).threads)
    (with_init (content_of l.new).init (content_of l.old))) ×
    All (Differs (content_of l.old) (content_of l.new)) l.parts.items
