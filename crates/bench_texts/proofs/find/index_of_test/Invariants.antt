use Rattle.std.specs.Str.{bytes_eq}
use Rattle.text_values.specs.TestValue.{content_of}
use Rattle.bench_texts.proofs.Lists.{IsSearched}
use Rattle.bench_texts.proofs.find.index_of_test.Given as goal

abbrev pub invariant-loop-index : goal.invariant-loop-index
invariant-loop-index l = IsSearched (λ t. bytes_eq t.name l.name) content_of l.tests l.index
