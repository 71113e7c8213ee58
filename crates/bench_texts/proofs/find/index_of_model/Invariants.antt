use Rattle.std.specs.Str.{bytes_eq}
use Rattle.bench_texts.specs.Held.{plain_model}
use Rattle.bench_texts.proofs.Lists.{IsSearched}
use Rattle.bench_texts.proofs.find.index_of_model.Given as goal

abbrev pub invariant-loop-index : goal.invariant-loop-index
invariant-loop-index l = IsSearched (λ t. bytes_eq t.name l.name) plain_model l.models l.index
