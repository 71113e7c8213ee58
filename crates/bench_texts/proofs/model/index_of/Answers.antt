use Rattle.std.proofs.lemmas.Grind.{common_steps}
use Rattle.std.proofs.Common.{◌==◌, arith, sym}
use Rattle.std.proofs.lemmas.List.Sums.{position_or_len_is}
use Rattle.bench_texts.proofs.model.index_of.Goals as goal

pub returns-then-numbers-index : goal.returns-then-numbers-index
returns-then-numbers-index c =
    sym (position_or_len_is (λ n. n == c.args.number) c.args.numbers.now c.loop-index.index 0
    (omega arith) c.loop-index.invariant (λ _. grind (arith, common_steps)))

pub returns : goal.returns
returns c =
    sym (position_or_len_is (λ n. n == c.args.number) c.args.numbers.now _ 0 (omega arith)
    (λ k l. c.loop-index.invariant k (omega arith)) (λ l. grind arith))
