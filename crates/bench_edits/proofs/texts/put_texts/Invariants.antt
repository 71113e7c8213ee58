use Rattle.std.proofs.Common.{◌≡◌, ◌++◌, drop, map}
use Rattle.bench_edits.proofs.texts.put_texts.Given as goal

abbrev pub invariant-loop-item : goal.invariant-loop-item
invariant-loop-item l =
    map (λ x. x.now) l.texts.items ++ drop l.item-index l.items
    ≡ map (λ x. x.now) l.initial.texts.items ++ l.items
