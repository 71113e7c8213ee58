use Rattle.std.proofs.Common.{◌≡◌, ◌++◌, drop}
use Rattle.bench_slots.specs.Slots.{answer_key, keys_by}
use Rattle.bench_slots.proofs.model.put_answers.Given as goal

abbrev pub invariant-loop-index : goal.invariant-loop-index
invariant-loop-index l =
    l.keys.items ++ keys_by answer_key l.numbers l.items (drop l.index-index l.used)
    ≡ l.initial.keys.items ++ keys_by answer_key l.numbers l.items l.used
