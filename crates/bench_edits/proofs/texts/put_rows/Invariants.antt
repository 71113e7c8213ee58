use Rattle.std.proofs.Common.{◌≡◌, ◌++◌, drop, map}
use Rattle.bench_edits.proofs.texts.put_rows.Given as goal

abbrev pub invariant-loop-number : goal.invariant-loop-number
invariant-loop-number l =
    map (λ r. r.number) l.rows.items ++ drop l.number-index l.numbers
    ≡ map (λ r. r.number) l.initial.rows.items ++ l.numbers
