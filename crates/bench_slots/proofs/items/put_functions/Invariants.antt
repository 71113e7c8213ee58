use Rattle.std.proofs.Common.{◌≡◌, ◌++◌, map, drop}
use Rattle.bench_slots.specs.Slots.{function_key}
use Rattle.bench_slots.proofs.items.put_functions.Given as goal

abbrev pub invariant-loop-function : goal.invariant-loop-function
invariant-loop-function l =
    l.keys.items ++ map (function_key l.numbers) (drop l.function-index l.functions)
    ≡ l.initial.keys.items ++ map (function_key l.numbers) l.functions
