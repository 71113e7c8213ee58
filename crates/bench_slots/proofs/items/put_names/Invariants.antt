use Rattle.std.proofs.Common.{◌≡◌, ◌++◌, map, drop}
use Rattle.bench_slots.specs.Slots.{histories_in, name_key}
use Rattle.bench_slots.proofs.items.put_names.Given as goal

abbrev pub invariant-loop-input : goal.invariant-loop-input
invariant-loop-input l =
    let key = name_key (histories_in l.histories) l.numbers l.items in
    l.keys.items ++ map key (drop l.input-index l.inputs) ≡ l.initial.keys.items ++ map key l.inputs
