use Rattle.std.proofs.Common.{◌≡◌, drop, map}
use Rattle.memo_core.specs.Tests.{same_keys}
use Rattle.memo_engine.proofs.finds.keys_are.Given as goal

abbrev pub invariant-loop-i : goal.invariant-loop-i
invariant-loop-i l =
    same_keys (drop l.i l.keys) (map (λ i. i.key) (drop l.i l.inputs))
    ≡ same_keys l.keys (map (λ i. i.key) l.inputs)
