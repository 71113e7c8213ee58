use Rattle.std.proofs.Common.{◌≡◌, ◌≤◌, take}
use Rattle.fault_texts.specs.Positions.{count_behind}
use Rattle.fault_texts.proofs.position.count_behind.Given as goal

abbrev pub invariant-loop-byte : goal.invariant-loop-byte
invariant-loop-byte l =
    (l.count ≡ count_behind l.sign (take l.byte-index l.bytes)) × (l.count ≤ l.byte-index)
