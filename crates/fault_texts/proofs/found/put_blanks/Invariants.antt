use Rattle.std.proofs.Common.{◌≡◌, ◌++◌, map, take, ◌+◌, ◌-◌}
use Rattle.fault_texts.specs.Lines.{blank_below}
use Rattle.fault_texts.proofs.found.put_blanks.Given as goal

abbrev pub invariant-loop-byte : goal.invariant-loop-byte
invariant-loop-byte l =
    l.text.items ≡ l.fn.text.items ++ map blank_below (take l.byte-index l.bytes)
