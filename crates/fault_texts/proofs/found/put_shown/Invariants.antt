use Rattle.std.proofs.Common.{◌≡◌, ◌++◌, map, take, ◌+◌, ◌-◌}
use Rattle.fault_texts.specs.Lines.{shown_byte}
use Rattle.fault_texts.proofs.found.put_shown.Given as goal

abbrev pub invariant-loop-byte : goal.invariant-loop-byte
invariant-loop-byte l = l.text.items ≡ l.fn.text.items ++ map shown_byte (take l.byte-index l.bytes)
