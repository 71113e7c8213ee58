use Rattle.std.proofs.Common.{◌≡◌, ◌++◌, take}
use Rattle.std.specs.List.{flat_map}
use Rattle.escaped_texts.specs.Escaped.{escaped_byte}
use Rattle.escaped_texts.proofs.escape.put_escaped.Given as goal

abbrev pub invariant-loop-byte : goal.invariant-loop-byte
invariant-loop-byte l =
    l.text.items ≡ l.initial.text.items ++ flat_map escaped_byte (take l.byte-index l.bytes)
