use Rattle.std.proofs.Common.{◌≡◌, ◌++◌, take}
use Rattle.std.specs.List.{flat_map}
use Rattle.escaped_texts.specs.Fields.{field_byte}
use Rattle.escaped_texts.proofs.field.put_field.Given as goal

abbrev pub invariant-loop-byte : goal.invariant-loop-byte
invariant-loop-byte l =
    l.text.items ≡ l.initial.text.items ++ flat_map field_byte (take l.byte-index l.bytes)
