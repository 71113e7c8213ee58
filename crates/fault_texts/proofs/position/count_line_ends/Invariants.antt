use Rattle.std.proofs.Common.{◌≡◌, ◌≤◌, take, length}
use Rattle.std.specs.List.{filter}
use Rattle.text_values.specs.Layout.{is_line_end}
use Rattle.fault_texts.proofs.position.count_line_ends.Given as goal

abbrev pub invariant-loop-byte : goal.invariant-loop-byte
invariant-loop-byte l =
    (l.count ≡ length (filter is_line_end (take l.byte-index l.bytes))) × (l.count ≤ l.byte-index)
