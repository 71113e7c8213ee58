use Rattle.std.proofs.Common.{◌≡◌, ◌+◌, drop}
use Rattle.std.specs.List.{position_or_len}
use Rattle.std.specs.Str.{bytes_eq}
use Rattle.board.proofs.changes.row_index.Given as goal

abbrev pub invariant-loop-index : goal.invariant-loop-index
invariant-loop-index l =
    position_or_len (λ r. bytes_eq r.name l.name) l.rows
    ≡ l.index + position_or_len (λ r. bytes_eq r.name l.name) (drop l.index l.rows)
