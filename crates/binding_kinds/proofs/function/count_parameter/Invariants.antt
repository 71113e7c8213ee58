use Rattle.std.proofs.Common.{◌≡◌, take}
use Rattle.std.specs.List.{count_by}
use Rattle.binding_kinds.specs.Applicable.{is_parameter_at}
use Rattle.binding_kinds.proofs.function.count_parameter.Given as goal

abbrev pub invariant-loop-piece : goal.invariant-loop-piece
invariant-loop-piece l =
    l.count ≡ count_by (is_parameter_at l.index) (take l.piece-index l.template)
