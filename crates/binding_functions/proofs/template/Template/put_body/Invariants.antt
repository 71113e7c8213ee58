use Rattle.std.proofs.Common.{◌<◌, List, length, take}
use Rattle.std.specs.List.{AllZip}
use Rattle.binding_kinds.specs.declared.function.Piece.{Piece}
use Rattle.binding_functions.specs.Templates.{pieces_with, IsTemplate, IsGrown}
use Rattle.binding_functions.proofs.template.Template.put_body.Given as goal

abbrev pub invariant-loop-piece : goal.invariant-loop-piece
invariant-loop-piece l =
    (wholes : List (List Piece)) → AllZip IsTemplate l.arguments wholes
    → IsGrown l.fn.self l.self (pieces_with wholes (take l.piece-index l.body))
    (4096 < length (pieces_with wholes l.body))
