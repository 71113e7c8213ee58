-- A part where an expression begins anew.
use Rattle.std.proofs.Common.{◌≡◌, refl}
use Rattle.cat_expressions.specs.declared.terms.OpenExpression.{OpenExpression}
use Rattle.cat_expressions.specs.OpenReading.{IsOpenStart}
use Rattle.cat_syntax.specs.declared.parts.Part.{Part}
use Rattle.cat_syntax.specs.declared.parts.Part.TheVariants as parts
use Rattle.cat_syntax.specs.ParserState.{part_with}
use Rattle.cat_syntax.specs.ReadingItems.{part_of}

pub part_restarted : (o : OpenExpression) (p : Part) → IsOpenStart o → part_with o p ≡ part_of p
part_restarted o (parts.Body h) start =
    rw (start.nothing_open, start.no_operator, start.wants_operand) refl
part_restarted o parts.Title start = refl
part_restarted o parts.Start start = refl
part_restarted o (parts.Let p) start = refl
part_restarted o parts.AfterFlag start = refl
part_restarted o (parts.AfterTilde flagged) start = refl
part_restarted o (parts.Label h v) start = refl
part_restarted o (parts.ShowLabel s v) start = refl
part_restarted o (parts.AfterShowLabel s) start = refl
part_restarted o parts.AfterInclude start = refl
part_restarted o parts.Done start = refl
