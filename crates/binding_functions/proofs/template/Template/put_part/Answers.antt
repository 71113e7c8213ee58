use Rattle.std.proofs.Common.{[], ◌∷◌, length, refl, sym}
use Rattle.std.proofs.lemmas.Option.{slice_get_read, slice_get_past}
use Rattle.binding_kinds.specs.declared.function.Piece.TheVariants as pieces
use Rattle.binding_functions.proofs.Filling.{zip_some, zip_none, grown_as, on_ok_as}
use Rattle.binding_functions.proofs.template.Template.put_part.Goals as goal

pub returns-in-Some : goal.returns-in-Some
returns-in-Some c = λ wholes all.
    let there = slice_get_read c.args.arguments.now (length c.args.arguments.now) c.in-Parameter.index c.in-Some.argument.now refl c.in-Some.ensures.lookup.3.0 c.in-Some.ensures.lookup.1 in
    let one = zip_some c.args.arguments.now wholes c.in-Parameter.index c.in-Some.argument.now (pieces.NoPairs ∷ []) all there in
    rw c.in-Parameter.is (c.put_argument.ensures _ one)

pub returns-in-None : goal.returns-in-None
returns-in-None c = λ wholes all.
    let none = zip_none c.args.arguments.now wholes c.in-Parameter.index (pieces.NoPairs ∷ []) all (slice_get_past c.args.arguments.now c.in-Parameter.index c.in-None.ensures.lookup.3) in
    rw c.in-Parameter.is (on_ok_as c.put.result _ _
    (λ g. grown_as _ _ _ _ _ _ (sym none) (λ bad. absurd bad) g) c.put.ensures)
