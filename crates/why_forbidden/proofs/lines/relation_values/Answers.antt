use Rattle.std.proofs.Common.{◌+◌, sym, subst, take, arith, List}
use Rattle.std.specs.List.{AllZip}
use Rattle.why_forbidden.specs.declared.lines.DrawnRelation.{DrawnRelation}
use Rattle.why_forbidden.specs.Drawable.{AreValuesOf}
use Rattle.why_forbidden.proofs.Pairing.{zip_more}
use Rattle.why_forbidden.proofs.lines.relation_values.Goals as goal

pub loop-index-preserved : goal.loop-index-preserved
loop-index-preserved c =
    let relations = c.args.relations.now in
    let i = c.loop-index.index in
    let R = AreValuesOf c.args.space.now in
    let found = c.in_ok-drawn_relation.field-0 in
    subst (λ (vs : List DrawnRelation). AllZip R (take (i + 1) relations) vs)
    (sym {A = List DrawnRelation} c.in_ok-push.ensures.items)
    (zip_more R relations i _ c.loop-index.found.items found (omega arith) c.loop-index.invariant
    c.in_ok-drawn_relation.ensures)
