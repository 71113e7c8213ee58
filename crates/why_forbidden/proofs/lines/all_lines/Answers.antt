use Rattle.std.proofs.Common.{◌+◌, ◌≡◌, ◌<◌, ◌≤◌, sym, subst, take, length, arith, List, ℕ}
use Rattle.std.specs.List.{AllZip}
use Rattle.std.proofs.lemmas.List.{take_all}
use Rattle.std.proofs.lemmas.Slice.Zip.{AllZip-long}
use Rattle.bit_rows.specs.Relation.{IsMember}
use Rattle.predefined_names.specs.declared.predefined.Predefined.{Predefined}
use Rattle.predefined_names.specs.declared.predefined.Predefined.TheVariants as names
use Rattle.draw_graph.specs.declared.drawing.Edges.{Edges}
use Rattle.draw_graph.specs.declared.drawing.Ink.{Ink}
use Rattle.draw_graph.specs.declared.drawing.Ink.TheVariants as inks
use Rattle.why_forbidden.specs.Drawable.{AreValuesOf}
use Rattle.why_forbidden.specs.Drawings.{AreLines, relations}
use Rattle.why_forbidden.proofs.Pairing.{lines_with, zip_at, zip_more}
use Rattle.why_forbidden.proofs.lines.all_lines.Goals as goal

some : Predefined × Ink
some = (names.ProgramOrder, inks.Order)

pub lines_of-requires-clause-value : goal.lines_of-requires-clause-value
lines_of-requires-clause-value c =
    let here = zip_at (AreValuesOf c.args.space.now) relations c.args.relations.now c.loop-index.index some c.index-relations-index.result c.requires.values (omega arith) c.index-relations-index.is in
    here.values

pub loop-index-preserved : goal.loop-index-preserved
loop-index-preserved c = λ one is.
    let values = c.args.relations.now in
    let i : ℕ = c.loop-index.index in
    let x = c.index-relations-index.result in
    let S = IsMember c.args.drawn.now in
    let e = c.in_ok-lines_of.field-0 in
    let here = zip_at (AreValuesOf c.args.space.now) relations values i some x c.requires.values (omega arith) c.index-relations-index.is in
    let lines = lines_with one S x _ c.args.space.now e here (c.in_ok-lines_of.ensures one is) in
    let long : length values ≡ length relations = AllZip-long (AreValuesOf c.args.space.now) relations values c.requires.values in
    let lt : i < length relations = omega (arith, c.loop-index-test.true, long) in
    subst (λ (es : List Edges). AllZip (AreLines one S) (take (i + 1) relations) es)
    (sym {A = List Edges} c.in_ok-push.ensures.items)
    (zip_more (AreLines one S) relations i some c.loop-index.lines.items e lt
    (c.loop-index.invariant one is) lines)

pub returns : goal.returns
returns c = λ one is.
    let values = c.args.relations.now in
    let i : ℕ = c.loop-index.index in
    let long : length values ≡ length relations = AllZip-long (AreValuesOf c.args.space.now) relations values c.requires.values in
    let full : length relations ≤ i = omega (arith, c.loop-index-test.false, c.loop-index.auto.index-end, long) in
    subst
    (λ (rs : List (Predefined × Ink)).
    AllZip (AreLines one (IsMember c.args.drawn.now)) rs c.loop-index.lines.items)
    (take_all i relations full)
    (c.loop-index.invariant one is)
