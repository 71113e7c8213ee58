use Rattle.std.proofs.Common.{ℕ, ◌+◌, List, get_or, sym, subst, take, arith}
use Rattle.std.specs.List.{AllZip}
use Rattle.bit_rows.specs.Relation.{IsMember}
use Rattle.draw_graph.specs.declared.drawing.Edges.{Edges}
use Rattle.draw_relations.specs.declared.values.ShownValues.{ShownValues}
use Rattle.draw_relations.specs.Values.{IsSizedAt}
use Rattle.why_forbidden.specs.Drawings.{AreShownLines}
use Rattle.why_forbidden.proofs.Pairing.{zip_more}
use Rattle.why_forbidden.proofs.lines.shown_lines.Goals as goal

pub shown_line-requires : goal.shown_line-requires
shown_line-requires c =
    let i : ℕ = c.loop-index.index in
    let k : ℕ = c.args.candidate in
    let x = c.index-shown-index.result in
    let (one, is, count) = c.requires.count in
    let sized = c.requires.sized i x (omega arith) k one is in
    subst (λ (v : ShownValues). IsSizedAt v.values k c.args.drawn.now.count)
    (sym {A = ShownValues} c.index-shown-index.is)
    (subst (λ (n : ℕ). IsSizedAt (get_or c.args.shown.now i x).values k n) (sym count) sized)

pub loop-index-preserved : goal.loop-index-preserved
loop-index-preserved c =
    let vs = c.args.shown.now in
    let i : ℕ = c.loop-index.index in
    let x = c.index-shown-index.result in
    let R = AreShownLines c.args.candidate (IsMember c.args.drawn.now) in
    let e = c.in_ok-shown_line.field-0 in
    subst (λ (es : List Edges). AllZip R (take (i + 1) vs) es)
    (sym {A = List Edges} c.in_ok-push.ensures.items)
    (zip_more R vs i x c.loop-index.lines.items e (omega arith) c.loop-index.invariant
    (subst (λ (v : ShownValues). R v e) c.index-shown-index.is c.in_ok-shown_line.ensures))
