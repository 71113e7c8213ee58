use Rattle.std.proofs.Common.{◌<◌, length, arith, refl, sym, subst}
use Rattle.std.proofs.lemmas.Option.{slice_get_read}
use Rattle.run_combinations.specs.Parts.{IsMade}
use Rattle.run_combinations.specs.declared.part.Sketch.{Sketch}
use Rattle.run_combinations.proofs.Parting.{below_at, made_more}
use Rattle.run_combinations.proofs.part.parts.Goals as goal

pub offset_bounds-runs-sketch : goal.offset_bounds-runs-sketch
offset_bounds-runs-sketch c =
    let b : c.sketch-item.result.run < length c.args.runs.now = subst (λ (s : Sketch). s.run < length c.args.runs.now) (sym c.sketch-item.is) (below_at (length c.args.runs.now) c.args.sketches.now c.loop-sketch.sketch-index c.sketch-item.result c.requires (omega arith)) in
    omega arith

pub bounds-runs-sketch : goal.bounds-runs-sketch
bounds-runs-sketch c =
    subst (λ (s : Sketch). s.run < length c.args.runs.now) (sym c.sketch-item.is)
    (below_at (length c.args.runs.now) c.args.sketches.now c.loop-sketch.sketch-index
    c.sketch-item.result c.requires (omega arith))

pub loop-sketch-preserved : goal.loop-sketch-preserved
loop-sketch-preserved c =
    let b : c.sketch-item.result.run < length c.args.runs.now = subst (λ (s : Sketch). s.run < length c.args.runs.now) (sym c.sketch-item.is) (below_at (length c.args.runs.now) c.args.sketches.now c.loop-sketch.sketch-index c.sketch-item.result c.requires (omega arith)) in
    made_more c.args.thread c.args.runs.now c.args.sketches.now c.loop-sketch.sketch-index
    c.sketch-item.result c.loop-sketch.parts.items c.push_reserved.new.self.items
    c.in_ok-part.part (omega arith) (rw c.reserve.ensures.items at
    c.push_reserved.ensures.items)
    (subst (λ (s : Sketch). IsMade c.args.thread c.args.runs.now s c.in_ok-part.part)
    c.sketch-item.is (
      c.in_ok-part.ensures.sketch.0,
      c.in_ok-part.ensures.sketch.1,
      c.in_ok-part.ensures.sketch.2,
      c.index-runs-sketch.result,
      slice_get_read c.args.runs.now _ _ c.index-runs-sketch.result refl b
          c.index-runs-sketch.is,
      c.in_ok-part.ensures.part,
    )) c.loop-sketch.invariant
