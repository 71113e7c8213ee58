use Rattle.std.proofs.Common.{◌+◌, List, subst, sym, refl, arith}
use Rattle.std.proofs.lemmas.Option.{slice_get_read}
use Rattle.run_combinations.specs.declared.part.Sketch.{Sketch}
use Rattle.run_combinations.proofs.Parting.{AreFirst, first_more}
use Rattle.run_combinations.proofs.part.sketches.Goals as goal

pub loop-index-preserved : goal.loop-index-preserved
loop-index-preserved c =
    subst
    (λ (l : List Sketch). AreFirst c.args.values.now c.args.runs.now (c.loop-index.index + 1) l)
    (sym (rw c.reserve.ensures.items at c.push_reserved.ensures.items))
    (first_more c.args.values.now c.args.runs.now c.loop-index.index c.loop-index.made.items
    c.sketch_of.result c.index-runs-index.result c.loop-index.invariant
    c.sketch_of.ensures.index
    (slice_get_read c.args.runs.now _ c.loop-index.index c.index-runs-index.result refl
    (omega arith) c.index-runs-index.is) c.sketch_of.ensures.keys)
