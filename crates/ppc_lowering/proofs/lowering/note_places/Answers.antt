use Rattle.std.proofs.Common.{rules}
use Rattle.ppc_lowering.specs.Lowering.{place_names}
use Rattle.ppc_lowering.proofs.Sorting.{adds_more, adds_all}
use Rattle.ppc_lowering.proofs.lowering.note_places.Goals as goal

pub loop-place-preserved : goal.loop-place-preserved
loop-place-preserved c = record {
  rising = c.note_place.ensures.rising;
  added =
      adds_more place_names c.args.places.now c.loop-place.place-index c.place-item.result _ _ _
      c.loop-place-test.true c.loop-place.invariant.added (search rules);
}

pub returns-clause-noted : goal.returns-clause-noted
returns-clause-noted c =
    adds_all place_names c.args.places.now c.loop-place.place-index _ _ c.loop-place-test.false
    c.loop-place.invariant.added
