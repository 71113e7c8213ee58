use Rattle.std.proofs.Common.{◌<◌, length, arith, ◌∙◌}
use Rattle.std.proofs.lemmas.List.{length-set}
use Rattle.base_names.proofs.Lookups.{set_names_kept, sets_more}
use Rattle.base_names.proofs.names.put_sets.Goals as goal

pub loop-index-preserved : goal.loop-index-preserved
loop-index-preserved c =
    let inside : c.loop-index.index < length c.loop-index.sets = omega (arith, c.loop-index-test.true, c.loop-index.invariant.0) in (
      length-set c.loop-index.sets c.loop-index.index _ ∙ c.loop-index.invariant.0,
      set_names_kept c.loop-index.sets c.loop-index.index _ _ inside ∙ c.loop-index.invariant.1,
      sets_more c.loop-index.sets c.loop-index.index c.args.count c.args.combination.now _ _ _
          inside c.loop-index.invariant.2 (rw c.as_slice-events.ensures.value at c.set_of.ensures),
    )
