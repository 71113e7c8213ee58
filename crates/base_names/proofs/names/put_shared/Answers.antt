use Rattle.std.proofs.Common.{◌<◌, length, arith, ◌∙◌}
use Rattle.std.proofs.lemmas.List.{length-set}
use Rattle.base_names.proofs.Lookups.{shared_names_kept, shared_more}
use Rattle.base_names.proofs.names.put_shared.Goals as goal

pub loop-index-preserved : goal.loop-index-preserved
loop-index-preserved c =
    let inside : c.loop-index.index < length c.loop-index.shared = omega (arith, c.loop-index-test.true, c.loop-index.invariant.0) in (
      length-set c.loop-index.shared c.loop-index.index _ ∙ c.loop-index.invariant.0,
      shared_names_kept c.loop-index.shared c.loop-index.index _ _ inside
          ∙ c.loop-index.invariant.1,
      shared_more c.loop-index.shared c.loop-index.index c.args.count c.args.combination.now _ _ _
          inside c.loop-index.invariant.2 c.write_fixed.ensures,
    )
