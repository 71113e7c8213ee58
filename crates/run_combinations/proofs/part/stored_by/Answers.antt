use Rattle.std.proofs.Common.{subst, List, arith}
use Rattle.run_combinations.proofs.Parting.{all_more}
use Rattle.run_combinations.specs.Parts.{HasStoresOf}
use Rattle.run_combinations.specs.declared.part.Sketch.{Sketch}
use Rattle.run_combinations.proofs.part.stored_by.Goals as goal

pub loop-runs-preserved : goal.loop-runs-preserved
loop-runs-preserved c =
    all_more c.args.initial.now c.args.threads.now c.loop-runs.runs-index c.runs-item.result
    c.loop-runs.stored c.join_stores.new.set (omega arith) c.runs-item.is (
      c.join_stores.ensures.0,
      subst (λ (l : List Sketch). HasStoresOf c.join_stores.new.set l) c.deref.ensures.value
          c.join_stores.ensures.1,
    ) c.loop-runs.invariant
