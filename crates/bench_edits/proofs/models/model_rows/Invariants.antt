use Rattle.std.proofs.Common.{map, take}
use Rattle.bench_edits.specs.Edited.{AreModelsMade}
use Rattle.bench_edits.proofs.models.model_rows.Given as goal

abbrev pub invariant-loop-index : goal.invariant-loop-index
invariant-loop-index l =
    AreModelsMade l.fresh l.before (map (λ m. m.now) (take l.index l.models)) l.rows.items
