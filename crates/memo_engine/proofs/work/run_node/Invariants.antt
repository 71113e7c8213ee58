use Rattle.std.proofs.Common.{◌≡◌, ◌++◌, drop, map}
use Rattle.memo_core.specs.Views.{shown_values}
use Rattle.memo_engine.proofs.work.run_node.Given as goal

abbrev pub invariant-loop-value : goal.invariant-loop-value
invariant-loop-value g l =
    map (λ v. v.now) l.all.items ++ shown_values (drop l.value-index l.values)
    ≡ shown_values l.values
