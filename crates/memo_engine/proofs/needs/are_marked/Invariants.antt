use Rattle.std.proofs.Common.{◌≡◌, drop, map}
use Rattle.memo_core.specs.Tests.{all_nodes}
use Rattle.memo_core.specs.Marks.{mark_of}
use Rattle.memo_engine.proofs.needs.are_marked.Given as goal

abbrev pub invariant-loop-input : goal.invariant-loop-input
invariant-loop-input g l =
    all_nodes (mark_of l.memos.entries) (map (λ i. i.key) (drop l.input-index l.inputs))
    ≡ all_nodes (mark_of l.memos.entries) (map (λ i. i.key) l.inputs)
