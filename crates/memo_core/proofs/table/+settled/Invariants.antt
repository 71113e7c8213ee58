use Rattle.std.proofs.Common.{◌<◌, drop}
use Rattle.std.specs.List.{AllByRecursion as Each}
use Rattle.memo_core.specs.Graph.{input_nodes, IsSettled}
use Rattle.memo_core.specs.Views.{as_memos}
use Rattle.memo_core.proofs.table.+settled.Given as goal

abbrev pub decreases-settled : goal.decreases-settled
decreases-settled g l = g.T.Texts.rank l.texts.now l.node

abbrev pub invariant-loop-i : goal.invariant-loop-i
invariant-loop-i g l =
    let net = g.T.Texts.net l.texts in
    let memos = as_memos l.memos.entries in
    let rank = g.T.Texts.rank l.texts in
    let inputs = net.inputs l.node in
    record {
      settled : Each (IsSettled net memos) (input_nodes (drop l.i inputs))
          → Each (IsSettled net memos) (input_nodes inputs);
      left : Each (IsSettled net memos) (input_nodes inputs)
          → Each (IsSettled net memos) (input_nodes (drop l.i inputs));
      low : Each (λ m. rank m < rank l.node) (input_nodes (drop l.i inputs));
    }
