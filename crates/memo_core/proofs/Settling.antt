use Rattle.std.proofs.Common.{◌≡◌, ℕ, zero, suc, Bool, true, List, [], ◌∷◌}
use Rattle.std.specs.List.{AllByRecursion as Each}
use Rattle.memo_core.specs.declared.keys.Node.{Node}
use Rattle.memo_core.specs.Graph.{Memo, Net, Matches, input_nodes, IsSettled, IsSettledBy}
use Rattle.memo_core.specs.Tests.{is_match}
use Rattle.memo_core.proofs.Depth.{match_is}
use Rattle.memo_core.proofs.JudgeLemmas.{true_false}
use Rattle.memo_core.proofs.Progress.{one_depth}

-- one step of the recursion that says which nodes are settled
module _ {V G : Type 0} (net : Net G) (ms : List (Memo V)) (n : Node) where
  pub settled_above : is_match net ms n ≡ true → Each (IsSettled net ms) (input_nodes (net.inputs n))
      → IsSettled net ms n
  settled_above h all =
      let deep = one_depth net ms (input_nodes (net.inputs n)) all in
      (suc deep.0, ((match_is net ms n).0 h, deep.1))

  pub settled_matches : IsSettled net ms n → is_match net ms n ≡ true
  settled_matches s = by_depth s.0 s.1
    where
      by_depth : (d : ℕ) → IsSettledBy d net ms n → is_match net ms n ≡ true
      by_depth zero s = absurd s
      by_depth (suc d) s = (match_is net ms n).1 s.0

  each_deep : (d : ℕ) (ns : List Node) → Each (IsSettledBy d net ms) ns → Each (IsSettled net ms) ns
  each_deep d [] all = tt
  each_deep d (m ∷ ns) all = ((d, all.0), each_deep d ns all.1)

  pub settled_below : IsSettled net ms n → Each (IsSettled net ms) (input_nodes (net.inputs n))
  settled_below s = by_depth s.0 s.1
    where
      by_depth : (d : ℕ) → IsSettledBy d net ms n
          → Each (IsSettled net ms) (input_nodes (net.inputs n))
      by_depth zero s = absurd s
      by_depth (suc d) s = each_deep d (input_nodes (net.inputs n)) s.1
