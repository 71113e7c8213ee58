-- What a node needs: nothing, to be computed, or to be marked. Read after Marks of memo_core.
use Rattle.std.specs.Prelude.{◌≡◌, ◌⊎◌, ℕ, zero, suc, Bool, true, false, List, [], ◌∷◌, Option, Some, None, if◌then◌else◌}
use Rattle.memo_core.specs.declared.keys.Node.{Node}
use Rattle.memo_core.specs.declared.keys.Key.{Key}
use Rattle.memo_core.specs.declared.keys.Key.TheVariants.{Part, Output}
use Rattle.memo_core.specs.Names.{same_node}
use Rattle.memo_core.specs.Graph.{Net, stamp_at}
use Rattle.memo_core.specs.Views.{MemoEntry, as_memos}
use Rattle.memo_core.specs.Tests.{is_match, all_nodes}
use Rattle.memo_core.specs.Marks.{mark_of, is_ready}
use Rattle.memo_engine.specs.declared.needs.Need.{Need}
use Rattle.memo_engine.specs.declared.needs.Need.TheVariants.{Nothing, Work, Mark}

-- the memo of a node has this index
abbrev pub IsMemoAt : {V : Type 0} → Node → ℕ → List (MemoEntry V) → Type 0
IsMemoAt n i [] = ⊥
IsMemoAt n zero (k ∷ ks) = same_node n k.0 ≡ true
IsMemoAt n (suc i) (k ∷ ks) = (same_node n k.0 ≡ false) × IsMemoAt n i ks

-- the index of the memo of a node, where it has one
abbrev pub IsMemoIndex : {V : Type 0} → Node → Option ℕ → List (MemoEntry V) → Type 0
IsMemoIndex n None ks = Unit {0}
IsMemoIndex n (Some i) ks = IsMemoAt n i ks

-- the present stamp of a key, where it is a part or of a marked node
abbrev pub marked_stamp : {V G : Type 0} → Net G → List (MemoEntry V) → Key → Option ℕ
marked_stamp net ks (Part p q) = Some (net.part p q)
marked_stamp net ks (Output n x) =
    if mark_of ks n then Some (stamp_at net (as_memos ks) (Output n x)) else None

-- what a node without a mark needs, whose memo has this index: whether all that it stands on is
-- marked, and whether the memo's inputs and stamps are the present ones
abbrev pub need_by : ℕ → Bool → Bool → Need
need_by index false same = Nothing
need_by index true false = Work
need_by index true true = Mark index

-- nothing where the node is marked or something that it stands on is not; else to be computed where
-- it does not match, or to be marked
abbrev pub IsNodeNeed : {V G : Type 0} → Net G → List (MemoEntry V) → Node → Need → Type 0
IsNodeNeed net ks n Nothing =
    (mark_of ks n ≡ true) ⊎ (all_nodes (mark_of ks) (net.inputs n) ≡ false)
IsNodeNeed net ks n Work =
    (mark_of ks n ≡ false) × (is_match net (as_memos ks) n ≡ false)
    × (all_nodes (mark_of ks) (net.inputs n) ≡ true)
IsNodeNeed net ks n (Mark index) = is_ready net ks n ≡ true

-- a node to be marked has no mark yet, and its memo has this index
abbrev pub IsMarkPlace : {V : Type 0} → List (MemoEntry V) → Node → Need → Type 0
IsMarkPlace ks n Nothing = Unit {0}
IsMarkPlace ks n Work = Unit {0}
IsMarkPlace ks n (Mark index) = IsMemoAt n index ks × (mark_of ks n ≡ false)
