-- Marks that an edit takes away. Read after Marks of memo_core.
use Rattle.std.specs.Prelude.{◌≡◌, ◌⊎◌, ℕ, ◌+◌, true, false, List, [], ◌∷◌, if◌then◌else◌}
use Rattle.std.specs.List.{AllByRecursion as Each}
use Rattle.memo_core.specs.declared.keys.Node.{Node}
use Rattle.memo_core.specs.Names.{same_node}
use Rattle.memo_core.specs.Graph.{Net, Matches, input_nodes}
use Rattle.memo_core.specs.Views.{MemoEntry, as_memos}
use Rattle.memo_core.specs.Step.{Has}
use Rattle.memo_core.specs.Marks.{mark_of, with_mark}

-- without the mark at the node's memo
abbrev pub without_mark_at : {V : Type 0} → Node → List (MemoEntry V) → List (MemoEntry V)
without_mark_at n [] = []
without_mark_at n (k ∷ ks) =
    if same_node n k.0 then with_mark false k ∷ ks else k ∷ without_mark_at n ks

-- how many memos have a mark
abbrev pub marked_count : {V : Type 0} → List (MemoEntry V) → ℕ
marked_count [] = 0
marked_count (k ∷ ks) = (if k.1.settled then 1 else 0) + marked_count ks

-- all that a node stands on is marked
abbrev pub HasMarkedInputs : {V G : Type 0} → Net G → List (MemoEntry V) → Node → Type 0
HasMarkedInputs net ks n = Each (λ m. mark_of ks m ≡ true) (input_nodes (net.inputs n))

-- the node is used and matches, and all that it stands on is marked
pub record StandsOnMarks {V G : Type 0} (net : Net G) (ks : List (MemoEntry V)) (n : Node)
    : Type 0 where
  pub used : Has net.used n
  pub matches : Matches net (as_memos ks) n
  pub inputs : HasMarkedInputs net ks n

-- each marked node stands on marks, or it is among the pending
abbrev pub IsClosedTo : {V G : Type 0} → Net G → List (MemoEntry V) → List Node → Type 0
IsClosedTo net ks pending =
    (n : Node) → mark_of ks n ≡ true → Has pending n ⊎ StandsOnMarks net ks n

-- the marks are right but for the touched nodes and what stands on them: each other marked node
-- stands on marks, and each used node that could be marked now is among the touched
pub record IsMarkedBut {V G : Type 0} (net : Net G) (ks : List (MemoEntry V)) (touched : List Node)
    : Type 0 where
  pub closed : IsClosedTo net ks touched
  pub left : (n : Node) → Has net.used n → mark_of ks n ≡ false → Matches net (as_memos ks) n
      → HasMarkedInputs net ks n → Has touched n

-- each mark was there before
abbrev pub HasNoNewMark : {V : Type 0} → List (MemoEntry V) → List (MemoEntry V) → Type 0
HasNoNewMark old new = (n : Node) → mark_of new n ≡ true → mark_of old n ≡ true

-- a used node that lost its mark is among these, or something that it stands on is not marked
abbrev pub LosesMarks : {V G : Type 0} → Net G → List (MemoEntry V) → List (MemoEntry V)
    → List Node → Type 0
LosesMarks net old new nodes =
    (n : Node) → Has net.used n → mark_of old n ≡ true → mark_of new n ≡ false
    → Has nodes n ⊎ (HasMarkedInputs net new n → ⊥)
