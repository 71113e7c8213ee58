-- Memos that may stay. Read after Views of memo_core.
use Rattle.std.specs.Prelude.{◌≡◌, ◌&&◌, Bool, true, List, [], ◌∷◌}
use Rattle.memo_core.specs.declared.keys.Node.{Node}
use Rattle.memo_core.specs.Graph.{Memo}
use Rattle.memo_core.specs.Views.{MemoEntry, as_memos}

abbrev pub keeps_each : {V : Type 0} → (Node → Bool) → List (Memo V) → Bool
keeps_each keep [] = true
keeps_each keep (m ∷ ms) = keep m.node && keeps_each keep ms

-- the memo of each node may stay
abbrev pub AreKept : {V : Type 0} → (Node → Bool) → List (MemoEntry V) → Type 0
AreKept keep ks = keeps_each keep (as_memos ks) ≡ true
