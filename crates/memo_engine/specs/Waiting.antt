-- The nodes that may have work. Read after Marks of memo_core.
use Rattle.std.specs.Prelude.{◌≡◌, ◌⊎◌, ◌||◌, ℕ, true, List}
use Rattle.memo_core.specs.declared.keys.Node.{Node}
use Rattle.memo_core.specs.declared.claims.Claim.{Claim}
use Rattle.memo_core.specs.Graph.{Net}
use Rattle.memo_core.specs.Views.{MemoEntry}
use Rattle.memo_core.specs.Tests.{has_node}
use Rattle.memo_core.specs.Step.{Has}
use Rattle.memo_core.specs.Marks.{can_work}
use Rattle.memo_engine.specs.declared.waiting.Waiting.{Waiting}

-- where the waiting nodes are whole, each used node that has work is among them, or pending
abbrev pub IsWholeTo : {V G : Type 0} → Net G → List (MemoEntry V) → List (ℕ × Claim) → Waiting
    → List Node → Type 0
IsWholeTo net ks claims waiting pending =
    waiting.is_whole ≡ true → (n : Node) → Has net.used n → can_work net ks claims n ≡ true
    → (has_node n waiting.nodes.items || has_node n pending) ≡ true

-- where the waiting nodes are whole, they were, none is gone, and these nodes are among them
abbrev pub HasNoted : Waiting → List Node → Waiting → Type 0
HasNoted old nodes new =
    new.is_whole ≡ true
    → (old.is_whole ≡ true)
    × ((n : Node) → Has old.nodes.items n ⊎ Has nodes n → Has new.nodes.items n)
