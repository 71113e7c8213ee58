-- Memos that are known to match. Read after Marks of memo_core.
use Rattle.std.specs.Prelude.{◌≡◌, ◌⊎◌, ◌&&◌, ℕ, true, List, []}
use Rattle.memo_core.specs.declared.keys.Node.{Node}
use Rattle.memo_core.specs.Graph.{Net, Matches}
use Rattle.memo_core.specs.Views.{MemoEntry, as_memos}
use Rattle.memo_core.specs.Tests.{has_node, is_match}
use Rattle.memo_core.specs.Step.{Has}
use Rattle.memo_core.specs.Marks.{matched_of}

-- each node whose memo is known to match is used, and matches
abbrev pub AreMatched : {V G : Type 0} → Net G → List (MemoEntry V) → Type 0
AreMatched net ks =
    (n : Node) → matched_of ks n ≡ true
    → (has_node n net.used && is_match net (as_memos ks) n) ≡ true

-- the same, but for the nodes that are pending
abbrev pub AreMatchedTo : {V G : Type 0} → Net G → List (MemoEntry V) → List Node → Type 0
AreMatchedTo net ks pending =
    (n : Node) → matched_of ks n ≡ true
    → Has pending n ⊎ (Has net.used n × Matches net (as_memos ks) n)

-- each memo that is known to match was known to
abbrev pub HasNoNewMatch : {V : Type 0} → List (MemoEntry V) → List (MemoEntry V) → Type 0
HasNoNewMatch old new = (n : Node) → matched_of new n ≡ true → matched_of old n ≡ true

-- where these names are not none, no memo of these users is known to match
abbrev pub AreDoubted : {V : Type 0} → List ℕ → List Node → List (MemoEntry V) → Type 0
AreDoubted names users ks =
    (n : Node) → matched_of ks n ≡ true → (names ≡ []) ⊎ (Has users n → ⊥)
