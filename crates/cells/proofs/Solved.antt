use Rattle.std.proofs.Common.{◌≡◌, ℕ, List, Option, Some, None, option_map, ap, sym, ◌∙◌}
use Rattle.std.specs.List.{AllByRecursion as Each}
use Rattle.std.proofs.lemmas.Option.{same_Some}
use Rattle.memo_core.specs.declared.keys.Node.{Node}
use Rattle.memo_core.specs.declared.keys.Output.{Output as Made}
use Rattle.memo_core.specs.Graph.{Memo, Net, memo_of, output_at, stored_output}
use Rattle.memo_core.specs.Laws.{GivenStays, IsUsedClosed}
use Rattle.memo_core.specs.Right.{Making, IsRight, CountsAsComputed, IsSoundNet}
use Rattle.memo_core.proofs.Counted.{counted_made}
use Rattle.memo_core.proofs.Headline.{settled_solved}
use Rattle.memo_engine.proofs.WorkLemmas.{has_there}
use Rattle.cells.specs.Cells.{AreSolved, Carries}

-- where memos are right, settled nodes are solved
module _ {T V G : Type 0} (is_valid : T → Type 0) (since : T → T → Type 0) (net : T → Net G)
    (makes : Making V G) (is_there : T → Node → Type 0)
    (stays : GivenStays is_valid since net)
    (sound : (t : T) → is_valid t → IsSoundNet makes (net t) (is_there t))
    (there : (t : T) → is_valid t → Each (is_there t) ((net t).used))
    (closed : (t : T) → is_valid t → IsUsedClosed (net t)) where
  pub bench_solved : (t : T) (ms : List (Memo V)) (taken : ℕ) → is_valid t
      → IsRight (CountsAsComputed since net makes t) (net t) ms taken → AreSolved makes (net t) ms
  bench_solved t ms taken valid right = record {
    solved =
        λ n has is. settled_solved (CountsAsComputed since net makes t) makes (net t) ms taken (is_there t)
        (λ m is vs os k a. counted_made is_valid since net makes stays t valid m is vs os k a) right
        (sound t valid) is.0 n (has_there (is_there t) (net t).used n (there t valid) has) is.1;
    closed = closed t valid;
  }

-- the first output of a node, by the outputs that its memo holds
first_stored : {V : Type 0} (m : Option (Memo V)) (os : List (Made V))
    → option_map (λ m. m.outputs) m ≡ Some os → stored_output 0 m ≡ output_at 0 os
first_stored None os h = cc
first_stored (Some m) os h = ap (output_at 0) (same_Some m.outputs os h)

-- the value that the outputs show first is the one that the node carries
pub value_shows : {V O : Type 0} (outcome_in : V → Option O) (ms : List (Memo V)) (n : Node)
    (os : List (Made V)) (o : O) → Carries outcome_in ms n o
    → option_map (λ m. m.outputs) (memo_of n ms) ≡ Some os
    → (x : Option V) → x ≡ option_map (λ p. p.1) (output_at 0 os)
    → (v : V) × (x ≡ Some v) × (outcome_in v ≡ Some o)
value_shows {V} {O} outcome_in ms n os o c stored x is =
    let first : output_at 0 os ≡ Some (c.stamp, c.value) = sym (first_stored (memo_of n ms) os stored) ∙ c.first in
    (c.value, is ∙ ap (option_map (λ (p : ℕ × V). p.1)) first, c.holds)

-- the same outcome is carried
pub carries_same : {V O : Type 0} (outcome_in : V → Option O) (ms : List (Memo V)) (n : Node)
    (o p : O) → o ≡ p → Carries outcome_in ms n o → Carries outcome_in ms n p
carries_same outcome_in ms n o p e c =
    record { stamp = c.stamp; value = c.value; first = c.first; holds = rw e at c.holds }

abbrev value_or : {V : Type 0} → V → Option (ℕ × V) → V
value_or v None = v
value_or v (Some p) = p.1

-- a node carries one outcome
pub carries_one : {V O : Type 0} (outcome_in : V → Option O) (ms : List (Memo V)) (n : Node)
    (o p : O) → Carries outcome_in ms n o → Carries outcome_in ms n p → o ≡ p
carries_one {V} {O} outcome_in ms n o p a b =
    let e : a.value ≡ b.value = sym (ap (value_or a.value) a.first) ∙ ap (value_or a.value) b.first in
    same_Some o p (sym a.holds ∙ ap outcome_in e ∙ b.holds)
