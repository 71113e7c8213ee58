-- The stamps that a bench stores, and the stamp of an output that changes. Read it after There, and
-- Right of `memo_core`.
use Rattle.std.specs.Prelude.{ℕ, ◌≤◌, List}
use Rattle.std.specs.List.{AllByRecursion as Each}
use Rattle.memo_core.specs.declared.keys.Input.{Input}
use Rattle.memo_core.specs.Graph.{at}
use Rattle.memo_core.specs.Right.{GoesOn}
use Rattle.memo_core.specs.Step.{AreClaimsNumbered}
use Rattle.memo_core.specs.Run.{MemoEvent, Step}
use Rattle.bench_values.specs.Givens.{GivenContent}
use Rattle.bench_values.specs.Values.{NodeContent}
use Rattle.bench_texts.specs.declared.edit.Edit.{Edit}
use Rattle.bench_instance.specs.StampedTexts.{stamped_net}
use Rattle.bench_laws.specs.Live.{live_meaning}
use Rattle.bench_laws.specs.There.{LiveState}

-- none of these inputs has a stamp above the number
abbrev pub AreLow : ℕ → List Input → Type 0
AreLow number inputs = Each (λ i. i.stamp ≤ number) inputs

-- No stamp that is stored is above the last number that was taken: of a part, in a memo, or of an
-- input of a claim that is out. Nor is the number of a claim.
pub record HasLowStamps (b : LiveState) : Type 0 where
  pub parts : (part of : ℕ) → (stamped_net b.texts).part part of ≤ b.taken
  pub inputs : Each (λ m. AreLow b.taken m.inputs) b.memos
  pub outputs : Each (λ m. Each (λ o. o.stamp ≤ b.taken) m.outputs) b.memos
  pub claims : Each (λ c. AreLow b.taken c.inputs) b.claims
  pub numbers : AreClaimsNumbered b.taken b.claims

-- An output that is stored after an event was stored before it with this stamp and value, or its
-- stamp is above all numbers taken before.
abbrev pub ChangedOutputIsNewer : Type 0
ChangedOutputIsNewer =
    (event : MemoEvent Edit NodeContent GivenContent) (old new : LiveState)
    → Step live_meaning old event new → GoesOn (at old.memos) old.taken (at new.memos)
