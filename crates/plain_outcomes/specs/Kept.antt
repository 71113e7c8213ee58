-- What is kept of the executions of a test. Read next: Outcomes.
use Rattle.std.specs.Prelude.{ℕ, ◌≡◌, ◌⊎◌, ◌↔◌, List, [], ◌∷◌, ◌++◌, Contains}
use Rattle.std.specs.List.{AllZip}
use Rattle.text_values.specs.ModelValue.{Clause}
use Rattle.text_values.specs.TestValue.{Content}
use Rattle.meaning.specs.Sets.{Set, IsListOf}
use Rattle.meaning.specs.Names.{Name}
use Rattle.meaning.specs.Executions.{Execution}
use Rattle.meaning.specs.Outcome.{AreRaised}
use Rattle.meaning.specs.Evaluates.{IsKept, MeetsFlag}
use Rattle.plain_ends.specs.declared.ending.End.{End}
use Rattle.plain_ends.specs.Ends.{EndsSo}
use Rattle.plain_outcomes.specs.declared.kept.Kept.{Kept}

-- The executions of the set, one by one: where each ends; and the indexes of the flags that they
-- meet.
pub record AreEndsOf (t : Content) (items : List Clause) (S : Set Execution) (k : Kept)
    : Type 0 where
  pub executions : List Execution
  pub listed : IsListOf S executions
  pub ends : AllZip (EndsSo t) executions k.ends.items
  pub raised : (i : ℕ)
      → Contains k.raised.items i ↔ ((x : Execution) × S x × MeetsFlag t items i x)

-- The execution is put behind the others.
pub record Adds (t : Content) (items : List Clause) (x : Execution) (old new : Kept)
    : Type 0 where
  pub last : End
  pub is_end : EndsSo t x last
  pub ends : new.ends.items ≡ old.ends.items ++ last ∷ []
  pub raised : (i : ℕ)
      → Contains new.raised.items i ↔ (Contains old.raised.items i ⊎ MeetsFlag t items i x)

-- So it is, if the model keeps it.
abbrev pub AddsIfKept : Content → List Clause → Execution → Kept → Kept → Type 0
AddsIfKept t items x old new =
    (IsKept t items x × Adds t items x old new) ⊎ ((IsKept t items x → ⊥) × (new ≡ old))

-- The names that the item of this index raises are put behind the others.
abbrev pub AddsRaised : (ℕ → Type 0) → ℕ → Clause → List Name → List Name → Type 0
AddsRaised IsRaised i c old new =
    (more : List Name) × AreRaised IsRaised i (c ∷ []) more × (new ≡ old ++ more)
