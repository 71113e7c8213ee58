-- A space without candidates that a check refuses. Read `Sublists` first. Read next: Laws.
use Rattle.std.specs.Prelude.{ℕ, ◌≡◌, Bool, false, List, Some, slice_get}
use Rattle.binding_graph.specs.declared.resolved.ResolvedItem.{ResolvedItem}
use Rattle.candidate_spaces.specs.declared.candidate.Space.{Space}
use Rattle.candidate_spaces.specs.Space.{candidates_in, shown_of}
use Rattle.whole_outcomes.specs.Sublists.{LeavesOut}
use Rattle.from_scratch.specs.Answers.{AreItemColumns, HasAnswers}

-- all answers that the check may have refuse the candidate at this index; the items before it are
-- listed the latest first
abbrev pub IsRefusedAt : List ResolvedItem → ResolvedItem → Space → ℕ → Type 0
IsRefusedAt rs r all i =
    (answers : List Bool) → HasAnswers all (λ j cs. AreItemColumns all rs j cs) r answers
    → slice_get answers i ≡ Some false

-- the second space has the same locations, and the candidates of the first without some that the
-- check refuses; each that stays shows the same
pub record IsCut (rs : List ResolvedItem) (r : ResolvedItem) (all fewer : Space) : Type 0 where
  pub locations : all.locations.items ≡ fewer.locations.items
  pub stay : LeavesOut
      (λ i x j y. shown_of all.registers.items x ≡ shown_of fewer.registers.items y)
      (λ i x. IsRefusedAt rs r all i) 0 (candidates_in all.combinations.items) 0
      (candidates_in fewer.combinations.items)
