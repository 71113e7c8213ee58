-- A model keeps a candidate by number where it keeps the execution by name. Read next: Listed.
use Rattle.std.specs.Prelude.{ℕ, ◌<◌, ◌↔◌, List}
use Rattle.text_values.specs.ModelValue.{Clause}
use Rattle.text_values.specs.TestValue.{Content}
use Rattle.candidate_spaces.specs.Space.{Candidate}
use Rattle.cat_machine.specs.Executions.{events_of}
use Rattle.meaning.specs.Executions.{Execution, IsEvent}
use Rattle.meaning.specs.Cat.{AreMet, IsFlagMet}
use Rattle.meaning.specs.Evaluates.{outermost, MeetsFlag}
use Rattle.meaning_items.specs.Behind.{outer_bound}
use Rattle.meaning_items.specs.Slots.{candidate_value}
use Rattle.meaning_executions.specs.Names.{AreNamesMeant}

-- The candidate meets the checks and the flags of the items where the execution does.
pub record IsMetAlike (t : Content) (y : Execution) (one : Candidate) (items : List Clause)
    : Type 0 where
  pub checks : AreMet (λ a. a < events_of one) (outer_bound (candidate_value one)) items
      ↔ AreMet (IsEvent t y) (outermost t y) items
  pub flags : (i : ℕ)
      → IsFlagMet (λ a. a < events_of one) (outer_bound (candidate_value one)) items i
      ↔ MeetsFlag t items i y

-- So it is where the predefined names of the candidate are those of the execution.
abbrev pub CandidatesAreMetByName : Type 0
CandidatesAreMetByName =
    (t : Content) (y : Execution) (one : Candidate) → AreNamesMeant t y one
    → (items : List Clause) → IsMetAlike t y one items
