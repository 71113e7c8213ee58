-- The values of the names of a group in one candidate, whether or not anything computes them. Read
-- `Meaning` and `Least` of cat_machine first. Read next: ValueLaws.
use Rattle.std.specs.Prelude.{ℕ, ◌<◌, Bool, true, false, List, length, slice_get, slice_index_or}
use denote.Ref.{Bor}
use Rattle.bit_rows.specs.Relation.{Relation, Events, no_slot}
use Rattle.binding_graph.specs.declared.resolved.Body.{Body}
use Rattle.binding_graph.specs.Trees.{RelTree}
use Rattle.candidate_spaces.specs.Space.{Candidate}
use Rattle.cat_machine.specs.declared.column.Column.{Column}
use Rattle.cat_machine.specs.Executions.{events_of, EventsAt, PairsAt}
use Rattle.cat_machine.specs.Least.{IsLeast, AreMonotone}
use Rattle.cat_machine.specs.Named.{InputEvents, InputPairs}
use Rattle.cat_machine.specs.Rising.{AreCodes}
use Rattle.cat_machine.specs.Values.{IsMeaning}

abbrev pub no_set : Events
no_set = record { count = 0; word = 0 }

-- by position, of a set and a relation the one of the kind of the name: what its body means, and for
-- a recursive group the least values. The inputs have their values for the candidate of that number
abbrev pub AreGroupValues : Bool → List Body → Candidate → List (Bor Column) → ℕ → List Events
    → List Relation → Type 0
AreGroupValues false bodies one inputs k ss rs =
    (j : ℕ) → j < length bodies → (b : Body)
    → IsMeaning (slice_index_or bodies j b).code.kind (slice_index_or bodies j b).code.steps.items
    (events_of one) (EventsAt (events_of one) one inputs k) (PairsAt (events_of one) one inputs k)
    (slice_index_or ss j no_set) (slice_index_or rs j no_slot)
AreGroupValues true bodies one inputs k ss rs =
    (trees : List RelTree) → AreCodes trees bodies → AreMonotone trees
    → IsLeast (events_of one) (EventsAt (events_of one) one inputs k)
    (PairsAt (events_of one) one inputs k) trees rs

-- the inputs have only events below n, in that candidate
pub record AreInputsBelow (n : ℕ) (inputs : List (Bor Column)) (k : ℕ) : Type 0 where
  pub events : (index a : ℕ) → InputEvents (slice_get inputs index) k n a → a < n
  pub pairs : (index a b : ℕ) → InputPairs (slice_get inputs index) k n a b → (a < n) × (b < n)
