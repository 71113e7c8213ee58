-- The values of the names of a group, candidate by candidate.
use Rattle.std.specs.Prelude.{ℕ, ◌≡◌, ◌<◌, Bool, true, false, List, [], length, Some, slice_get, slice_index_or}
use denote.Ref.{Bor}
use Rattle.bit_rows.specs.Relation.{Relation, Events, no_slot}
use Rattle.binding_graph.specs.declared.resolved.Body.{Body}
use Rattle.binding_graph.specs.declared.resolved.Role.{Role}
use Rattle.binding_graph.specs.declared.resolved.Role.TheVariants as roles
use Rattle.binding_graph.specs.declared.resolved.Source.{Source}
use Rattle.binding_graph.specs.Trees.{RelTree}
use Rattle.candidate_spaces.specs.declared.candidate.Space.{Space}
use Rattle.candidate_spaces.specs.Space.{candidates_in, Candidate}
use Rattle.cat_machine.specs.declared.column.Column.{Column}
use Rattle.cat_machine.specs.declared.column.Column.TheVariants as columns
use Rattle.cat_machine.specs.Executions.{events_of, EventsAt, PairsAt}
use Rattle.cat_machine.specs.Least.{IsLeast, AreMonotone}
use Rattle.cat_machine.specs.Rising.{AreCodes}
use Rattle.cat_machine.specs.Values.{IsFor, IsMeaning, column_len}

-- the column's value for the candidate of this number: `s` if it holds sets, `r` if relations
abbrev pub HasColumnValue : Column → ℕ → Events → Relation → Type 0
HasColumnValue (columns.Sets values) k s r = slice_get values k ≡ Some s
HasColumnValue (columns.Relations values) k s r = slice_get values k ≡ Some r

-- in the candidate of this number, where the other names stand for these events and pairs among n
-- events, each name has the value of its body; the names of a recursive group have the least values
-- that satisfy its equations
abbrev pub HaveValues : Bool → List Body → ℕ → (Source → ℕ → Type 0) → (Source → ℕ → ℕ → Type 0) → ℕ
    → List Column → Type 0
HaveValues false bodies n sets outer k cs =
    (j : ℕ) → j < length bodies → (c : Column) (b : Body)
    → (s : Events) × (r : Relation) × HasColumnValue (slice_index_or cs j c) k s r
    × IsMeaning (slice_index_or bodies j b).code.kind
    (slice_index_or bodies j b).code.steps.items n sets outer s r
HaveValues true bodies n sets outer k cs =
    (trees : List RelTree) → AreCodes trees bodies → AreMonotone trees
    → (values : List Relation) × IsLeast n sets outer trees values
    × ((j : ℕ) → j < length bodies → (c : Column)
    → (s : Events) × HasColumnValue (slice_index_or cs j c) k s (slice_index_or values j no_slot))

-- one column for each body, of its kind, with one value for each of the candidates, in order
pub record AreGroupColumns (recursive : Bool) (bodies : List Body) (inputs : List (Bor Column))
    (candidates : List Candidate) (cs : List Column) : Type 0 where
  pub as_many : length cs ≡ length bodies
  pub suited : (j : ℕ) → j < length bodies → (b : Body) (c : Column)
      → IsFor (slice_index_or bodies j b).code.kind (slice_index_or cs j c)
  pub long : (j : ℕ) → j < length bodies → (c : Column)
      → column_len (slice_index_or cs j c) ≡ length candidates
  pub values : (k : ℕ) (one : Candidate) → slice_get candidates k ≡ Some one
      → HaveValues recursive bodies (events_of one) (EventsAt (events_of one) one inputs k)
      (PairsAt (events_of one) one inputs k) k cs

-- the columns of an item that is a group, over the candidates of a space; another item has none
abbrev pub ColumnsOf : Role → List (Bor Column) → Space → List Column → Type 0
ColumnsOf (roles.Group recursive bodies) inputs space cs =
    AreGroupColumns recursive bodies.items inputs (candidates_in space.combinations.items) cs
ColumnsOf (roles.Check check) inputs space cs = cs ≡ []
ColumnsOf roles.Silent inputs space cs = cs ≡ []

-- a recursive group keeps a present value for each name, another group none
abbrev pub HasOwn : Bool → List Body → List Relation → Type 0
HasOwn true bodies own = length own ≡ length bodies
HasOwn false bodies own = own ≡ []
