-- What the names of an item stand for in a candidate.
use Rattle.std.specs.Prelude.{ℕ, List, length, slice_get}
use denote.Ref.{Bor}
use Rattle.binding_graph.specs.declared.resolved.Source.{Source}
use Rattle.binding_graph.specs.declared.resolved.Source.TheVariants as sources
use Rattle.base_names.specs.Candidate.{SetIn, RelationIn}
use Rattle.cat_machine.specs.declared.column.Column.{Column}
use Rattle.candidate_spaces.specs.Space.{Candidate}
use Rattle.cat_machine.specs.Named.{InputEvents, InputPairs}

-- how many events it has
abbrev pub events_of : Candidate → ℕ
events_of one = length one.0.events.items

-- the events of a name among the first n events of the candidate, which is the one of number k for
-- the values of the inputs
abbrev pub EventsAt : ℕ → Candidate → List (Bor Column) → ℕ → Source → ℕ → Type 0
EventsAt n one inputs k (sources.Predefined name) = SetIn one.0 n name
EventsAt n one inputs k (sources.Input index) = InputEvents (slice_get inputs index) k n
EventsAt n one inputs k (sources.Own position) = λ a. ⊥

-- the pairs of a name that is not one of the recursive group itself, likewise
abbrev pub PairsAt : ℕ → Candidate → List (Bor Column) → ℕ → Source → ℕ → ℕ → Type 0
PairsAt n one inputs k (sources.Predefined name) = RelationIn name n one.0 one.1.0 one.1.1
PairsAt n one inputs k (sources.Input index) = InputPairs (slice_get inputs index) k n
PairsAt n one inputs k (sources.Own position) = λ a b. ⊥
