-- What the names of an item stand for in one candidate.
use Rattle.std.specs.Prelude.{ℕ, Option, Some, None, List, slice_get}
use denote.Ref.{Bor}
use Rattle.bit_rows.specs.Relation.{Relation}
use Rattle.binding_graph.specs.declared.resolved.Source.{Source}
use Rattle.binding_graph.specs.declared.resolved.Source.TheVariants as sources
use Rattle.base_names.specs.Known.{EventsFound}
use Rattle.cat_machine.specs.declared.column.Column.{Column}
use Rattle.cat_machine.specs.declared.column.Column.TheVariants as columns
use Rattle.cat_machine.specs.declared.names.Names.{Names}
use Rattle.cat_machine.specs.Seen.{NamedValues, EventsNamedBy, PairsNamedBy}
pub use Rattle.cat_machine.specs.Seen.{PairsFound}

-- the events of a column's set in a candidate of n events
abbrev pub ColumnEvents : Column → ℕ → ℕ → ℕ → Type 0
ColumnEvents (columns.Sets values) k n = EventsFound (slice_get values k) n
ColumnEvents (columns.Relations values) k n = λ a. ⊥

-- the pairs of its relation, likewise
abbrev pub ColumnPairs : Column → ℕ → ℕ → ℕ → ℕ → Type 0
ColumnPairs (columns.Sets values) k n = λ a b. ⊥
ColumnPairs (columns.Relations values) k n = PairsFound (slice_get values k) n

abbrev pub InputEvents : Option (Bor Column) → ℕ → ℕ → ℕ → Type 0
InputEvents None k n = λ a. ⊥
InputEvents (Some column) k n = ColumnEvents column.now k n

abbrev pub InputPairs : Option (Bor Column) → ℕ → ℕ → ℕ → ℕ → Type 0
InputPairs None k n = λ a b. ⊥
InputPairs (Some column) k n = ColumnPairs column.now k n

-- the pairs of the values of a recursive group, on n events
abbrev pub OwnPairs : ℕ → List Relation → ℕ → ℕ → ℕ → Type 0
OwnPairs n values position = PairsFound (slice_get values position) n

-- the events of a name that is not one of the recursive group itself
abbrev pub EventsIn : NamedValues → List (Bor Column) → ℕ → Source → ℕ → Type 0
EventsIn base inputs k (sources.Predefined name) = EventsNamedBy base name
EventsIn base inputs k (sources.Input index) = InputEvents (slice_get inputs index) k base.count
EventsIn base inputs k (sources.Own position) = λ a. ⊥

-- the pairs of a name that is not one of the recursive group itself
abbrev pub PairsOutside : NamedValues → List (Bor Column) → ℕ → Source → ℕ → ℕ → Type 0
PairsOutside base inputs k (sources.Predefined name) = PairsNamedBy base name
PairsOutside base inputs k (sources.Input index) = InputPairs (slice_get inputs index) k base.count
PairsOutside base inputs k (sources.Own position) = λ a b. ⊥

-- the pairs of a name, where those of the recursive group itself have these pairs
abbrev pub WithOwn : (Source → ℕ → ℕ → Type 0) → (ℕ → ℕ → ℕ → Type 0) → Source → ℕ → ℕ → Type 0
WithOwn outer own (sources.Predefined name) = outer (sources.Predefined name)
WithOwn outer own (sources.Input index) = outer (sources.Input index)
WithOwn outer own (sources.Own position) = own position

abbrev pub EventsNamed : Names → Source → ℕ → Type 0
EventsNamed names = EventsIn names.base.now names.inputs.now names.candidate

abbrev pub PairsNamed : Names → Source → ℕ → ℕ → Type 0
PairsNamed names =
    WithOwn (PairsOutside names.base.now names.inputs.now names.candidate)
    (OwnPairs names.base.now.count names.own.now)
