-- The innermost name that relates two events.
use Rattle.std.specs.Prelude.{ℕ, ◌≡◌, ◌<◌, List, length, slice_index_or, slice_get, Option, Some, None, option_and_then}
use Rattle.std.specs.List.{Any}
use Rattle.binding_kinds.specs.declared.scope.Input.{Input}
use Rattle.binding_graph.specs.declared.resolved.ResolvedItem.{ResolvedItem}
use Rattle.cat_machine.specs.declared.column.Column.{Column}
use Rattle.predefined_names.specs.declared.predefined.Predefined.{Predefined}
use Rattle.why_witness.specs.Pairs.{HasPair}
use Rattle.why_labels.specs.declared.label.EventPair.{EventPair}
use Rattle.why_labels.specs.declared.label.NameValues.{NameValues}
use Rattle.why_labels.specs.declared.label.PredefinedValue.{PredefinedValue}
use Rattle.why_labels.specs.declared.unions.ModelName.{ModelName}
use Rattle.why_labels.specs.declared.unions.ModelName.TheVariants as names
use Rattle.why_labels.specs.Operands.{AreOperandsOf}

-- the values of a bound name
abbrev pub bound_value : NameValues → Input → Option Column
bound_value values input =
    option_and_then (λ columns. slice_get columns.items input.position)
    (slice_get values.bound.now input.item)

abbrev pub RelatesIn : Option Column → EventPair → Type 0
RelatesIn None pair = ⊥
RelatesIn (Some column) pair = HasPair column pair.candidate pair.from pair.to

-- these are values of that name of the language, and relate the events
abbrev pub RelatesAs : Predefined → EventPair → PredefinedValue → Type 0
RelatesAs name pair value =
    (value.name ≡ name) × HasPair value.column pair.candidate pair.from pair.to

-- the name relates the two events in the candidate
abbrev pub Relates : NameValues → EventPair → ModelName → Type 0
Relates values pair (names.Predefined name) = Any (RelatesAs name pair) values.predefined.now
Relates values pair (names.Bound input) = RelatesIn (bound_value values input) pair

-- none of the names has the property
abbrev pub NoneOf : (ModelName → Type 0) → List ModelName → Type 0
NoneOf P operands =
    (j : ℕ) → j < length operands → (d : ModelName) → P (slice_index_or operands j d) → ⊥

-- the first of the names that has it
pub record IsFirstOf (P : ModelName → Type 0) (operands : List ModelName) (name : ModelName)
    : Type 0 where
  pub index : ℕ
  pub within : index < length operands
  pub is : (d : ModelName) → slice_index_or operands index d ≡ name
  pub before : (j : ℕ) → j < index → (d : ModelName) → P (slice_index_or operands j d) → ⊥
  pub holds : P name

-- Of the names of a union, the innermost that has the property: the first of them that has it, or,
-- where what that name stands for is again a union with a name that has it, the innermost of those.
pub data IsInnermost (items : List ResolvedItem) (P : ModelName → Type 0)
    : List ModelName → Option ModelName → Type 0 where
  NoName : (operands : List ModelName) → NoneOf P operands → IsInnermost items P operands None
  Itself : (operands inside : List ModelName) (name : ModelName) → IsFirstOf P operands name
      → AreOperandsOf items name inside → IsInnermost items P inside None
      → IsInnermost items P operands (Some name)
  Inside : (operands inside : List ModelName) (name inner : ModelName) → IsFirstOf P operands name
      → AreOperandsOf items name inside → IsInnermost items P inside (Some inner)
      → IsInnermost items P operands (Some inner)
