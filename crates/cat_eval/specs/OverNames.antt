-- Answers and values over the predefined names that are held for each candidate.
use Rattle.std.specs.Prelude.{ℕ, ◌≡◌, ◌<◌, Bool, List, length, Some, slice_get, slice_index_or}
use denote.Ref.{Bor}
use Rattle.bit_rows.specs.Relation.{Relation, Events}
use Rattle.binding_kinds.specs.declared.kinds.Kind.{Kind}
use Rattle.binding_graph.specs.declared.resolved.Body.{Body}
use Rattle.binding_graph.specs.declared.resolved.CheckCode.{CheckCode}
use Rattle.binding_graph.specs.declared.resolved.Step.{Step}
use Rattle.cat_machine.specs.Seen.{NamedValues}
use Rattle.cat_machine.specs.declared.column.Column.{Column}
use Rattle.cat_machine.specs.Columns.{HaveValues}
use Rattle.cat_machine.specs.Named.{EventsIn, PairsOutside}
use Rattle.cat_machine.specs.Values.{IsCheckAnswer, IsFor, IsMeaning, column_len}

abbrev pub IsAnswerOver : CheckCode → List (Bor Column) → NamedValues → ℕ → Kind → Bool → Type 0
IsAnswerOver check inputs base k =
    IsCheckAnswer check base.count (EventsIn base inputs k) (PairsOutside base inputs k)

abbrev pub AreAnswersOver : CheckCode → List (Bor Column) → List NamedValues → List Bool → Type 0
AreAnswersOver check inputs bases answers =
    (length answers ≡ length bases)
    × ((k : ℕ) (base : NamedValues) (answer : Bool) → slice_get bases k ≡ Some base
    → slice_get answers k ≡ Some answer
    → IsAnswerOver check inputs base k check.code.kind answer)

abbrev pub IsMeaningOver : Kind → List Step → List (Bor Column) → NamedValues → ℕ → Events
    → Relation → Type 0
IsMeaningOver kind steps inputs base k =
    IsMeaning kind steps base.count (EventsIn base inputs k) (PairsOutside base inputs k)

abbrev pub HaveValuesOver : Bool → List Body → List (Bor Column) → NamedValues → ℕ → List Column
    → Type 0
HaveValuesOver recursive bodies inputs base k =
    HaveValues recursive bodies base.count (EventsIn base inputs k) (PairsOutside base inputs k) k

pub record AreColumnsOver (recursive : Bool) (bodies : List Body) (inputs : List (Bor Column))
    (bases : List NamedValues) (cs : List Column) : Type 0 where
  pub as_many : length cs ≡ length bodies
  pub suited : (j : ℕ) → j < length bodies → (b : Body) (c : Column)
      → IsFor (slice_index_or bodies j b).code.kind (slice_index_or cs j c)
  pub long : (j : ℕ) → j < length bodies → (c : Column)
      → column_len (slice_index_or cs j c) ≡ length bases
  pub values : (k : ℕ) (base : NamedValues) → slice_get bases k ≡ Some base
      → HaveValuesOver recursive bodies inputs base k cs
