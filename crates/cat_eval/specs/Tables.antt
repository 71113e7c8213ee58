-- The columns of predefined names over the candidates of a space.
use Rattle.std.specs.Prelude.{ℕ, ◌≡◌, ◌<◌, ◌↔◌, Bool, true, false, List, Vec, length, map, Some, slice_get, slice_index_or, Contains}
use Rattle.std.specs.declared.alloc.Global.{Global}
use Rattle.bit_rows.specs.Relation.{Relation, Events, IsRelation, IsEvents}
use Rattle.predefined_names.specs.declared.predefined.Predefined.{Predefined}
use Rattle.predefined_names.specs.PredefinedNames.{is_set}
use Rattle.base_names.specs.Known.{Known, KnownEvents, KnownPairs}
use Rattle.base_names.specs.Candidate.{SetIn, RelationIn}
use Rattle.candidate_spaces.specs.declared.candidate.Space.{Space}
use Rattle.candidate_spaces.specs.Space.{candidates_in, Candidate}
use Rattle.binding_kinds.specs.declared.kinds.Kind.{Kind}
use Rattle.binding_kinds.specs.declared.kinds.Kind.TheVariants as kinds
use Rattle.cat_machine.specs.declared.column.Column.{Column}
use Rattle.cat_machine.specs.declared.seen.NamedColumn.{NamedColumn}
use Rattle.cat_eval.specs.declared.table.Entry.{Entry}
use Rattle.cat_eval.specs.declared.evaluator.Evaluator.{Evaluator}
use Rattle.cat_machine.specs.Columns.{HasColumnValue}
use Rattle.cat_machine.specs.Executions.{events_of}
use Rattle.cat_machine.specs.Named.{ColumnEvents, ColumnPairs}
use Rattle.cat_machine.specs.Values.{IsFor, column_len}

-- the column's value for the candidate of number k is what the name stands for in that candidate
pub record StandsFor (column : Column) (k : ℕ) (name : Predefined) (one : Candidate) : Type 0 where
  pub events : (a : ℕ)
      → ColumnEvents column k (events_of one) a ↔ SetIn one.0 (events_of one) name a
  pub pairs : (a b : ℕ)
      → ColumnPairs column k (events_of one) a b
      ↔ RelationIn name (events_of one) one.0 one.1.0 one.1.1 a b

-- and so in each candidate
abbrev pub IsColumnOf : Column → Predefined → List Candidate → Type 0
IsColumnOf column name candidates =
    (k : ℕ) (one : Candidate) → slice_get candidates k ≡ Some one → StandsFor column k name one

-- each entry has the column of its name
abbrev pub IsBlock : List Entry → List Candidate → Type 0
IsBlock entries candidates =
    (i : ℕ) → i < length entries → (d : Entry)
    → IsColumnOf (slice_index_or entries i d).column (slice_index_or entries i d).name candidates

abbrev pub AreBlocks : List (Vec Entry Global) → List Candidate → Type 0
AreBlocks blocks candidates =
    (b : ℕ) → b < length blocks → (d : Vec Entry Global)
    → IsBlock (slice_index_or blocks b d).items candidates

abbrev pub entry_names : List Entry → List Predefined
entry_names entries = map (λ entry. entry.name) entries

-- one of the blocks has an entry of this name
abbrev pub HasName : List (Vec Entry Global) → Predefined → Type 0
HasName blocks name =
    (b : ℕ) × (b < length blocks)
    × ((d : Vec Entry Global) → Contains (entry_names (slice_index_or blocks b d).items) name)

-- each of these has the column of its name
abbrev pub AreColumnsFor : List NamedColumn → List Candidate → Type 0
AreColumnsFor xs candidates =
    (i : ℕ) → i < length xs → (d : NamedColumn)
    → IsColumnOf (slice_index_or xs i d).column.now (slice_index_or xs i d).name candidates

abbrev pub column_names : List NamedColumn → List Predefined
column_names xs = map (λ x. x.name) xs

-- what the evaluator keeps is of this space
abbrev pub IsOver : Evaluator → Space → Type 0
IsOver evaluator space =
    AreBlocks evaluator.table.blocks.items (candidates_in space.combinations.items)

-- ---- columns on their way through the candidates

-- the kind of a name's value
abbrev pub kind_for : Bool → Kind
kind_for true = kinds.OfSet
kind_for false = kinds.OfRelation

-- of the two the one of the name's kind is what is held under the name
abbrev pub IsHeld : Bool → Predefined → Known → Events → Relation → Type 0
IsHeld true name base s r = IsEvents s base.count (KnownEvents base name)
IsHeld false name base s r = IsRelation r base.count (KnownPairs base name)

-- the column has a value for each of these, one by one
pub record IsEntryFilled (entry : Entry) (bases : List Known) : Type 0 where
  pub kind : IsFor (kind_for (is_set entry.name)) entry.column
  pub long : column_len entry.column ≡ length bases
  pub values : (k : ℕ) (base : Known) → slice_get bases k ≡ Some base
      → (s : Events) × (r : Relation) × HasColumnValue entry.column k s r
      × IsHeld (is_set entry.name) entry.name base s r

abbrev pub AreFilled : List Entry → List Known → Type 0
AreFilled entries bases =
    (i : ℕ) → i < length entries → (d : Entry) → IsEntryFilled (slice_index_or entries i d) bases
