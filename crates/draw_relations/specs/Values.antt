-- The values of the relations that a model shows in the candidates of a space: `shown_values` cites
-- `AreAllShown`.
use Rattle.std.specs.Prelude.{Vec, ℕ, ◌≡◌, ◌⊎◌, ◌+◌, ◌-◌, List, [], ◌∷◌, ◌++◌, None, Some, length, slice_get}
use Rattle.std.specs.declared.alloc.Global.{Global}
use denote.Ref.{Bor}
use Rattle.binding_graph.specs.declared.resolved.CheckCode.{CheckCode}
use Rattle.binding_graph.specs.declared.resolved.ResolvedItem.{ResolvedItem}
use Rattle.binding_graph.specs.declared.resolved.Role.{Role}
use Rattle.binding_graph.specs.declared.resolved.Role.TheVariants as roles
use Rattle.binding_kinds.specs.declared.fault.ModelFault.{ModelFault}
use Rattle.bit_rows.specs.Relation.{Relation}
use Rattle.candidate_spaces.specs.declared.candidate.Space.{Space}
use Rattle.candidate_spaces.specs.Space.{Candidate, candidates_in}
use Rattle.cat_machine.specs.declared.column.Column.{Column}
use Rattle.cat_machine.specs.declared.column.Column.TheVariants as columns
use Rattle.cat_machine.specs.Executions.{events_of}
use Rattle.text_values.specs.declared.model.ModelText.{ModelText}
use Rattle.text_values.specs.ModelValue.{Clause}
use Rattle.text_values.specs.ModelValues.{clauses_of}
use Rattle.why_witness.specs.Values.{AreValues}
use Rattle.from_scratch.specs.declared.cell.ItemAnswers.{ItemAnswers}
use Rattle.from_scratch.specs.FromScratch.{AreItemsOf, IsFaultOf, IsFaultless}
use Rattle.from_scratch.specs.Known.{AreFound, HasAllColumns}
use Rattle.draw_relations.specs.declared.names.ShownName.{ShownName}
use Rattle.draw_relations.specs.declared.values.ShownValues.{ShownValues}
use Rattle.draw_relations.specs.Shown.{IsTextFor, body_of, names_shown}

-- the item is a check, and these are the values of its expression, where the names of other items
-- have these columns
pub record IsCheckValue (space : Space) (columns : List (Vec Column Global)) (item : ResolvedItem)
    (column : Column) : Type 0 where
  pub check : CheckCode
  pub role : item.role ≡ roles.Check check
  pub inputs : List (Bor Column)
  pub found : AreFound columns item.inputs.items inputs
  pub values : AreValues check.code inputs space column

abbrev pub IsLast : List ResolvedItem → ResolvedItem → Type 0
IsLast items item = slice_get items (length items - 1) ≡ Some item

-- the values of the expression of the check that is the last item of the text
pub record IsLastValue (space : Space) (text : ModelText) (column : Column) : Type 0 where
  pub faultless : IsFaultless text
  pub resolved : List ResolvedItem
  pub resolves : AreItemsOf text resolved
  pub answers : ItemAnswers
  pub valued : HasAllColumns space resolved answers
  pub item : ResolvedItem
  pub last : IsLast resolved item
  pub value : IsCheckValue space answers.columns.items item column

-- the relation that the name stands for, in each candidate
pub record IsShownValue (clauses : List Clause) (space : Space) (x : ShownName) (v : ShownValues)
    : Type 0 where
  pub text : ModelText
  pub is : IsTextFor clauses x text.items.items
  pub name : v.name ≡ x.name
  pub value : IsLastValue space text v.values

-- what the name stands for has a fault, as a name without a meaning, or a set in the place of a
-- relation
abbrev pub HasNameFault : List Clause → ShownName → Type 0
HasNameFault clauses x =
    (text : ModelText) × IsTextFor clauses x text.items.items × (fault : ModelFault)
    × IsFaultOf text fault

-- or there is no such expression
abbrev pub HasNoValue : List Clause → ShownName → Type 0
HasNoValue clauses x = HasNameFault clauses x ⊎ (body_of clauses x ≡ None)

-- of the names before a number those that stand for a relation, with their values
pub data AreValuesBefore (space : Space) (clauses : List Clause) (xs : List ShownName)
    : ℕ → List ShownValues → Type 0 where
  NoName : AreValuesBefore space clauses xs 0 []
  OneShown : (n : ℕ) (vs : List ShownValues) (x : ShownName) (v : ShownValues)
      → AreValuesBefore space clauses xs n vs → slice_get xs n ≡ Some x
      → IsShownValue clauses space x v → AreValuesBefore space clauses xs (n + 1) (vs ++ v ∷ [])
  OneLeft : (n : ℕ) (vs : List ShownValues) (x : ShownName) → AreValuesBefore space clauses xs n vs
      → slice_get xs n ≡ Some x
      → HasNoValue clauses x → AreValuesBefore space clauses xs (n + 1) vs

-- all names that the model shows
abbrev pub AreAllShown : Space → ModelText → List ShownValues → Type 0
AreAllShown space model vs =
    let clauses = clauses_of model.items.items in
    AreValuesBefore space clauses (names_shown clauses) (length (names_shown clauses)) vs

-- ---- what the code asks of values

-- a relation of the column is one of the events of its candidate
abbrev pub IsSizedAt : Column → ℕ → ℕ → Type 0
IsSizedAt (columns.Sets values) k n = Unit {0}
IsSizedAt (columns.Relations values) k n =
    (r : Relation) → slice_get values k ≡ Some r → r.count ≡ n

abbrev pub IsSized : Space → Column → Type 0
IsSized space values =
    (k : ℕ) (one : Candidate) → slice_get (candidates_in space.combinations.items) k ≡ Some one
    → IsSizedAt values k (events_of one)

abbrev pub IsNoCheck : Role → Type 0
IsNoCheck role = (check : CheckCode) → role ≡ roles.Check check → ⊥

abbrev pub HasNoLastCheck : List ResolvedItem → Type 0
HasNoLastCheck items = (item : ResolvedItem) → IsLast items item → IsNoCheck item.role
