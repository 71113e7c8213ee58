-- What a node holds, as plain data: contracts see a `NodeValue` so.
use Rattle.std.specs.Prelude.{ℕ, zero, suc, Bool, List, [], ◌∷◌, Option, Some, None, unwrap_or}
use Rattle.std.specs.List.{filter_map}
use Rattle.ppc_lowering.specs.declared.fault.EvalRefusal.{EvalRefusal}
use Rattle.cat_machine.specs.declared.column.Column.{Column}
use Rattle.cat_machine.specs.declared.column.Column.TheVariants as columns
use Rattle.cat_machine.specs.Values.{column_len}
use Rattle.outcome_states.specs.declared.answer.Outcome.{Outcome}
use Rattle.bench_values.specs.Spaces.{SpaceContent, no_executions}

-- a space, or why a test has none; the column of a name; the answers of a check or a flag; an
-- outcome
pub data NodeContent : Type 0 where
  OfSpace : (space : SpaceContent) → NodeContent
  OfRefusal : (refusal : EvalRefusal) → NodeContent
  OfColumn : (column : Column) → NodeContent
  OfCheck : (answers : List Bool) → NodeContent
  OfOutcome : (outcome : Outcome) → NodeContent

-- the column, where it has values; without any, it is of no kind
abbrev pub column_of : ℕ → Column → Column
column_of zero column = columns.Sets []
column_of (suc n) column = column

-- the value of a name: columns without a value are one, those of sets as those of relations
abbrev pub column_value : Column → NodeContent
column_value column = OfColumn (column_of (column_len column) column)

-- ---- what the values of a node's inputs hold

abbrev pub space_in : NodeContent → Option SpaceContent
space_in (OfSpace space) = Some space
space_in (OfRefusal refusal) = None
space_in (OfColumn column) = None
space_in (OfCheck answers) = None
space_in (OfOutcome outcome) = None

abbrev pub refusal_in : NodeContent → Option EvalRefusal
refusal_in (OfSpace space) = None
refusal_in (OfRefusal refusal) = Some refusal
refusal_in (OfColumn column) = None
refusal_in (OfCheck answers) = None
refusal_in (OfOutcome outcome) = None

abbrev pub column_in : NodeContent → Option Column
column_in (OfSpace space) = None
column_in (OfRefusal refusal) = None
column_in (OfColumn column) = Some column
column_in (OfCheck answers) = None
column_in (OfOutcome outcome) = None

abbrev pub check_in : NodeContent → Option (List Bool)
check_in (OfSpace space) = None
check_in (OfRefusal refusal) = None
check_in (OfColumn column) = None
check_in (OfCheck answers) = Some answers
check_in (OfOutcome outcome) = None

abbrev pub outcome_in : NodeContent → Option Outcome
outcome_in (OfSpace space) = None
outcome_in (OfRefusal refusal) = None
outcome_in (OfColumn column) = None
outcome_in (OfCheck answers) = None
outcome_in (OfOutcome outcome) = Some outcome

-- the first of these values is the space, or says why there is none
abbrev pub first_space : List NodeContent → Option SpaceContent
first_space [] = None
first_space (v ∷ vs) = space_in v

-- the space, and one without executions where there is none
abbrev pub space_of : List NodeContent → SpaceContent
space_of values = unwrap_or (first_space values) no_executions

abbrev pub refusal_of : List NodeContent → Option EvalRefusal
refusal_of [] = None
refusal_of (v ∷ vs) = refusal_in v

abbrev pub columns_of : List NodeContent → List Column
columns_of values = filter_map column_in values

abbrev pub answers_of : List NodeContent → List (List Bool)
answers_of values = filter_map check_in values
