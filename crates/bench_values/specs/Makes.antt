-- What a node gives: from what it is given of the texts, and from the values of the nodes that it
-- uses, of which the first is the space.
use Rattle.std.specs.Prelude.{ℕ, ◌≡◌, Bool, List, [], ◌∷◌, map, length, Option, Some, None}
use denote.Ref.{Bor}
use Rattle.text_values.specs.declared.test.Quantifier.{Quantifier}
use Rattle.text_values.specs.TestValue.{Formula}
use Rattle.litmus_printing.specs.Printing.{condition_text}
use Rattle.ppc_lowering.specs.declared.fault.EvalRefusal.{EvalRefusal}
use Rattle.candidate_spaces.specs.declared.candidate.Space.{Space}
use Rattle.binding_kinds.specs.declared.kinds.Kind.{Kind}
use Rattle.binding_kinds.specs.declared.kinds.Kind.TheVariants.{OfSet, OfRelation}
use Rattle.binding_graph.specs.declared.resolved.Role.{Role}
use Rattle.binding_shapes.specs.Shapes.{role_with}
use Rattle.cat_machine.specs.declared.column.Column.{Column}
use Rattle.cat_machine.specs.declared.column.Column.TheVariants as columns
use Rattle.cat_machine.specs.Columns.{ColumnsOf}
use Rattle.cat_machine.specs.Values.{AnswersOf}
use Rattle.outcome_states.specs.declared.answer.Outcome.{Outcome}
use Rattle.outcome_states.specs.declared.answer.OutcomeResult.TheVariants.{Refused}
use Rattle.outcome_states.specs.declared.answer.Refusal.{Refusal}
use Rattle.outcome_states.specs.declared.answer.Refusal.TheVariants as refusals
use Rattle.verdict.specs.Evaluated.{IsOutcomeOn}
use Rattle.outcome_states.specs.Kept.{Flag}
use Rattle.bench_values.specs.Givens.{VerdictPartsContent, GivenContent, ForSpace, ForItem, ForVerdict, ForFault}
use Rattle.bench_items.specs.Items.{RoleContent, Group, Check, Silent, role_content}
use Rattle.bench_values.specs.Parts.{SpacePartsContent, IsPartSpace, IsPartRefusal}
use Rattle.bench_values.specs.Spaces.{SpaceContent, space_content}
use Rattle.bench_values.specs.Values.{NodeContent, OfSpace, OfRefusal, OfColumn, OfCheck, OfOutcome, column_value, space_of, refusal_of, columns_of, answers_of}

-- the space of the parts, or why they have none
abbrev pub IsSpaceValue : SpacePartsContent → NodeContent → Type 0
IsSpaceValue parts (OfSpace space) = IsPartSpace parts space
IsSpaceValue parts (OfRefusal refusal) = IsPartRefusal parts refusal
IsSpaceValue parts (OfColumn column) = ⊥
IsSpaceValue parts (OfCheck answers) = ⊥
IsSpaceValue parts (OfOutcome outcome) = ⊥

-- of which kind the values of a column are
abbrev pub column_kind : Column → Kind
column_kind (columns.Sets values) = OfSet
column_kind (columns.Relations values) = OfRelation

-- what an item of this shape does where the names that it uses have these columns
abbrev pub role_over : RoleContent → List Column → RoleContent
role_over shape columns = role_with (map column_kind columns) shape

-- the columns of the names of an item of this shape over a space, from the columns of the names that
-- it uses
pub record HasGroupColumns (shape : RoleContent) (space : SpaceContent) (columns : List Column)
    (cs : List Column) : Type 0 where
  pub read : Role
  pub reading : role_content read ≡ role_over shape columns
  pub over : Space
  pub shown : space_content over ≡ space
  pub inputs : List (Bor Column)
  pub are : map (λ c. c.now) inputs ≡ columns
  pub values : ColumnsOf read inputs over cs

-- the answers of a check or a flag, likewise
pub record HasCheckAnswers (shape : RoleContent) (space : SpaceContent) (columns : List Column)
    (answers : List Bool) : Type 0 where
  pub read : Role
  pub reading : role_content read ≡ role_over shape columns
  pub over : Space
  pub shown : space_content over ≡ space
  pub inputs : List (Bor Column)
  pub are : map (λ c. c.now) inputs ≡ columns
  pub values : AnswersOf read inputs over answers

-- a group gives the column of each of its names, a check or a flag its answers
abbrev pub RoleMakes : RoleContent → SpaceContent → List Column → List NodeContent → Type 0
RoleMakes (Group recursive bodies) space columns outputs =
    (cs : List Column) × (outputs ≡ map column_value cs)
    × HasGroupColumns (Group recursive bodies) space columns cs
RoleMakes (Check negated word code flag) space columns outputs =
    (answers : List Bool) × (outputs ≡ OfCheck answers ∷ [])
    × HasCheckAnswers (Check negated word code flag) space columns answers
RoleMakes Silent space columns outputs = outputs ≡ []

-- an outcome that says why there is no evaluation
abbrev pub refused : Quantifier → Formula → Refusal → Outcome
refused kind proposition refusal =
    record { kind = kind; condition = condition_text kind proposition; result = Refused refusal }

-- the answers of the checks, which have no name of a flag
abbrev pub checks_among : List (Option (List ℕ)) → List (List Bool) → List (List Bool)
checks_among [] answers = []
checks_among (n ∷ ns) [] = []
checks_among (None ∷ ns) (a ∷ more) = a ∷ checks_among ns more
checks_among (Some name ∷ ns) (a ∷ more) = checks_among ns more

-- the answers of the flags, with their names
abbrev pub flags_among : List (Option (List ℕ)) → List (List Bool) → List Flag
flags_among [] answers = []
flags_among (n ∷ ns) [] = []
flags_among (None ∷ ns) (a ∷ more) = flags_among ns more
flags_among (Some name ∷ ns) (a ∷ more) = (name, a) ∷ flags_among ns more

-- the outcome of a condition over a space, from the answers of checks and flags in the order of the
-- text
abbrev pub IsVerdictOutcome : VerdictPartsContent → SpaceContent → List (List Bool) → Outcome
    → Type 0
IsVerdictOutcome parts space answers o =
    IsOutcomeOn space.locations space.executions parts.kind parts.proposition parts.observed
    (checks_among parts.flags answers) (flags_among parts.flags answers) o

-- where the test has no space, it says why
abbrev pub IsVerdictOver : Option EvalRefusal → VerdictPartsContent → List NodeContent → Outcome
    → Type 0
IsVerdictOver (Some refusal) parts values o =
    o ≡ refused parts.kind parts.proposition (refusals.Space refusal)
IsVerdictOver None parts values o = IsVerdictOutcome parts (space_of values) (answers_of values) o

-- what an item of this shape gives
abbrev pub ItemMakes : RoleContent → List NodeContent → List NodeContent → Type 0
ItemMakes shape values outputs = RoleMakes shape (space_of values) (columns_of values) outputs

-- what a node gives: an item as many values as it has numbers
abbrev pub Makes : GivenContent → List NodeContent → List NodeContent → Type 0
Makes (ForSpace parts) values outputs =
    (v : NodeContent) × (outputs ≡ v ∷ []) × IsSpaceValue parts v
Makes (ForItem shape numbers) values outputs =
    ItemMakes shape values outputs × (length outputs ≡ length numbers)
Makes (ForVerdict parts) values outputs =
    (o : Outcome) × (outputs ≡ OfOutcome o ∷ []) × IsVerdictOver (refusal_of values) parts values o
Makes (ForFault parts) values outputs =
    outputs ≡ OfOutcome (refused parts.kind parts.proposition (refusals.Model parts.fault)) ∷ []

-- ---- the numbers by which the outputs of a node go, in the order of its values

abbrev pub output_names : GivenContent → List ℕ
output_names (ForSpace parts) = 0 ∷ []
output_names (ForItem shape numbers) = numbers
output_names (ForVerdict parts) = 0 ∷ []
output_names (ForFault parts) = 0 ∷ []
