-- The answers of a check, candidate by candidate.
use Rattle.std.specs.Prelude.{ℕ, ◌≡◌, ◌↔◌, Bool, true, false, IsTrue, List, [], ◌∷◌, ◌++◌, length, replicate, Some, slice_get}
use denote.Ref.{Bor}
use Rattle.binding_kinds.specs.declared.kinds.Kind.{Kind}
use Rattle.binding_kinds.specs.declared.kinds.Kind.TheVariants as kinds
use Rattle.binding_graph.specs.declared.resolved.CheckCode.{CheckCode}
use Rattle.binding_graph.specs.declared.resolved.Role.{Role}
use Rattle.binding_graph.specs.declared.resolved.Role.TheVariants as roles
use Rattle.binding_graph.specs.declared.resolved.Source.{Source}
use Rattle.binding_graph.specs.Trees.{SetTree, RelTree, set_code, rel_code}
use Rattle.candidate_spaces.specs.declared.candidate.Space.{Space}
use Rattle.cat_machine.specs.declared.column.Column.{Column}
use Rattle.candidate_spaces.specs.Space.{candidates_in, Candidate}
use Rattle.cat_machine.specs.Checks.{Holds, IsEmptySet}
use Rattle.cat_machine.specs.Executions.{events_of, EventsAt, PairsAt}
use Rattle.cat_machine.specs.Meaning.{MeansSet, MeansRelation}
use Rattle.cat_machine.specs.Named.{WithOwn, OwnPairs}
use Rattle.bit_rows.specs.Relation.{Relation, Events, IsRelation, IsEvents}
use Rattle.binding_graph.specs.declared.resolved.Step.{Step}
use Rattle.cat_machine.specs.declared.column.Column.TheVariants as columns

-- the fact, or that it is not
abbrev pub Unless : Bool → Type 0 → Type 0
Unless false P = P
Unless true P = P → ⊥

-- the answer is whether the expression meets the check, where the names stand for these events and
-- pairs among n events: there are no names of a recursive group
abbrev pub IsCheckAnswer : CheckCode → ℕ → (Source → ℕ → Type 0) → (Source → ℕ → ℕ → Type 0) → Kind
    → Bool → Type 0
IsCheckAnswer check n sets outer kinds.OfSet answer =
    (t : SetTree) → check.code.steps.items ≡ set_code t []
    → IsTrue answer ↔ Unless check.negated (IsEmptySet (MeansSet n sets t))
IsCheckAnswer check n sets outer kinds.OfRelation answer =
    (t : RelTree) → check.code.steps.items ≡ rel_code t []
    → IsTrue answer
    ↔ Unless check.negated (Holds check.word (MeansRelation n sets (WithOwn outer (OwnPairs n [])) t))
IsCheckAnswer check n sets outer kinds.OfAny answer =
    (t : RelTree) → check.code.steps.items ≡ rel_code t []
    → IsTrue answer
    ↔ Unless check.negated (Holds check.word (MeansRelation n sets (WithOwn outer (OwnPairs n [])) t))

-- one answer for each candidate, in order: whether the expression meets the check there
abbrev pub AreAnswers : CheckCode → List (Bor Column) → List Candidate → List Bool → Type 0
AreAnswers check inputs candidates answers =
    (length answers ≡ length candidates) × ((k : ℕ) (one : Candidate) (answer : Bool)
    → slice_get candidates k ≡ Some one → slice_get answers k ≡ Some answer
    → IsCheckAnswer check (events_of one) (EventsAt (events_of one) one inputs k)
    (PairsAt (events_of one) one inputs k) check.code.kind answer)

-- the answers of an item that is a check, over the candidates of a space; another item has none
abbrev pub AnswersOf : Role → List (Bor Column) → Space → List Bool → Type 0
AnswersOf (roles.Group recursive bodies) inputs space answers = answers ≡ []
AnswersOf (roles.Check check) inputs space answers =
    AreAnswers check inputs (candidates_in space.combinations.items) answers
AnswersOf roles.Silent inputs space answers = answers ≡ []

-- so many candidates it has a value for
abbrev pub column_len : Column → ℕ
column_len (columns.Sets values) = length values
column_len (columns.Relations values) = length values

-- the column gains one value: `s` if it holds sets, `r` if relations
abbrev pub AddsValue : Column → Column → Events → Relation → Type 0
AddsValue (columns.Sets xs) (columns.Sets ys) s r = ys ≡ xs ++ s ∷ []
AddsValue (columns.Sets xs) (columns.Relations ys) s r = ⊥
AddsValue (columns.Relations xs) (columns.Sets ys) s r = ⊥
AddsValue (columns.Relations xs) (columns.Relations ys) s r = ys ≡ xs ++ r ∷ []

-- the column gains so many equal values: `s` if it holds sets, `r` if relations
abbrev pub AddsRun : Column → Column → ℕ → Events → Relation → Type 0
AddsRun (columns.Sets xs) (columns.Sets ys) m s r = ys ≡ xs ++ replicate m s
AddsRun (columns.Sets xs) (columns.Relations ys) m s r = ⊥
AddsRun (columns.Relations xs) (columns.Sets ys) m s r = ⊥
AddsRun (columns.Relations xs) (columns.Relations ys) m s r = ys ≡ xs ++ replicate m r

-- a column for values of this kind
abbrev pub IsFor : Kind → Column → Type 0
IsFor kinds.OfSet (columns.Sets values) = Unit {0}
IsFor kinds.OfSet (columns.Relations values) = ⊥
IsFor kinds.OfRelation (columns.Sets values) = ⊥
IsFor kinds.OfRelation (columns.Relations values) = Unit {0}
IsFor kinds.OfAny (columns.Sets values) = ⊥
IsFor kinds.OfAny (columns.Relations values) = Unit {0}

-- the set, or the relation, is what the code means, where the names stand for these events and
-- pairs among n events: it uses no names of a recursive group
abbrev pub IsMeaning : Kind → List Step → ℕ → (Source → ℕ → Type 0) → (Source → ℕ → ℕ → Type 0)
    → Events → Relation → Type 0
IsMeaning kinds.OfSet steps n sets outer s r =
    (t : SetTree) → steps ≡ set_code t [] → IsEvents s n (MeansSet n sets t)
IsMeaning kinds.OfRelation steps n sets outer s r =
    (t : RelTree) → steps ≡ rel_code t []
    → IsRelation r n (MeansRelation n sets (WithOwn outer (OwnPairs n [])) t)
IsMeaning kinds.OfAny steps n sets outer s r =
    (t : RelTree) → steps ≡ rel_code t []
    → IsRelation r n (MeansRelation n sets (WithOwn outer (OwnPairs n [])) t)
