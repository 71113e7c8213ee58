-- What the calls of `laws` say. Read `Growth` and `Within` first.
use Rattle.std.specs.Prelude.{ℕ, ◌≡◌, ◌<◌, ◌↔◌, Bool, false, List, [], ◌++◌, length, Some, slice_get, slice_index_or}
use denote.Ref.{Bor}
use Rattle.predefined_names.specs.declared.predefined.Predefined.{Predefined}
use Rattle.taints.specs.DependencyLists.{dependency_lists}
use Rattle.store_orders.specs.declared.combination.Combination.{Combination}
use Rattle.base_names.specs.Candidate.{SetIn, RelationIn}
use Rattle.binding_kinds.specs.declared.kinds.Kind.TheVariants.{OfSet}
use Rattle.binding_graph.specs.declared.resolved.Body.{Body}
use Rattle.binding_graph.specs.declared.resolved.CheckCode.{CheckCode}
use Rattle.binding_graph.specs.Trees.{RelTree, rel_code}
use Rattle.candidate_spaces.specs.Space.{Candidate}
use Rattle.cat_machine.specs.declared.column.Column.{Column}
use Rattle.cat_machine.specs.Columns.{AreGroupColumns}
use Rattle.cat_machine.specs.Executions.{events_of}
use Rattle.cat_machine.specs.Values.{AreAnswers}
use Rattle.order_growth.specs.declared.growth.Growth.{Growth}
use Rattle.order_growth.specs.declared.growth.Growth.TheVariants.{Unknown}
use Rattle.order_growth.specs.Growth.{predefined_growth, growth_of, source_growth, AreGroupGrowths}
use Rattle.order_growth.specs.Within.{IsWithin, IsGrowthBetween, IsColumnGrown, AreInputsGrown, AreBodyExpressions}

-- The predefined names of a candidate change so to one that it lies within, among the first n
-- events.
abbrev pub PredefinedNamesGrow : Candidate → Candidate → Type 0
PredefinedNamesGrow one more =
    (n : ℕ) (name : Predefined) → IsWithin one more
    → ((a : ℕ) → SetIn one.0 n name a ↔ SetIn more.0 n name a)
    × IsGrowthBetween (predefined_growth name) (RelationIn name n one.0 one.1.0 one.1.1)
    (RelationIn name n more.0 more.1.0 more.1.1)

-- A row of stores that stands in an order, in a candidate whose loads read nothing, lies within each
-- candidate with that order.
abbrev pub RowsLieWithin : Combination → Combination → Type 0
RowsLieWithin c d =
    (reads before row behind : List ℕ) → c.events.items ≡ d.events.items
    → dependency_lists c.dependencies ≡ dependency_lists d.dependencies
    → IsWithin (c, ([], row)) (d, (reads, before ++ row ++ behind))

-- The names of a group change as the growths of its bodies say, from a candidate at one index to one
-- at another.
abbrev pub ColumnsGrow : Bool → List Body → Type 0
ColumnsGrow recursive bodies =
    (growths names : List Growth) (inputs others : List (Bor Column))
    (candidates further : List Candidate) (cs ds : List Column) (k l : ℕ) (one more : Candidate)
    → AreBodyExpressions recursive bodies → AreGroupGrowths growths recursive bodies names
    → AreGroupColumns recursive bodies inputs candidates cs
    → AreGroupColumns recursive bodies others further ds
    → slice_get candidates k ≡ Some one → slice_get further l ≡ Some more → IsWithin one more
    → AreInputsGrown growths (events_of one) inputs k others l → (j : ℕ) → j < length bodies
    → (c : Column)
    → IsColumnGrown (slice_index_or names j Unknown) (events_of one) (slice_index_or cs j c) k
    (slice_index_or ds j c) l

-- What a check refuses in a candidate, it refuses in one that this lies within: where it is not
-- negated, and what it checks is a relation that does not lose pairs.
abbrev pub RefusalsStay : CheckCode → Type 0
RefusalsStay check =
    (growths : List Growth) (inputs others : List (Bor Column))
    (candidates further : List Candidate) (answers after : List Bool) (k l : ℕ)
    (one more : Candidate) (e : RelTree) → check.negated ≡ false
    → (check.code.kind ≡ OfSet → ⊥)
    → check.code.steps.items ≡ rel_code e []
    → (growth_of (source_growth growths) e ≡ Unknown → ⊥)
    → AreAnswers check inputs candidates answers → AreAnswers check others further after
    → slice_get candidates k ≡ Some one → slice_get further l ≡ Some more → IsWithin one more
    → AreInputsGrown growths (events_of one) inputs k others l
    → slice_get answers k ≡ Some false → slice_get after l ≡ Some false
