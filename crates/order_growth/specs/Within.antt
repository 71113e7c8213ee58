-- When a candidate lies within another, and what is said of two relations by a growth.
use Rattle.std.specs.Prelude.{ℕ, ◌≡◌, ◌↔◌, Bool, true, false, List, [], slice_get, slice_index_or}
use Rattle.std.specs.List.{AllByRecursion}
use denote.Ref.{Bor}
use Rattle.taints.specs.DependencyLists.{dependency_lists}
use Rattle.base_names.specs.Events.{ReadsFromBy, Coherence}
use Rattle.binding_kinds.specs.declared.kinds.Kind.{Kind}
use Rattle.binding_kinds.specs.declared.kinds.Kind.TheVariants as kinds
use Rattle.binding_graph.specs.declared.resolved.Body.{Body}
use Rattle.binding_graph.specs.declared.resolved.Step.{Step}
use Rattle.binding_graph.specs.Trees.{SetTree, RelTree, set_code, rel_code}
use Rattle.candidate_spaces.specs.Space.{Candidate}
use Rattle.cat_machine.specs.declared.column.Column.{Column}
use Rattle.cat_machine.specs.Least.{AreMonotone}
use Rattle.cat_machine.specs.Named.{ColumnEvents, ColumnPairs, InputEvents, InputPairs}
use Rattle.cat_machine.specs.Rising.{AreCodes}
use Rattle.order_growth.specs.declared.growth.Growth.{Growth}
use Rattle.order_growth.specs.declared.growth.Growth.TheVariants.{Stays, Grows, Unknown}

-- the second has the same events and dependencies, and each pair of reads-from and of coherence that
-- the first has
pub record IsWithin (one more : Candidate) : Type 0 where
  pub events : one.0.events.items ≡ more.0.events.items
  pub dependencies : dependency_lists one.0.dependencies ≡ dependency_lists more.0.dependencies
  pub reads : (a b : ℕ) → ReadsFromBy one.0.events.items one.1.0 a b
      → ReadsFromBy more.0.events.items more.1.0 a b
  pub coherence : (a b : ℕ) → Coherence one.0.events.items one.1.1 a b
      → Coherence more.0.events.items more.1.1 a b

-- the second relation is what the growth says of the first
abbrev pub IsGrowthBetween : Growth → (ℕ → ℕ → Type 0) → (ℕ → ℕ → Type 0) → Type 0
IsGrowthBetween Stays R S = (a b : ℕ) → R a b ↔ S a b
IsGrowthBetween Grows R S = (a b : ℕ) → R a b → S a b
IsGrowthBetween Unknown R S = Unit {0}

-- so it is with the pairs of a column in a candidate of n events and of another column in another
-- one, and the events are the same
pub record IsColumnGrown (g : Growth) (n : ℕ) (c : Column) (k : ℕ) (d : Column) (l : ℕ)
    : Type 0 where
  pub events : (a : ℕ) → ColumnEvents c k n a ↔ ColumnEvents d l n a
  pub pairs : IsGrowthBetween g (ColumnPairs c k n) (ColumnPairs d l n)

-- so it is with each input of an item; one that is beyond the growths may change in any way
pub record AreInputsGrown (gs : List Growth) (n : ℕ) (inputs : List (Bor Column)) (k : ℕ)
    (others : List (Bor Column)) (l : ℕ) : Type 0 where
  pub events : (index a : ℕ)
      → InputEvents (slice_get inputs index) k n a ↔ InputEvents (slice_get others index) l n a
  pub pairs : (index : ℕ)
      → IsGrowthBetween (slice_index_or gs index Unknown) (InputPairs (slice_get inputs index) k n)
      (InputPairs (slice_get others index) l n)

-- the steps are those of a set, or of a relation
abbrev pub HasExpression : Kind → List Step → Type 0
HasExpression kinds.OfSet steps = (t : SetTree) × (steps ≡ set_code t [])
HasExpression kinds.OfRelation steps = (e : RelTree) × (steps ≡ rel_code e [])
HasExpression kinds.OfAny steps = (e : RelTree) × (steps ≡ rel_code e [])

-- the bodies of a group are expressions. Those of a recursive group are relations, in which its
-- names stand where they may
abbrev pub AreBodyExpressions : Bool → List Body → Type 0
AreBodyExpressions false bodies =
    AllByRecursion (λ b. HasExpression b.code.kind b.code.steps.items) bodies
AreBodyExpressions true bodies =
    ((trees : List RelTree) × AreCodes trees bodies × AreMonotone trees)
    × AllByRecursion (λ b. b.code.kind ≡ kinds.OfSet → ⊥) bodies
