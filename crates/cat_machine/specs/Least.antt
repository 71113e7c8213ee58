-- What a recursive group means, in one candidate of n events.
use Rattle.std.specs.Prelude.{ℕ, ◌≡◌, ◌<◌, ◌↔◌, Bool, IsTrue, List, length, slice_index_or}
use Rattle.bit_rows.specs.Relation.{Relation, IsRegular, no_slot}
use Rattle.binding_graph.specs.declared.resolved.Blend.TheVariants as blends
use Rattle.binding_graph.specs.declared.resolved.Source.{Source}
use Rattle.binding_graph.specs.declared.resolved.Source.TheVariants as sources
use Rattle.binding_graph.specs.Trees.{RelTree, RelName, NoPair, BlendRelations, SequenceRelations, ProductOfSets, IdentityOn, Close, ComplementRelation}
use Rattle.cat_machine.specs.Meaning.{MeansRelation}
use Rattle.cat_machine.specs.Named.{OwnPairs, WithOwn}

-- the name is not one of the group itself
abbrev pub IsNotOwn : Source → Type 0
IsNotOwn (sources.Predefined name) = Unit {0}
IsNotOwn (sources.Input index) = Unit {0}
IsNotOwn (sources.Own position) = ⊥

-- the expression holds no name of the group: a set never does
abbrev pub HasNoOwnName : RelTree → Type 0
HasNoOwnName (RelName source) = IsNotOwn source
HasNoOwnName NoPair = Unit {0}
HasNoOwnName (BlendRelations how e f) = HasNoOwnName e × HasNoOwnName f
HasNoOwnName (SequenceRelations e f) = HasNoOwnName e × HasNoOwnName f
HasNoOwnName (ProductOfSets s t) = Unit {0}
HasNoOwnName (IdentityOn s) = Unit {0}
HasNoOwnName (Close how e) = HasNoOwnName e
HasNoOwnName (ComplementRelation e) = HasNoOwnName e

-- no name of the group stands right of a difference or in a complement
abbrev pub IsMonotone : RelTree → Type 0
IsMonotone (RelName source) = Unit {0}
IsMonotone NoPair = Unit {0}
IsMonotone (BlendRelations blends.Union e f) = IsMonotone e × IsMonotone f
IsMonotone (BlendRelations blends.Intersection e f) = IsMonotone e × IsMonotone f
IsMonotone (BlendRelations blends.Difference e f) = IsMonotone e × HasNoOwnName f
IsMonotone (SequenceRelations e f) = IsMonotone e × IsMonotone f
IsMonotone (ProductOfSets s t) = Unit {0}
IsMonotone (IdentityOn s) = Unit {0}
IsMonotone (Close how e) = IsMonotone e
IsMonotone (ComplementRelation e) = HasNoOwnName e

abbrev pub body : List RelTree → ℕ → RelTree
body bodies x = slice_index_or bodies x NoPair

abbrev pub AreMonotone : List RelTree → Type 0
AreMonotone bodies = (x : ℕ) → x < length bodies → IsMonotone (body bodies x)

-- the value of one name is that of its body
abbrev pub SolvesAt : ℕ → (Source → ℕ → Type 0) → (Source → ℕ → ℕ → Type 0) → List RelTree
    → List Relation → ℕ → Type 0
SolvesAt n sets outer bodies values x =
    (a b : ℕ)
    → OwnPairs n values x a b ↔ MeansRelation n sets (WithOwn outer (OwnPairs n values)) (body bodies x) a b

-- the tests hold of all that the bodies give where the names have the pairs that pass them
abbrev pub IsClosedUnder : ℕ → (Source → ℕ → Type 0) → (Source → ℕ → ℕ → Type 0) → List RelTree
    → (ℕ → ℕ → ℕ → Bool) → Type 0
IsClosedUnder n sets outer bodies test =
    (x : ℕ) → x < length bodies → (a b : ℕ)
    → MeansRelation n sets (WithOwn outer (λ y c d. IsTrue (test y c d))) (body bodies x) a b
    → IsTrue (test x a b)

-- each value is a relation on n events
abbrev pub AreRelationsOn : ℕ → List Relation → Type 0
AreRelationsOn n values =
    (x : ℕ) → x < length values
    → ((slice_index_or values x no_slot).count ≡ n) × IsRegular (slice_index_or values x no_slot)

-- the values satisfy the equations, and lie inside all that is closed under them
pub record IsLeast (n : ℕ) (sets : Source → ℕ → Type 0) (outer : Source → ℕ → ℕ → Type 0)
    (bodies : List RelTree) (values : List Relation) : Type 0 where
  pub as_many : length values ≡ length bodies
  pub on : AreRelationsOn n values
  pub solves : (x : ℕ) → x < length bodies → SolvesAt n sets outer bodies values x
  pub inside : (test : ℕ → ℕ → ℕ → Bool) → IsClosedUnder n sets outer bodies test → (x : ℕ)
      → x < length bodies → (a b : ℕ) → OwnPairs n values x a b → IsTrue (test x a b)
