-- Values on their way up to the least solution.
use Rattle.std.specs.Prelude.{ℕ, ◌≡◌, ◌<◌, ◌≤◌, ◌⊎◌, ◌+◌, Bool, IsTrue, List, [], ◌∷◌, length, slice_index_or}
use Rattle.bit_rows.specs.Relation.{Relation, IsRelation, room_of, no_slot}
use Rattle.binding_graph.specs.declared.resolved.Source.{Source}
use Rattle.binding_graph.specs.declared.resolved.Body.{Body}
use Rattle.binding_graph.specs.Trees.{RelTree, RelName, NoPair, BlendRelations, SequenceRelations, ProductOfSets, IdentityOn, Close, ComplementRelation, rel_code}
use Rattle.cat_machine.specs.Meaning.{MeansRelation}
use Rattle.cat_machine.specs.Named.{OwnPairs, WithOwn}
use Rattle.cat_machine.specs.Least.{SolvesAt, IsClosedUnder, AreRelationsOn, body}
use Rattle.cat_machine.specs.Uses.{IsAmong, StandsForOne}

-- how much room the values have left to grow
abbrev pub rooms : List Relation → ℕ
rooms [] = 0
rooms (r ∷ rs) = room_of r + rooms rs

-- each value lies inside its body's, and inside all that is closed
pub record IsBelowSolution (n : ℕ) (sets : Source → ℕ → Type 0) (outer : Source → ℕ → ℕ → Type 0)
    (bodies : List RelTree) (values : List Relation) : Type 0 where
  pub as_many : length values ≡ length bodies
  pub on : AreRelationsOn n values
  pub rising : (x : ℕ) → x < length bodies → (a b : ℕ) → OwnPairs n values x a b
      → MeansRelation n sets (WithOwn outer (OwnPairs n values)) (body bodies x) a b
  pub inside : (test : ℕ → ℕ → ℕ → Bool) → IsClosedUnder n sets outer bodies test → (x : ℕ)
      → x < length bodies → (a b : ℕ) → OwnPairs n values x a b → IsTrue (test x a b)

-- the expression holds one of the names of the group
abbrev pub HoldsOne : ℕ → RelTree → Type 0
HoldsOne names (RelName source) = StandsForOne names source
HoldsOne names NoPair = ⊥
HoldsOne names (BlendRelations how e f) = HoldsOne names e ⊎ HoldsOne names f
HoldsOne names (SequenceRelations e f) = HoldsOne names e ⊎ HoldsOne names f
HoldsOne names (ProductOfSets s t) = ⊥
HoldsOne names (IdentityOn s) = ⊥
HoldsOne names (Close how e) = HoldsOne names e
HoldsOne names (ComplementRelation e) = HoldsOne names e

-- in a fixpoint round over the names todo, where the bodies below x have been evaluated
pub record IsFixpointRound (n : ℕ) (sets : Source → ℕ → Type 0) (outer : Source → ℕ → ℕ → Type 0)
    (bodies : List RelTree) (values : List Relation) (todo x grew : ℕ) : Type 0 where
  pub sound : IsBelowSolution n sets outer bodies values
  pub pending : (y : ℕ) → y < length bodies
      → SolvesAt n sets outer bodies values y
      ⊎ (((x ≤ y) × IsAmong todo y) ⊎ HoldsOne grew (body bodies y))

-- the bodies are the steps of these trees
abbrev pub AreCodes : List RelTree → List Body → Type 0
AreCodes [] [] = Unit {0}
AreCodes [] (b ∷ bs) = ⊥
AreCodes (t ∷ ts) [] = ⊥
AreCodes (t ∷ ts) (b ∷ bs) = (b.code.steps.items ≡ rel_code t []) × AreCodes ts bs

-- the first m values are empty relations on n events
abbrev pub AreEmpty : ℕ → ℕ → List Relation → Type 0
AreEmpty n m values = (x : ℕ) → x < m → IsRelation (slice_index_or values x no_slot) n (λ a b. ⊥)
