-- Which pairs of a relation are drawn. Read first: `edges` cites it.
use Rattle.std.specs.Prelude.{ℕ, ◌≡◌, ◌↔◌, List, Option, Some, None, slice_get}
use Rattle.std.specs.List.{Contains}
use Rattle.taints.specs.Chains.{ArePairsRising}
use Rattle.bit_rows.specs.Pairs.{Composite, Restriction, IsIrreflexive}
use Rattle.store_orders.specs.declared.combination.Event.{Event}

-- what precedes an event precedes all that the event precedes
abbrev pub IsTransitive : (ℕ → ℕ → Type 0) → Type 0
IsTransitive R = (a b : ℕ) → Composite R R a b → R a b

abbrev pub IsStrictOrder : (ℕ → ℕ → Type 0) → Type 0
IsStrictOrder R = IsIrreflexive R × IsTransitive R

-- a pair is drawn, unless the relation is an order and an event stands between the two
abbrev pub Drawn : (ℕ → ℕ → Type 0) → ℕ → ℕ → Type 0
Drawn R a b = R a b × (IsStrictOrder R → Composite R R a b → ⊥)

-- of the pairs between events of a set, those that are drawn
abbrev pub DrawnAmong : (ℕ → Type 0) → (ℕ → ℕ → Type 0) → ℕ → ℕ → Type 0
DrawnAmong S R = Drawn (Restriction R S)

-- the list has just these pairs, in rising order
pub record AreEdges (D : ℕ → ℕ → Type 0) (edges : List (ℕ × ℕ)) : Type 0 where
  pub rising : ArePairsRising edges
  pub exact : (p : ℕ × ℕ) → Contains edges p ↔ D p.0 p.1

-- an event of a thread is drawn; and an initial store that is among those of these numbers
abbrev pub IsAmongIfInitial : Option ℕ → (named : List ℕ) → ℕ → Type 0
IsAmongIfInitial (Some thread) named n = Unit {0}
IsAmongIfInitial None named n = Contains named n

abbrev pub IsDrawnEvent : List Event → (named : List ℕ) → ℕ → Type 0
IsDrawnEvent events named n =
    (e : Event) × (slice_get events n ≡ Some e) × IsAmongIfInitial e.thread named n
