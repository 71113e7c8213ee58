-- The arrows of a relation by number are those of the relation by name.
use Rattle.std.proofs.Common.{ℕ, ◌≡◌, ◌↔◌, List, sym, subst}
use Rattle.bit_rows.specs.Pairs.{Composite, Restriction}
use Rattle.draw_graph.specs.Drawn.{IsStrictOrder, Drawn, DrawnAmong, AreEdges}

abbrev SamePairs : (ℕ → ℕ → Type 0) → (ℕ → ℕ → Type 0) → Type 0
SamePairs R Q = (a b : ℕ) → R a b ↔ Q a b

turned : (R Q : ℕ → ℕ → Type 0) → SamePairs R Q → SamePairs Q R
turned R Q same a b = ((same a b).1, (same a b).0)

composed : (R Q : ℕ → ℕ → Type 0) → SamePairs R Q → (a b : ℕ) → Composite R R a b
    → Composite Q Q a b
composed R Q same a b (c, first, second) = (c, (same a c).0 first, (same c b).0 second)

ordered : (R Q : ℕ → ℕ → Type 0) → SamePairs R Q → IsStrictOrder R → IsStrictOrder Q
ordered R Q same h = (
  λ a q. h.0 a ((same a a).1 q),
  λ a b c. (same a b).0 (h.1 a b (composed Q R (turned R Q same) a b c)),
)

drawn : (R Q : ℕ → ℕ → Type 0) → SamePairs R Q → (a b : ℕ) → Drawn R a b → Drawn Q a b
drawn R Q same a b h = (
  (same a b).0 h.0,
  λ order between. h.1 (ordered Q R (turned R Q same) order)
      (composed Q R (turned R Q same) a b between),
)

-- between events that are the same
pub edges_same : (S T : ℕ → Type 0) (R Q : ℕ → ℕ → Type 0) → ((a : ℕ) → S a ↔ T a)
    → ((a b : ℕ) → R a b ↔ Q a b) → (edges : List (ℕ × ℕ)) → AreEdges (DrawnAmong S R) edges
    → AreEdges (DrawnAmong T Q) edges
edges_same S T R Q members pairs edges h = record {
  rising = h.rising;
  exact = λ p. (
    λ c. drawn (Restriction R S) (Restriction Q T) both p.0 p.1 ((h.exact p).0 c),
    λ d. (h.exact p).1
        (drawn (Restriction Q T) (Restriction R S) (turned (Restriction R S) (Restriction Q T) both)
        p.0 p.1 d),
  );
}
  where
    both : SamePairs (Restriction R S) (Restriction Q T)
    both a b = (
      λ h. ((pairs a b).0 h.0, (members a).0 h.1, (members b).0 h.2),
      λ h. ((pairs a b).1 h.0, (members a).1 h.1, (members b).1 h.2),
    )
