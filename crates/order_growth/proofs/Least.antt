-- Least values of equations whose bodies give no less lie inside one another.
use Rattle.std.proofs.Common.{ℕ, ◌≡◌, ◌<◌, List, length, Bool, true, false, IsTrue, Option, Some, None, arith}
use Rattle.std.specs.Prelude.{◌&&◌, nat_eq, slice_get, slice_index}
use Rattle.std.specs.Int.{bit_at}
use Rattle.std.proofs.lemmas.Bool.Decides.{nat_tests}
use Rattle.bit_rows.specs.Relation.{Relation, Bit}
use Rattle.binding_graph.specs.declared.resolved.Source.{Source}
use Rattle.binding_graph.specs.Trees.{RelTree}
use Rattle.cat_machine.specs.Least.{IsLeast, body}
use Rattle.cat_machine.specs.Meaning.{MeansRelation}
use Rattle.cat_machine.specs.Named.{PairsFound, OwnPairs, WithOwn}
use Rattle.cat_machine.proofs.Same.{Same}
use Rattle.order_growth.proofs.Trees.{Subset}

-- the pairs of a value, as a test
abbrev is_found : Option Relation → ℕ → ℕ → ℕ → Bool
is_found None n a b = false
is_found (Some r) n a b = nat_eq r.count n && nat_eq (bit_at (slice_index r.rows a) b) 1

both_true : (a b : Bool) → IsTrue (a && b) → IsTrue a × IsTrue b
both_true true true h = (h, h)
both_true true false h = absurd (let f : false ≡ true = h in cc)
both_true false b h = absurd (let f : false ≡ true = h in cc)

and_true : (a b : Bool) → IsTrue a → IsTrue b → IsTrue (a && b)
and_true true b h g = g
and_true false b h g = absurd (let f : false ≡ true = h in cc)

number_is : (m n : ℕ) → IsTrue (nat_eq m n) → m ≡ n
number_is m n h = grind (arith, nat_tests, h)

is_number : (m n : ℕ) → m ≡ n → IsTrue (nat_eq m n)
is_number m n e = grind (arith, nat_tests, e)

found_same : (o : Option Relation) (n : ℕ) → Same (λ a b. IsTrue (is_found o n a b)) (PairsFound o n)
unfolding Bit
found_same None n a b = ((λ h. absurd (let f : false ≡ true = h in cc)), (λ h. absurd h))
found_same (Some r) n a b = (
  (λ h.
      let both = both_true (nat_eq r.count n) (nat_eq (bit_at (slice_index r.rows a) b) 1) h in
      (number_is r.count n both.0, number_is (bit_at (slice_index r.rows a) b) 1 both.1)),
  (λ h. and_true (nat_eq r.count n) (nat_eq (bit_at (slice_index r.rows a) b) 1)
      (is_number r.count n h.0) (is_number (bit_at (slice_index r.rows a) b) 1 h.1)),
)

-- the pairs of the values, as tests
abbrev pub tests_of : ℕ → List Relation → ℕ → ℕ → ℕ → Bool
tests_of n values y a b = is_found (slice_get values y) n a b

pub tests_same : (n : ℕ) (values : List Relation) (y : ℕ)
    → Same (λ a b. IsTrue (tests_of n values y a b)) (OwnPairs n values y)
tests_same n values y = found_same (slice_get values y) n

-- what a body gives of the later values, the later body gives too
pub least_inside : (n : ℕ) (sets others : Source → ℕ → Type 0) (outer further : Source → ℕ → ℕ → Type 0)
    (trees : List RelTree) (values after : List Relation) → IsLeast n sets outer trees values
    → IsLeast n others further trees after
    → ((x : ℕ) → x < length trees
    → Subset (MeansRelation n sets (WithOwn outer (λ y a b. IsTrue (tests_of n after y a b))) (body trees x))
    (MeansRelation n others (WithOwn further (OwnPairs n after)) (body trees x)))
    → (x : ℕ) → x < length trees → Subset (OwnPairs n values x) (OwnPairs n after x)
least_inside n sets others outer further trees values after h g wider x lt a b pair =
    (tests_same n after x a b).0 (h.inside (tests_of n after)
    (λ y y_lt c d meant. (tests_same n after y c d).1 ((g.solves y y_lt c d).1 (wider y y_lt c d meant)))
    x lt a b pair)
