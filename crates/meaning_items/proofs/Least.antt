-- The least solution of a recursive group is the list of least values.
use Rattle.std.proofs.Common.{ℕ, zero, suc, ◌≡◌, ◌<◌, ◌↔◌, List, [], ◌∷◌, length, Contains, Bool, true, false, ◌&&◌, IsTrue, bytes_eq, Option, Some, None, refl, sym, ap, ◌∙◌, subst, arith}
use Rattle.std.specs.Prelude.{nat_eq, if◌then◌else◌, slice_get, slice_index}
use Rattle.std.specs.Int.{bit_at}
use Rattle.std.proofs.lemmas.Bool.Decides.{nat_tests}
use Rattle.std.proofs.lemmas.Slice.Eq.{bytes_eq-Decides}
use Rattle.text_values.specs.ModelValue.{Term}
use Rattle.bit_rows.specs.Relation.{Relation, Bit}
use Rattle.binding_graph.specs.declared.resolved.Source.{Source}
use Rattle.binding_graph.specs.Trees.{RelTree}
use Rattle.cat_machine.specs.Least.{IsLeast}
use Rattle.cat_machine.specs.Named.{PairsFound, OwnPairs}
use Rattle.meaning.specs.Sets as meant
use Rattle.meaning.specs.Names.{Name}
use Rattle.meaning.specs.Cat.{Names, meaning_of, HasPair, with_group, Choice, IsChosen, IsClosed, Least}
use Rattle.meaning_items.specs.Groups.{name_at, term_at, AreApart, HasBodies}

-- ---- a value as a test

abbrev is_found : Option Relation → ℕ → ℕ → ℕ → Bool
is_found None n a b = false
is_found (Some r) n a b = nat_eq r.count n && nat_eq (bit_at (slice_index r.rows a) b) 1

both_true : (a b : Bool) → IsTrue (a && b) → IsTrue a × IsTrue b
both_true true true h = (h, h)
both_true true false h = absurd (let f : false ≡ true = h in cc)
both_true false b h = absurd (let f : false ≡ true = h in cc)

and_true : (a b : Bool) → IsTrue a → IsTrue b → IsTrue (a && b)
and_true true b h g = g
and_true false b h g = absurd (let f : false ≡ true = h in cc)

number_is : (m n : ℕ) → IsTrue (nat_eq m n) → m ≡ n
number_is m n h = grind (arith, nat_tests, h)

is_number : (m n : ℕ) → m ≡ n → IsTrue (nat_eq m n)
is_number m n e = grind (arith, nat_tests, e)

found_so : (o : Option Relation) (n a b : ℕ) → IsTrue (is_found o n a b) → PairsFound o n a b
unfolding Bit
found_so None n a b h = absurd (let f : false ≡ true = h in cc)
found_so (Some r) n a b h =
    let both = both_true (nat_eq r.count n) (nat_eq (bit_at (slice_index r.rows a) b) 1) h in
    (number_is r.count n both.0, number_is (bit_at (slice_index r.rows a) b) 1 both.1)

so_found : (o : Option Relation) (n a b : ℕ) → PairsFound o n a b → IsTrue (is_found o n a b)
unfolding Bit
so_found None n a b h = absurd h
so_found (Some r) n a b h =
    and_true (nat_eq r.count n) (nat_eq (bit_at (slice_index r.rows a) b) 1)
    (is_number r.count n h.0) (is_number (bit_at (slice_index r.rows a) b) 1 h.1)

-- ---- names and their positions

abbrev position_of : List (Name × Term) → Name → ℕ
position_of [] x = 0
position_of (b ∷ bs) x = if bytes_eq b.0 x then 0 else suc (position_of bs x)

position_at : (bs : List (Name × Term)) → AreApart bs → (j : ℕ) → j < length bs
    → position_of bs (name_at bs j) ≡ j
position_at [] apart j lt = absurd (omega (arith, lt))
position_at (b ∷ bs) apart zero lt =
    at_test (bytes_eq b.0 b.0) ((bytes_eq-Decides b.0 b.0).1 refl)
  where
    at_test : (t : Bool) → t ≡ true → (if t then 0 else suc (position_of bs b.0)) ≡ 0
    at_test true e = refl
    at_test false e = absurd (let f : false ≡ true = e in cc)
position_at (b ∷ bs) apart (suc j) lt =
    at_test (bytes_eq b.0 (name_at bs j)) ((bytes_eq-Decides b.0 (name_at bs j)).0)
    (position_at bs apart.1 j (omega (arith, lt)))
  where
    at_test : (t : Bool) → (t ≡ true → b.0 ≡ name_at bs j) → position_of bs (name_at bs j) ≡ j
        → (if t then 0 else suc (position_of bs (name_at bs j))) ≡ suc j
    at_test true same e = absurd (apart.0 j (omega (arith, lt)) (same refl))
    at_test false same e = ap suc e

-- each binding stands at a position
binding_at : (bs : List (Name × Term)) (b : Name × Term) → Contains bs b
    → (j : ℕ) × (j < length bs) × (b.0 ≡ name_at bs j) × (b.1 ≡ term_at bs j)
binding_at [] b (k, lt, eq) = absurd (omega (arith, lt))
binding_at (d ∷ ds) b (zero, lt, eq) =
    (0, omega arith, ap (λ (c : Name × Term). c.0) (sym eq), ap (λ (c : Name × Term). c.1) (sym eq))
binding_at (d ∷ ds) b (suc k, lt, eq) =
    let rest = binding_at ds b (k, omega arith, eq) in
    (suc rest.0, let l = rest.1 in omega (arith, l), rest.2, rest.3)

contained : (bs : List (Name × Term)) (j : ℕ) → j < length bs
    → Contains bs (name_at bs j, term_at bs j)
contained [] j lt = absurd (omega (arith, lt))
contained (b ∷ bs) zero lt = (0, omega arith, refl)
contained (b ∷ bs) (suc j) lt =
    let rest = contained bs j (omega (arith, lt)) in
    (suc rest.0, (let l = rest.1 in omega (arith, l)), rest.2)

-- ---- the least solution

module _ (n : ℕ) (N : Names ℕ) (group : List (Name × Term)) (sets : Source → ℕ → Type 0)
    (outer : Source → ℕ → ℕ → Type 0) (trees : List RelTree)
    (has : HasBodies n N group sets outer trees) (apart : AreApart group)
    (long : length trees ≡ length group) (values : List Relation)
    (least : IsLeast n sets outer trees values) where
  -- the values as a choice
  chosen : Choice ℕ
  chosen x a b = is_found (slice_get values (position_of group x)) n a b

  chosen_own : (j : ℕ) → j < length group → (a b : ℕ)
      → IsChosen chosen (name_at group j) a b ↔ OwnPairs n values j a b
  unfolding chosen
  chosen_own j lt a b =
      let e = position_at group apart j lt in (
        λ h. found_so (slice_get values j) n a b
            (subst (λ (k : ℕ). IsTrue (is_found (slice_get values k) n a b)) e h),
        λ h. subst (λ (k : ℕ). IsTrue (is_found (slice_get values k) n a b)) (sym e)
            (so_found (slice_get values j) n a b h),
      )

  closed_at : (j : ℕ) → j < length group → (b : Name × Term) → b.0 ≡ name_at group j
      → b.1 ≡ term_at group j → (x y : ℕ)
      → HasPair (meaning_of (λ a. a < n) (with_group (IsChosen chosen) group N) b.1) x y
      → IsChosen chosen b.0 x y
  closed_at j lt b named term x y h =
      subst (λ (m : Name). IsChosen chosen m x y) (sym named)
      ((chosen_own j lt x y).1
      ((least.solves j (omega (arith, lt, long)) x y).1
      ((has (IsChosen chosen) (OwnPairs n values) (λ k below a b. chosen_own k below a b) j lt x y).0
      (subst
      (λ (t : Term). HasPair (meaning_of (λ a. a < n) (with_group (IsChosen chosen) group N) t) x y)
      term h))))

  chosen_closed : IsClosed (λ a. a < n) N group chosen
  chosen_closed b there x y h =
      let at = binding_at group b there in closed_at at.0 at.1 b at.2 at.3 x y h

  least_values : (j : ℕ) → j < length group → (a b : ℕ)
      → Least (λ a. a < n) N group (name_at group j) a b → OwnPairs n values j a b
  least_values j lt a b h = (chosen_own j lt a b).0 (h chosen chosen_closed)

  values_least : (j : ℕ) → j < length group → (a b : ℕ) → OwnPairs n values j a b
      → Least (λ a. a < n) N group (name_at group j) a b
  values_least j lt a b h choice closed =
      least.inside (λ y c d. choice (name_at group y) c d)
      (λ x below c d meant. closed (name_at group x, term_at group x)
      (contained group x (omega (arith, below, long))) c d
      ((has (IsChosen choice) (λ y c d. IsTrue (choice (name_at group y) c d))
      (λ k below a b. (λ p. p, λ p. p)) x (omega (arith, below, long)) c d).1 meant))
      j (omega (arith, lt, long)) a b h

  pub least_same : (j : ℕ) → j < length group → (a b : ℕ)
      → Least (λ a. a < n) N group (name_at group j) a b ↔ OwnPairs n values j a b
  least_same j lt a b = (least_values j lt a b, values_least j lt a b)
