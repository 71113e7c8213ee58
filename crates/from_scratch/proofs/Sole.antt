-- There is one first fault, and one list of least values.
use Rattle.std.proofs.Common.{ℕ, ◌≡◌, ◌<◌, ◌≤◌, ◌⊎◌, inl, inr, List, [], ◌∷◌, length, Bool, true, false, IsTrue, Option, Some, None, get_or, refl, sym, ap, ◌∙◌, subst, arith}
use Rattle.std.specs.Prelude.{◌&&◌, nat_eq, slice_get, slice_index}
use Rattle.std.specs.Int.{bit_at}
use Rattle.std.proofs.lemmas.Bool.Decides.{nat_tests}
use Rattle.text_values.specs.declared.test.Test.{Test}
use Rattle.bit_rows.specs.Relation.{Relation, Bit}
use Rattle.text_values.specs.declared.model.ModelText.{ModelText}
use Rattle.binding_kinds.specs.declared.fault.ModelFault.{ModelFault}
use Rattle.binding_kinds.specs.declared.fault.ModelFault.TheVariants as faults
use Rattle.binding_kinds.specs.Value.{Naming, BareItem}
use Rattle.binding_kinds.specs.Senses.{Sense}
use Rattle.binding_kinds.specs.Faults.{rank, FirstFault, HasNoFault}
use Rattle.binding_graph.specs.declared.resolved.Source.{Source}
use Rattle.binding_graph.specs.Trees.{RelTree}
use Rattle.cat_machine.specs.Least.{IsLeast, AreMonotone, body}
use Rattle.cat_machine.specs.Named.{PairsFound, OwnPairs}
use Rattle.cat_machine.proofs.Monotone.{monotone}
use Rattle.outcome_states.specs.declared.answer.OutcomeResult.{OutcomeResult}
use Rattle.outcome_states.specs.declared.answer.OutcomeResult.TheVariants.{Refused, Evaluated}
use Rattle.outcome_states.specs.declared.answer.Refusal.TheVariants as refusals
use Rattle.from_scratch.specs.FromScratch.{IsFaultOf, IsResultOf}
use Rattle.from_scratch.specs.Laws.{HasOneModelRefusal}

-- ---- the first fault

by_rank : List ModelFault
by_rank =
    faults.Unbound ∷ faults.Duplicate ∷ faults.Arity ∷ faults.TooLarge ∷ faults.NotMonotone
    ∷ faults.Kind ∷ faults.SetInRec ∷ []

at_rank : (k : ModelFault) → get_or by_rank (rank k) faults.Unbound ≡ k
unfolding by_rank
at_rank faults.Unbound = refl
at_rank faults.Duplicate = refl
at_rank faults.Arity = refl
at_rank faults.TooLarge = refl
at_rank faults.NotMonotone = refl
at_rank faults.Kind = refl
at_rank faults.SetInRec = refl

one_rank : (k l : ModelFault) → rank k ≡ rank l → k ≡ l
one_rank k l e = sym (at_rank k) ∙ (ap (λ (n : ℕ). get_or by_rank n faults.Unbound) e ∙ at_rank l)

both_first : (i j p q m n : ℕ) → (i < j) ⊎ ((i ≡ j) × ((p < q) ⊎ ((p ≡ q) × (m ≤ n))))
    → (j < i) ⊎ ((j ≡ i) × ((q < p) ⊎ ((q ≡ p) × (n ≤ m)))) → m ≡ n
both_first i j p q m n (inl x) (inl y) = absurd (omega (arith, x, y))
both_first i j p q m n (inl x) (inr y) = absurd (omega (arith, x, y.0))
both_first i j p q m n (inr x) (inl y) = absurd (omega (arith, x.0, y))
both_first i j p q m n (inr x) (inr y) = at_index x.1 y.1
  where
    at_index : (p < q) ⊎ ((p ≡ q) × (m ≤ n)) → (q < p) ⊎ ((q ≡ p) × (n ≤ m)) → m ≡ n
    at_index (inl u) (inl v) = absurd (omega (arith, u, v))
    at_index (inl u) (inr v) = absurd (omega (arith, u, v.0))
    at_index (inr u) (inl v) = absurd (omega (arith, u.0, v))
    at_index (inr u) (inr v) = omega (arith, u.1, v.1)

pub one_fault : (ss : List Sense) (names : List Naming) (from : ℕ) (items : List BareItem)
    (k l : ModelFault) → FirstFault ss names from items k → FirstFault ss names from items l
    → k ≡ l
one_fault ss names from items k l f g =
    one_rank k l (both_first f.item g.item f.index g.index (rank k) (rank l)
    (f.none_before g.item g.index l g.there) (g.none_before f.item f.index k f.there))

pub fault_or_none : (ss : List Sense) (names : List Naming) (from : ℕ) (items : List BareItem)
    (k : ModelFault) → FirstFault ss names from items k → HasNoFault ss names from items → ⊥
fault_or_none ss names from items k f none = none f.item f.index k f.there

-- ---- the outcome of a model with a fault

same_refusal : (test : Test) (model : ModelText) (k : ModelFault) (r : OutcomeResult)
    → IsFaultOf model k → IsResultOf test model r → r ≡ Refused (refusals.Model k)
same_refusal test model k (Refused (refusals.Model l)) f h =
    ap (λ (q : ModelFault). Refused (refusals.Model q)) (one_fault _ _ _ _ l k h f)
same_refusal test model k (Refused (refusals.Space x)) f h = absurd (fault_or_none _ _ _ _ k f h.0)
same_refusal test model k (Evaluated e) f h = absurd (fault_or_none _ _ _ _ k f h.0)

pub one_refusal : (test : Test) (model : ModelText) → HasOneModelRefusal test model
one_refusal test model o p k h g is =
    let f : IsFaultOf model k = subst (λ (r : OutcomeResult). IsResultOf test model r) is h.result in (
      g.kind ∙ sym h.kind,
      g.condition ∙ sym h.condition,
      same_refusal test model k p.result f g.result ∙ sym is,
    )

-- ---- least values

abbrev is_found : Option Relation → ℕ → ℕ → ℕ → Bool
is_found None n a b = false
is_found (Some r) n a b = nat_eq r.count n && nat_eq (bit_at (slice_index r.rows a) b) 1

both_true : (a b : Bool) → IsTrue (a && b) → IsTrue a × IsTrue b
both_true true true h = (h, h)
both_true true false h = absurd (let f : false ≡ true = h in cc)
both_true false b h = absurd (let f : false ≡ true = h in cc)

and_true : (a b : Bool) → IsTrue a → IsTrue b → IsTrue (a && b)
and_true true b h g = g
and_true false b h g = absurd (let f : false ≡ true = h in cc)

number_is : (m n : ℕ) → IsTrue (nat_eq m n) → m ≡ n
number_is m n h = grind (arith, nat_tests, h)

is_number : (m n : ℕ) → m ≡ n → IsTrue (nat_eq m n)
is_number m n e = grind (arith, nat_tests, e)

found_so : (o : Option Relation) (n a b : ℕ) → IsTrue (is_found o n a b) → PairsFound o n a b
unfolding Bit
found_so None n a b h = absurd (let f : false ≡ true = h in cc)
found_so (Some r) n a b h =
    let both = both_true (nat_eq r.count n) (nat_eq (bit_at (slice_index r.rows a) b) 1) h in
    (number_is r.count n both.0, number_is (bit_at (slice_index r.rows a) b) 1 both.1)

so_found : (o : Option Relation) (n a b : ℕ) → PairsFound o n a b → IsTrue (is_found o n a b)
unfolding Bit
so_found None n a b h = absurd h
so_found (Some r) n a b h =
    and_true (nat_eq r.count n) (nat_eq (bit_at (slice_index r.rows a) b) 1)
    (is_number r.count n h.0) (is_number (bit_at (slice_index r.rows a) b) 1 h.1)

pub one_least : (n : ℕ) (sets : Source → ℕ → Type 0) (outer : Source → ℕ → ℕ → Type 0)
    (trees : List RelTree) (values others : List Relation) → AreMonotone trees
    → IsLeast n sets outer trees values → IsLeast n sets outer trees others → (x : ℕ)
    → x < length trees → (a b : ℕ) → OwnPairs n values x a b → OwnPairs n others x a b
one_least n sets outer trees values others rises h g x lt a b pair =
    let test : ℕ → ℕ → ℕ → Bool = λ y c d. is_found (slice_get others y) n c d in
    found_so (slice_get others x) n a b (h.inside test (λ y y_lt c d meant. so_found
    (slice_get others y) n c d ((g.solves y y_lt c d).1
    (monotone n sets outer (λ z i j. IsTrue (test z i j)) (OwnPairs n others)
    (λ z i j t. found_so (slice_get others z) n i j t) (body trees y) (rises y y_lt) c d
    meant))) x lt a b pair)
