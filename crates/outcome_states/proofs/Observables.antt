-- Laws of the observables of names, and of lists of observables.
use Rattle.std.proofs.Common.{ℕ, Bool, true, false, ◌||◌, cond, Some, None, ◌≡◌, ◌+◌, ◌<◌, ◌≤◌, take, List, [], ◌∷◌, ◌++◌, length, get_or, nat_lt, refl, sym, ap, subst, ◌∙◌, arith, position}
use Rattle.std.specs.List.{position_or_len}
use Rattle.std.proofs.lemmas.List.Sums.{position_or_len_is}
use Rattle.std.proofs.lemmas.Bool.Decides.{Decides-ltb, nat_tests}
use Rattle.std.proofs.lemmas.Cmp.{eq_by_cmp_equiv}
use Rattle.std.specs.List.{list_any}
use Rattle.std.specs.Ordering.{is_eq}
use Rattle.std.specs.declared.cmp.Ordering.{Ordering}
use Rattle.std.specs.List.Sorted.{IsStrictlySortedBy}
use Rattle.std.proofs.lemmas.List.{take_more, take_all, append_assoc}
use Rattle.std.proofs.lemmas.List.Folds.{list_any-append}
use Rattle.std.proofs.lemmas.List.Elements.{filter_map-append}
use Rattle.text_values.specs.declared.test.Place.{Place}
use Rattle.outcome_states.specs.Order.{is_observable}
use Rattle.outcome_states.specs.Shown.{is_among, AddsObservables, known_observables, AreShown}
use Rattle.outcome_states.specs.declared.observable.Observable.{Observable}
use Rattle.outcome_states.proofs.Orders.{observable_orders, observable_total}
use Rattle.outcome_states.specs.contracts.observable.ObservableOrd.TheImpl as observable_ord
use Rattle.outcome_states.specs.Meaning.{known_observable}
use Rattle.std.proofs.Math.Bool.{or_assoc}

pub first_found : {X : Type 0} (p : X → Bool) (xs : List X) (i : ℕ) (d : X) → i < length xs
    → ((k : ℕ) → k < i → p (get_or xs k d) ≡ false) → p (get_or xs i d) ≡ true
    → position p xs ≡ Some i
first_found p xs i d lt before here =
    let e : position_or_len p xs ≡ i = position_or_len_is p xs i d (omega arith) before (λ _. here) in
    ap (λ (k : ℕ). cond (nat_lt k (length xs)) (Some k) None) e
    ∙ ap (λ (b : Bool). cond b (Some i) None) ((Decides-ltb i (length xs)).1 lt)

pub none_found : {X : Type 0} (p : X → Bool) (xs : List X) (d : X)
    → ((k : ℕ) → k < length xs → p (get_or xs k d) ≡ false) → position p xs ≡ None
none_found p xs d before =
    let e : position_or_len p xs ≡ length xs = position_or_len_is p xs (length xs) d (omega arith) before (λ lt. absurd (omega arith)) in
    let f : nat_lt (length xs) (length xs) ≡ false = grind (arith, nat_tests) in
    ap (λ (k : ℕ). cond (nat_lt k (length xs)) (Some k) None) e
    ∙ ap (λ (b : Bool). cond b (Some (length xs)) None) f

either_way : (there here : Bool) → cond here true there ≡ (there || (here || false))
either_way true true = refl
either_way true false = refl
either_way false true = refl
either_way false false = refl

-- a set with one observable more
pub one_added : (old new : List Observable) (k : Observable)
    → ((q : Observable)
    → list_any (λ x. is_eq ((observable_ord.ghosts).cmp q x)) new
    ≡ cond (is_eq ((observable_ord.ghosts).cmp k q)) true
    (list_any (λ x. is_eq ((observable_ord.ghosts).cmp q x)) old))
    → AddsObservables old new (k ∷ [])
one_added old new k h p =
    subst
    (λ (R : Observable → Observable → Ordering). (q : Observable)
    → list_any (λ x. is_eq (R q x)) new
    ≡ cond (is_eq (R k q)) true (list_any (λ x. is_eq (R q x)) old)) observable_orders h p
    ∙ ap (λ (b : Bool). cond b true (is_among old p)) ((eq_by_cmp_equiv observable_total).symm k p)
    ∙ either_way (is_among old p) (is_observable p k)

pub added_twice : (ls : List (List ℕ)) (old mid new : List Observable) (ps qs : List Place)
    → AddsObservables old mid (known_observables ls ps) → AddsObservables mid new (known_observables ls qs)
    → AddsObservables old new (known_observables ls (ps ++ qs))
added_twice ls old mid new ps qs h k p =
    k p ∙ ap (λ (b : Bool). b || is_among (known_observables ls qs) p) (h p)
    ∙ or_assoc (is_among old p) (is_among (known_observables ls ps) p)
    (is_among (known_observables ls qs) p)
    ∙ ap (λ (b : Bool). is_among old p || b) (sym (list_any-append (is_observable p) (known_observables ls ps)
    (known_observables ls qs)))
    ∙ ap (λ (l : List Observable). is_among old p || is_among l p)
    (sym (filter_map-append (known_observable ls) ps qs))

pub one_observable_more : (ls : List (List ℕ)) (mid new : List Observable) (prefix observed : List Place)
    (i : ℕ) (d : Place) → i < length observed
    → AddsObservables [] mid (known_observables ls (prefix ++ take i observed))
    → AddsObservables mid new (known_observables ls (get_or observed i d ∷ []))
    → AddsObservables [] new (known_observables ls (prefix ++ take (i + 1) observed))
one_observable_more ls mid new prefix observed i d lt h k =
    subst (λ (l : List Place). AddsObservables [] new (known_observables ls l)) (append_assoc prefix
    (take i observed) (get_or observed i d ∷ [])
    ∙ ap (λ (l : List Place). prefix ++ l) (sym (take_more observed i d lt)))
    (added_twice ls [] mid new (prefix ++ take i observed) (get_or observed i d ∷ []) h k)

-- the observables of a set that has just these, in its order
pub all_shown : (ls : List (List ℕ)) (prefix observed : List Place) (i : ℕ)
    (keys shown : List Observable) → length observed ≤ i → shown ≡ keys
    → IsStrictlySortedBy ((observable_ord.ghosts).cmp) keys
    → AddsObservables [] keys (known_observables ls (prefix ++ take i observed))
    → AreShown ls (prefix ++ observed) shown
all_shown ls prefix observed i keys shown past same sorted h =
    subst (λ (l : List Observable). AreShown ls (prefix ++ observed) l) (sym same) (record {
      ordered =
          subst (λ (R : Observable → Observable → Ordering). IsStrictlySortedBy R keys) observable_orders
          sorted;
      exact =
          λ p. h p
          ∙ ap (λ (l : List Place). is_among (known_observables ls (prefix ++ l)) p)
          (take_all i observed past);
    })
