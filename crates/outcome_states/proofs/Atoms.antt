-- What an observable and a value of a proposition say of a state.
use Rattle.std.proofs.Common.{ℕ, Bool, true, false, ◌||◌, cond, Option, Some, None, ◌≡◌, List, [], ◌∷◌, ◌++◌, map, length, get_or, sym, ap, ◌∙◌, ⊎_elim, arith}
use Rattle.std.specs.List.{list_any, position, position_or_len, slice_get, cons_option}
use Rattle.std.specs.Option.{option_map}
use Rattle.std.proofs.lemmas.Bool.{false≢true, cases_lt, or_left, or_right}
use Rattle.std.proofs.lemmas.Bool.Decides.{Decides-ltb}
use Rattle.std.proofs.lemmas.List.Sums.{fails_before_first}
use Rattle.std.proofs.lemmas.List.Folds.{Any-from_list_any}
use Rattle.std.proofs.lemmas.List.Quantifiers.{position-Some}
use Rattle.std.proofs.lemmas.Option.{slice_get-map, slice_get-get_or}
use Rattle.text_values.specs.declared.test.Place.{Place}
use Rattle.text_values.specs.declared.test.Value as text
use Rattle.std.proofs.lemmas.List.Folds.{list_any-append}
use Rattle.std.proofs.lemmas.List.Elements.{filter_map-append}
use Rattle.text_values.specs.declared.test.Connective.{Connective}
use Rattle.text_values.specs.TestValue.{Formula, Join}
use Rattle.outcome_states.specs.declared.formula.Formula as code
use Rattle.outcome_states.specs.Compiled.{holds_final_value, value_of, Shows, Compiles}
use Rattle.outcome_states.specs.Meaning.{known_observable, known_value, is_held, joined_by, satisfies, observables_of}
use Rattle.outcome_states.specs.Order.{is_observable}
use Rattle.outcome_states.specs.Shown.{is_among, known_observables}
use Rattle.outcome_states.specs.declared.answer.FinalValue.{FinalValue}
use Rattle.outcome_states.specs.declared.observable.Observable.{Observable}
use Rattle.outcome_states.proofs.Orders.{is_observable_same, is_observable_itself}

-- a list that has an observable has a first one
not_missing : (p : Observable → Bool) (xs : List Observable) → position p xs ≡ None
    → list_any p xs ≡ true → ⊥
not_missing p xs none some =
    let a = Any-from_list_any p xs some in
    ⊎_elim
    (λ lt.
    let e : Some (position_or_len p xs) ≡ None =
    ap (λ (b : Bool). cond b (Some (position_or_len p xs)) None)
    (sym ((Decides-ltb (position_or_len p xs) (length xs)).1 lt)) ∙ none in
    cc)
    (λ past. false≢true (sym (fails_before_first p xs a.0 a.1 (omega (arith, a.2))) ∙ ap p a.3
    ∙ a.4))
    (cases_lt (position_or_len p xs) (length xs))

-- an observable that is shown holds what the state has there
pub atom_found : (ls : List (List ℕ)) (observables : List Observable) (observable : Place)
    (value : text.Value) (p : Observable) (v : FinalValue) (n : ℕ)
    → known_observable ls observable ≡ Some p → known_value ls value ≡ Some v
    → position (is_observable p) observables ≡ Some n → (content : Observable → FinalValue)
    → holds_final_value (slice_get (map content observables) n) v
    ≡ is_held content (known_observable ls observable) (known_value ls value)
atom_found ls observables observable value p v n known meant at content =
    let found = position-Some (is_observable p) observables n p at in
    let same : p ≡ get_or observables n p = is_observable_same p (get_or observables n p) found.1 in
    ap (λ (o : Option FinalValue). holds_final_value o v) (slice_get-map content observables n
    ∙ ap (option_map content) (slice_get-get_or observables n p found.0
    ∙ ap (λ (q : Observable). Some q) (sym same)))
    ∙ ap (λ (o : Option Observable). is_held content o (Some v)) (sym known)
    ∙ ap (is_held content (known_observable ls observable)) (sym meant)

-- a known observable of the proposition is shown
pub atom_missing : (ls : List (List ℕ)) (observables : List Observable) (observable : Place) (p : Observable)
    → known_observable ls observable ≡ Some p → position (is_observable p) observables ≡ None
    → Shows ls observables (observable ∷ []) → ⊥
atom_missing ls observables observable p known none shows =
    not_missing (is_observable p) observables none
    (shows p (ap (λ (o : Option Observable). is_among (cons_option o []) p) known
    ∙ ap (λ (b : Bool). b || false) (is_observable_itself p)))

pub known_of_both : (ls : List (List ℕ)) (ps qs : List Place) (p : Observable)
    → is_among (known_observables ls (ps ++ qs)) p
    ≡ (is_among (known_observables ls ps) p || is_among (known_observables ls qs) p)
known_of_both ls ps qs p =
    ap (λ (l : List Observable). is_among l p) (filter_map-append (known_observable ls) ps qs)
    ∙ list_any-append (is_observable p) (known_observables ls ps) (known_observables ls qs)

-- two propositions joined
pub both_meant : (ls : List (List ℕ)) (shown : List Observable) (op : Connective)
    (a b whole : Formula) (f g : code.Formula) → whole ≡ Join op a b → Compiles ls shown a f
    → Compiles ls shown b g → Shows ls shown (observables_of whole) → (content : Observable → FinalValue)
    → joined_by op (value_of (map content shown) f) (value_of (map content shown) g)
    ≡ satisfies ls content whole
both_meant ls shown op a b whole f g is left right shows content =
    ap (λ (x : Bool). joined_by op x (value_of (map content shown) g)) (left
    (λ p h. all p (or_left (is_among (known_observables ls (observables_of a)) p)
    (is_among (known_observables ls (observables_of b)) p) h)) content)
    ∙ ap (joined_by op (satisfies ls content a)) (right
    (λ p h. all p (or_right (is_among (known_observables ls (observables_of a)) p)
    (is_among (known_observables ls (observables_of b)) p) h)) content)
    ∙ ap (satisfies ls content) (sym is)
  where
    all : (p : Observable)
        → (is_among (known_observables ls (observables_of a)) p || is_among (known_observables ls (observables_of b)) p)
        ≡ true → is_among shown p ≡ true
    all p h =
        shows p (ap (λ (x : Formula). is_among (known_observables ls (observables_of x)) p) is
        ∙ known_of_both ls (observables_of a) (observables_of b) p ∙ h)
