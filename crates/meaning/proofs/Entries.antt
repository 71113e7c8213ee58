-- The order of the entries of an init block makes no difference.
use Rattle.std.proofs.Common.{◌≡◌, ◌⊎◌, inl, inr, zero, suc, Bool, true, false, ◌&&◌, IsTrue, List, [], ◌∷◌, ◌++◌, flat_map, get_or, AllPairs, Contains, if◌then◌else◌, bytes_eq, nat_eq, refl, sym, ap, ap₂, subst, ◌∙◌, arith, true≢false, eqb-true, eq-eqb}
use Rattle.std.proofs.lemmas.List.Elements.{Contains-get_or, Contains-append_left, Contains-append_right, Contains-append_cases}
use Rattle.std.proofs.lemmas.List.Concat.{flat_map-cons}
use Rattle.std.proofs.lemmas.Slice.Eq.{bytes_eq-Decides}
use Rattle.text_values.specs.declared.test.Place.{Place}
use Rattle.text_values.specs.declared.test.Place.TheVariants.{Location, Register}
use Rattle.text_values.specs.declared.test.InitEntry.{InitEntry}
use Rattle.text_values.specs.TestValue.{Content}
use Rattle.meaning.specs.Names.{Name, is_name_before, is_same_observable, in_order, locations_of_entry, locations_of_formula, locations_of_observable, locations}
use Rattle.meaning.specs.Machine.{Value, Number, value_of}
use Rattle.meaning.specs.Runs.{value_given}
use Rattle.meaning.specs.Laws.{with_entries, IsStartAlike}
use Rattle.meaning.proofs.Counting.{here, behind, head_or_tail, rising_are_one}
use Rattle.meaning.proofs.Orders.{Rise, put, members, order_rises, name_asymmetric}

-- ---- Names in order

-- a name that is put stands there, and those before it do
put_if : (n m : Name) (ms : List Name) (same before : Bool) → bytes_eq n m ≡ same → (x : Name)
    → ((n ≡ x) ⊎ Contains ms x → Contains (put n ms) x) → (n ≡ x) ⊎ Contains (m ∷ ms) x
    → Contains (if same then m ∷ ms else if before then n ∷ m ∷ ms else m ∷ put n ms) x
put_if n m ms true before is x rest (inl eq) =
    subst (λ w. Contains (m ∷ ms) w) (sym ((bytes_eq-Decides n m).0 is) ∙ eq) (here m ms)
put_if n m ms true before is x rest (inr there) = there
put_if n m ms false true is x rest (inl eq) =
    subst (λ w. Contains (n ∷ m ∷ ms) w) eq (here n (m ∷ ms))
put_if n m ms false true is x rest (inr there) = behind n (m ∷ ms) x there
put_if n m ms false false is x rest (inl eq) = behind m (put n ms) x (rest (inl eq))
put_if n m ms false false is x rest (inr there) = kept (head_or_tail m ms x there)
  where
    kept : (m ≡ x) ⊎ Contains ms x → Contains (m ∷ put n ms) x
    kept (inl eq) = subst (λ w. Contains (m ∷ put n ms) w) eq (here m (put n ms))
    kept (inr also) = behind m (put n ms) x (rest (inr also))

stands : (n : Name) (ms : List Name) (x : Name) → (n ≡ x) ⊎ Contains ms x → Contains (put n ms) x
stands n [] x (inl eq) = (0, omega arith, eq)
stands n [] x (inr there) = absurd (let lt : _ = there.1 in omega arith)
stands n (m ∷ ms) x h =
    put_if n m ms (bytes_eq n m) (is_name_before n m) refl x (stands n ms x) h

abbrev pub names_in_order : List Name → List Name
names_in_order = in_order bytes_eq is_name_before

in_either : (n : Name) (ns : List Name) (x : Name)
    → (Contains ns x → Contains (names_in_order ns) x)
    → (n ≡ x) ⊎ Contains ns x → Contains (names_in_order (n ∷ ns)) x
in_either n ns x rest (inl eq) = stands n (names_in_order ns) x (inl eq)
in_either n ns x rest (inr there) = stands n (names_in_order ns) x (inr (rest there))

pub in_order_too : (ns : List Name) (x : Name) → Contains ns x → Contains (names_in_order ns) x
in_order_too [] x h = h
in_order_too (n ∷ ns) x h = in_either n ns x (in_order_too ns x) (head_or_tail n ns x h)

from_either : (n : Name) (ns : List Name) (x : Name)
    → (Contains (names_in_order ns) x → Contains ns x)
    → (n ≡ x) ⊎ Contains (names_in_order ns) x → Contains (n ∷ ns) x
from_either n ns x rest (inl eq) = (0, omega arith, eq)
from_either n ns x rest (inr there) = behind n ns x (rest there)

pub in_list_too : (ns : List Name) (x : Name) → Contains (names_in_order ns) x → Contains ns x
in_list_too [] x h = h
in_list_too (n ∷ ns) x h =
    from_either n ns x (in_list_too ns x) (members n (names_in_order ns) x h)

abbrev pub IsBefore : Name → Name → Type 0
IsBefore a b = IsTrue (is_name_before a b)

pub pairs : (ns : List Name) → Rise ns → AllPairs IsBefore ns
pairs [] rise i j d before lt = absurd (omega arith)
pairs (n ∷ ns) rise zero zero d before lt = absurd (omega arith)
pairs (n ∷ ns) rise zero (suc j) d before lt =
    rise.0 (get_or ns j d) (Contains-get_or ns j d (omega arith))
pairs (n ∷ ns) rise (suc i) zero d before lt = absurd (omega arith)
pairs (n ∷ ns) rise (suc i) (suc j) d before lt =
    pairs ns rise.1 i j d (omega arith) (omega arith)

-- the names in order depend on which names there are alone
same_names : (ns ms : List Name) → ((n : Name) → Contains ns n → Contains ms n)
    → ((n : Name) → Contains ms n → Contains ns n) → names_in_order ns ≡ names_in_order ms
same_names ns ms to from =
    rising_are_one IsBefore name_asymmetric (names_in_order ns) (names_in_order ms)
    (pairs (names_in_order ns) (order_rises ns)) (pairs (names_in_order ms) (order_rises ms))
    (λ n h. in_order_too ms n (to n (in_list_too ns n h)))
    (λ n h. in_order_too ns n (from n (in_list_too ms n h)))

-- ---- Locations

abbrev names_of : List InitEntry → List Name
names_of = flat_map locations_of_entry

first_or_later : (e : InitEntry) (es : List InitEntry) (n : Name) → Contains (names_of (e ∷ es)) n
    → Contains (locations_of_entry e) n ⊎ Contains (names_of es) n
first_or_later e es n h =
    Contains-append_cases (locations_of_entry e) (names_of es) n
    (subst (λ (l : List Name). Contains l n) (flat_map-cons locations_of_entry e es) h)

of_first : (e : InitEntry) (es : List InitEntry) (n : Name) → Contains (locations_of_entry e) n
    → Contains (names_of (e ∷ es)) n
of_first e es n h =
    subst (λ (l : List Name). Contains l n) (sym (flat_map-cons locations_of_entry e es))
    (Contains-append_left (locations_of_entry e) (names_of es) n h)

of_later : (e : InitEntry) (es : List InitEntry) (n : Name) → Contains (names_of es) n
    → Contains (names_of (e ∷ es)) n
of_later e es n h =
    subst (λ (l : List Name). Contains l n) (sym (flat_map-cons locations_of_entry e es))
    (Contains-append_right (locations_of_entry e) (names_of es) n h)

swapped_two : (e f : InitEntry) (es : List InitEntry) (n : Name)
    → Contains (names_of (e ∷ f ∷ es)) n → Contains (names_of (f ∷ e ∷ es)) n
swapped_two e f es n h = by_first (first_or_later e (f ∷ es) n h)
  where
    by_second : Contains (locations_of_entry f) n ⊎ Contains (names_of es) n
        → Contains (names_of (f ∷ e ∷ es)) n
    by_second (inl there) = of_first f (e ∷ es) n there
    by_second (inr there) = of_later f (e ∷ es) n (of_later e es n there)

    by_first : Contains (locations_of_entry e) n ⊎ Contains (names_of (f ∷ es)) n
        → Contains (names_of (f ∷ e ∷ es)) n
    by_first (inl there) = of_later f (e ∷ es) n (of_first e es n there)
    by_first (inr there) = by_second (first_or_later f es n there)

kept_first : (d : InitEntry) (es fs : List InitEntry) (n : Name)
    → (Contains (names_of es) n → Contains (names_of fs) n)
    → Contains (locations_of_entry d) n ⊎ Contains (names_of es) n
    → Contains (names_of (d ∷ fs)) n
kept_first d es fs n rest (inl there) = of_first d fs n there
kept_first d es fs n rest (inr there) = of_later d fs n (rest there)

swapped : (before behind : List InitEntry) (e f : InitEntry) (n : Name)
    → Contains (names_of (before ++ e ∷ f ∷ behind)) n
    → Contains (names_of (before ++ f ∷ e ∷ behind)) n
swapped [] behind e f n h = swapped_two e f behind n h
swapped (d ∷ before) behind e f n h =
    kept_first d (before ++ e ∷ f ∷ behind) (before ++ f ∷ e ∷ behind) n
    (swapped before behind e f n) (first_or_later d (before ++ e ∷ f ∷ behind) n h)

in_all : (xs ys rest : List Name) (n : Name) → (Contains xs n → Contains ys n)
    → Contains (xs ++ rest) n → Contains (ys ++ rest) n
in_all xs ys rest n to h = by_cases (Contains-append_cases xs rest n h)
  where
    by_cases : Contains xs n ⊎ Contains rest n → Contains (ys ++ rest) n
    by_cases (inl there) = Contains-append_left ys rest n (to there)
    by_cases (inr there) = Contains-append_right ys rest n there

same_locations : (t : Content) (es fs : List InitEntry)
    → ((n : Name) → Contains (names_of es) n → Contains (names_of fs) n)
    → ((n : Name) → Contains (names_of fs) n → Contains (names_of es) n)
    → locations (with_entries t es) ≡ locations (with_entries t fs)
same_locations t es fs to from =
    let condition : List Name = locations_of_formula t.condition in
    let observed : List Name = flat_map locations_of_observable t.observed in
    same_names (names_of es ++ condition ++ observed) (names_of fs ++ condition ++ observed)
    (λ n. in_all (names_of es ++ condition) (names_of fs ++ condition) observed n
    (in_all (names_of es) (names_of fs) condition n (to n)))
    (λ n. in_all (names_of fs ++ condition) (names_of es ++ condition) observed n
    (in_all (names_of fs) (names_of es) condition n (from n)))

-- ---- Values

both : (a b : Bool) → (a && b) ≡ true → (a ≡ true) × (b ≡ true)
both true b h = (refl, h)
both false b h = absurd (true≢false (sym h))

pub same_is : (p q : Place) → is_same_observable p q ≡ true → p ≡ q
same_is (Location a) (Location b) h = ap Location ((bytes_eq-Decides a b).0 h)
same_is (Register t r) (Register u q) h =
    let parts : _ = both (nat_eq t u) (nat_eq r q) h in
    ap₂ Register (eqb-true t u parts.0) (eqb-true r q parts.1)
same_is (Location a) (Register u q) h = absurd (true≢false (sym h))
same_is (Register t r) (Location b) h = absurd (true≢false (sym h))

pub itself : (p : Place) → is_same_observable p p ≡ true
itself (Location a) = (bytes_eq-Decides a a).1 refl
itself (Register t r) =
    ap₂ (λ a b. a && b) (eq-eqb t t refl) (eq-eqb r r refl)

not_both : (e f : InitEntry) (p : Place) → is_same_observable e.place f.place ≡ false
    → is_same_observable e.place p ≡ true → is_same_observable f.place p ≡ true → ⊥
not_both e f p other first second =
    let same : e.place ≡ f.place = same_is e.place p first ∙ sym (same_is f.place p second) in
    true≢false
    (sym (itself e.place) ∙ ap (λ q. is_same_observable e.place q) same ∙ other)

either_way : (a b : Bool) (u v w : Value) → (a ≡ true → b ≡ true → ⊥)
    → (if b then v else if a then u else w) ≡ (if a then u else if b then v else w)
either_way true true u v w other = absurd (other refl refl)
either_way true false u v w other = refl
either_way false true u v w other = refl
either_way false false u v w other = refl

same_value : (before behind : List InitEntry) (e f : InitEntry) (v : Value) (p : Place)
    → is_same_observable e.place f.place ≡ false
    → value_given (before ++ e ∷ f ∷ behind) v p ≡ value_given (before ++ f ∷ e ∷ behind) v p
same_value [] behind e f v p other =
    ap (λ w. value_given behind w p)
    (either_way (is_same_observable e.place p) (is_same_observable f.place p) (value_of e.value)
    (value_of f.value) v (not_both e f p other))
same_value (d ∷ before) behind e f v p other =
    same_value before behind e f
    (if is_same_observable d.place p then value_of d.value else v) p other

pub entries_may_swap : (t : Content) (before behind : List InitEntry) (e f : InitEntry)
    → is_same_observable e.place f.place ≡ false
    → IsStartAlike (with_entries t (before ++ e ∷ f ∷ behind))
    (with_entries t (before ++ f ∷ e ∷ behind))
entries_may_swap t before behind e f other = (
  same_locations t (before ++ e ∷ f ∷ behind) (before ++ f ∷ e ∷ behind)
      (swapped before behind e f) (swapped before behind f e),
  λ p. same_value before behind e f (Number 0) p other,
)
