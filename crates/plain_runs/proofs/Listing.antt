-- Lists that have just the members of a set, each once: of nothing, of one thing, of what a list is
-- mapped to, and of two sets that share nothing.
use Rattle.std.proofs.Common.{◌≡◌, ◌↔◌, ◌⊎◌, inl, inr, ℕ, zero, suc, ◌+◌, ◌<◌, ◌≤◌, List, [], ◌∷◌, ◌++◌, map, length, take, drop, get_or, Contains, drop-cons, refl, sym, ap, subst, ◌∙◌, arith}
use Rattle.std.proofs.lemmas.List.Elements.{Contains-append_left, Contains-append_right, Contains-append_cases, Contains-push, Contains-push_cases}
use Rattle.std.proofs.lemmas.List.{get_or_default, take_more, take_all, take-append-drop}
use Rattle.meaning.specs.Sets.{Set, IsOnce, IsListOf}
use Rattle.meaning.proofs.Counting.{first_pair, later_pairs, here, behind, head_or_tail}

pub none_there : {X : Type 0} (x : X) → Contains [] x → ⊥
none_there x there = omega (arith, there.1)

pub once_none : {X : Type 0} → IsOnce {X = X} []
once_none i j d less lt same = omega (arith, lt)

pub once_cons : {X : Type 0} (x : X) (xs : List X) → (Contains xs x → ⊥) → IsOnce xs
    → IsOnce (x ∷ xs)
once_cons x xs new once i zero d less lt same = absurd (omega (arith, less))
once_cons x xs new once zero (suc j) d less lt same =
    new (j, omega (arith, lt), get_or_default xs j x d (omega (arith, lt)) ∙ sym same)
once_cons x xs new once (suc i) (suc j) d less lt same =
    once i j d (omega (arith, less)) (omega (arith, lt)) same

pub head_new : {X : Type 0} (x : X) (xs : List X) → IsOnce (x ∷ xs) → Contains xs x → ⊥
head_new x xs once there = first_pair (λ a b. a ≡ b → ⊥) x xs once x there refl

pub tail_once : {X : Type 0} (x : X) (xs : List X) → IsOnce (x ∷ xs) → IsOnce xs
tail_once x xs once = later_pairs (λ a b. a ≡ b → ⊥) x xs once

pub once_append : {X : Type 0} (xs ys : List X) → IsOnce xs → IsOnce ys
    → ((z : X) → Contains xs z → Contains ys z → ⊥) → IsOnce (xs ++ ys)
once_append [] ys first second apart = second
once_append {X} (x ∷ xs) ys first second apart =
    once_cons x (xs ++ ys) new
    (once_append xs ys (tail_once x xs first) second (λ z there. apart z (behind x xs z there)))
  where
    new : Contains (xs ++ ys) x → ⊥
    new there = elim (Contains-append_cases xs ys x there) [
      | inl left ↦ head_new x xs first left
      | inr right ↦ apart x (here x xs) right
    ]

pub there_mapped : {X Y : Type 0} (f : X → Y) (xs : List X) (x : X) → Contains xs x
    → Contains (map f xs) (f x)
there_mapped f [] x there = absurd (none_there x there)
there_mapped {X} {Y} f (y ∷ ys) x there = elim (head_or_tail y ys x there) [
  | inl at ↦ (0, omega arith, ap f at)
  | inr later ↦ behind (f y) (map f ys) (f x) (there_mapped f ys x later)
]

pub mapped_from : {X Y : Type 0} (f : X → Y) (xs : List X) (y : Y) → Contains (map f xs) y
    → (x : X) × Contains xs x × (f x ≡ y)
mapped_from f [] y there = absurd (none_there y there)
mapped_from f (x ∷ xs) y there = elim (head_or_tail (f x) (map f xs) y there) [
  | inl at ↦ (x, here x xs, at)
  | inr later ↦
      let found : _ = mapped_from f xs y later in (found.0, behind x xs found.0 found.1, found.2)
]

pub once_map : {X Y : Type 0} (f : X → Y) → ((x y : X) → f x ≡ f y → x ≡ y) → (xs : List X)
    → IsOnce xs → IsOnce (map f xs)
once_map f injective [] once = once_none
once_map {X} {Y} f injective (x ∷ xs) once =
    once_cons (f x) (map f xs) new (once_map f injective xs (tail_once x xs once))
  where
    new : Contains (map f xs) (f x) → ⊥
    new there =
        let found : (z : X) × Contains xs z × (f z ≡ f x) = mapped_from f xs (f x) there in
        head_new x xs once (subst (λ (z : X). Contains xs z) (injective found.0 x found.2) found.1)

-- ---- lists of sets

pub listed_as : {X : Type 0} (S T : Set X) (xs : List X) → ((x : X) → S x ↔ T x)
    → IsListOf S xs → IsListOf T xs
listed_as S T xs same listed = record {
  once = listed.once;
  exact = λ x. (
    (λ there. (same x).0 ((listed.exact x).0 there)),
    λ is. (listed.exact x).1 ((same x).1 is),
  );
}

pub listed_none : {X : Type 0} (S : Set X) → ((x : X) → S x → ⊥) → IsListOf S []
listed_none S none = record {
  once = once_none;
  exact = λ x. ((λ there. absurd (none_there x there)), λ is. absurd (none x is));
}

pub listed_one : {X : Type 0} (S : Set X) (x : X) → ((y : X) → S y ↔ (x ≡ y))
    → IsListOf S (x ∷ [])
listed_one {X} S x alone = record {
  once = once_cons x [] (none_there x) once_none;
  exact = λ y. (to y, λ is. (0, omega arith, (alone y).0 is));
}
  where
    to : (y : X) → Contains (x ∷ []) y → S y
    to y there = elim (head_or_tail x [] y there) [
      | inl at ↦ (alone y).1 at
      | inr later ↦ absurd (none_there y later)
    ]

pub listed_map : {X Y : Type 0} (f : X → Y) (S : Set X) (xs : List X)
    → ((x y : X) → f x ≡ f y → x ≡ y) → IsListOf S xs
    → IsListOf (λ y. (x : X) × S x × (f x ≡ y)) (map f xs)
listed_map {X} {Y} f S xs injective listed = record {
  once = once_map f injective xs listed.once;
  exact = λ y. (to y, back y);
}
  where
    to : (y : Y) → Contains (map f xs) y → (x : X) × S x × (f x ≡ y)
    to y there =
        let found : (x : X) × Contains xs x × (f x ≡ y) = mapped_from f xs y there in
        (found.0, (listed.exact found.0).0 found.1, found.2)

    back : (y : Y) → (x : X) × S x × (f x ≡ y) → Contains (map f xs) y
    back y is =
        subst (λ (z : Y). Contains (map f xs) z) is.2
        (there_mapped f xs is.0 ((listed.exact is.0).1 is.1))

pub listed_both : {X : Type 0} (S T : Set X) (xs ys : List X) → ((x : X) → S x → T x → ⊥)
    → IsListOf S xs → IsListOf T ys → IsListOf (λ x. S x ⊎ T x) (xs ++ ys)
listed_both {X} S T xs ys apart first second = record {
  once = once_append xs ys first.once second.once
      (λ z left right. apart z ((first.exact z).0 left) ((second.exact z).0 right));
  exact = λ x. (to x, back x);
}
  where
    to : (x : X) → Contains (xs ++ ys) x → S x ⊎ T x
    to x there = elim (Contains-append_cases xs ys x there) [
      | inl left ↦ inl ((first.exact x).0 left)
      | inr right ↦ inr ((second.exact x).0 right)
    ]

    back : (x : X) → S x ⊎ T x → Contains (xs ++ ys) x
    back x (inl is) = Contains-append_left xs ys x ((first.exact x).1 is)
    back x (inr is) = Contains-append_right xs ys x ((second.exact x).1 is)

-- ---- what each thing of a list gives, where no two give the same

abbrev pub Over : {X Y : Type 0} → (X → Set Y) → List X → Set Y
Over {X} G xs y = (x : X) × Contains xs x × G x y

-- what stands before a thing is not that thing
before_other : {X : Type 0} (xs : List X) (y : X) (ys : List X) → IsOnce (xs ++ y ∷ ys)
    → Contains xs y → ⊥
before_other [] y ys once there = none_there y there
before_other {X} (x ∷ xs) y ys once there = elim (head_or_tail x xs y there) [
  | inl at ↦
      head_new x (xs ++ y ∷ ys) once
      (subst (λ (z : X). Contains (xs ++ y ∷ ys) z) (sym at)
      (Contains-append_right xs (y ∷ ys) y (here y ys)))
  | inr later ↦ before_other xs y ys (tail_once x (xs ++ y ∷ ys) once) later
]

pub earlier_other : {X : Type 0} (xs : List X) (k : ℕ) (d : X) → k < length xs → IsOnce xs
    → Contains (take k xs) (get_or xs k d) → ⊥
earlier_other {X} xs k d lt once there =
    before_other (take k xs) (get_or xs k d) (drop (suc k) xs)
    (subst (λ (l : List X). IsOnce l) (sym split) once) there
  where
    split : take k xs ++ get_or xs k d ∷ drop (suc k) xs ≡ xs
    split =
        ap (λ (l : List X). take k xs ++ l) (sym (drop-cons xs k d lt)) ∙ take-append-drop k xs

pub over_begin : {X Y : Type 0} (G : X → Set Y) (ys : List Y) → ys ≡ [] → IsListOf (Over G []) ys
over_begin {X} {Y} G ys e =
    subst (λ (l : List Y). IsListOf (Over G []) l) (sym e)
    (listed_none (Over G []) (λ y is. none_there is.0 is.1))

pub over_more : {X Y : Type 0} (G : X → Set Y) (xs : List X) (k : ℕ) (d : X)
    (old more new : List Y) → k < length xs → IsOnce xs
    → ((a b : X) (y : Y) → G a y → G b y → a ≡ b) → IsListOf (Over G (take k xs)) old
    → IsListOf (G (get_or xs k d)) more → new ≡ old ++ more
    → IsListOf (Over G (take (k + 1) xs)) new
over_more {X} {Y} G xs k d old more new lt once one before listed e =
    subst (λ (l : List X). IsListOf (Over G l) new) (sym (take_more xs k d lt))
    (subst (λ (l : List Y). IsListOf (Over G (take k xs ++ get_or xs k d ∷ [])) l) (sym e)
    (listed_as (λ y. Over G (take k xs) y ⊎ G (get_or xs k d) y)
    (Over G (take k xs ++ get_or xs k d ∷ [])) (old ++ more) (λ y. (to y, back y))
    (listed_both (Over G (take k xs)) (G (get_or xs k d)) old more apart before listed)))
  where
    apart : (y : Y) → Over G (take k xs) y → G (get_or xs k d) y → ⊥
    apart y is other =
        earlier_other xs k d lt once
        (subst (λ (x : X). Contains (take k xs) x) (one is.0 (get_or xs k d) y is.2 other) is.1)

    to : (y : Y) → Over G (take k xs) y ⊎ G (get_or xs k d) y
        → Over G (take k xs ++ get_or xs k d ∷ []) y
    to y (inl is) =
        (is.0, Contains-append_left (take k xs) (get_or xs k d ∷ []) is.0 is.1, is.2)
    to y (inr is) = (get_or xs k d, Contains-push (take k xs) (get_or xs k d), is)

    back : (y : Y) → Over G (take k xs ++ get_or xs k d ∷ []) y
        → Over G (take k xs) y ⊎ G (get_or xs k d) y
    back y (x, there, is) =
        elim (Contains-push_cases (take k xs) (get_or xs k d) x there) [
          | inl earlier ↦ inl (x, earlier, is)
          | inr at ↦ inr (subst (λ (z : X). G z y) (sym at) is)
        ]

pub over_all : {X Y : Type 0} (G : X → Set Y) (xs : List X) (n : ℕ) (ys : List Y)
    → length xs ≤ n → IsListOf (Over G (take n xs)) ys → IsListOf (Over G xs) ys
over_all {X} G xs n ys le listed =
    subst (λ (l : List X). IsListOf (Over G l) ys) (take_all n xs le) listed
