-- Lists in which a relation holds of each element and each later one.
use Rattle.std.proofs.Common.{ℕ, zero, suc, ◌≡◌, ◌⊎◌, ◌↔◌, ◌<◌, ◌≤◌, inl, inr, List, [], ◌∷◌, length, get_or, take, drop, sym, subst, arith}
use Rattle.std.specs.List.{Contains, All, AllPairs, insert}
use Rattle.std.proofs.lemmas.List.Elements.{Contains-push, Contains-append_left, Contains-append_right, Contains-append_cases, Contains-push_cases, All-nil, All-cons, All-append, All-take, All-drop, All-weaker}
use Rattle.std.proofs.lemmas.List.Kept.{AllPairs-cons}

pub pairs_head : {A : Type 0} (R : A → A → Type 0) (x : A) (xs : List A) → AllPairs R (x ∷ xs)
    → All (R x) xs
pairs_head R x xs h k d lt = h zero (suc k) d (omega arith) (omega arith)

pub pairs_tail : {A : Type 0} (R : A → A → Type 0) (x : A) (xs : List A) → AllPairs R (x ∷ xs)
    → AllPairs R xs
pairs_tail R x xs h i j d lt below = h (suc i) (suc j) d (omega arith) (omega arith)

pub pairs_none : {A : Type 0} (R : A → A → Type 0) → AllPairs R []
pairs_none R i j d lt below = absurd (omega arith)

-- an element at its index among others
module _ {A : Type 0} (R : A → A → Type 0) (less_less : (x y z : A) → R x y → R y z → R x z) where
  above_all : (xs : List A) (y d : A) → AllPairs R xs → (0 < length xs → R y (get_or xs 0 d))
      → All (R y) xs
  above_all [] y d rising h = All-nil (R y)
  above_all (x ∷ xs) y d rising h =
      All-cons (R y) x xs (h (omega arith)) (All-weaker (R x) (R y)
      (λ z lt. less_less y x z (h (omega arith)) lt) xs (pairs_head R x xs rising))

  pub inserted_rises : (xs : List A) (i : ℕ) (y d : A) → i ≤ length xs → AllPairs R xs
      → ((k : ℕ) → k < i → R (get_or xs k d) y) → (i < length xs → R y (get_or xs i d))
      → AllPairs R (insert xs i y)
  inserted_rises xs zero y d le rising before behind =
      AllPairs-cons R y xs (above_all xs y d rising behind) rising
  inserted_rises [] (suc i) y d le rising before behind = absurd (omega arith)
  inserted_rises (x ∷ xs) (suc i) y d le rising before behind =
      AllPairs-cons R x (insert xs i y)
      (All-append (R x) (take i xs) (y ∷ drop i xs) (All-take (R x) i xs (pairs_head R x xs rising))
      (All-cons (R x) y (drop i xs) (before zero (omega arith))
      (All-drop (R x) i xs (pairs_head R x xs rising))))
      (inserted_rises xs i y d (omega arith) (pairs_tail R x xs rising)
      (λ k lt. before (suc k) (omega arith)) (λ lt. behind (omega arith)))

pub inserted_all : {A : Type 0} (P : A → Type 0) (xs : List A) (i : ℕ) (y : A) → All P xs → P y
    → All P (insert xs i y)
inserted_all P xs i y each here =
    All-append P (take i xs) (y ∷ drop i xs) (All-take P i xs each)
    (All-cons P y (drop i xs) here (All-drop P i xs each))

-- what it has
module _ {A : Type 0} where
  pub contains_here : (x : A) (xs : List A) → Contains (x ∷ xs) x
  contains_here x xs = Contains-append_left (x ∷ []) xs x (Contains-push [] x)

  pub contains_there : (x : A) (xs : List A) (v : A) → Contains xs v → Contains (x ∷ xs) v
  contains_there x xs v h = Contains-append_right (x ∷ []) xs v h

  pub contains_cases : (x : A) (xs : List A) (v : A) → Contains (x ∷ xs) v → (v ≡ x) ⊎ Contains xs v
  contains_cases x xs v h = elim (Contains-append_cases (x ∷ []) xs v h) [
    | inl here ↦ elim (Contains-push_cases [] x v here) [
      | inl none ↦ absurd
          (let lt = none.1 in omega arith)
      | inr e ↦ inl (sym e)
    ]
    | inr there ↦ inr there
  ]

  pub contains_inserted : (xs : List A) (i : ℕ) (y v : A)
      → Contains (insert xs i y) v ↔ (Contains xs v ⊎ (v ≡ y))
  contains_inserted xs zero y v = (
    (λ h. elim (contains_cases y xs v h) [ inl e ↦ inr e | inr w ↦ inl w ]),
    (λ h. elim h [
      | inl w ↦ contains_there y xs v w
      | inr e ↦ subst
          (λ (z : A). Contains (y ∷ xs) z) (sym e) (contains_here y xs)
    ]),
  )
  contains_inserted [] (suc i) y v = (
    (λ h. elim (contains_cases y [] v h) [ inl e ↦ inr e | inr w ↦ inl w ]),
    (λ h. elim h [
      | inl w ↦ contains_there y [] v w
      | inr e ↦ subst
          (λ (z : A). Contains (y ∷ []) z) (sym e) (contains_here y [])
    ]),
  )
  contains_inserted (x ∷ xs) (suc i) y v =
      let more = contains_inserted xs i y v in (
        (λ h. elim (contains_cases x (insert xs i y) v h) [
          | inl e ↦ inl (subst (λ (z : A). Contains (x ∷ xs) z) (sym e) (contains_here x xs))
          | inr w ↦ elim (more.0 w) [ inl u ↦ inl (contains_there x xs v u) | inr e ↦ inr e ]
        ]),
        (λ h. elim h [
          | inl w ↦ elim (contains_cases x xs v w) [
            | inl e ↦ subst (λ (z : A). Contains (x ∷ insert xs i y) z) (sym e)
                (contains_here x (insert xs i y))
            | inr u ↦ contains_there x (insert xs i y) v (more.1 (inl u))
          ]
          | inr e ↦ contains_there x (insert xs i y) v (more.1 (inr e))
        ]),
      )
