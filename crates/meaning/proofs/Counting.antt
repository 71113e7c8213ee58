-- Lists of a set: how long they are, and when two are one.
use Rattle.std.proofs.Common.{◌≡◌, ◌<◌, ◌≤◌, ◌⊎◌, inl, inr, ℕ, zero, suc, List, [], ◌∷◌, ◌++◌, length, get_or, Contains, AllPairs, refl, sym, ap, ap₂, subst, ◌∙◌, arith}
use Rattle.meaning.specs.Sets.{Set, IsOnce, HasCount}

-- the list without the element at an index
without : {X : Type 0} → ℕ → List X → List X
without k [] = []
without zero (y ∷ ys) = ys
without (suc k) (y ∷ ys) = y ∷ without k ys

without_length : {X : Type 0} (k : ℕ) (ys : List X) → k < length ys
    → suc (length (without k ys)) ≡ length ys
unfolding without
without_length k [] lt = absurd (omega arith)
without_length zero (y ∷ ys) lt = refl
without_length (suc k) (y ∷ ys) lt =
    let rest : _ = without_length k ys (omega arith) in omega arith

still_there : {X : Type 0} (k : ℕ) (ys : List X) (y : X) → get_or ys k y ≡ y → (x : X)
    → (y ≡ x → ⊥) → Contains ys x → Contains (without k ys) x
unfolding without
still_there k [] y at x other (j, lt, eq) = absurd (omega arith)
still_there zero (z ∷ ys) y at x other (zero, lt, eq) = absurd (other (sym at ∙ eq))
still_there zero (z ∷ ys) y at x other (suc j, lt, eq) = (j, omega arith, eq)
still_there (suc k) (z ∷ ys) y at x other (zero, lt, eq) = (0, omega arith, eq)
still_there (suc k) (z ∷ ys) y at x other (suc j, lt, eq) =
    let rest : _ = still_there k ys y at x other (j, omega arith, eq) in
    (suc rest.0, omega arith, rest.2)

-- of an element and a later one
pub first_pair : {X : Type 0} (R : X → X → Type 0) (x : X) (xs : List X) → AllPairs R (x ∷ xs)
    → (z : X) → Contains xs z → R x z
first_pair R x xs all z (k, lt, eq) =
    subst (λ w. R x w) eq (all 0 (suc k) z (omega arith) (omega arith))

pub later_pairs : {X : Type 0} (R : X → X → Type 0) (x : X) (xs : List X) → AllPairs R (x ∷ xs)
    → AllPairs R xs
later_pairs R x xs all i j d before lt = all (suc i) (suc j) d (omega arith) (omega arith)

pub here : {X : Type 0} (x : X) (xs : List X) → Contains (x ∷ xs) x
here x xs = (0, omega arith, refl)

pub behind : {X : Type 0} (x : X) (xs : List X) (z : X) → Contains xs z → Contains (x ∷ xs) z
behind x xs z (k, lt, eq) = (suc k, omega arith, eq)

pub head_or_tail : {X : Type 0} (x : X) (xs : List X) (z : X) → Contains (x ∷ xs) z
    → (x ≡ z) ⊎ Contains xs z
head_or_tail x xs z (zero, lt, eq) = inl eq
head_or_tail x xs z (suc k, lt, eq) = inr (k, omega arith, eq)

no_longer : {X : Type 0} (xs ys : List X) → IsOnce xs
    → ((x : X) → Contains xs x → Contains ys x) → length xs ≤ length ys
no_longer [] ys once inside = omega arith
no_longer (x ∷ xs) ys once inside =
    let at : _ = inside x (here x xs) in
    let rest : _ = no_longer xs (without at.0 ys) (later_pairs (λ a b. a ≡ b → ⊥) x xs once)
    (λ z there. still_there at.0 ys x at.2 z (first_pair (λ a b. a ≡ b → ⊥) x xs once z there)
    (inside z (behind x xs z there))) in
    let shorter : _ = without_length at.0 ys at.1 in
    omega arith

-- a set has one number of members
pub counts_are_one : {X : Type 0} (S : Set X) (m n : ℕ) → HasCount S m → HasCount S n → m ≡ n
counts_are_one S m n (xs, of_xs, m_is) (ys, of_ys, n_is) =
    let first : _ =
    no_longer xs ys of_xs.once
    (λ x there. (of_ys.exact x).1 ((of_xs.exact x).0 there)) in
    let second : _ =
    no_longer ys xs of_ys.once
    (λ x there. (of_xs.exact x).1 ((of_ys.exact x).0 there)) in
    omega arith

-- a set of some members has one
pub some_member : {X : Type 0} (S : Set X) (n : ℕ) → HasCount S n → 0 < n → (x : X) × S x
some_member S n ([], of_xs, n_is) some = absurd (omega arith)
some_member S n (x ∷ xs, of_xs, n_is) some = (x, (of_xs.exact x).0 (here x xs))

-- what does not come before itself in one list comes before nothing in the other
same_head : {X : Type 0} (R : X → X → Type 0) → ((x y : X) → R x y → R y x → ⊥) → (x y : X)
    (xs ys : List X) → AllPairs R (x ∷ xs) → AllPairs R (y ∷ ys)
    → (x ≡ y) ⊎ Contains xs y → (y ≡ x) ⊎ Contains ys x → x ≡ y
same_head R asym x y xs ys rising other (inl eq) h = eq
same_head R asym x y xs ys rising other (inr there) (inl eq) = sym eq
same_head R asym x y xs ys rising other (inr there) (inr also) =
    absurd (asym x y (first_pair R x xs rising y there) (first_pair R y ys other x also))

in_tail : {X : Type 0} (R : X → X → Type 0) → ((x y : X) → R x y → R y x → ⊥) → (x y : X)
    (ys : List X) → x ≡ y → (z : X) → R x z → (y ≡ z) ⊎ Contains ys z → Contains ys z
in_tail R asym x y ys same z before (inr there) = there
in_tail R asym x y ys same z before (inl eq) =
    let loop : R x x = subst (λ w. R x w) (sym (same ∙ eq)) before in absurd (asym x x loop loop)

-- two rising lists with the same elements are one
pub rising_are_one : {X : Type 0} (R : X → X → Type 0) → ((x y : X) → R x y → R y x → ⊥)
    → (xs ys : List X) → AllPairs R xs → AllPairs R ys
    → ((x : X) → Contains xs x → Contains ys x) → ((x : X) → Contains ys x → Contains xs x)
    → xs ≡ ys
rising_are_one R asym [] [] rising other to from = refl
rising_are_one R asym [] (y ∷ ys) rising other to from =
    let there : _ = from y (here y ys) in let lt : _ = there.1 in absurd (omega arith)
rising_are_one R asym (x ∷ xs) [] rising other to from =
    let there : _ = to x (here x xs) in let lt : _ = there.1 in absurd (omega arith)
rising_are_one R asym (x ∷ xs) (y ∷ ys) rising other to from =
    let same : x ≡ y = same_head R asym x y xs ys rising other
    (head_or_tail x xs y (from y (here y ys))) (head_or_tail y ys x (to x (here x xs))) in
    ap₂ (λ h t. h ∷ t) same
    (rising_are_one R asym xs ys (later_pairs R x xs rising) (later_pairs R y ys other)
    (λ z there. in_tail R asym x y ys same z (first_pair R x xs rising z there)
    (head_or_tail y ys z (to z (behind x xs z there))))
    (λ z there. in_tail R asym y x xs (sym same) z (first_pair R y ys other z there)
    (head_or_tail x xs z (from z (behind y ys z there)))))

-- the last element of a list
last_or : {X : Type 0} → X → List X → X
last_or d [] = d
last_or d (x ∷ xs) = last_or x xs

last_is : {X : Type 0} (d : X) (before : List X) (last : X)
    → last_or d (before ++ last ∷ []) ≡ last
unfolding last_or
last_is d [] last = refl
last_is d (x ∷ xs) last = last_is x xs last

pub lasts_are_one : {X : Type 0} (xs ys : List X) (x y : X) → xs ++ x ∷ [] ≡ ys ++ y ∷ [] → x ≡ y
lasts_are_one {X} xs ys x y same =
    sym (last_is x xs x) ∙ ap (λ (zs : List X). last_or x zs) same ∙ last_is x ys y
