-- How many members a set has, from a list of them.
use Rattle.std.proofs.Common.{◌≡◌, ◌<◌, ◌≤◌, ℕ, zero, suc, ◌+◌, List, [], ◌∷◌, ◌++◌, length, map, take, get_or, Contains, refl, sym, ap, subst, ◌∙◌, ◌⊎◌, inl, inr, arith}
use Rattle.std.proofs.lemmas.List.{take_more, take_all, length-map, get_or-map}
use Rattle.std.proofs.lemmas.List.Elements.{All-contains, Contains-append_left, Contains-push, Contains-push_cases}
use Rattle.meaning.specs.Sets.{Set, IsOnce, IsListOf, HasOver}
use Rattle.meaning.proofs.Counting.{here, behind}
use Rattle.plain_runs.specs.Keeping.{PutsIf}
use Rattle.plain_runs.proofs.Listing.{head_new, tail_once, none_there, listed_as, listed_none, listed_one, listed_both, earlier_other}

-- the list without the element at an index
without : {X : Type 0} → ℕ → List X → List X
without k [] = []
without zero (y ∷ ys) = ys
without (suc k) (y ∷ ys) = y ∷ without k ys

without_length : {X : Type 0} (k : ℕ) (ys : List X) → k < length ys
    → suc (length (without k ys)) ≡ length ys
unfolding without
without_length k [] lt = absurd (omega arith)
without_length zero (y ∷ ys) lt = refl
without_length (suc k) (y ∷ ys) lt =
    let rest : _ = without_length k ys (omega arith) in omega arith

still_there : {X : Type 0} (k : ℕ) (ys : List X) (y : X) → get_or ys k y ≡ y → (x : X)
    → (y ≡ x → ⊥) → Contains ys x → Contains (without k ys) x
unfolding without
still_there k [] y at x other (j, lt, eq) = absurd (omega arith)
still_there zero (z ∷ ys) y at x other (zero, lt, eq) = absurd (other (sym at ∙ eq))
still_there zero (z ∷ ys) y at x other (suc j, lt, eq) = (j, omega arith, eq)
still_there (suc k) (z ∷ ys) y at x other (zero, lt, eq) = (0, omega arith, eq)
still_there (suc k) (z ∷ ys) y at x other (suc j, lt, eq) =
    let rest : _ = still_there k ys y at x other (j, omega arith, eq) in
    (suc rest.0, omega arith, rest.2)

-- what stands once in a list, and in another, is no longer than that
pub no_longer : {X : Type 0} (xs ys : List X) → IsOnce xs
    → ((x : X) → Contains xs x → Contains ys x) → length xs ≤ length ys
no_longer [] ys once inside = omega arith
no_longer (x ∷ xs) ys once inside =
    let at : _ = inside x (here x xs) in
    let rest : _ = no_longer xs (without at.0 ys) (tail_once x xs once)
    (λ z there. still_there at.0 ys x at.2 z
    (λ same. head_new x xs once (subst (λ w. Contains xs w) (sym same) there))
    (inside z (behind x xs z there))) in
    let shorter : _ = without_length at.0 ys at.1 in
    omega arith

-- all else is what stood at the index
that_or_there : {X : Type 0} (k : ℕ) (ys : List X) (y : X) → get_or ys k y ≡ y → (x : X)
    → Contains ys x → (y ≡ x) ⊎ Contains (without k ys) x
unfolding without
that_or_there k [] y at x (j, lt, eq) = absurd (omega arith)
that_or_there zero (z ∷ ys) y at x (zero, lt, eq) = inl (sym at ∙ eq)
that_or_there zero (z ∷ ys) y at x (suc j, lt, eq) = inr (j, omega arith, eq)
that_or_there (suc k) (z ∷ ys) y at x (zero, lt, eq) = inr (0, omega arith, eq)
that_or_there {X} (suc k) (z ∷ ys) y at x (suc j, lt, eq) =
    elim (that_or_there k ys y at x (j, omega arith, eq)) [
      | inl e ↦ inl e
      | inr there ↦ inr (behind z (without k ys) x there)
    ]

-- a list that stands in another which is no longer has all of it
pub has_all : {X : Type 0} (xs ys : List X) → IsOnce xs
    → ((x : X) → Contains xs x → Contains ys x) → length ys ≤ length xs → (y : X)
    → Contains ys y → Contains xs y
has_all [] ys once inside le y there = absurd (let lt : _ = there.1 in omega (arith, lt, le))
has_all {X} (x ∷ xs) ys once inside le y there =
    let at : Contains ys x = inside x (here x xs) in
    elim (that_or_there at.0 ys x at.2 y there) [
      | inl e ↦ subst (λ (z : X). Contains (x ∷ xs) z) e (here x xs)
      | inr later ↦
          behind x xs y
          (has_all xs (without at.0 ys) (tail_once x xs once)
          (λ z later_z. still_there at.0 ys x at.2 z
          (λ same. head_new x xs once (subst (λ (w : X). Contains xs w) (sym same) later_z))
          (inside z (behind x xs z later_z)))
          (let shorter : _ = without_length at.0 ys at.1 in omega arith) y later)
    ]

pub has_over : {X : Type 0} (S : Set X) (xs : List X) (n : ℕ) → IsListOf S xs → n < length xs
    → HasOver n S
has_over S xs n listed lt = (
  xs,
  listed.once,
  (λ k d less. (listed.exact (get_or xs k d)).0 (k, less, refl_at xs k d less)),
  lt,
)
  where
    refl_at : {X : Type 0} (xs : List X) (k : ℕ) (d : X) → k < length xs
        → get_or xs k (get_or xs k d) ≡ get_or xs k d
    refl_at [] k d less = absurd (omega (arith, less))
    refl_at (x ∷ xs) zero d less = refl
    refl_at (x ∷ xs) (suc k) d less = refl_at xs k d (omega (arith, less))

pub has_not_over : {X : Type 0} (S : Set X) (xs : List X) (n : ℕ) → IsListOf S xs
    → length xs ≤ n → HasOver n S → ⊥
has_not_over S xs n listed le (ys, once, all, lt) =
    let few : _ = no_longer ys xs once
    (λ x there. (listed.exact x).1 (All-contains S ys x all there)) in
    omega (arith, few, le, lt)

-- ---- the things of a list that have a property

module _ {X : Type 0} (P : X → Type 0) (xs : List X) where
  abbrev pub Kept : ℕ → Set X
  Kept k x = Contains (take k xs) x × P x

  pub kept_none : IsListOf (Kept 0) []
  kept_none = listed_none (Kept 0) (λ x is. none_there x is.0)

  module _ (k : ℕ) (d : X) (lt : k < length xs) (once : IsOnce xs) (old : List X)
      (before : IsListOf (Kept k) old) where
    cases : (x : X) → Contains (take (k + 1) xs) x
        → Contains (take k xs) x ⊎ (get_or xs k d ≡ x)
    cases x there =
        Contains-push_cases (take k xs) (get_or xs k d) x
        (subst (λ (l : List X). Contains l x) (take_more xs k d lt) there)

    left : (x : X) → Contains (take k xs) x → Contains (take (k + 1) xs) x
    left x there =
        subst (λ (l : List X). Contains l x) (sym (take_more xs k d lt))
        (Contains-append_left (take k xs) (get_or xs k d ∷ []) x there)

    last : Contains (take (k + 1) xs) (get_or xs k d)
    last =
        subst (λ (l : List X). Contains l (get_or xs k d)) (sym (take_more xs k d lt))
        (Contains-push (take k xs) (get_or xs k d))

    pub kept_other : (P (get_or xs k d) → ⊥) → IsListOf (Kept (k + 1)) old
    kept_other other =
        listed_as (Kept k) (Kept (k + 1)) old (λ x. (to x, back x)) before
      where
        to : (x : X) → Kept k x → Kept (k + 1) x
        to x (there, is) = (left x there, is)

        back : (x : X) → Kept (k + 1) x → Kept k x
        back x (there, is) = elim (cases x there) [
          | inl earlier ↦ (earlier, is)
          | inr at ↦ absurd (other (subst P (sym at) is))
        ]

    pub kept_more : P (get_or xs k d) → IsListOf (Kept (k + 1)) (old ++ get_or xs k d ∷ [])
    kept_more is =
        listed_as (λ x. Kept k x ⊎ (get_or xs k d ≡ x)) (Kept (k + 1))
        (old ++ get_or xs k d ∷ []) (λ x. (to x, back x))
        (listed_both (Kept k) (λ x. get_or xs k d ≡ x) old (get_or xs k d ∷ []) apart before
        (listed_one (λ x. get_or xs k d ≡ x) (get_or xs k d) (λ y. ((λ e. e), λ e. e))))
      where
        apart : (x : X) → Kept k x → get_or xs k d ≡ x → ⊥
        apart x (there, p) at =
            earlier_other xs k d lt once (subst (λ (y : X). Contains (take k xs) y) (sym at) there)

        to : (x : X) → Kept k x ⊎ (get_or xs k d ≡ x) → Kept (k + 1) x
        to x (inl (there, p)) = (left x there, p)
        to x (inr at) = subst (λ (y : X). Kept (k + 1) y) at (last, is)

        back : (x : X) → Kept (k + 1) x → Kept k x ⊎ (get_or xs k d ≡ x)
        back x (there, p) = elim (cases x there) [
          | inl earlier ↦ inl (earlier, p)
          | inr at ↦ inr at
        ]

  pub kept_all : (k : ℕ) (ys : List X) → length xs ≤ k → IsListOf (Kept k) ys
      → IsListOf (λ x. Contains xs x × P x) ys
  kept_all k ys le listed =
      subst (λ (l : List X). IsListOf (λ x. Contains l x × P x) ys) (take_all k xs le) listed

-- one step of a loop that keeps what has a property
pub kept_step : {X Y : Type 0} (f : X → Y) (P : Y → Type 0) (xs : List X) (k : ℕ) (d : X)
    (old new : List X) → k < length xs → IsOnce (map f xs)
    → IsListOf (Kept P (map f xs) k) (map f old)
    → PutsIf (P (f (get_or xs k d))) (f (get_or xs k d)) (map f old) (map f new)
    → IsListOf (Kept P (map f xs) (k + 1)) (map f new)
kept_step {X} {Y} f P xs k d old new lt once before step = cases step
  where
    long : k < length (map f xs)
    long = let e : _ = length-map xs f in omega (arith, e, lt)

    at : get_or (map f xs) k (f d) ≡ f (get_or xs k d)
    at = get_or-map f xs k d (f d) lt

    cases : PutsIf (P (f (get_or xs k d))) (f (get_or xs k d)) (map f old) (map f new)
        → IsListOf (Kept P (map f xs) (k + 1)) (map f new)
    cases (inl (is, e)) =
        subst (λ (l : List Y). IsListOf (Kept P (map f xs) (k + 1)) l)
        (ap (λ (y : Y). map f old ++ y ∷ []) at ∙ sym e)
        (kept_more P (map f xs) k (f d) long once (map f old) before (subst P (sym at) is))
    cases (inr (other, e)) =
        subst (λ (l : List Y). IsListOf (Kept P (map f xs) (k + 1)) l) (sym e)
        (kept_other P (map f xs) k (f d) long once (map f old) before (λ is. other (subst P at is)))

pub kept_end : {X Y : Type 0} (f : X → Y) (P : Y → Type 0) (xs : List X) (k : ℕ) (ys : List Y)
    → length xs ≤ k → IsListOf (Kept P (map f xs) k) ys
    → IsListOf (λ y. Contains (map f xs) y × P y) ys
kept_end f P xs k ys le listed =
    kept_all P (map f xs) k ys (let e : _ = length-map xs f in omega (arith, e, le)) listed
