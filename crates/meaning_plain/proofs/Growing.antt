-- Lists that grow: by one thing, by what each thing of another list gives, and from nothing.
use Rattle.std.proofs.Common.{◌≡◌, ◌↔◌, ◌⊎◌, inl, inr, ℕ, ◌+◌, ◌<◌, ◌≤◌, List, [], ◌∷◌, ◌++◌, length, take, get_or, Contains, sym, subst, arith, ◌&&◌, ap, ◌∙◌}
use Rattle.std.specs.Bool.{Decides}
use Rattle.std.proofs.lemmas.Bool.Decides.{Decides-eqb, Decides-and}
use Rattle.std.proofs.Math.Dec.{eqb}
use Rattle.std.proofs.lemmas.List.{take_more, take_all}
use Rattle.std.proofs.lemmas.List.Elements.{Contains-push, Contains-push_cases, Contains-append_left}
use Rattle.meaning_plain.specs.Lists.{Grows, Given}

pub pair_joined : (p q : ℕ × ℕ) → p.0 ≡ q.0 → p.1 ≡ q.1 → p ≡ q
pair_joined p q first second =
    ap (λ (n : ℕ). let r : ℕ × ℕ = (n, p.1) in r) first
    ∙ ap (λ (n : ℕ). let r : ℕ × ℕ = (q.0, n) in r) second

pub first_of : {p q : ℕ × ℕ} → p ≡ q → p.0 ≡ q.0
first_of e = ap (λ (x : ℕ × ℕ). x.0) e

pub second_of : {p q : ℕ × ℕ} → p ≡ q → p.1 ≡ q.1
second_of e = ap (λ (x : ℕ × ℕ). x.1) e

pub pair_decides : (p q : ℕ × ℕ) → Decides (eqb p.0 q.0 && eqb p.1 q.1) (p ≡ q)
pair_decides p q =
    ((λ e. pair_joined p q (both.0 e).0 (both.0 e).1), (λ e. both.1 (first_of e, second_of e)))
  where
    both : Decides (eqb p.0 q.0 && eqb p.1 q.1) ((p.0 ≡ q.0) × (p.1 ≡ q.1))
    both = Decides-and (eqb p.0 q.0) (eqb p.1 q.1) (Decides-eqb p.0 q.0) (Decides-eqb p.1 q.1)

pub by_cases : {A B C : Type 0} → (A → C) → (B → C) → A ⊎ B → C
by_cases f g (inl a) = f a
by_cases f g (inr b) = g b

pub either : {A B C D : Type 0} → (A → C) → (B → D) → A ⊎ B → C ⊎ D
either f g (inl a) = inl (f a)
either f g (inr b) = inr (g b)

pub nothing_there : {X : Type 0} (x : X) → Contains [] x → ⊥
nothing_there x there = omega (arith, there.1)

-- nothing is added, where nothing is new
pub grows_not : {X : Type 0} (New : X → Type 0) (xs : List X) → ((x : X) → New x → ⊥)
    → Grows New xs xs
grows_not {X} New xs none = record { exact = both }
  where
    both : (x : X) → Contains xs x ↔ (Contains xs x ⊎ New x)
    both x = ((λ h. inl h), by_cases (λ h. h) (λ h. absurd (none x h)))

-- what is added is there already
pub grows_there : {X : Type 0} (xs : List X) (y : X) → Contains xs y → Grows (λ x. x ≡ y) xs xs
grows_there {X} xs y there = record { exact = both }
  where
    both : (x : X) → Contains xs x ↔ (Contains xs x ⊎ (x ≡ y))
    both x =
        ((λ h. inl h), by_cases (λ h. h) (λ e. subst (λ (z : X). Contains xs z) (sym e) there))

-- what is added is pushed
pub grows_push : {X : Type 0} (xs : List X) (y : X) → Grows (λ x. x ≡ y) xs (xs ++ y ∷ [])
grows_push {X} xs y = record { exact = both }
  where
    both : (x : X) → Contains (xs ++ y ∷ []) x ↔ (Contains xs x ⊎ (x ≡ y))
    both x = (
      (λ h. either (λ there. there) (λ e. sym e) (Contains-push_cases xs y x h)),
      by_cases (λ h. Contains-append_left xs (y ∷ []) x h)
          (λ e. subst (λ (z : X). Contains (xs ++ y ∷ []) z) (sym e) (Contains-push xs y)),
    )

-- what is new may be said otherwise
pub grows_as : {X : Type 0} (New Others : X → Type 0) (old new : List X)
    → ((x : X) → New x ↔ Others x) → Grows New old new → Grows Others old new
grows_as {X} New Others old new same grows = record { exact = both }
  where
    both : (x : X) → Contains new x ↔ (Contains old x ⊎ Others x)
    both x = (
      (λ h. either (λ there. there) (λ n. (same x).0 n) ((grows.exact x).0 h)),
      λ h. (grows.exact x).1 (either (λ there. there) (λ n. (same x).1 n) h),
    )

-- so it is for what is new under a condition that holds
pub grows_if : {X : Type 0} (P : Type 0) (y : X) (old new : List X) → P
    → Grows (λ x. x ≡ y) old new → Grows (λ x. (x ≡ y) × P) old new
grows_if P y old new holds grows =
    grows_as (λ x. x ≡ y) (λ x. (x ≡ y) × P) old new (λ x. ((λ e. (e, holds)), λ h. h.0)) grows

pub grows_unless : {X : Type 0} (P : Type 0) (y : X) (old : List X) → (P → ⊥)
    → Grows (λ x. (x ≡ y) × P) old old
grows_unless P y old fails = grows_not (λ x. (x ≡ y) × P) old (λ x h. fails h.1)

-- what a list with one thing more gives
pub given_push : {X Y : Type 0} (G : X → Y → Type 0) (xs : List X) (z : X) (y : Y)
    → Given G (xs ++ z ∷ []) y ↔ (Given G xs y ⊎ G z y)
given_push {X} {Y} G xs z y = (to, back)
  where
    at : (x : X) → G x y → Contains xs x ⊎ (z ≡ x) → Given G xs y ⊎ G z y
    at x g (inl there) = inl (x, there, g)
    at x g (inr e) = inr (subst (λ (w : X). G w y) (sym e) g)

    to : Given G (xs ++ z ∷ []) y → Given G xs y ⊎ G z y
    to h = at h.0 h.2 (Contains-push_cases xs z h.0 h.1)

    back : Given G xs y ⊎ G z y → Given G (xs ++ z ∷ []) y
    back (inl h) = (h.0, Contains-append_left xs (z ∷ []) h.0 h.1, h.2)
    back (inr g) = (z, Contains-push xs z, g)

-- one thing after another
pub grows_then : {X : Type 0} (A B : X → Type 0) (old mid new : List X) → Grows A old mid
    → Grows B mid new → Grows (λ x. A x ⊎ B x) old new
grows_then {X} A B old mid new first second = record { exact = λ x. (to x, back x) }
  where
    outer : (x : X) → Contains old x ⊎ A x → Contains old x ⊎ (A x ⊎ B x)
    outer x (inl h) = inl h
    outer x (inr a) = inr (inl a)

    to : (x : X) → Contains new x → Contains old x ⊎ (A x ⊎ B x)
    to x h =
        by_cases (λ m. outer x ((first.exact x).0 m)) (λ b. inr (inr b)) ((second.exact x).0 h)

    inner : (x : X) → A x ⊎ B x → Contains new x
    inner x (inl a) = (second.exact x).1 (inl ((first.exact x).1 (inr a)))
    inner x (inr b) = (second.exact x).1 (inr b)

    back : (x : X) → Contains old x ⊎ (A x ⊎ B x) → Contains new x
    back x (inl h) = (second.exact x).1 (inl ((first.exact x).1 (inl h)))
    back x (inr n) = inner x n

-- a loop that adds what each thing of a list gives: before it, and one thing further
pub grows_begin : {X Y : Type 0} (G : X → Y → Type 0) (ys : List Y) → Grows (Given G []) ys ys
grows_begin G ys = grows_not (Given G []) ys (λ y h. nothing_there h.0 h.1)

pub grows_more : {X Y : Type 0} (G : X → Y → Type 0) (xs : List X) (i : ℕ) (d : X)
    (old mid new : List Y) → i < length xs → Grows (Given G (take i xs)) old mid
    → Grows (G (get_or xs i d)) mid new → Grows (Given G (take (i + 1) xs)) old new
grows_more {X} {Y} G xs i d old mid new lt before step =
    subst (λ (l : List X). Grows (Given G l) old new) (sym (take_more xs i d lt))
    (grows_as (λ y. Given G (take i xs) y ⊎ G (get_or xs i d) y)
    (Given G (take i xs ++ get_or xs i d ∷ [])) old new
    (λ y. ((given_push G (take i xs) (get_or xs i d) y).1, (given_push G (take i xs) (get_or xs i d) y).0))
    (grows_then (Given G (take i xs)) (G (get_or xs i d)) old mid new before step))

pub grows_all : {X Y : Type 0} (G : X → Y → Type 0) (xs : List X) (n : ℕ) (old new : List Y)
    → length xs ≤ n → Grows (Given G (take n xs)) old new → Grows (Given G xs) old new
grows_all {X} G xs n old new le grows =
    subst (λ (l : List X). Grows (Given G l) old new) (take_all n xs le) grows

-- what is made from nothing has just what is new
pub from_nothing : {X : Type 0} (New : X → Type 0) (none xs : List X) → none ≡ []
    → Grows New none xs → (x : X) → Contains xs x ↔ New x
from_nothing {X} New none xs e grows x = (to, λ n. (grows.exact x).1 (inr n))
  where
    to : Contains xs x → New x
    to h =
        by_cases
        (λ there. absurd (nothing_there x (subst (λ (l : List X). Contains l x) e there))) (λ n. n)
        ((grows.exact x).0 h)
