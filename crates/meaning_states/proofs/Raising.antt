-- A flag is raised where it holds on a candidate that is kept.
use Rattle.std.proofs.Common.{ℕ, zero, suc, ◌≡◌, ◌<◌, ◌+◌, ◌↔◌, ◌||◌, Bool, true, false, cond, IsTrue, List, [], ◌∷◌, length, filter, refl, sym, ap, subst, ◌∙◌, arith, true≢false}
use Rattle.std.specs.List.{list_any, enumerate_from}
use Rattle.outcome_states.specs.Kept.{holds_at, is_kept}

-- a candidate that is kept, on which a check with these answers holds
pub record IsOnSome (checks : List (List Bool)) (answers : List Bool) (from count : ℕ)
    : Type 0 where
  pub index : ℕ
  pub place : ℕ
  pub at : index ≡ from + place
  pub below : place < count
  pub keeps : is_kept checks index ≡ true
  pub holds : holds_at index answers ≡ true

later : (checks : List (List Bool)) (answers : List Bool) (n count : ℕ)
    → IsOnSome checks answers (n + 1) count
    → IsOnSome checks answers n (suc count)
later checks answers n count h = record {
  index = h.index;
  place = suc h.place;
  at = let e : h.index ≡ (n + 1) + h.place = h.at in omega (arith, e);
  below = let lt : h.place < count = h.below in omega (arith, lt);
  keeps = h.keeps;
  holds = h.holds;
}

or_right : (a b : Bool) → b ≡ true → (a || b) ≡ true
or_right true b e = refl
or_right false b e = e

module _ {X : Type 0} (checks : List (List Bool)) (answers : List Bool) where
  abbrev any_in : List (ℕ × X) → Bool
  any_in xs = list_any (λ x. holds_at x.0 answers) xs

  abbrev kept_from : ℕ → List X → List (ℕ × X)
  kept_from n xs = filter (λ x. is_kept checks x.0) (enumerate_from n xs)

  pub on_some : (n : ℕ) (xs : List X) → any_in (kept_from n xs) ≡ true
      → IsOnSome checks answers n (length xs)
  on_some n [] h = absurd (true≢false (sym h))
  on_some n (x ∷ xs) h =
      at (is_kept checks n) refl (holds_at n answers) refl (λ k. on_some (n + 1) xs k) h
    where
      here : is_kept checks n ≡ true → holds_at n answers ≡ true
          → IsOnSome checks answers n (suc (length xs))
      here keeps holds = record {
        index = n;
        place = 0;
        at = omega arith;
        below = omega arith;
        keeps = keeps;
        holds = holds;
      }

      at : (b : Bool) → is_kept checks n ≡ b → (c : Bool) → holds_at n answers ≡ c
          → (any_in (kept_from (n + 1) xs) ≡ true → IsOnSome checks answers (n + 1) (length xs))
          → any_in (cond (is_kept checks n) ((n, x) ∷ kept_from (n + 1) xs) (kept_from (n + 1) xs))
          ≡ true
          → IsOnSome checks answers n (suc (length xs))
      at false e c g rest k =
          later checks answers n (length xs)
          (rest
          (subst
          (λ (b : Bool). any_in (cond b ((n, x) ∷ kept_from (n + 1) xs) (kept_from (n + 1) xs)) ≡ true)
          e k))
      at true e true g rest k = here e g
      at true e false g rest k =
          later checks answers n (length xs)
          (rest
          (subst (λ (c : Bool). (c || any_in (kept_from (n + 1) xs)) ≡ true) g
          (subst
          (λ (b : Bool). any_in (cond b ((n, x) ∷ kept_from (n + 1) xs) (kept_from (n + 1) xs)) ≡ true)
          e k)))

  pub some_on : (n : ℕ) (xs : List X) (index place : ℕ) → index ≡ n + place → place < length xs
      → is_kept checks index ≡ true → holds_at index answers ≡ true
      → any_in (kept_from n xs) ≡ true
  some_on n [] index place at lt keeps holds = absurd (omega (arith, lt))
  some_on n (x ∷ xs) index zero at lt keeps holds =
      let is : index ≡ n = omega (arith, at) in
      subst
      (λ (b : Bool). any_in (cond b ((n, x) ∷ kept_from (n + 1) xs) (kept_from (n + 1) xs)) ≡ true)
      (sym (subst (λ (k : ℕ). is_kept checks k ≡ true) is keeps))
      (ap (λ (c : Bool). c || any_in (kept_from (n + 1) xs))
      (subst (λ (k : ℕ). holds_at k answers ≡ true) is holds))
  some_on n (x ∷ xs) index (suc place) at lt keeps holds =
      behind (is_kept checks n)
      (some_on (n + 1) xs index place (omega (arith, at)) (omega (arith, lt)) keeps holds)
    where
      behind : (b : Bool) → any_in (kept_from (n + 1) xs) ≡ true
          → any_in (cond b ((n, x) ∷ kept_from (n + 1) xs) (kept_from (n + 1) xs)) ≡ true
      behind true h = or_right (holds_at n answers) (any_in (kept_from (n + 1) xs)) h
      behind false h = h
