-- Elements that are changed or removed, seen through a function, at any index.
use Rattle.std.proofs.Common.{◌≡◌, ℕ, zero, suc, ◌<◌, ◌≤◌, List, [], ◌∷◌, length, map, get_or, take, drop, Option, ◌+◌, ◌++◌, add-one, subst, refl, sym, ap, ◌∙◌, arith}
use Rattle.std.proofs.Math.ListN.{set}
use Rattle.outcome_states.specs.declared.answer.Outcome.{Outcome}
use Rattle.bench_texts.specs.BenchTexts.{changed_at, put_at}
use Rattle.board.specs.Contents.{RowContent}

pub map-set : {A B : Type 0} (f : A → B) (v : B) → (xs : List A) (i : ℕ) (y : A) → i < length xs
    → f y ≡ v → map f (set xs i y) ≡ changed_at i (λ _. v) (map f xs)
map-set f v [] i y lt e = absurd (omega arith)
map-set f v (x ∷ xs) zero y lt e = ap (λ z. z ∷ map f xs) e
map-set f v (x ∷ xs) (suc i) y lt e = ap (λ r. f x ∷ r) (map-set f v xs i y (omega arith) e)

pub changed-past : {A : Type 0} (f : A → A) (xs : List A) (i : ℕ) → length xs ≤ i
    → changed_at i f xs ≡ xs
changed-past f [] i le = refl
changed-past f (x ∷ xs) zero le = absurd (omega arith)
changed-past f (x ∷ xs) (suc i) le = ap (λ r. x ∷ r) (changed-past f xs i (omega arith))

pub changed-by : {A : Type 0} (f : A → A) (xs : List A) (i : ℕ) (x y : A) → i < length xs
    → x ≡ get_or xs i x → y ≡ f x → set xs i y ≡ changed_at i f xs
changed-by f [] i x y lt e h = absurd (omega arith)
changed-by f (z ∷ zs) zero x y lt e h = ap (λ w. w ∷ zs) (h ∙ ap f e)
changed-by f (z ∷ zs) (suc i) x y lt e h = ap (λ r. z ∷ r) (changed-by f zs i x y (omega arith) e h)

-- a row of this name with these cells
abbrev pub row_of : List ℕ → List (Option Outcome) → RowContent
row_of name cells = record { name = name; cells = cells }

mapped-set : {A : Type 0} (f : A → A) (xs : List A) (i : ℕ) (x y : A) → i < length xs
    → x ≡ get_or (map f (take i xs) ++ drop i xs) i x → y ≡ f x
    → set (map f (take i xs) ++ drop i xs) i y ≡ map f (take (suc i) xs) ++ drop (suc i) xs
mapped-set f [] i x y lt e h = absurd (omega arith)
mapped-set f (z ∷ zs) zero x y lt e h = ap (λ w. w ∷ zs) (h ∙ ap f e)
mapped-set f (z ∷ zs) (suc i) x y lt e h =
    ap (λ r. f z ∷ r) (mapped-set f zs i x y (omega arith) e h)

-- one element more is changed
pub mapped-more : {A : Type 0} (f : A → A) (xs ys : List A) (i : ℕ) (x y : A) → i < length xs
    → ys ≡ map f (take i xs) ++ drop i xs → x ≡ get_or ys i x → y ≡ f x
    → set ys i y ≡ map f (take (i + 1) xs) ++ drop (i + 1) xs
mapped-more f xs ys i x y lt e at h =
    let made = mapped-set f xs i x y lt (subst (λ zs. x ≡ get_or zs i x) e at) h in
    rw add-one (subst (λ zs. set zs i y ≡ map f (take (suc i) xs) ++ drop (suc i) xs) (sym e) made)

pub map-kept : {A B : Type 0} (f : A → B) (g : A → A) → ((x : A) → f (g x) ≡ f x)
    → (xs : List A) (i : ℕ) → map f (changed_at i g xs) ≡ map f xs
map-kept f g same [] i = refl
map-kept f g same (x ∷ xs) zero = ap (λ z. z ∷ map f xs) (same x)
map-kept f g same (x ∷ xs) (suc i) = ap (λ r. f x ∷ r) (map-kept f g same xs i)

pub map-changed-put : {A B : Type 0} (f : A → B) (g : A → A) (v : B) → ((x : A) → f (g x) ≡ v)
    → (xs : List A) (i : ℕ) → i < length xs → map f (changed_at i g xs) ≡ put_at i v (map f xs)
map-changed-put f g v is [] i lt = absurd (omega arith)
map-changed-put f g v is (x ∷ xs) zero lt = ap (λ z. z ∷ map f xs) (is x)
map-changed-put f g v is (x ∷ xs) (suc i) lt =
    ap (λ r. f x ∷ r) (map-changed-put f g v is xs i (omega arith))

pub map-placed : {A B : Type 0} (f : A → B) (y : A) → (xs : List A) (i : ℕ)
    → map f (put_at i y xs) ≡ put_at i (f y) (map f xs)
map-placed f y [] zero = refl
map-placed f y [] (suc i) = refl
map-placed f y (x ∷ xs) zero = refl
map-placed f y (x ∷ xs) (suc i) = ap (λ r. f x ∷ r) (map-placed f y xs i)
