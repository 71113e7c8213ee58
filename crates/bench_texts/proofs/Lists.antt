-- Lists with one element changed, seen through a function.
use Rattle.std.proofs.Common.{◌≡◌, ℕ, zero, suc, ◌+◌, ◌<◌, ◌≤◌, List, [], ◌∷◌, ◌++◌, ◌-◌, max, length, map, drop, get_or, refl, ap, sym, subst, ◌∙◌, arith, Bool}
use Rattle.std.proofs.Math.ListN.{set}
use Rattle.std.specs.List.{remove, HoldsAt, position_or_len}
use Rattle.bench_texts.specs.BenchTexts.{put_at, changed_at}

pub map-put_at : {A B : Type 0} (f : A → B) → (xs : List A) (i : ℕ) (y : A) → i < length xs
    → map f (set xs i y) ≡ put_at i (f y) (map f xs)
map-put_at f [] i y b = grind arith
map-put_at f (x ∷ xs) zero y b = refl
map-put_at f (x ∷ xs) (suc i) y b =
    let l : i < length xs = omega arith in ap (λ r. f x ∷ r) (map-put_at f xs i y l)

pub map-put_at-push : {A B : Type 0} (f : A → B) → (xs : List A) (i : ℕ) (y : A) → i ≡ length xs
    → map f (xs ++ y ∷ []) ≡ put_at i (f y) (map f xs)
map-put_at-push f [] zero y e = refl
map-put_at-push f [] (suc i) y e = grind arith
map-put_at-push f (x ∷ xs) zero y e = grind arith
map-put_at-push f (x ∷ xs) (suc i) y e =
    let l : i ≡ length xs = omega arith in ap (λ r. f x ∷ r) (map-put_at-push f xs i y l)

pub set-put_at : {A : Type 0} (xs : List A) (i : ℕ) (y : A) → i < length xs
    → set xs i y ≡ put_at i y xs
set-put_at [] i y b = grind arith
set-put_at (x ∷ xs) zero y b = refl
set-put_at (x ∷ xs) (suc i) y b =
    let l : i < length xs = omega arith in ap (λ r. x ∷ r) (set-put_at xs i y l)

pub push-put_at : {A : Type 0} (xs : List A) (i : ℕ) (y : A) → i ≡ length xs
    → xs ++ y ∷ [] ≡ put_at i y xs
push-put_at [] zero y e = refl
push-put_at [] (suc i) y e = grind arith
push-put_at (x ∷ xs) zero y e = grind arith
push-put_at (x ∷ xs) (suc i) y e =
    let l : i ≡ length xs = omega arith in ap (λ r. x ∷ r) (push-put_at xs i y l)

pub map-remove : {A B : Type 0} (f : A → B) → (xs : List A) (i : ℕ)
    → map f (remove xs i) ≡ remove (map f xs) i
map-remove f [] zero = refl
map-remove f [] (suc i) = refl
map-remove f (x ∷ xs) zero = refl
map-remove f (x ∷ xs) (suc i) = ap (λ r. f x ∷ r) (map-remove f xs i)

pub map-changed_at : {A B : Type 0} (f : A → B) (g : B → B) → (xs : List A) (i : ℕ) (y d : A)
    → i < length xs → f y ≡ g (f (get_or xs i d)) → map f (set xs i y) ≡ changed_at i g (map f xs)
map-changed_at f g [] i y d b e = grind arith
map-changed_at f g (x ∷ xs) zero y d b e = ap (λ z. z ∷ map f xs) e
map-changed_at f g (x ∷ xs) (suc i) y d b e =
    let l : i < length xs = omega arith in ap (λ r. f x ∷ r) (map-changed_at f g xs i y d l e)

pub get_or-map-held : {A B : Type 0} (f : A → B) (P : B → Type 0) → (xs : List A) (i : ℕ) (d : A)
    → i < length xs → HoldsAt P (map f xs) i → P (f (get_or xs i d))
get_or-map-held f P [] i d b h = grind arith
get_or-map-held f P (x ∷ xs) zero d b h = h (f x)
get_or-map-held f P (x ∷ xs) (suc i) d b h =
    let l : i < length xs = omega arith in get_or-map-held f P xs i d l h

pub length-changed_at : {A : Type 0} (f : A → A) → (xs : List A) (i : ℕ)
    → length (changed_at i f xs) ≡ length xs
length-changed_at f [] i = refl
length-changed_at f (x ∷ xs) zero = refl
length-changed_at f (x ∷ xs) (suc i) = ap suc (length-changed_at f xs i)

-- what a function gives at the index of an element
pub index-map : {A B C : Type 0} (f : A → B) (g : B → C) → (xs : List A) (i : ℕ) (x : A) (d : C)
    → i < length xs → x ≡ get_or xs i x → get_or (map g (map f xs)) i d ≡ g (f x)
index-map f g [] i x d b e = grind arith
index-map f g (y ∷ ys) zero x d b e = ap (λ z. g (f z)) (sym e)
index-map f g (y ∷ ys) (suc i) x d b e =
    let l : i < length ys = omega arith in index-map f g ys i x d l e

pub held_count : {B : Type 0} (g : B → ℕ) → (xs : List B) (i n : ℕ) → n < get_or (map g xs) i 0
    → HoldsAt (λ x. n < g x) xs i
held_count g [] i n h = grind arith
held_count g (x ∷ xs) zero n h = λ d. h
held_count g (x ∷ xs) (suc i) n h = held_count g xs i n h

pub length-put_at : {A : Type 0} → (xs : List A) (i : ℕ) (y : A) → i ≤ length xs
    → length (put_at i y xs) ≡ max (length xs) (i + 1)
length-put_at [] zero y b = refl
length-put_at [] (suc i) y b = grind arith
length-put_at (x ∷ xs) zero y b = omega arith
length-put_at (x ∷ xs) (suc i) y b =
    let l : i ≤ length xs = omega arith in let r = length-put_at xs i y l in omega arith

pub length-remove : {A : Type 0} → (xs : List A) (i : ℕ) → i < length xs
    → length (remove xs i) ≡ length xs - 1
length-remove [] i b = grind arith
length-remove (x ∷ xs) zero b = omega arith
length-remove (x ∷ xs) (suc i) b =
    let l : i < length xs = omega arith in let r = length-remove xs i l in omega arith

pub get_or-map : {A B : Type 0} (f : A → B) → (xs : List A) (i : ℕ) (x : A) → i < length xs
    → x ≡ get_or xs i x → f x ≡ get_or (map f xs) i (f x)
get_or-map f [] i x b e = grind arith
get_or-map f (y ∷ ys) zero x b e = ap f e
get_or-map f (y ∷ ys) (suc i) x b e = let l : i < length ys = omega arith in get_or-map f ys i x l e

pub held_here : {A B : Type 0} (f : A → B) (P : B → Type 0) → (xs : List A) (i : ℕ) (x : A)
    → i < length xs → x ≡ get_or xs i x → P (f x) → HoldsAt P (map f xs) i
held_here f P [] i x b e h = grind arith
held_here f P (y ∷ ys) zero x b e h = λ d. subst (λ z. P (f z)) e h
held_here f P (y ∷ ys) (suc i) x b e h =
    let l : i < length ys = omega arith in held_here f P ys i x l e h

pub ruleset list_lemmas = (
  map-put_at,
  map-put_at-push,
  set-put_at,
  push-put_at,
  map-remove,
  map-changed_at,
  length-changed_at,
)

-- what the index of an element says of the element
pub held_at : {A B : Type 0} (f : A → B) (P : B → Type 0) → (xs : List A) (i : ℕ) (x : A)
    → i < length xs → x ≡ get_or xs i x → HoldsAt P (map f xs) i → P (f x)
held_at f P xs i x b e h = subst (λ y. P (f y)) (sym e) (get_or-map-held f P xs i x b h)

-- the search has come so far, and not found one
abbrev pub IsSearched : {A B : Type 0} (p : B → Bool) (f : A → B) → List A → ℕ → Type 0
IsSearched p f xs i = position_or_len p (map f xs) ≡ i + position_or_len p (map f (drop i xs))

-- an element in the place of another is that other one changed
pub put_at-changed : {A B : Type 0} (f : A → B) (g : B → B) → (xs : List A) (i : ℕ) (x : A) (y : B)
    → i < length xs → x ≡ get_or xs i x → y ≡ g (f x)
    → put_at i y (map f xs) ≡ changed_at i g (map f xs)
put_at-changed f g [] i x y b e h = grind arith
put_at-changed f g (z ∷ zs) zero x y b e h = ap (λ r. r ∷ map f zs) (h ∙ ap (λ w. g (f w)) e)
put_at-changed f g (z ∷ zs) (suc i) x y b e h =
    let l : i < length zs = omega arith in ap (λ r. f z ∷ r) (put_at-changed f g zs i x y l e h)
