-- Two lists with the same names have the same index of each name.
use Rattle.std.proofs.Common.{◌≡◌, ℕ, zero, suc, ◌+◌, ◌<◌, ◌≤◌, List, [], ◌∷◌, length, map, Some, None, not, cond, refl, sym, ap, ◌∙◌, arith}
use Rattle.std.specs.Prelude.{slice_get, bytes_eq, option_map}
use Rattle.std.specs.List.{position_or_len}
use Rattle.std.proofs.lemmas.Option.{none-some}

abbrev pub found : {A : Type 0} → (A → List ℕ) → List ℕ → List A → ℕ
found name wanted xs = position_or_len (λ x. bytes_eq (name x) wanted) xs

first_alike : (a b : List ℕ) (us vs : List (List ℕ)) → a ∷ us ≡ b ∷ vs → a ≡ b
first_alike a b us vs e = cc

rest_alike : (a b : List ℕ) (us vs : List (List ℕ)) → a ∷ us ≡ b ∷ vs → us ≡ vs
rest_alike a b us vs e = cc

module _ {A B : Type 0} (f : A → List ℕ) (g : B → List ℕ) where
  pub found_alike : (wanted : List ℕ) (xs : List A) (ys : List B) → map f xs ≡ map g ys
      → found f wanted xs ≡ found g wanted ys
  found_alike wanted [] [] e = refl
  found_alike wanted [] (y ∷ ys) e = cc
  found_alike wanted (x ∷ xs) [] e = cc
  found_alike wanted (x ∷ xs) (y ∷ ys) e =
      let first = first_alike (f x) (g y) (map f xs) (map g ys) e in
      let rest = rest_alike (f x) (g y) (map f xs) (map g ys) e in
      ap (λ (n : List ℕ). cond (not (bytes_eq n wanted)) (1 + found f wanted xs) 0) first
      ∙ ap (λ (k : ℕ). cond (not (bytes_eq (g y) wanted)) (1 + k) 0) (found_alike wanted xs ys rest)

  pub none_alike : (xs : List A) (ys : List B) (i : ℕ) → map f xs ≡ map g ys → slice_get xs i ≡ None
      → slice_get ys i ≡ None
  none_alike [] [] i e h = refl
  none_alike [] (y ∷ ys) i e h = cc
  none_alike (x ∷ xs) [] i e h = refl
  none_alike (x ∷ xs) (y ∷ ys) zero e h = absurd (none-some x (sym h))
  none_alike (x ∷ xs) (y ∷ ys) (suc i) e h =
      none_alike xs ys i (rest_alike (f x) (g y) (map f xs) (map g ys) e) h

  pub there_alike : (xs : List A) (ys : List B) (i : ℕ) (x : A) → map f xs ≡ map g ys
      → slice_get xs i ≡ Some x → (y : B) × (slice_get ys i ≡ Some y)
  there_alike [] ys i x e h = absurd (none-some x h)
  there_alike (a ∷ xs) [] i x e h = cc
  there_alike (a ∷ xs) (y ∷ ys) zero x e h = (y, refl)
  there_alike (a ∷ xs) (y ∷ ys) (suc i) x e h =
      there_alike xs ys i x (rest_alike (f a) (g y) (map f xs) (map g ys) e) h

  pub same_name : (xs : List A) (ys : List B) (i : ℕ) (x : A) → map f xs ≡ map g ys
      → slice_get xs i ≡ Some x → (y : B) × (slice_get ys i ≡ Some y) × (g y ≡ f x)
  same_name [] ys i x e h = absurd (none-some x h)
  same_name (a ∷ xs) [] i x e h = cc
  same_name (a ∷ xs) (y ∷ ys) zero x e h =
      let same : a ≡ x = (cc) in
      (y, refl, sym (first_alike (f a) (g y) (map f xs) (map g ys) e) ∙ ap f same)
  same_name (a ∷ xs) (y ∷ ys) (suc i) x e h =
      same_name xs ys i x (rest_alike (f a) (g y) (map f xs) (map g ys) e) h

  pub get_alike : (xs : List A) (ys : List B) (i : ℕ) → map f xs ≡ map g ys
      → option_map f (slice_get xs i) ≡ option_map g (slice_get ys i)
  get_alike [] [] i e = refl
  get_alike [] (y ∷ ys) i e = cc
  get_alike (x ∷ xs) [] i e = cc
  get_alike (x ∷ xs) (y ∷ ys) zero e =
      ap (λ (n : List ℕ). Some n) (first_alike (f x) (g y) (map f xs) (map g ys) e)
  get_alike (x ∷ xs) (y ∷ ys) (suc i) e =
      get_alike xs ys i (rest_alike (f x) (g y) (map f xs) (map g ys) e)

-- ---- within a list, or past its end

pub below : {A : Type 0} (xs : List A) (i : ℕ) (x : A) → slice_get xs i ≡ Some x → i < length xs
below [] i x h = absurd (none-some x h)
below (y ∷ xs) zero x h = omega arith
below (y ∷ xs) (suc i) x h = let l = below xs i x h in omega (arith, l)

pub past : {A : Type 0} (xs : List A) (i : ℕ) → slice_get xs i ≡ None → length xs ≤ i
past [] i h = omega arith
past (x ∷ xs) zero h = absurd (none-some x (sym h))
past (x ∷ xs) (suc i) h = let l = past xs i h in omega (arith, l)
