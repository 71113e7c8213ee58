-- Lists whose members correspond one by one.
use Rattle.std.proofs.Common.{ℕ, zero, suc, ◌≡◌, ◌+◌, ◌⊎◌, inl, inr, List, [], ◌∷◌, ◌++◌, length, All, Contains, Some, slice_get, refl, sym, ap, ap₂, subst, ◌∙◌, arith}
use Rattle.std.specs.List.{AllZip}
use Rattle.std.proofs.lemmas.Option.{same_Some, slice_get_within, slice_get-get_or, get_or_from_slice_get}
use Rattle.std.proofs.lemmas.List.Elements.{All-head, All-tail, All-nil, All-cons}

pub member : {X : Type 0} (xs : List X) (k : ℕ) (x : X) → slice_get xs k ≡ Some x → Contains xs x
member xs k x e = (k, slice_get_within xs k x e, get_or_from_slice_get xs k x x e)

pub index_of : {X : Type 0} (xs : List X) (x : X) → Contains xs x
    → (k : ℕ) × (slice_get xs k ≡ Some x)
index_of xs x (k, lt, e) = (k, slice_get-get_or xs k x lt ∙ ap (λ y. Some y) e)

-- the members of two lists that correspond
module _ {X Y : Type 0} (R : X → Y → Type 0) where
  pub at_left : (xs : List X) (ys : List Y) → AllZip R xs ys → (k : ℕ) (x : X)
      → slice_get xs k ≡ Some x → (y : Y) × (slice_get ys k ≡ Some y) × R x y
  at_left [] ys h k x e = absurd cc
  at_left (z ∷ xs) [] h k x e = absurd h
  at_left (z ∷ xs) (y ∷ ys) h zero x e = (y, refl, subst (λ (w : X). R w y) (same_Some _ _ e) h.0)
  at_left (z ∷ xs) (y ∷ ys) h (suc k) x e = at_left xs ys h.1 k x e

  pub at_right : (xs : List X) (ys : List Y) → AllZip R xs ys → (k : ℕ) (y : Y)
      → slice_get ys k ≡ Some y → (x : X) × (slice_get xs k ≡ Some x) × R x y
  at_right xs [] h k y e = absurd cc
  at_right [] (z ∷ ys) h k y e = absurd h
  at_right (x ∷ xs) (z ∷ ys) h zero y e = (x, refl, subst (λ (w : Y). R x w) (same_Some _ _ e) h.0)
  at_right (x ∷ xs) (z ∷ ys) h (suc k) y e = at_right xs ys h.1 k y e

  pub as_long : (xs : List X) (ys : List Y) → AllZip R xs ys → length xs ≡ length ys
  as_long [] [] h = refl
  as_long [] (y ∷ ys) h = absurd h
  as_long (x ∷ xs) [] h = absurd h
  as_long (x ∷ xs) (y ∷ ys) h = ap (λ (n : ℕ). suc n) (as_long xs ys h.1)

  pub left_there : (xs : List X) (ys : List Y) → AllZip R xs ys → (x : X) → Contains xs x
      → (y : Y) × Contains ys y × R x y
  left_there xs ys h x there =
      let at : _ = index_of xs x there in
      let found : _ = at_left xs ys h at.0 x at.1 in
      (found.0, member ys at.0 found.0 found.1, found.2)

  pub right_there : (xs : List X) (ys : List Y) → AllZip R xs ys → (y : Y) → Contains ys y
      → (x : X) × Contains xs x × R x y
  right_there xs ys h y there =
      let at : _ = index_of ys y there in
      let found : _ = at_right xs ys h at.0 y at.1 in
      (found.0, member xs at.0 found.0 found.1, found.2)

  -- a list that corresponds to one that is given
  pub chosen : (P : X → Type 0) → ((x : X) → P x → (y : Y) × R x y) → (xs : List X) → All P xs
      → (ys : List Y) × AllZip R xs ys
  chosen P to [] all = ([], tt)
  chosen P to (x ∷ xs) all =
      let one : _ = to x (All-head P x xs all) in
      let rest : _ = chosen P to xs (All-tail P x xs all) in
      (one.0 ∷ rest.0, (one.1, rest.1))

pub turned : {X Y : Type 0} (R : X → Y → Type 0) (xs : List X) (ys : List Y) → AllZip R xs ys
    → AllZip (λ y x. R x y) ys xs
turned R [] [] h = tt
turned R [] (y ∷ ys) h = absurd h
turned R (x ∷ xs) [] h = absurd h
turned R (x ∷ xs) (y ∷ ys) h = (h.0, turned R xs ys h.1)

-- what holds of each two members holds of each second one
pub each_second : {X Y : Type 0} (R : X → Y → Type 0) (P : Y → Type 0)
    → ((x : X) (y : Y) → R x y → P y) → (xs : List X) (ys : List Y) → AllZip R xs ys → All P ys
each_second R P to [] [] h = All-nil P
each_second R P to [] (y ∷ ys) h = absurd h
each_second R P to (x ∷ xs) [] h = absurd h
each_second R P to (x ∷ xs) (y ∷ ys) h =
    All-cons P y ys (to x y h.0) (each_second R P to xs ys h.1)

-- what holds of members holds of those that correspond
pub carried : {A B C D : Type 0} (R : A → C → Type 0) (S : B → D → Type 0) (P : A → B → Type 0)
    (Q : C → D → Type 0)
    → ((a : A) (b : B) (c : C) (d : D) → R a c → S b d → P a b → Q c d)
    → (ks : List A) (bs : List B) (cs : List C) (ds : List D) → AllZip R ks cs → AllZip S bs ds
    → AllZip P ks bs → AllZip Q cs ds
carried R S P Q to [] [] [] [] r s h = tt
carried R S P Q to [] [] [] (d ∷ ds) r s h = absurd s
carried R S P Q to [] [] (c ∷ cs) ds r s h = absurd r
carried R S P Q to [] (b ∷ bs) cs ds r s h = absurd h
carried R S P Q to (a ∷ ks) [] cs ds r s h = absurd h
carried R S P Q to (a ∷ ks) (b ∷ bs) [] ds r s h = absurd r
carried R S P Q to (a ∷ ks) (b ∷ bs) (c ∷ cs) [] r s h = absurd s
carried R S P Q to (a ∷ ks) (b ∷ bs) (c ∷ cs) (d ∷ ds) r s h =
    (to a b c d r.0 s.0 h.0, carried R S P Q to ks bs cs ds r.1 s.1 h.1)

-- two lists that correspond to one are one
pub one_left : {X Y : Type 0} (R : X → Y → Type 0) → ((x z : X) (y : Y) → R x y → R z y → x ≡ z)
    → (xs zs : List X) (ys : List Y) → AllZip R xs ys → AllZip R zs ys → xs ≡ zs
one_left R one [] [] [] h g = refl
one_left R one [] (z ∷ zs) [] h g = absurd g
one_left R one (x ∷ xs) zs [] h g = absurd h
one_left R one [] zs (y ∷ ys) h g = absurd h
one_left R one (x ∷ xs) [] (y ∷ ys) h g = absurd g
one_left {X} R one (x ∷ xs) (z ∷ zs) (y ∷ ys) h g =
    ap₂ (λ (w : X) (ws : List X). w ∷ ws) (one x z y h.0 g.0) (one_left R one xs zs ys h.1 g.1)

-- what stands at an index of two lists after one another
pub which_part : {X : Type 0} (xs ys : List X) (k : ℕ) (x : X) → slice_get (xs ++ ys) k ≡ Some x
    → (slice_get xs k ≡ Some x) ⊎ ((j : ℕ) × (k ≡ length xs + j) × (slice_get ys j ≡ Some x))
which_part [] ys k x e = inr (k, omega arith, e)
which_part (z ∷ xs) ys zero x e = inl e
which_part (z ∷ xs) ys (suc k) x e = elim (which_part xs ys k x e) [
  | inl there ↦ inl there
  | inr (j, at, there) ↦ inr (j, omega arith, there)
]

-- No member stands at two indexes.
abbrev pub StandsOnce : {X : Type 0} → List X → Type 0
StandsOnce {X} xs =
    (m n : ℕ) (x : X) → slice_get xs m ≡ Some x → slice_get xs n ≡ Some x → m ≡ n

pub none_twice : {X : Type 0} → StandsOnce {X = X} []
none_twice m n x e f = absurd cc

pub one_more_once : {X : Type 0} (x : X) (xs : List X)
    → ((k : ℕ) → slice_get xs k ≡ Some x → ⊥) → StandsOnce xs → StandsOnce (x ∷ xs)
one_more_once x xs other once zero zero y e f = refl
one_more_once {X} x xs other once zero (suc n) y e f =
    absurd (other n (f ∙ sym e))
one_more_once x xs other once (suc m) zero y e f = absurd (other m (e ∙ sym f))
one_more_once x xs other once (suc m) (suc n) y e f = ap (λ (k : ℕ). suc k) (once m n y e f)

pub both_once : {X : Type 0} (xs ys : List X) → StandsOnce xs → StandsOnce ys
    → ((j k : ℕ) (x : X) → slice_get xs j ≡ Some x → slice_get ys k ≡ Some x → ⊥)
    → StandsOnce (xs ++ ys)
both_once xs ys first second other m n x e f = elim (which_part xs ys m x e) [
  | inl there ↦ elim (which_part xs ys n x f) [
    | inl also ↦ first m n x there also
    | inr (j, at, also) ↦ absurd (other m j x there also)
  ]
  | inr (i, at, there) ↦ elim (which_part xs ys n x f) [
    | inl also ↦ absurd (other n i x also there)
    | inr (j, here, also) ↦ let same : i ≡ j = second i j x there also in omega arith
  ]
]
