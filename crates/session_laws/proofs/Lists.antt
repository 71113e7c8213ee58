-- Lists that end in an element, and lists whose images are equal.
use Rattle.std.proofs.Common.{◌≡◌, List, [], ◌∷◌, ◌++◌, map, refl, sym, ap, ◌∙◌}
use Rattle.std.proofs.lemmas.List.{map-append}
use Rattle.std.specs.List.{AllZip}

-- ---- lists that end in an element

-- the elements before the last, and the last
pub record AreSplit {A : Type 0} (prefix other : List A) (c d : A) : Type 0 where
  pub prefixes : prefix ≡ other
  pub ends : c ≡ d

pub not_empty : {A : Type 0} (cs : List A) (c : A) → [] ≡ (cs ++ c ∷ []) → ⊥
not_empty [] c e = absurd cc
not_empty (d ∷ cs) c e = absurd cc

pub last_one : {A : Type 0} (prefix other : List A) (c d : A)
    → (prefix ++ c ∷ []) ≡ (other ++ d ∷ []) → AreSplit prefix other c d
last_one [] [] c d e = record { prefixes = refl; ends = cc }
last_one [] (x ∷ other) c d e =
    absurd (not_empty other d (let h : [] ≡ (other ++ d ∷ []) = cc in h))
last_one (x ∷ prefix) [] c d e =
    absurd (not_empty prefix c (let h : [] ≡ (prefix ++ c ∷ []) = cc in h))
last_one (x ∷ prefix) (y ∷ other) c d e =
    let heads : x ≡ y = cc in
    let rest : (prefix ++ c ∷ []) ≡ (other ++ d ∷ []) = cc in
    let r = last_one prefix other c d rest in
    record { prefixes = (λ i. heads i ∷ r.prefixes i); ends = r.ends }

-- ---- lists that have equal images

pub none_ends : {A B : Type 0} (f : A → B) (xs : List A) (x : A) → [] ≡ map f (xs ++ x ∷ []) → ⊥
none_ends f xs x e = not_empty (map f xs) (f x) (e ∙ map-append f xs (x ∷ []))

pub split_images : {A B : Type 0} (f : A → B) (xs ys : List A) (x y : A)
    → map f (xs ++ x ∷ []) ≡ map f (ys ++ y ∷ []) → AreSplit (map f xs) (map f ys) (f x) (f y)
split_images f xs ys x y e =
    last_one (map f xs) (map f ys) (f x) (f y)
    (sym (map-append f xs (x ∷ [])) ∙ e ∙ map-append f ys (y ∷ []))

pub longer_images : {A B : Type 0} (f : A → B) (xs ys more new : List A) (x y : A)
    → map f xs ≡ map f ys → f x ≡ f y → more ≡ xs ++ x ∷ [] → new ≡ ys ++ y ∷ []
    → map f more ≡ map f new
longer_images f xs ys more new x y prefixes ends h g =
    ap (map f) h ∙ map-append f xs (x ∷ []) ∙ (λ i. prefixes i ++ ends i ∷ [])
    ∙ sym (map-append f ys (y ∷ [])) ∙ sym (ap (map f) g)

-- what elements of equal images determine is one
pub one_by_images : {A B C : Type 0} (f : A → C) (R S : A → B → Type 0)
    → ((x y : A) (u v : B) → f x ≡ f y → R x u → S y v → u ≡ v)
    → (xs ys : List A) (us vs : List B) → map f xs ≡ map f ys → AllZip R xs us → AllZip S ys vs
    → us ≡ vs
one_by_images f R S one [] [] [] [] e h g = refl
one_by_images f R S one [] [] [] (v ∷ vs) e h g = absurd g
one_by_images f R S one [] [] (u ∷ us) vs e h g = absurd h
one_by_images f R S one [] (y ∷ ys) us vs e h g = absurd cc
one_by_images f R S one (x ∷ xs) [] us vs e h g = absurd cc
one_by_images f R S one (x ∷ xs) (y ∷ ys) [] vs e h g = absurd h
one_by_images f R S one (x ∷ xs) (y ∷ ys) (u ∷ us) [] e h g = absurd g
one_by_images f R S one (x ∷ xs) (y ∷ ys) (u ∷ us) (v ∷ vs) e h g =
    let heads : f x ≡ f y = cc in
    let rest : map f xs ≡ map f ys = cc in
    let first = one x y u v heads h.0 g.0 in
    let others = one_by_images f R S one xs ys us vs rest h.1 g.1 in
    λ k. first k ∷ others k
