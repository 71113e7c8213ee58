-- The filter of a product is the product of the filters.
use Rattle.std.proofs.Common.{◌↔◌, List, [], ◌∷◌, map}
use Rattle.std.specs.List.{flat_map, AllZip}
use Rattle.store_orders.proofs.Filters.{IsFiltered-append}
use Rattle.store_orders.specs.Lists.{IsFiltered, none, kept, left}
use Rattle.candidates.specs.Executions.{product}

-- one of the first list with each of the second
filter_row : {X Y Z : Type 0} (P : X → Type 0) (Q : Y → Type 0) (R : Z → Type 0) (f : X → Y → Z)
    → ((x : X) (y : Y) → R (f x y) ↔ (P x × Q y)) → (x : X) → P x → (ys vs : List Y)
    → IsFiltered Q ys vs → IsFiltered R (map (f x) ys) (map (f x) vs)
filter_row P Q R f both x p [] vs none = none
filter_row P Q R f both x p (y ∷ ys) vs (kept {ys = ws} q h) =
    kept ((both x y).1 (p, q)) (filter_row P Q R f both x p ys ws h)
filter_row P Q R f both x p (y ∷ ys) vs (left fails h) =
    left (λ r. fails ((both x y).0 r).1) (filter_row P Q R f both x p ys vs h)

empty_row : {X Y Z : Type 0} (P : X → Type 0) (Q : Y → Type 0) (R : Z → Type 0) (f : X → Y → Z)
    → ((x : X) (y : Y) → R (f x y) ↔ (P x × Q y)) → (x : X) → (P x → ⊥) → (ys : List Y)
    → IsFiltered R (map (f x) ys) []
empty_row P Q R f both x fails [] = none
empty_row P Q R f both x fails (y ∷ ys) =
    left (λ r. fails ((both x y).0 r).0) (empty_row P Q R f both x fails ys)

-- a fact of pairs that is one of each member
pub filter_of_product : {X Y Z : Type 0} (P : X → Type 0) (Q : Y → Type 0) (R : Z → Type 0)
    (f : X → Y → Z) → ((x : X) (y : Y) → R (f x y) ↔ (P x × Q y))
    → (xs us : List X) (ys vs : List Y) → IsFiltered P xs us → IsFiltered Q ys vs
    → IsFiltered R (flat_map (λ x. map (f x) ys) xs) (flat_map (λ x. map (f x) vs) us)
filter_of_product P Q R f both [] us ys vs none g = none
filter_of_product P Q R f both (x ∷ xs) us ys vs (kept {ys = ws} p h) g =
    IsFiltered-append R (map (f x) ys) (map (f x) vs) (flat_map (λ x. map (f x) ys) xs)
    (flat_map (λ x. map (f x) vs) ws) (filter_row P Q R f both x p ys vs g)
    (filter_of_product P Q R f both xs ws ys vs h g)
filter_of_product P Q R f both (x ∷ xs) us ys vs (left fails h) g =
    IsFiltered-append R (map (f x) ys) [] (flat_map (λ x. map (f x) ys) xs)
    (flat_map (λ x. map (f x) vs) us) (empty_row P Q R f both x fails ys)
    (filter_of_product P Q R f both xs us ys vs h g)

-- each list is filtered by the fact of its place
abbrev pub FilteredEach : {K X : Type 0} → (K → X → Type 0) → List K → List (List X) → List (List X)
    → Type 0
FilteredEach P [] [] [] = Unit {0}
FilteredEach P (k ∷ ks) (xs ∷ xss) (us ∷ uss) = IsFiltered (P k) xs us × FilteredEach P ks xss uss
FilteredEach P _ _ _ = ⊥

-- the same of many lists: what holds of each member by its place
pub filter_of_products : {K X : Type 0} (P : K → X → Type 0) (ks : List K) (xss uss : List (List X))
    → FilteredEach P ks xss uss → IsFiltered (AllZip P ks) (product xss) (product uss)
filter_of_products P [] [] [] h = kept {x = []} tt none
filter_of_products P [] [] (us ∷ uss) h = absurd h
filter_of_products P [] (xs ∷ xss) uss h = absurd h
filter_of_products P (k ∷ ks) [] uss h = absurd h
filter_of_products P (k ∷ ks) (xs ∷ xss) [] h = absurd h
filter_of_products {K} {X} P (k ∷ ks) (xs ∷ xss) (us ∷ uss) h =
    filter_of_product (P k) (AllZip P ks) (AllZip P (k ∷ ks)) (λ (x : X) (rest : List X). x ∷ rest)
    (λ x rest. ((λ r. (r.0, r.1)), (λ r. (r.0, r.1)))) xs us (product xss) (product uss) h.0
    (filter_of_products P ks xss uss h.1)

-- a filter by one fact and then by another is one by both
pub filter_twice : {X : Type 0} (P Q : X → Type 0) (xs ys zs : List X) → IsFiltered P xs ys
    → IsFiltered Q ys zs → IsFiltered (λ x. P x × Q x) xs zs
filter_twice P Q [] ys zs none none = none
filter_twice P Q (x ∷ xs) ys zs (kept {ys = us} p h) (kept {ys = ws} q g) =
    kept (p, q) (filter_twice P Q xs us ws h g)
filter_twice P Q (x ∷ xs) ys zs (kept {ys = us} p h) (left fails g) =
    left (λ r. fails r.1) (filter_twice P Q xs us zs h g)
filter_twice P Q (x ∷ xs) ys zs (left fails h) g =
    left (λ r. fails r.0) (filter_twice P Q xs ys zs h g)

-- a filter by an equivalent fact
pub filter_as : {X : Type 0} (P Q : X → Type 0) → ((x : X) → P x ↔ Q x) → (xs ys : List X)
    → IsFiltered P xs ys → IsFiltered Q xs ys
filter_as P Q same [] ys none = none
filter_as P Q same (x ∷ xs) ys (kept {ys = us} p h) =
    kept ((same x).0 p) (filter_as P Q same xs us h)
filter_as P Q same (x ∷ xs) ys (left fails h) =
    left (λ q. fails ((same x).1 q)) (filter_as P Q same xs ys h)
