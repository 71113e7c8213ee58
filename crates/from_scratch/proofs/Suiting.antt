-- Lists of cells that grow by one more.
use Rattle.std.proofs.Common.{ℕ, ◌≡◌, ◌<◌, ◌+◌, ◌∙◌, ◌++◌, List, [], ◌∷◌, length, take, get_or, zero, suc, ap, sym, subst, refl, arith}
use Rattle.std.specs.List.{AllZip}
use Rattle.std.proofs.lemmas.List.{take_more}
use Rattle.binding_graph.proofs.Labels.{zip_push}

-- one more
pub each_more : {X Y : Type 0} (R : X → Y → Type 0) (xs : List X) (i : ℕ) (x : X) (ys zs : List Y)
    (y : Y) → i < length xs → x ≡ get_or xs i x → zs ≡ ys ++ y ∷ [] → R x y
    → AllZip R (take i xs) ys → AllZip R (take (i + 1) xs) zs
each_more {X = X} {Y = Y} R xs i x ys zs y lt is e r h =
    subst (λ (l : List X). AllZip R l zs) (sym (take_more xs i x lt
    ∙ ap (λ (q : X). take i xs ++ q ∷ []) (sym is)))
    (subst (λ (l : List Y). AllZip R (take i xs ++ x ∷ []) l) (sym e)
    (zip_push R (take i xs) ys x y h r))

-- what stands beside an element of the second list
beside : {X Y : Type 0} (R : X → Y → Type 0) (xs : List X) (ys : List Y) (i : ℕ) (y : Y)
    → AllZip R xs ys → i < length ys → y ≡ get_or ys i y → (x : X) × (x ≡ get_or xs i x) × R x y
beside R [] [] i y h lt is = absurd (omega (arith, lt))
beside R [] (b ∷ ys) i y h lt is = absurd h
beside R (a ∷ xs) [] i y h lt is = absurd h
beside R (a ∷ xs) (b ∷ ys) zero y h lt is = (a, refl, subst (R a) (sym is) h.0)
beside R (a ∷ xs) (b ∷ ys) (suc i) y h lt is = beside R xs ys i y h.1 (omega (arith, lt)) is

pub long : {X Y : Type 0} (R : X → Y → Type 0) (xs : List X) (ys : List Y) → AllZip R xs ys
    → length xs ≡ length ys
long R [] [] h = refl
long R [] (b ∷ ys) h = absurd h
long R (a ∷ xs) [] h = absurd h
long R (a ∷ xs) (b ∷ ys) h = let e : length xs ≡ length ys = long R xs ys h.1 in omega (arith, e)

-- one more, for what stands beside it
pub beside_more : {X Y Z : Type 0} (R : X → Y → Type 0) (S : X → Z → Type 0) (xs : List X)
    (ys : List Y) (i : ℕ) (y : Y) (zs ws : List Z) (z : Z) → AllZip R xs ys → i < length ys
    → y ≡ get_or ys i y → ws ≡ zs ++ z ∷ [] → ((x : X) → R x y → S x z) → AllZip S (take i xs) zs
    → AllZip S (take (i + 1) xs) ws
beside_more R S xs ys i y zs ws z all lt is e step h =
    let (x, at, r) = beside R xs ys i y all lt is in
    let same : length xs ≡ length ys = long R xs ys all in
    each_more S xs i x zs ws z (omega (arith, lt, same)) at e (step x r) h
