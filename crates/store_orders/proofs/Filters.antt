-- Laws of filtered lists and of tuples.
use Rattle.std.proofs.Common.{ℕ, ◌≡◌, List, [], ◌∷◌, ◌++◌, map, refl, ap, sym, subst, ◌∙◌, append-nil}
use Rattle.std.specs.List.{flat_map}
use Rattle.std.proofs.lemmas.List.Concat.{flat_map-append}
use Rattle.store_orders.specs.Lists.{tuples, IsFiltered, none, kept, left}

pub IsFiltered-append : {X : Type 0} (P : X → Type 0) (xs ys us vs : List X) → IsFiltered P xs ys
    → IsFiltered P us vs → IsFiltered P (xs ++ us) (ys ++ vs)
IsFiltered-append P [] ys us vs none g = g
IsFiltered-append P (x ∷ xs) ys us vs (kept {ys = zs} p f) g =
    kept p (IsFiltered-append P xs zs us vs f g)
IsFiltered-append P (x ∷ xs) ys us vs (left p f) g = left p (IsFiltered-append P xs ys us vs f g)

-- a stage before another: what fails the first fact gives nothing that has the second
pub IsFiltered-stages : {X Y : Type 0} (Q : X → Type 0) (P : Y → Type 0) (f g : X → List Y)
    → ((x : X) → (Q x → ⊥) → IsFiltered P (f x) []) → ((x : X) → Q x → IsFiltered P (f x) (g x))
    → (xs ys : List X) → IsFiltered Q xs ys → IsFiltered P (flat_map f xs) (flat_map g ys)
IsFiltered-stages Q P f g fails holds [] ys none = none
IsFiltered-stages Q P f g fails holds (x ∷ xs) ys (kept {ys = zs} q t) =
    IsFiltered-append P (f x) (g x) (flat_map f xs) (flat_map g zs) (holds x q)
    (IsFiltered-stages Q P f g fails holds xs zs t)
IsFiltered-stages Q P f g fails holds (x ∷ xs) ys (left q t) =
    IsFiltered-append P (f x) [] (flat_map f xs) (flat_map g ys) (fails x q)
    (IsFiltered-stages Q P f g fails holds xs ys t)

pub none_of_map : {X Y : Type 0} (P : Y → Type 0) (f : X → Y) → ((x : X) → P (f x) → ⊥)
    → (xs : List X) → IsFiltered P (map f xs) []
none_of_map P f no_one [] = none
none_of_map P f no_one (x ∷ xs) = left (no_one x) (none_of_map P f no_one xs)

flat_map-single : (f : ℕ → List ℕ) (xs : List ℕ) → flat_map (λ x. f x ∷ []) xs ≡ map f xs
flat_map-single f [] = refl
flat_map-single f (x ∷ xs) = ap (λ l. f x ∷ l) (flat_map-single f xs)

pub flat_map-flat_map : (f h : ℕ → List (List ℕ)) (g : List ℕ → List (List ℕ))
    → ((x : ℕ) → f x ≡ flat_map g (h x)) → (xs : List ℕ)
    → flat_map f xs ≡ flat_map g (flat_map h xs)
flat_map-flat_map f h g same [] = refl
flat_map-flat_map f h g same (x ∷ xs) =
    rw (flat_map-append g (h x) (flat_map h xs), same x)
    (ap (λ l. flat_map g (h x) ++ l) (flat_map-flat_map f h g same xs))

-- the members kept of two lists, one after the other
pub record Split {X : Type 0} (P : X → Type 0) (xs us zs : List X) : Type 0 where
  pub first : List X
  pub second : List X
  pub whole : zs ≡ first ++ second
  pub of_first : IsFiltered P xs first
  pub of_second : IsFiltered P us second

pub IsFiltered-split : {X : Type 0} (P : X → Type 0) (xs us zs : List X)
    → IsFiltered P (xs ++ us) zs → Split P xs us zs
IsFiltered-split P [] us zs f =
    record { first = []; second = zs; whole = refl; of_first = none; of_second = f }
IsFiltered-split {X} P (x ∷ xs) us zs (kept {ys = ys} p f) =
    let s : Split P xs us ys = IsFiltered-split P xs us ys f in
    record { first = x ∷ s.first; second = s.second; whole = ap (λ (l : List X). x ∷ l) s.whole; of_first = kept p s.of_first; of_second = s.of_second }
IsFiltered-split P (x ∷ xs) us zs (left p f) =
    let s : Split P xs us zs = IsFiltered-split P xs us zs f in
    record { first = s.first; second = s.second; whole = s.whole; of_first = left p s.of_first; of_second = s.of_second }

-- the filtered list is the only one
pub IsFiltered-unique : {X : Type 0} (P : X → Type 0) (xs ys zs : List X) → IsFiltered P xs ys
    → IsFiltered P xs zs → ys ≡ zs
IsFiltered-unique P [] ys zs none none = refl
IsFiltered-unique {X} P (x ∷ xs) ys zs (kept {ys = us} p f) (kept {ys = vs} q g) =
    ap (λ (l : List X). x ∷ l) (IsFiltered-unique P xs us vs f g)
IsFiltered-unique P (x ∷ xs) ys zs (kept p f) (left q g) = absurd (q p)
IsFiltered-unique P (x ∷ xs) ys zs (left p f) (kept q g) = absurd (p q)
IsFiltered-unique P (x ∷ xs) ys zs (left p f) (left q g) = IsFiltered-unique P xs ys zs f g

-- a stage over the members of which the first fact holds is one over all
pub IsFiltered-through : {X Y : Type 0} (Q : X → Type 0) (P : Y → Type 0) (f : X → List Y)
    → ((x : X) → (Q x → ⊥) → IsFiltered P (f x) []) → (xs ys : List X) (zs : List Y)
    → IsFiltered Q xs ys → IsFiltered P (flat_map f ys) zs → IsFiltered P (flat_map f xs) zs
IsFiltered-through Q P f fails [] ys zs none g = g
IsFiltered-through {X} {Y} Q P f fails (x ∷ xs) ys zs (kept {ys = us} q t) g =
    let s : Split P (f x) (flat_map f us) zs = IsFiltered-split P (f x) (flat_map f us) zs g in
    subst (λ (l : List Y). IsFiltered P (f x ++ flat_map f xs) l) (sym s.whole)
    (IsFiltered-append P (f x) s.first (flat_map f xs) s.second s.of_first
    (IsFiltered-through Q P f fails xs us s.second t s.of_second))
IsFiltered-through Q P f fails (x ∷ xs) ys zs (left q t) g =
    IsFiltered-append P (f x) [] (flat_map f xs) zs (fails x q)
    (IsFiltered-through Q P f fails xs ys zs t g)

-- tuples of two lists of choices
pub tuples-append : (cs bs : List (List ℕ)) (prefix : List ℕ)
    → tuples prefix (cs ++ bs) ≡ flat_map (λ f. tuples f bs) (tuples prefix cs)
tuples-append [] bs prefix = sym (append-nil (tuples prefix bs))
tuples-append (a ∷ cs) bs prefix =
    flat_map-flat_map (λ x. tuples (prefix ++ x ∷ []) (cs ++ bs)) (λ x. tuples (prefix ++ x ∷ []) cs)
    (λ f. tuples f bs) (λ x. tuples-append cs bs (prefix ++ x ∷ [])) a

-- tuples with one list of choices more
pub tuples_more : (cs : List (List ℕ)) (c prefix : List ℕ)
    → tuples prefix (cs ++ c ∷ []) ≡ flat_map (λ t. map (λ x. t ++ x ∷ []) c) (tuples prefix cs)
tuples_more [] c prefix = flat_map-single (λ x. prefix ++ x ∷ []) c ∙ rw append-nil refl
tuples_more (d ∷ ds) c prefix =
    flat_map-flat_map (λ x. tuples (prefix ++ x ∷ []) (ds ++ c ∷ []))
    (λ x. tuples (prefix ++ x ∷ []) ds) (λ t. map (λ x. t ++ x ∷ []) c)
    (λ x. tuples_more ds c (prefix ++ x ∷ [])) d
