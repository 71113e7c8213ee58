-- What each operator puts together is what it is defined to be.
use Rattle.std.proofs.Common.{◌≡◌, ◌↔◌, ◌⊎◌, ℕ, List, [], Contains, refl, sym, subst, ◌∙◌}
use Rattle.meaning.specs.Sets.{Union, Difference, Complement, Identity, Product, Inverse, Sequence, Reflexive, Closure, Transitive}
use Rattle.meaning_plain.specs.Lists.{SetOf, RelationOf, HasPairs, Grows, Given, JoinsSteps, JoinsThrough, Through}
use Rattle.meaning_plain.proofs.Growing.{either, grows_then, from_nothing, pair_joined, first_of, second_of}

-- what is given as it is
given_same : {X : Type 0} (xs : List X) (y : X) → Given (λ (x z : X). z ≡ x) xs y ↔ Contains xs y
given_same {X} xs y =
    ((λ h. subst (λ (z : X). Contains xs z) (sym h.2) h.1), λ h. (y, h, refl))

-- and under a condition
given_if : {X : Type 0} (P : X → Type 0) (xs : List X) (y : X)
    → Given (λ (x z : X). (z ≡ x) × P x) xs y ↔ (Contains xs y × P y)
given_if {X} P xs y = (to, λ h. (y, h.0, (refl, h.1)))
  where
    to : Given (λ (x z : X). (z ≡ x) × P x) xs y → Contains xs y × P y
    to h =
        (subst (λ (z : X). Contains xs z) (sym h.2.0) h.1, subst (λ (z : X). P z) (sym h.2.0) h.2.1)

pub union_made : {X : Type 0} (first second none mid v : List X) → none ≡ []
    → Grows (Given (λ (x z : X). z ≡ x) first) none mid
    → Grows (Given (λ (x z : X). z ≡ x) second) mid v → (y : X)
    → Contains v y ↔ (Contains first y ⊎ Contains second y)
union_made {X} first second none mid v e one two y = (to, back)
  where
    whole : Contains v y
        ↔ (Given (λ (x z : X). z ≡ x) first y ⊎ Given (λ (x z : X). z ≡ x) second y)
    whole =
        from_nothing (λ (z : X). Given (λ (x w : X). w ≡ x) first z ⊎ Given (λ (x w : X). w ≡ x) second z)
        none v e
        (grows_then (Given (λ (x z : X). z ≡ x) first) (Given (λ (x z : X). z ≡ x) second) none mid v
        one two) y

    to : Contains v y → Contains first y ⊎ Contains second y
    to h = either (λ g. (given_same first y).0 g) (λ g. (given_same second y).0 g) (whole.0 h)

    back : Contains first y ⊎ Contains second y → Contains v y
    back h = whole.1 (either (λ g. (given_same first y).1 g) (λ g. (given_same second y).1 g) h)

pub filter_made : {X : Type 0} (P : X → Type 0) (first none v : List X) → none ≡ []
    → Grows (Given (λ (x z : X). (z ≡ x) × P x) first) none v → (y : X)
    → Contains v y ↔ (Contains first y × P y)
filter_made {X} P first none v e grows y = (
  (λ h. (given_if P first y).0 ((from_nothing (Given (λ (x z : X). (z ≡ x) × P x) first) none v e grows y).0 h)),
  λ h. (from_nothing (Given (λ (x z : X). (z ≡ x) × P x) first) none v e grows y).1
      ((given_if P first y).1 h),
)

-- the pairs of a list that grew from nothing, by what each of them is
made_as : (New : ℕ × ℕ → Type 0) (R : ℕ → ℕ → Type 0) (none v : List (ℕ × ℕ)) → none ≡ []
    → Grows New none v → ((a b : ℕ) → New (a, b) ↔ R a b) → HasPairs R v
made_as New R none v e grows same a b = (
  (λ h. (same a b).0 ((from_nothing New none v e grows (a, b)).0 h)),
  λ h. (from_nothing New none v e grows (a, b)).1 ((same a b).1 h),
)

-- the pair is in the list, if it is by its parts
pair_in : (ps : List (ℕ × ℕ)) (x : ℕ × ℕ) (a b : ℕ) → x.0 ≡ a → x.1 ≡ b → Contains ps x
    → Contains ps (a, b)
pair_in ps x a b first second h =
    subst (λ (p : ℕ × ℕ). Contains ps p) (pair_joined x (a, b) first second) h

member_as : (xs : List ℕ) (x a : ℕ) → x ≡ a → Contains xs x → Contains xs a
member_as xs x a e h = subst (λ (z : ℕ). Contains xs z) e h

pub inverse_made : (ps none v : List (ℕ × ℕ)) → none ≡ []
    → Grows (Given (λ (x p : ℕ × ℕ). p ≡ (x.1, x.0)) ps) none v
    → HasPairs (Inverse (RelationOf ps)) v
inverse_made ps none v e grows =
    made_as (Given (λ (x p : ℕ × ℕ). p ≡ (x.1, x.0)) ps) (Inverse (RelationOf ps)) none v e grows
    (λ a b. (
      (λ h. pair_in ps h.0 b a (sym (second_of h.2)) (sym (first_of h.2)) h.1),
      λ h. ((b, a), h, refl),
    ))

pub identity_made : (s : List ℕ) (none v : List (ℕ × ℕ)) → none ≡ []
    → Grows (Given (λ (x : ℕ) (p : ℕ × ℕ). p ≡ (x, x)) s) none v
    → HasPairs (Identity (SetOf s)) v
identity_made s none v e grows =
    made_as (Given (λ (x : ℕ) (p : ℕ × ℕ). p ≡ (x, x)) s) (Identity (SetOf s)) none v e grows
    (λ a b. (to a b, back a b))
  where
    to : (a b : ℕ) → Given (λ (x : ℕ) (p : ℕ × ℕ). p ≡ (x, x)) s (a, b) → Contains s a × (a ≡ b)
    to a b h =
        (member_as s h.0 a (sym (first_of h.2)) h.1, first_of h.2 ∙ sym (second_of h.2))

    back : (a b : ℕ) → Contains s a × (a ≡ b) → Given (λ (x : ℕ) (p : ℕ × ℕ). p ≡ (x, x)) s (a, b)
    back a b h = (a, h.0, pair_joined (a, b) (a, a) refl (sym h.1))

pub product_made : (s t : List ℕ) (none v : List (ℕ × ℕ)) → none ≡ []
    → Grows (Given (λ (x : ℕ). Given (λ (y : ℕ) (p : ℕ × ℕ). p ≡ (x, y)) t) s) none v
    → HasPairs (Product (SetOf s) (SetOf t)) v
product_made s t none v e grows =
    made_as (Given (λ (x : ℕ). Given (λ (y : ℕ) (p : ℕ × ℕ). p ≡ (x, y)) t) s)
    (Product (SetOf s) (SetOf t)) none v e grows (λ a b. (to a b, back a b))
  where
    to : (a b : ℕ) → Given (λ (x : ℕ). Given (λ (y : ℕ) (p : ℕ × ℕ). p ≡ (x, y)) t) s (a, b)
        → Contains s a × Contains t b
    to a b h = (
      member_as s h.0 a (sym (first_of h.2.2)) h.1,
      member_as t h.2.0 b (sym (second_of h.2.2)) h.2.1,
    )

    back : (a b : ℕ) → Contains s a × Contains t b
        → Given (λ (x : ℕ). Given (λ (y : ℕ) (p : ℕ × ℕ). p ≡ (x, y)) t) s (a, b)
    back a b h = (a, h.0, (b, h.1, refl))

pub sequence_made : (r s none v : List (ℕ × ℕ)) → none ≡ []
    → Grows (Given (JoinsSteps s) r) none v
    → HasPairs (Sequence (RelationOf r) (RelationOf s)) v
sequence_made r s none v e grows =
    made_as (Given (JoinsSteps s) r) (Sequence (RelationOf r) (RelationOf s)) none v e grows
    (λ a b. (to a b, back a b))
  where
    to : (a b : ℕ) → Given (JoinsSteps s) r (a, b)
        → (c : ℕ) × Contains r (a, c) × Contains s (c, b)
    to a b h = (
      h.0.1,
      pair_in r h.0 a h.0.1 (sym (first_of h.2.2.1)) refl h.1,
      pair_in s h.2.0 h.0.1 b h.2.2.0 (sym (second_of h.2.2.1)) h.2.1,
    )

    back : (a b : ℕ) → (c : ℕ) × Contains r (a, c) × Contains s (c, b)
        → Given (JoinsSteps s) r (a, b)
    back a b h = ((a, h.0), h.1, ((h.0, b), h.2, (refl, refl)))

pub through_made : (k : ℕ) (ps start v : List (ℕ × ℕ)) → start ≡ ps
    → Grows (Given (JoinsThrough k ps) ps) start v → HasPairs (Through (RelationOf ps) k) v
through_made k ps start v e grows a b = (to, back)
  where
    steps : Given (JoinsThrough k ps) ps (a, b) → Contains ps (a, k) × Contains ps (k, b)
    steps h = (
      pair_in ps h.0 a k (sym (first_of h.2.1.2.1)) h.2.0 h.1,
      pair_in ps h.2.1.0 k b (h.2.1.2.0 ∙ h.2.0) (sym (second_of h.2.1.2.1)) h.2.1.1,
    )

    made : Contains ps (a, k) × Contains ps (k, b) → Given (JoinsThrough k ps) ps (a, b)
    made h = ((a, k), h.0, (refl, ((k, b), h.1, (refl, refl))))

    to : Contains v (a, b) → Through (RelationOf ps) k a b
    to h =
        either (λ there. subst (λ (l : List (ℕ × ℕ)). Contains l (a, b)) e there) steps
        ((grows.exact (a, b)).0 h)

    back : Through (RelationOf ps) k a b → Contains v (a, b)
    back h =
        (grows.exact (a, b)).1
        (either (λ there. subst (λ (l : List (ℕ × ℕ)). Contains l (a, b)) (sym e) there) made h)

-- ---- operators made of others

pub complement_made : (all : List ℕ) (ps whole v : List (ℕ × ℕ))
    → HasPairs (Product (SetOf all) (SetOf all)) whole
    → HasPairs (Difference (RelationOf whole) (RelationOf ps)) v
    → HasPairs (Complement (SetOf all) (RelationOf ps)) v
complement_made all ps whole v product difference a b = (
  (λ h. let d : Contains whole (a, b) × (Contains ps (a, b) → ⊥) = (difference a b).0 h in
      let p : Contains all a × Contains all b = (product a b).0 d.0 in (p.0, p.1, d.1)),
  λ h. (difference a b).1 ((product a b).1 (h.0, h.1), h.2),
)

pub reflexive_made : (all : List ℕ) (ps itself v : List (ℕ × ℕ))
    → HasPairs (Identity (SetOf all)) itself
    → HasPairs (Union (RelationOf itself) (RelationOf ps)) v
    → HasPairs (Reflexive (SetOf all) (RelationOf ps)) v
reflexive_made all ps itself v identity union a b = (
  (λ h. either (λ i. (identity a b).0 i) (λ r. r) ((union a b).0 h)),
  λ h. (union a b).1 (either (λ i. (identity a b).1 i) (λ r. r) h),
)

pub closure_made : (all : List ℕ) (ps itself paths v : List (ℕ × ℕ))
    → HasPairs (Identity (SetOf all)) itself → HasPairs (Transitive (RelationOf ps)) paths
    → HasPairs (Union (RelationOf itself) (RelationOf paths)) v
    → HasPairs (Closure (SetOf all) (RelationOf ps)) v
closure_made all ps itself paths v identity transitive union a b = (
  (λ h. either (λ i. (identity a b).0 i) (λ r. (transitive a b).0 r) ((union a b).0 h)),
  λ h. (union a b).1 (either (λ i. (identity a b).1 i) (λ r. (transitive a b).1 r) h),
)
