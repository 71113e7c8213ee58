-- What an operator makes of sets and relations is the same along functions there and back between
-- two kinds of things.
use Rattle.std.proofs.Common.{◌≡◌, ◌↔◌, ◌⊎◌, inl, inr, List, [], ◌∷◌, map, sym, ap, ◌∙◌, subst}
use Rattle.text_values.specs.declared.model.Infix.{Infix}
use Rattle.text_values.specs.declared.model.Infix.TheVariants as infixes
use Rattle.text_values.specs.declared.model.Postfix.{Postfix}
use Rattle.text_values.specs.declared.model.Postfix.TheVariants as postfixes
use Rattle.meaning.specs.Sets.{Set, Relation, Path}
use Rattle.meaning.specs.Cat.{Meaning, ASet, ARelation, Nothing, HasPair, of_infix, of_postfix, of_complement, of_identity}

-- the sets have the same members, and the relations the same pairs
pub data Same {X Y : Type 0} (f : X → Y) : Meaning X → Meaning Y → Type 1 where
  sets : (S : Set X) (T : Set Y) → ((x : X) → S x ↔ T (f x)) → Same f (ASet S) (ASet T)
  relations : (R : Relation X) (Q : Relation Y) → ((x z : X) → R x z ↔ Q (f x) (f z))
      → Same f (ARelation R) (ARelation Q)
  nothing : Same f Nothing Nothing

either : {A B C D : Type 0} → (A → C) → (B → D) → A ⊎ B → C ⊎ D
either f g (inl a) = inl (f a)
either f g (inr b) = inr (g b)

module _ {X Y : Type 0} (f : X → Y) (g : Y → X) (there : (x : X) → g (f x) ≡ x)
    (back : (y : Y) → f (g y) ≡ y) where
  pub pair_same : (m : Meaning X) (k : Meaning Y) → Same f m k → (x z : X)
      → HasPair m x z ↔ HasPair k (f x) (f z)
  pair_same m k (sets S T h) x z = (λ p. p, λ p. p)
  pair_same m k (relations R Q h) x z = h x z
  pair_same m k nothing x z = (λ p. p, λ p. p)

  union_same : (m n : Meaning X) (k l : Meaning Y) → Same f m k → Same f n l
      → Same f (of_infix infixes.Union m n) (of_infix infixes.Union k l)
  union_same m n k l (sets S T h) (sets U V e) =
      sets _ _ (λ x. (either (h x).0 (e x).0, either (h x).1 (e x).1))
  union_same m n k l (relations R Q h) (relations U V e) =
      relations _ _ (λ x z. (either (h x z).0 (e x z).0, either (h x z).1 (e x z).1))
  union_same m n k l _ _ = nothing

  intersection_same : (m n : Meaning X) (k l : Meaning Y) → Same f m k → Same f n l
      → Same f (of_infix infixes.Intersection m n) (of_infix infixes.Intersection k l)
  intersection_same m n k l (sets S T h) (sets U V e) =
      sets _ _ (λ x. (λ p. ((h x).0 p.0, (e x).0 p.1), λ p. ((h x).1 p.0, (e x).1 p.1)))
  intersection_same m n k l (relations R Q h) (relations U V e) =
      relations _ _
      (λ x z. (λ p. ((h x z).0 p.0, (e x z).0 p.1), λ p. ((h x z).1 p.0, (e x z).1 p.1)))
  intersection_same m n k l _ _ = nothing

  difference_same : (m n : Meaning X) (k l : Meaning Y) → Same f m k → Same f n l
      → Same f (of_infix infixes.Difference m n) (of_infix infixes.Difference k l)
  difference_same m n k l (sets S T h) (sets U V e) =
      sets _ _
      (λ x. (λ p. ((h x).0 p.0, λ q. p.1 ((e x).1 q)), λ p. ((h x).1 p.0, λ q. p.1 ((e x).0 q))))
  difference_same m n k l (relations R Q h) (relations U V e) =
      relations _ _
      (λ x z. (
        λ p. ((h x z).0 p.0, λ q. p.1 ((e x z).1 q)),
        λ p. ((h x z).1 p.0, λ q. p.1 ((e x z).0 q)),
      ))
  difference_same m n k l _ _ = nothing

  product_same : (m n : Meaning X) (k l : Meaning Y) → Same f m k → Same f n l
      → Same f (of_infix infixes.Product m n) (of_infix infixes.Product k l)
  product_same m n k l (sets S T h) (sets U V e) =
      relations _ _
      (λ x z. (λ p. ((h x).0 p.0, (e z).0 p.1), λ p. ((h x).1 p.0, (e z).1 p.1)))
  product_same m n k l _ _ = nothing

  sequence_same : (m n : Meaning X) (k l : Meaning Y) → Same f m k → Same f n l
      → Same f (of_infix infixes.Sequence m n) (of_infix infixes.Sequence k l)
  sequence_same m n k l (relations R Q h) (relations U V e) =
      relations _ _
      (λ x z. (
        λ p. (f p.0, (h x p.0).0 p.1, (e p.0 z).0 p.2),
        λ p. (
          g p.0,
          (h x (g p.0)).1 (subst (λ (y : Y). Q (f x) y) (sym (back p.0)) p.1),
          (e (g p.0) z).1 (subst (λ (y : Y). V y (f z)) (sym (back p.0)) p.2),
        ),
      ))
  sequence_same m n k l _ _ = nothing

  pub infix_same : (op : Infix) (m n : Meaning X) (k l : Meaning Y) → Same f m k → Same f n l
      → Same f (of_infix op m n) (of_infix op k l)
  infix_same infixes.Union m n k l h e = union_same m n k l h e
  infix_same infixes.Intersection m n k l h e = intersection_same m n k l h e
  infix_same infixes.Difference m n k l h e = difference_same m n k l h e
  infix_same infixes.Product m n k l h e = product_same m n k l h e
  infix_same infixes.Sequence m n k l h e = sequence_same m n k l h e

  -- ---- paths

  module _ (R : Relation X) (Q : Relation Y) (h : (x z : X) → R x z ↔ Q (f x) (f z)) where
    path_there : (x : X) (through : List X) (z : X) → Path R x through z
        → Path Q (f x) (map f through) (f z)
    path_there x [] z p = (h x z).0 p
    path_there x (c ∷ cs) z p = ((h x c).0 p.0, path_there c cs z p.1)

    path_back : (x : X) (through : List Y) (z : X) → Path Q (f x) through (f z)
        → Path R x (map g through) z
    path_back x [] z p = (h x z).1 p
    path_back x (c ∷ cs) z p = (
      (h x (g c)).1 (subst (λ (y : Y). Q (f x) y) (sym (back c)) p.0),
      path_back (g c) cs z (subst (λ (y : Y). Path Q y cs (f z)) (sym (back c)) p.1),
    )

    pub paths_same : (x z : X)
        → ((through : List X) × Path R x through z) ↔ ((through : List Y) × Path Q (f x) through (f z))
    paths_same x z = (
      λ p. (map f p.0, path_there x p.0 z p.1),
      λ p. (map g p.0, path_back x p.0 z p.1),
    )

  one_thing : (x z : X) → f x ≡ f z → x ≡ z
  one_thing x z e = sym (there x) ∙ (ap g e ∙ there z)

  self_same : (S : Set X) (T : Set Y) → ((x : X) → S x ↔ T (f x)) → (x z : X)
      → (S x × (x ≡ z)) ↔ (T (f x) × (f x ≡ f z))
  self_same S T h x z =
      (λ p. ((h x).0 p.0, ap f p.1), λ p. ((h x).1 p.0, one_thing x z p.1))

  pub identity_same : (m : Meaning X) (k : Meaning Y) → Same f m k
      → Same f (of_identity m) (of_identity k)
  identity_same m k (sets S T h) = relations _ _ (self_same S T h)
  identity_same m k (relations R Q h) = nothing
  identity_same m k nothing = nothing

  module _ (all : Set X) (every : Set Y) (whole : (x : X) → all x ↔ every (f x)) where
    pub complement_same : (m : Meaning X) (k : Meaning Y) → Same f m k
        → Same f (of_complement all m) (of_complement every k)
    complement_same m k (sets S T h) =
        sets _ _
        (λ x. (
          λ p. ((whole x).0 p.0, λ q. p.1 ((h x).1 q)),
          λ p. ((whole x).1 p.0, λ q. p.1 ((h x).0 q)),
        ))
    complement_same m k (relations R Q h) =
        relations _ _
        (λ x z. (
          λ p. ((whole x).0 p.0, (whole z).0 p.1, λ q. p.2 ((h x z).1 q)),
          λ p. ((whole x).1 p.0, (whole z).1 p.1, λ q. p.2 ((h x z).0 q)),
        ))
    complement_same m k nothing = nothing

    pub postfix_same : (op : Postfix) (m : Meaning X) (k : Meaning Y) → Same f m k
        → Same f (of_postfix all op m) (of_postfix every op k)
    postfix_same postfixes.Transitive m k (relations R Q h) = relations _ _ (paths_same R Q h)
    postfix_same postfixes.Reflexive m k (relations R Q h) =
        relations _ _
        (λ x z. (
          either (self_same all every whole x z).0 (h x z).0,
          either (self_same all every whole x z).1 (h x z).1,
        ))
    postfix_same postfixes.Closure m k (relations R Q h) =
        relations _ _
        (λ x z. (
          either (self_same all every whole x z).0 (paths_same R Q h x z).0,
          either (self_same all every whole x z).1 (paths_same R Q h x z).1,
        ))
    postfix_same postfixes.Inverse m k (relations R Q h) = relations _ _ (λ x z. h z x)
    postfix_same postfixes.Transitive m k _ = nothing
    postfix_same postfixes.Reflexive m k _ = nothing
    postfix_same postfixes.Closure m k _ = nothing
    postfix_same postfixes.Inverse m k _ = nothing
