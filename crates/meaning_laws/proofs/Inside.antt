-- The operators of cat on meanings of which one is inside of the other.
use Rattle.std.proofs.Common.{◌⊎◌, inl, inr, List, [], ◌∷◌}
use Rattle.text_values.specs.declared.model.Infix.{Infix}
use Rattle.text_values.specs.declared.model.Infix.TheVariants as infixes
use Rattle.text_values.specs.declared.model.Postfix.{Postfix}
use Rattle.text_values.specs.declared.model.Postfix.TheVariants as postfixes
use Rattle.meaning.specs.Sets.{Set, Relation, Path}
use Rattle.meaning.specs.Cat.{Meaning, ASet, ARelation, Nothing, of_infix, of_postfix, of_complement, of_identity, HasPair}
use Rattle.meaning_laws.specs.Inside.{IsInside, IsAlike}

-- the same, by cases
data Below {E : Type 0} : Meaning E → Meaning E → Type 1 where
  sets : (S T : Set E) → ((a : E) → S a → T a) → Below (ASet S) (ASet T)
  relations : (R Q : Relation E) → ((a b : E) → R a b → Q a b)
      → Below (ARelation R) (ARelation Q)
  nothing : Below Nothing Nothing

below : {E : Type 0} (m k : Meaning E) → IsInside m k → Below m k
below (ASet S) (ASet T) h = sets S T h
below (ARelation R) (ARelation Q) h = relations R Q h
below Nothing Nothing h = nothing
below (ASet S) (ARelation Q) h = absurd h
below (ASet S) Nothing h = absurd h
below (ARelation R) (ASet T) h = absurd h
below (ARelation R) Nothing h = absurd h
below Nothing (ASet T) h = absurd h
below Nothing (ARelation Q) h = absurd h

pub itself : {E : Type 0} (m : Meaning E) → IsInside m m
itself (ASet S) = λ a h. h
itself (ARelation R) = λ a b h. h
itself Nothing = tt

pub alike_itself : {E : Type 0} (m : Meaning E) → IsAlike m m
alike_itself m = (itself m, itself m)

pub through : {E : Type 0} (m k l : Meaning E) → IsInside m k → IsInside k l → IsInside m l
through (ASet S) (ASet T) (ASet U) h g = λ a s. g a (h a s)
through (ARelation R) (ARelation Q) (ARelation U) h g = λ a b r. g a b (h a b r)
through Nothing Nothing Nothing h g = tt
through (ASet S) (ASet T) (ARelation U) h g = absurd g
through (ASet S) (ASet T) Nothing h g = absurd g
through (ASet S) (ARelation Q) l h g = absurd h
through (ASet S) Nothing l h g = absurd h
through (ARelation R) (ARelation Q) (ASet U) h g = absurd g
through (ARelation R) (ARelation Q) Nothing h g = absurd g
through (ARelation R) (ASet T) l h g = absurd h
through (ARelation R) Nothing l h g = absurd h
through Nothing Nothing (ASet U) h g = absurd g
through Nothing Nothing (ARelation U) h g = absurd g
through Nothing (ASet T) l h g = absurd h
through Nothing (ARelation Q) l h g = absurd h

pub alike_through : {E : Type 0} (m k l : Meaning E) → IsAlike m k → IsAlike k l → IsAlike m l
alike_through m k l h g = (through m k l h.0 g.0, through l k m g.1 h.1)

pub turned : {E : Type 0} (m k : Meaning E) → IsAlike m k → IsAlike k m
turned m k h = (h.1, h.0)

pair_below : {E : Type 0} (m k : Meaning E) → Below m k → (a b : E) → HasPair m a b → HasPair k a b
pair_below m k (sets S T g) a b p = absurd p
pair_below m k (relations R Q g) a b p = g a b p
pair_below m k nothing a b p = absurd p

pub pair_inside : {E : Type 0} (m k : Meaning E) → IsInside m k → (a b : E) → HasPair m a b → HasPair k a b
pair_inside m k h = pair_below m k (below m k h)

either : {A B C D : Type 0} → (A → C) → (B → D) → A ⊎ B → C ⊎ D
either f g (inl a) = inl (f a)
either f g (inr b) = inr (g b)

path_inside : {E : Type 0} (R Q : Relation E) → ((a b : E) → R a b → Q a b) → (a : E) (cs : List E) (b : E)
    → Path R a cs b → Path Q a cs b
path_inside R Q h a [] b p = h a b p
path_inside R Q h a (c ∷ cs) b p = (h a c p.0, path_inside R Q h c cs b p.1)

union_below : {E : Type 0} (m k n l : Meaning E) → Below m k → Below n l
    → IsInside (of_infix infixes.Union m n) (of_infix infixes.Union k l)
union_below m k n l (sets S T h) (sets U V g) = λ a. either (h a) (g a)
union_below m k n l (relations R Q h) (relations U V g) = λ a b. either (h a b) (g a b)
union_below m k n l _ _ = tt

intersection_below : {E : Type 0} (m k n l : Meaning E) → Below m k → Below n l
    → IsInside (of_infix infixes.Intersection m n) (of_infix infixes.Intersection k l)
intersection_below m k n l (sets S T h) (sets U V g) = λ a x. (h a x.0, g a x.1)
intersection_below m k n l (relations R Q h) (relations U V g) =
    λ a b x. (h a b x.0, g a b x.1)
intersection_below m k n l _ _ = tt

sequence_below : {E : Type 0} (m k n l : Meaning E) → Below m k → Below n l
    → IsInside (of_infix infixes.Sequence m n) (of_infix infixes.Sequence k l)
sequence_below m k n l (relations R Q h) (relations U V g) =
    λ a b x. (x.0, h a x.0 x.1, g x.0 b x.2)
sequence_below m k n l _ _ = tt

product_below : {E : Type 0} (m k n l : Meaning E) → Below m k → Below n l
    → IsInside (of_infix infixes.Product m n) (of_infix infixes.Product k l)
product_below m k n l (sets S T h) (sets U V g) = λ a b x. (h a x.0, g b x.1)
product_below m k n l _ _ = tt

-- right of `\` it is the other way round
difference_below : {E : Type 0} (m k n l : Meaning E) → Below m k → Below l n
    → IsInside (of_infix infixes.Difference m n) (of_infix infixes.Difference k l)
difference_below m k n l (sets S T h) (sets U V g) = λ a x. (h a x.0, λ u. x.1 (g a u))
difference_below m k n l (relations R Q h) (relations U V g) =
    λ a b x. (h a b x.0, λ u. x.1 (g a b u))
difference_below m k n l _ _ = tt

-- what is asked of the right operand: that it is inside, or the other way round behind `\`
abbrev pub IsRightInside : {E : Type 0} → Infix → Meaning E → Meaning E → Type 0
IsRightInside infixes.Difference n l = IsInside l n
IsRightInside op n l = IsInside n l

pub infix_inside : {E : Type 0} (op : Infix) (m k n l : Meaning E) → IsInside m k → IsRightInside op n l
    → IsInside (of_infix op m n) (of_infix op k l)
infix_inside infixes.Union m k n l h g = union_below m k n l (below m k h) (below n l g)
infix_inside infixes.Intersection m k n l h g =
    intersection_below m k n l (below m k h) (below n l g)
infix_inside infixes.Difference m k n l h g =
    difference_below m k n l (below m k h) (below l n g)
infix_inside infixes.Product m k n l h g = product_below m k n l (below m k h) (below n l g)
infix_inside infixes.Sequence m k n l h g = sequence_below m k n l (below m k h) (below n l g)

right_of_alike : {E : Type 0} (op : Infix) (n l : Meaning E) → IsAlike n l → IsRightInside op n l
right_of_alike infixes.Union n l g = g.0
right_of_alike infixes.Intersection n l g = g.0
right_of_alike infixes.Difference n l g = g.1
right_of_alike infixes.Product n l g = g.0
right_of_alike infixes.Sequence n l g = g.0

pub infix_alike : {E : Type 0} (op : Infix) (m k n l : Meaning E) → IsAlike m k → IsAlike n l
    → IsAlike (of_infix op m n) (of_infix op k l)
infix_alike op m k n l h g = (
  infix_inside op m k n l h.0 (right_of_alike op n l g),
  infix_inside op k m l n h.1 (right_of_alike op l n (turned n l g)),
)

postfix_below : {E : Type 0} (all : Set E) (op : Postfix) (m k : Meaning E) → Below m k
    → IsInside (of_postfix all op m) (of_postfix all op k)
postfix_below all postfixes.Transitive m k (relations R Q h) =
    λ a b x. (x.0, path_inside R Q h a x.0 b x.1)
postfix_below all postfixes.Reflexive m k (relations R Q h) = λ a b. either (λ x. x) (h a b)
postfix_below all postfixes.Closure m k (relations R Q h) =
    λ a b. either (λ x. x) (λ x. (x.0, path_inside R Q h a x.0 b x.1))
postfix_below all postfixes.Inverse m k (relations R Q h) = λ a b x. h b a x
postfix_below all op m k _ = tt

pub postfix_inside : {E : Type 0} (all : Set E) (op : Postfix) (m k : Meaning E) → IsInside m k
    → IsInside (of_postfix all op m) (of_postfix all op k)
postfix_inside all op m k h = postfix_below all op m k (below m k h)

identity_below : {E : Type 0} (m k : Meaning E) → Below m k → IsInside (of_identity m) (of_identity k)
identity_below m k (sets S T h) = λ a b x. (h a x.0, x.1)
identity_below m k _ = tt

pub identity_inside : {E : Type 0} (m k : Meaning E) → IsInside m k → IsInside (of_identity m) (of_identity k)
identity_inside m k h = identity_below m k (below m k h)

complement_below : {E : Type 0} (all : Set E) (m k : Meaning E) → Below m k
    → IsInside (of_complement all k) (of_complement all m)
complement_below all m k (sets S T h) = λ a x. (x.0, λ s. x.1 (h a s))
complement_below all m k (relations R Q h) = λ a b x. (x.0, x.1, λ r. x.2 (h a b r))
complement_below all m k nothing = tt

-- under `~` it is the other way round
pub complement_inside : {E : Type 0} (all : Set E) (m k : Meaning E) → IsInside m k
    → IsInside (of_complement all k) (of_complement all m)
complement_inside all m k h = complement_below all m k (below m k h)
