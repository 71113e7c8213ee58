-- What an operator makes of operands is the same to the definitions and to the program.
use Rattle.std.proofs.Common.{ℕ, ◌<◌, ◌↔◌, ◌⊎◌, inl, inr, List, [], ◌∷◌, IsTrue}
use Rattle.text_values.specs.declared.model.Infix.{Infix}
use Rattle.text_values.specs.declared.model.Infix.TheVariants as infixes
use Rattle.text_values.specs.declared.model.Postfix.{Postfix}
use Rattle.text_values.specs.declared.model.Postfix.TheVariants as postfixes
use Rattle.bit_rows.specs.Pairs as pairs
use Rattle.binding_kinds.specs.declared.kinds.Kind.{Kind}
use Rattle.binding_kinds.specs.declared.kinds.Kind.TheVariants.{OfSet, OfRelation, OfAny}
use Rattle.binding_kinds.specs.Kinds.{takes, joined_kind, marked, narrowed, is_relation, is_set_kind}
use Rattle.binding_graph.specs.declared.resolved.Blend.TheVariants as blends
use Rattle.binding_graph.specs.declared.resolved.Source.{Source}
use Rattle.binding_graph.specs.Trees.{SetTree, RelTree}
use Rattle.binding_graph.specs.Meaning.{joined_sets, joined_relations}
use Rattle.cat_machine.specs.Meaning.{BlendedSets, Blended, Closed, Others, MeansSet, MeansRelation}
use Rattle.meaning.specs.Sets as meant
use Rattle.meaning.specs.Cat.{Meaning, ASet, ARelation, Nothing, of_infix, of_postfix, of_complement, of_identity}
use Rattle.meaning_items.specs.Alike.{IsAs}

-- what is meant is a set or a relation of the program
pub data Like : Kind → Meaning ℕ → (ℕ → Type 0) → (ℕ → ℕ → Type 0) → Type 1 where
  of_set : (S T : ℕ → Type 0) (R : ℕ → ℕ → Type 0) → ((a : ℕ) → S a ↔ T a)
      → Like OfSet (ASet S) T R
  of_relation : (T : ℕ → Type 0) (Q R : ℕ → ℕ → Type 0) → ((a b : ℕ) → Q a b ↔ R a b)
      → Like OfRelation (ARelation Q) T R

pub like_as : (k : Kind) (m : Meaning ℕ) (T : ℕ → Type 0) (R : ℕ → ℕ → Type 0) → Like k m T R
    → IsAs k m T R
like_as _ _ _ _ (of_set S T R h) = h
like_as _ _ _ _ (of_relation T Q R h) = h

pub as_like : (k : Kind) (m : Meaning ℕ) (T : ℕ → Type 0) (R : ℕ → ℕ → Type 0) → IsAs k m T R
    → Like k m T R
as_like OfSet (ASet S) T R h = of_set S T R h
as_like OfSet (ARelation Q) T R h = absurd h
as_like OfSet Nothing T R h = absurd h
as_like OfRelation (ASet S) T R h = absurd h
as_like OfRelation (ARelation Q) T R h = of_relation T Q R h
as_like OfRelation Nothing T R h = absurd h
as_like OfAny (ASet S) T R h = absurd h
as_like OfAny (ARelation Q) T R h = absurd h
as_like OfAny Nothing T R h = absurd h

either : {A B C D : Type 0} → (A → C) → (B → D) → A ⊎ B → C ⊎ D
either f g (inl a) = inl (f a)
either f g (inr b) = inr (g b)

-- ---- operators between two operands

union_like : (k l : Kind) (m o : Meaning ℕ) (T V : ℕ → Type 0) (R W : ℕ → ℕ → Type 0)
    → IsTrue (takes infixes.Union k l) → Like k m T R → Like l o V W
    → Like (joined_kind infixes.Union k l) (of_infix infixes.Union m o) (BlendedSets blends.Union T V)
    (Blended blends.Union R W)
union_like _ _ _ _ _ _ _ _ t (of_set S T R h) (of_set U V W g) =
    of_set _ _ _ (λ a. (either (h a).0 (g a).0, either (h a).1 (g a).1))
union_like _ _ _ _ _ _ _ _ t (of_relation T Q R h) (of_relation V U W g) =
    of_relation _ _ _ (λ a b. (either (h a b).0 (g a b).0, either (h a b).1 (g a b).1))
union_like _ _ _ _ _ _ _ _ t (of_set S T R h) (of_relation V U W g) = cc
union_like _ _ _ _ _ _ _ _ t (of_relation T Q R h) (of_set U V W g) = cc

intersection_like : (k l : Kind) (m o : Meaning ℕ) (T V : ℕ → Type 0) (R W : ℕ → ℕ → Type 0)
    → IsTrue (takes infixes.Intersection k l) → Like k m T R → Like l o V W
    → Like (joined_kind infixes.Intersection k l) (of_infix infixes.Intersection m o)
    (BlendedSets blends.Intersection T V) (Blended blends.Intersection R W)
intersection_like _ _ _ _ _ _ _ _ t (of_set S T R h) (of_set U V W g) =
    of_set _ _ _
    (λ a. (λ x. ((h a).0 x.0, (g a).0 x.1), λ x. ((h a).1 x.0, (g a).1 x.1)))
intersection_like _ _ _ _ _ _ _ _ t (of_relation T Q R h) (of_relation V U W g) =
    of_relation _ _ _
    (λ a b. (λ x. ((h a b).0 x.0, (g a b).0 x.1), λ x. ((h a b).1 x.0, (g a b).1 x.1)))
intersection_like _ _ _ _ _ _ _ _ t (of_set S T R h) (of_relation V U W g) = cc
intersection_like _ _ _ _ _ _ _ _ t (of_relation T Q R h) (of_set U V W g) = cc

difference_like : (k l : Kind) (m o : Meaning ℕ) (T V : ℕ → Type 0) (R W : ℕ → ℕ → Type 0)
    → IsTrue (takes infixes.Difference k l) → Like k m T R → Like l o V W
    → Like (joined_kind infixes.Difference k l) (of_infix infixes.Difference m o)
    (BlendedSets blends.Difference T V) (Blended blends.Difference R W)
difference_like _ _ _ _ _ _ _ _ t (of_set S T R h) (of_set U V W g) =
    of_set _ _ _
    (λ a. (λ x. ((h a).0 x.0, λ y. x.1 ((g a).1 y)), λ x. ((h a).1 x.0, λ y. x.1 ((g a).0 y))))
difference_like _ _ _ _ _ _ _ _ t (of_relation T Q R h) (of_relation V U W g) =
    of_relation _ _ _
    (λ a b. (
      λ x. ((h a b).0 x.0, λ y. x.1 ((g a b).1 y)),
      λ x. ((h a b).1 x.0, λ y. x.1 ((g a b).0 y)),
    ))
difference_like _ _ _ _ _ _ _ _ t (of_set S T R h) (of_relation V U W g) = cc
difference_like _ _ _ _ _ _ _ _ t (of_relation T Q R h) (of_set U V W g) = cc

sequence_like : (k l : Kind) (m o : Meaning ℕ) (T V X : ℕ → Type 0) (R W : ℕ → ℕ → Type 0)
    → IsTrue (takes infixes.Sequence k l) → Like k m T R → Like l o V W
    → Like (joined_kind infixes.Sequence k l) (of_infix infixes.Sequence m o) X
    (pairs.Composite R W)
sequence_like _ _ _ _ _ _ X _ _ t (of_relation T Q R h) (of_relation V U W g) =
    of_relation X _ _ (λ a b. (
      λ x. (x.0, (h a x.0).0 x.1, (g x.0 b).0 x.2),
      λ x. (x.0, (h a x.0).1 x.1, (g x.0 b).1 x.2),
    ))
sequence_like _ _ _ _ _ _ X _ _ t (of_set S T R h) (of_set U V W g) = cc
sequence_like _ _ _ _ _ _ X _ _ t (of_set S T R h) (of_relation V U W g) = cc
sequence_like _ _ _ _ _ _ X _ _ t (of_relation T Q R h) (of_set U V W g) = cc

product_like : (k l : Kind) (m o : Meaning ℕ) (T V X : ℕ → Type 0) (R W : ℕ → ℕ → Type 0)
    → IsTrue (takes infixes.Product k l) → Like k m T R → Like l o V W
    → Like (joined_kind infixes.Product k l) (of_infix infixes.Product m o) X (pairs.Product T V)
product_like _ _ _ _ _ _ X _ _ t (of_set S T R h) (of_set U V W g) =
    of_relation X _ _
    (λ a b. (λ x. ((h a).0 x.0, (g b).0 x.1), λ x. ((h a).1 x.0, (g b).1 x.1)))
product_like _ _ _ _ _ _ X _ _ t (of_relation T Q R h) (of_relation V U W g) = cc
product_like _ _ _ _ _ _ X _ _ t (of_set S T R h) (of_relation V U W g) = cc
product_like _ _ _ _ _ _ X _ _ t (of_relation T Q R h) (of_set U V W g) = cc

pub joined_like : (op : Infix) (n : ℕ) (sets : Source → ℕ → Type 0)
    (rels : Source → ℕ → ℕ → Type 0) (k l : Kind) (m o : Meaning ℕ) (s t : SetTree)
    (e f : RelTree) → IsTrue (takes op k l) → Like k m (MeansSet n sets s) (MeansRelation n sets rels e)
    → Like l o (MeansSet n sets t) (MeansRelation n sets rels f)
    → Like (joined_kind op k l) (of_infix op m o) (MeansSet n sets (joined_sets op s t))
    (MeansRelation n sets rels (joined_relations op e f s t))
joined_like infixes.Union n sets rels k l m o s t e f take h g =
    union_like k l m o _ _ _ _ take h g
joined_like infixes.Intersection n sets rels k l m o s t e f take h g =
    intersection_like k l m o _ _ _ _ take h g
joined_like infixes.Difference n sets rels k l m o s t e f take h g =
    difference_like k l m o _ _ _ _ take h g
joined_like infixes.Sequence n sets rels k l m o s t e f take h g =
    sequence_like k l m o _ _ _ _ _ take h g
joined_like infixes.Product n sets rels k l m o s t e f take h g =
    product_like k l m o _ _ _ _ _ take h g

-- ---- operators on one operand

path_there : (Q R : ℕ → ℕ → Type 0) → ((a b : ℕ) → Q a b ↔ R a b) → (a : ℕ) (through : List ℕ)
    (b : ℕ) → meant.Path Q a through b → pairs.Path R a through b
path_there Q R h a [] b p = (h a b).0 p
path_there Q R h a (c ∷ cs) b p = ((h a c).0 p.0, path_there Q R h c cs b p.1)

path_back : (Q R : ℕ → ℕ → Type 0) → ((a b : ℕ) → Q a b ↔ R a b) → (a : ℕ) (through : List ℕ)
    (b : ℕ) → pairs.Path R a through b → meant.Path Q a through b
path_back Q R h a [] b p = (h a b).1 p
path_back Q R h a (c ∷ cs) b p = ((h a c).1 p.0, path_back Q R h c cs b p.1)

pub paths_same : (Q R : ℕ → ℕ → Type 0) → ((a b : ℕ) → Q a b ↔ R a b) → (a b : ℕ)
    → meant.Transitive Q a b ↔ pairs.Plus R a b
paths_same Q R h a b =
    (λ x. (x.0, path_there Q R h a x.0 b x.1), λ x. (x.0, path_back Q R h a x.0 b x.1))

same : {A : Type 0} → A → A
same a = a

pub marked_like : (op : Postfix) (n : ℕ) (k : Kind) (m : Meaning ℕ) (T X : ℕ → Type 0)
    (R : ℕ → ℕ → Type 0) → IsTrue (is_relation k) → Like k m T R
    → Like (marked k) (of_postfix (λ a. a < n) op m) X (Closed op n R)
marked_like postfixes.Transitive n _ _ _ X _ t (of_relation T Q R h) =
    of_relation X _ _ (λ a b. paths_same Q R h a b)
marked_like postfixes.Reflexive n _ _ _ X _ t (of_relation T Q R h) =
    of_relation X _ _ (λ a b. (either same (h a b).0, either same (h a b).1))
marked_like postfixes.Closure n _ _ _ X _ t (of_relation T Q R h) =
    of_relation X _ _
    (λ a b. (either same (paths_same Q R h a b).0, either same (paths_same Q R h a b).1))
marked_like postfixes.Inverse n _ _ _ X _ t (of_relation T Q R h) =
    of_relation X _ _ (λ a b. h b a)
marked_like op n _ _ _ X _ t (of_set S T R h) = cc

pub complement_like : (n : ℕ) (k : Kind) (m : Meaning ℕ) (T : ℕ → Type 0) (R : ℕ → ℕ → Type 0)
    → Like k m T R
    → Like k (of_complement (λ a. a < n) m) (Others n T) (pairs.Complement n R)
complement_like n _ _ _ _ (of_set S T R h) =
    of_set _ _ _ (λ a. (λ x. (x.0, λ y. x.1 ((h a).1 y)), λ x. (x.0, λ y. x.1 ((h a).0 y))))
complement_like n _ _ _ _ (of_relation T Q R h) =
    of_relation _ _ _ (λ a b. (
      λ x. (x.0, x.1, λ y. x.2 ((h a b).1 y)),
      λ x. (x.0, x.1, λ y. x.2 ((h a b).0 y)),
    ))

pub identity_like : (k : Kind) (m : Meaning ℕ) (T X : ℕ → Type 0) (R : ℕ → ℕ → Type 0)
    → IsTrue (is_set_kind k) → Like k m T R → Like (narrowed k) (of_identity m) X (pairs.On T)
identity_like _ _ _ X _ t (of_set S T R h) =
    of_relation X _ _ (λ a b. (λ x. ((h a).0 x.0, x.1), λ x. ((h a).1 x.0, x.1)))
identity_like _ _ _ X _ t (of_relation T Q R h) = cc
