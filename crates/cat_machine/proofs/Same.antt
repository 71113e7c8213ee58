-- Operations on sets that have the same members give sets that have the same members.
use Rattle.std.proofs.Common.{ℕ, ◌↔◌, inl, inr}
use Rattle.bit_rows.specs.Pairs.{Complement, Composite, Product, On}
use Rattle.bit_rows.specs.Relation.{Relation, IsRelation, Events, IsEvents}
use Rattle.text_values.specs.declared.model.Postfix.{Postfix}
use Rattle.text_values.specs.declared.model.Postfix.TheVariants as postfix
use Rattle.binding_graph.specs.declared.resolved.Blend.{Blend}
use Rattle.binding_graph.specs.declared.resolved.Blend.TheVariants as blends
use Rattle.cat_machine.specs.Meaning.{Blended, BlendedSets, Closed, Others}
use Rattle.bit_rows.proofs.Closing.{Plus-map}

abbrev pub Same : (ℕ → ℕ → Type 0) → (ℕ → ℕ → Type 0) → Type 0
Same R S = (a b : ℕ) → R a b ↔ S a b

abbrev pub SameSet : (ℕ → Type 0) → (ℕ → Type 0) → Type 0
SameSet S T = (a : ℕ) → S a ↔ T a

pub changed : (r : Relation) (n : ℕ) (P Q : ℕ → ℕ → Type 0) → Same P Q → IsRelation r n P
    → IsRelation r n Q
changed r n P Q same h = record {
  count = h.count;
  regular = h.regular;
  pairs = λ a b. ((λ x. (same a b).0 ((h.pairs a b).0 x)), (λ y. (h.pairs a b).1 ((same a b).1 y)));
}

pub changed_set : (s : Events) (n : ℕ) (P Q : ℕ → Type 0) → SameSet P Q → IsEvents s n P
    → IsEvents s n Q
changed_set s n P Q same h = record {
  count = h.count;
  within = h.within;
  members = λ a. ((λ x. (same a).0 ((h.members a).0 x)), (λ y. (h.members a).1 ((same a).1 y)));
}

pub same_blend : (how : Blend) (R P S Q : ℕ → ℕ → Type 0) → Same R P → Same S Q
    → Same (Blended how R S) (Blended how P Q)
same_blend blends.Union R P S Q r s a b = (
  (λ h. elim h [ inl x ↦ inl ((r a b).0 x) | inr y ↦ inr ((s a b).0 y) ]),
  (λ h. elim h [ inl x ↦ inl ((r a b).1 x) | inr y ↦ inr ((s a b).1 y) ]),
)
same_blend blends.Intersection R P S Q r s a b =
    ((λ h. ((r a b).0 h.0, (s a b).0 h.1)), (λ h. ((r a b).1 h.0, (s a b).1 h.1)))
same_blend blends.Difference R P S Q r s a b = (
  (λ h. ((r a b).0 h.0, (λ y. h.1 ((s a b).1 y)))),
  (λ h. ((r a b).1 h.0, (λ y. h.1 ((s a b).0 y)))),
)

pub same_then : (R P S Q : ℕ → ℕ → Type 0) → Same R P → Same S Q
    → Same (Composite R S) (Composite P Q)
same_then R P S Q r s a b =
    ((λ (c, x, y). (c, (r a c).0 x, (s c b).0 y)), (λ (c, x, y). (c, (r a c).1 x, (s c b).1 y)))

pub same_close : (how : Postfix) (n : ℕ) (R S : ℕ → ℕ → Type 0) → Same R S
    → Same (Closed how n R) (Closed how n S)
same_close postfix.Transitive n R S s a b =
    (Plus-map R S (λ x y. (s x y).0) a b, Plus-map S R (λ x y. (s x y).1) a b)
same_close postfix.Reflexive n R S s a b = (
  (λ h. elim h [ inl x ↦ inl x | inr y ↦ inr ((s a b).0 y) ]),
  (λ h. elim h [ inl x ↦ inl x | inr y ↦ inr ((s a b).1 y) ]),
)
same_close postfix.Inverse n R S s a b = s b a
same_close postfix.Closure n R S s a b = (
  (λ h. elim h [ inl x ↦ inl x | inr y ↦ inr (Plus-map R S (λ x z. (s x z).0) a b y) ]),
  (λ h. elim h [ inl x ↦ inl x | inr y ↦ inr (Plus-map S R (λ x z. (s x z).1) a b y) ]),
)

pub same_turn : (n : ℕ) (R S : ℕ → ℕ → Type 0) → Same R S → Same (Complement n R) (Complement n S)
same_turn n R S s a b =
    ((λ h. (h.0, h.1, (λ x. h.2 ((s a b).1 x)))), (λ h. (h.0, h.1, (λ x. h.2 ((s a b).0 x)))))

pub same_cross : (R P S Q : ℕ → Type 0) → SameSet R P → SameSet S Q
    → Same (Product R S) (Product P Q)
same_cross R P S Q r s a b = ((λ h. ((r a).0 h.0, (s b).0 h.1)), (λ h. ((r a).1 h.0, (s b).1 h.1)))

pub same_on : (R P : ℕ → Type 0) → SameSet R P → Same (On R) (On P)
same_on R P r a b = ((λ h. ((r a).0 h.0, h.1)), (λ h. ((r a).1 h.0, h.1)))

pub same_sets : (how : Blend) (R P S Q : ℕ → Type 0) → SameSet R P → SameSet S Q
    → SameSet (BlendedSets how R S) (BlendedSets how P Q)
same_sets blends.Union R P S Q r s a = (
  (λ h. elim h [ inl x ↦ inl ((r a).0 x) | inr y ↦ inr ((s a).0 y) ]),
  (λ h. elim h [ inl x ↦ inl ((r a).1 x) | inr y ↦ inr ((s a).1 y) ]),
)
same_sets blends.Intersection R P S Q r s a =
    ((λ h. ((r a).0 h.0, (s a).0 h.1)), (λ h. ((r a).1 h.0, (s a).1 h.1)))
same_sets blends.Difference R P S Q r s a =
    ((λ h. ((r a).0 h.0, (λ y. h.1 ((s a).1 y)))), (λ h. ((r a).1 h.0, (λ y. h.1 ((s a).0 y)))))

pub same_others : (n : ℕ) (R P : ℕ → Type 0) → SameSet R P → SameSet (Others n R) (Others n P)
same_others n R P r a = ((λ h. (h.0, (λ x. h.1 ((r a).1 x)))), (λ h. (h.0, (λ x. h.1 ((r a).0 x)))))
