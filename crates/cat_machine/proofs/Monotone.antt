-- Where names have more pairs, so have the expressions that the test of syntax passes.
use Rattle.std.proofs.Common.{ℕ, inl, inr}
use Rattle.text_values.specs.declared.model.Postfix.TheVariants as postfix
use Rattle.binding_graph.specs.declared.resolved.Blend.TheVariants as blends
use Rattle.binding_graph.specs.declared.resolved.Source.{Source}
use Rattle.binding_graph.specs.declared.resolved.Source.TheVariants as sources
use Rattle.binding_graph.specs.Trees.{RelTree, RelName, NoPair, BlendRelations, SequenceRelations, ProductOfSets, IdentityOn, Close, ComplementRelation}
use Rattle.text_values.specs.declared.model.Postfix.{Postfix}
use Rattle.cat_machine.specs.Meaning.{MeansRelation, Closed}
use Rattle.cat_machine.specs.Named.{WithOwn}
use Rattle.cat_machine.specs.Least.{HasNoOwnName, IsMonotone}
use Rattle.bit_rows.proofs.Closing.{Plus-map}

-- more pairs, more pairs of the closure
pub closed_wider : (how : Postfix) (n : ℕ) (R S : ℕ → ℕ → Type 0) → ((a b : ℕ) → R a b → S a b)
    → (a b : ℕ) → Closed how n R a b → Closed how n S a b
closed_wider postfix.Transitive n R S wider a b m = Plus-map R S wider a b m
closed_wider postfix.Reflexive n R S wider a b (inl m) = inl m
closed_wider postfix.Reflexive n R S wider a b (inr m) = inr (wider a b m)
closed_wider postfix.Inverse n R S wider a b m = wider b a m
closed_wider postfix.Closure n R S wider a b (inl m) = inl m
closed_wider postfix.Closure n R S wider a b (inr m) = inr (Plus-map R S wider a b m)

module _ (n : ℕ) (sets : Source → ℕ → Type 0) (outer : Source → ℕ → ℕ → Type 0) where
  -- an expression without names of the group means the same, whatever these are
  pub fixed : (R S : ℕ → ℕ → ℕ → Type 0) (e : RelTree) → HasNoOwnName e → (a b : ℕ)
      → MeansRelation n sets (WithOwn outer R) e a b → MeansRelation n sets (WithOwn outer S) e a b
  fixed R S (RelName (sources.Predefined x)) f a b m = m
  fixed R S (RelName (sources.Input x)) f a b m = m
  fixed R S (RelName (sources.Own x)) f a b m = absurd f
  fixed R S NoPair f a b m = m
  fixed R S (BlendRelations blends.Union e g) f a b (inl m) = inl (fixed R S e f.0 a b m)
  fixed R S (BlendRelations blends.Union e g) f a b (inr m) = inr (fixed R S g f.1 a b m)
  fixed R S (BlendRelations blends.Intersection e g) f a b m =
      (fixed R S e f.0 a b m.0, fixed R S g f.1 a b m.1)
  fixed R S (BlendRelations blends.Difference e g) f a b m =
      (fixed R S e f.0 a b m.0, (λ k. m.1 (fixed S R g f.1 a b k)))
  fixed R S (SequenceRelations e g) f a b (c, m, k) = (c, fixed R S e f.0 a c m, fixed R S g f.1 c b k)
  fixed R S (ProductOfSets s t) f a b m = m
  fixed R S (IdentityOn s) f a b m = m
  fixed R S (Close how e) f a b m = closed_wider how n _ _ (fixed R S e f) a b m
  fixed R S (ComplementRelation e) f a b m = (m.0, m.1, (λ k. m.2 (fixed S R e f a b k)))

  -- where the names of the group have more pairs, so has a monotone expression
  pub monotone : (R S : ℕ → ℕ → ℕ → Type 0) → ((x a b : ℕ) → R x a b → S x a b) → (e : RelTree)
      → IsMonotone e → (a b : ℕ) → MeansRelation n sets (WithOwn outer R) e a b
      → MeansRelation n sets (WithOwn outer S) e a b
  monotone R S wider (RelName (sources.Predefined x)) f a b m = m
  monotone R S wider (RelName (sources.Input x)) f a b m = m
  monotone R S wider (RelName (sources.Own x)) f a b m = wider x a b m
  monotone R S wider NoPair f a b m = m
  monotone R S wider (BlendRelations blends.Union e g) f a b (inl m) =
      inl (monotone R S wider e f.0 a b m)
  monotone R S wider (BlendRelations blends.Union e g) f a b (inr m) =
      inr (monotone R S wider g f.1 a b m)
  monotone R S wider (BlendRelations blends.Intersection e g) f a b m =
      (monotone R S wider e f.0 a b m.0, monotone R S wider g f.1 a b m.1)
  monotone R S wider (BlendRelations blends.Difference e g) f a b m =
      (monotone R S wider e f.0 a b m.0, (λ k. m.1 (fixed S R g f.1 a b k)))
  monotone R S wider (SequenceRelations e g) f a b (c, m, k) =
      (c, monotone R S wider e f.0 a c m, monotone R S wider g f.1 c b k)
  monotone R S wider (ProductOfSets s t) f a b m = m
  monotone R S wider (IdentityOn s) f a b m = m
  monotone R S wider (Close how e) f a b m = closed_wider how n _ _ (monotone R S wider e f) a b m
  monotone R S wider (ComplementRelation e) f a b m = (m.0, m.1, (λ k. m.2 (fixed S R e f a b k)))
