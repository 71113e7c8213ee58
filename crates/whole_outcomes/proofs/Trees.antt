-- What an expression means among n events can be told, where it can be told what its names have. So
-- it is a set or a relation.
use Rattle.std.proofs.Common.{ℕ, ◌≡◌, ◌<◌, ◌≤◌, ◌+◌, ◌↔◌, ◌⊎◌, inl, inr, zero, suc, List, Bool, true, false, IsTrue, refl, sym, ◌∙◌, subst, arith}
use Rattle.std.proofs.lemmas.Bool.{cases_eq, false≢true}
use Rattle.bit_rows.specs.Pairs.{Union, Complement, Composite, Product, On, Plus, PlusBelow, Identity}
use Rattle.bit_rows.specs.Relation.{Relation, Events, IsRelation, IsEvents}
use Rattle.bit_rows.proofs.Closing.{Plus-within}
use Rattle.bit_rows.proofs.Paths.{PlusBelow-suc, PlusBelow-zero, PlusBelow-all}
use Rattle.whole_outcomes.proofs.Words.{sets_told, relations_told}
use Rattle.whole_outcomes.specs.NameLaws.{Told}
use Rattle.whole_outcomes.proofs.Telling.{told_both, told_either, told_not, told_same, told_less, Below, told_below}
use Rattle.text_values.specs.declared.model.Postfix.{Postfix}
use Rattle.text_values.specs.declared.model.Postfix.TheVariants as postfix
use Rattle.binding_graph.specs.declared.resolved.Blend.{Blend}
use Rattle.binding_graph.specs.declared.resolved.Blend.TheVariants as blends
use Rattle.binding_graph.specs.declared.resolved.Source.{Source}
use Rattle.binding_graph.specs.Trees.{SetTree, SetName, AllEvents, NoEvent, BlendSets, ComplementSet, RelTree, RelName, NoPair, BlendRelations, SequenceRelations, ProductOfSets, IdentityOn, Close, ComplementRelation}
use Rattle.cat_machine.specs.Meaning.{MeansSet, MeansRelation, BlendedSets, Blended, Closed, Others}

-- it can be told which events the set has, all of which are below n
pub record IsToldSet (n : ℕ) (S : ℕ → Type 0) : Type 0 where
  pub within : (a : ℕ) → S a → a < n
  pub told : (a : ℕ) → Told (S a)

pub record IsTold (n : ℕ) (R : ℕ → ℕ → Type 0) : Type 0 where
  pub within : (a b : ℕ) → R a b → (a < n) × (b < n)
  pub told : (a b : ℕ) → Told (R a b)

module _ (n : ℕ) where
  pub no_events : IsToldSet n (λ a. ⊥)
  no_events = record { within = λ a h. absurd h; told = λ a. inr (λ h. h) }

  pub no_pairs : IsTold n (λ a b. ⊥)
  no_pairs = record { within = λ a b h. absurd h; told = λ a b. inr (λ h. h) }

  blended_sets : (how : Blend) (S T : ℕ → Type 0) → IsToldSet n S → IsToldSet n T
      → IsToldSet n (BlendedSets how S T)
  blended_sets blends.Union S T s t = record {
    within = λ a h. elim h [ inl x ↦ s.within a x | inr y ↦ t.within a y ];
    told = λ a. told_either (S a) (T a) (s.told a) (t.told a);
  }
  blended_sets blends.Intersection S T s t = record {
    within = λ a h. s.within a h.0;
    told = λ a. told_both (S a) (T a) (s.told a) (t.told a);
  }
  blended_sets blends.Difference S T s t = record {
    within = λ a h. s.within a h.0;
    told = λ a. told_both (S a) (T a → ⊥) (s.told a) (told_not (T a) (t.told a));
  }

  other_events : (S : ℕ → Type 0) → IsToldSet n S → IsToldSet n (Others n S)
  other_events S s = record {
    within = λ a h. h.0;
    told = λ a. told_both (a < n) (S a → ⊥) (told_less a n) (told_not (S a) (s.told a));
  }

  either_of : (R S : ℕ → ℕ → Type 0) → IsTold n R → IsTold n S → IsTold n (Union R S)
  either_of R S r s = record {
    within = λ a b h. elim h [ inl x ↦ r.within a b x | inr y ↦ s.within a b y ];
    told = λ a b. told_either (R a b) (S a b) (r.told a b) (s.told a b);
  }

  blended : (how : Blend) (R S : ℕ → ℕ → Type 0) → IsTold n R → IsTold n S → IsTold n (Blended how R S)
  blended blends.Union R S r s = either_of R S r s
  blended blends.Intersection R S r s = record {
    within = λ a b h. r.within a b h.0;
    told = λ a b. told_both (R a b) (S a b) (r.told a b) (s.told a b);
  }
  blended blends.Difference R S r s = record {
    within = λ a b h. r.within a b h.0;
    told = λ a b. told_both (R a b) (S a b → ⊥) (r.told a b) (told_not (S a b) (s.told a b));
  }

  composed : (R S : ℕ → ℕ → Type 0) → IsTold n R → IsTold n S → IsTold n (Composite R S)
  composed R S r s = record {
    within = λ a b h. ((r.within a h.0 h.1).0, (s.within h.0 b h.2).1);
    told = λ a b. told_same (Below (λ c. R a c × S c b) n) (Composite R S a b)
        ((λ h. (h.0, h.2.0, h.2.1)), (λ h. (h.0, (r.within a h.0 h.1).1, (h.1, h.2))))
        (told_below (λ c. R a c × S c b) (λ c. told_both (R a c) (S c b) (r.told a c) (s.told c b)) n);
  }

  products : (S T : ℕ → Type 0) → IsToldSet n S → IsToldSet n T → IsTold n (Product S T)
  products S T s t = record {
    within = λ a b h. (s.within a h.0, t.within b h.1);
    told = λ a b. told_both (S a) (T b) (s.told a) (t.told b);
  }

  on_set : (S : ℕ → Type 0) → IsToldSet n S → IsTold n (On S)
  on_set S s = record {
    within = λ a b h. (s.within a h.0, subst (λ (c : ℕ). c < n) h.1 (s.within a h.0));
    told = λ a b. told_both (S a) (a ≡ b) (s.told a) (cases_eq a b);
  }

  others : (R : ℕ → ℕ → Type 0) → IsTold n R → IsTold n (Complement n R)
  others R r = record {
    within = λ a b h. (h.0, h.1);
    told =
        λ a b. told_same ((a < n) × ((b < n) × (R a b → ⊥))) (Complement n R a b)
        ((λ h. (h.0, h.1.0, h.1.1)), (λ h. (h.0, (h.1, h.2))))
        (told_both (a < n) ((b < n) × (R a b → ⊥)) (told_less a n) (told_both (b < n) (R a b → ⊥)
        (told_less b n) (told_not (R a b) (r.told a b))));
  }

  identity : IsTold n (Identity n)
  identity = record {
    within = λ a b h. (h.0, subst (λ (c : ℕ). c < n) h.1 h.0);
    told = λ a b. told_both (a < n) (a ≡ b) (told_less a n) (cases_eq a b);
  }

  paths_below : (R : ℕ → ℕ → Type 0) → IsTold n R → (k a b : ℕ) → Told (PlusBelow R k a b)
  paths_below R r zero a b = told_same (R a b) (PlusBelow R 0 a b) (PlusBelow-zero R a b) (r.told a b)
  paths_below R r (suc k) a b =
      let more : Told (PlusBelow R (k + 1) a b) =
      told_same (PlusBelow R k a b ⊎ (PlusBelow R k a k × PlusBelow R k k b))
      (PlusBelow R (k + 1) a b) ((PlusBelow-suc R k a b).1, (PlusBelow-suc R k a b).0)
      (told_either (PlusBelow R k a b) (PlusBelow R k a k × PlusBelow R k k b) (paths_below R r k a b)
      (told_both (PlusBelow R k a k) (PlusBelow R k k b) (paths_below R r k a k)
      (paths_below R r k k b))) in
      subst (λ (m : ℕ). Told (PlusBelow R m a b)) (omega arith) more

  pub plus : (R : ℕ → ℕ → Type 0) → IsTold n R → IsTold n (Plus R)
  plus R r = record {
    within = Plus-within R n r.within;
    told =
        λ a b. told_same (PlusBelow R n a b) (Plus R a b) (PlusBelow-all R n a b r.within)
        (paths_below R r n a b);
  }

  closed : (how : Postfix) (R : ℕ → ℕ → Type 0) → IsTold n R → IsTold n (Closed how n R)
  closed postfix.Transitive R r = plus R r
  closed postfix.Reflexive R r = either_of (Identity n) R identity r
  closed postfix.Inverse R r = record {
    within = λ a b h. let w = r.within b a h in (w.1, w.0);
    told = λ a b. r.told b a;
  }
  closed postfix.Closure R r = either_of (Identity n) (Plus R) identity (plus R r)

  module _ (sets : Source → ℕ → Type 0) (rels : Source → ℕ → ℕ → Type 0)
      (told_sets : (source : Source) → IsToldSet n (sets source))
      (told_rels : (source : Source) → IsTold n (rels source)) where
    pub told_set : (t : SetTree) → IsToldSet n (MeansSet n sets t)
    told_set (SetName source) = told_sets source
    told_set AllEvents = record { within = λ a h. h; told = λ a. told_less a n }
    told_set NoEvent = no_events
    told_set (BlendSets how s t) = blended_sets how _ _ (told_set s) (told_set t)
    told_set (ComplementSet s) = other_events _ (told_set s)

    pub told_relation : (e : RelTree) → IsTold n (MeansRelation n sets rels e)
    told_relation (RelName source) = told_rels source
    told_relation NoPair = no_pairs
    told_relation (BlendRelations how e f) = blended how _ _ (told_relation e) (told_relation f)
    told_relation (SequenceRelations e f) = composed _ _ (told_relation e) (told_relation f)
    told_relation (ProductOfSets s t) = products _ _ (told_set s) (told_set t)
    told_relation (IdentityOn s) = on_set _ (told_set s)
    told_relation (Close how e) = closed how _ (told_relation e)
    told_relation (ComplementRelation e) = others _ (told_relation e)

-- ---- so it is a set or a relation

pub truth : (P : Type 0) → Told P → Bool
truth P (inl p) = true
truth P (inr never) = false

pub truth_is : (P : Type 0) (t : Told P) → IsTrue (truth P t) ↔ P
unfolding truth
truth_is P (inl p) = ((λ e. p), (λ h. refl))
truth_is P (inr never) = ((λ e. absurd (false≢true e)), (λ p. absurd (never p)))

pub some_set : (n : ℕ) (S : ℕ → Type 0) → IsToldSet n S → (s : Events) × IsEvents s n S
some_set n S told =
    let (s, is) = sets_told n (λ a. truth (S a) (told.told a)) in (
      s,
      record {
        count = is.count;
        within = is.within;
        members = λ a. (
          (λ h. (truth_is (S a) (told.told a)).0 ((is.members a).0 h).1),
          (λ h. (is.members a).1 (told.within a h, (truth_is (S a) (told.told a)).1 h)),
        );
      },
    )

pub some_relation : (n : ℕ) → n ≤ 128 → (R : ℕ → ℕ → Type 0) → IsTold n R
    → (r : Relation) × IsRelation r n R
some_relation n few R told =
    let (r, is) = relations_told n (λ a b. truth (R a b) (told.told a b)) few in (
      r,
      record {
        count = is.count;
        regular = is.regular;
        pairs = λ a b. (
          (λ h. (truth_is (R a b) (told.told a b)).0 ((is.pairs a b).0 h).2),
          (λ h.
              let w = told.within a b h in
              (is.pairs a b).1 (w.0, w.1, (truth_is (R a b) (told.told a b)).1 h)),
        );
      },
    )
