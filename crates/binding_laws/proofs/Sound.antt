-- The names of an expression without fault stand for something.
use Rattle.std.proofs.Common.{ℕ, ◌≡◌, ◌+◌, suc, List, [], ◌∷◌, map, reverse, Bool, true, false, ◌||◌, Option, Some, None, Result, Ok, Err, refl, sym, subst, inl, inr}
use Rattle.std.specs.List.{AllByRecursion as Each}
use Rattle.text_values.specs.ModelValue.{Term, Terms, Atom, AllEvents, EmptyRelation, EmptySet, Join, Mark, Not, On, Apply, NoTerm, OneMore}
use Rattle.binding_kinds.specs.declared.fault.ModelFault.{ModelFault}
use Rattle.binding_kinds.specs.declared.fault.ModelFault.TheVariants as faults
use Rattle.binding_kinds.specs.declared.kinds.Kind.{Kind}
use Rattle.binding_kinds.specs.declared.scope.Binder.{Binder}
use Rattle.binding_kinds.specs.declared.scope.Binder.TheVariants as binders
use Rattle.binding_kinds.specs.declared.scope.Found.{Found}
use Rattle.binding_kinds.specs.Value.{Bound}
use Rattle.binding_kinds.specs.Kinds.{found, is_turned}
use Rattle.binding_kinds.specs.Fits.{IsValue}
use Rattle.binding_kinds.specs.Meanings.{parameter_of}
use Rattle.binding_kinds.specs.Senses.{Sense, sense_of, count_of, sizes_in, kinds_in, under_of}
use Rattle.binding_kinds.specs.Faults.{width, IsFaultOfUse, IsFaultOfName, IsFaultOfApplication, IsFaultAt, IsFaultAmong, IsFaultIn, IsFaultInside, IsFaultApplied, IsFaultOfBody, IsFaultOfBodies}
use Rattle.binding_graph.specs.Usages.{Usage}
use Rattle.binding_laws.specs.ItemLaws.{Scope}
use Rattle.binding_laws.proofs.Named.{IsNamed, IsApplied, HasNames, HaveNames, applied_by}

value_by : (from : ℕ) (under : Bool) (slot : ℕ) (b : Binder)
    → ((k : ModelFault) → IsFaultOfUse b from under slot k → ⊥) → IsValue b
value_by from under slot (binders.Predefined p) none = tt
value_by from under slot (binders.Bound i) none = tt
value_by from under slot (binders.Applicable g) none = none faults.Arity refl

module _ (s : Scope)
    (counts : map (λ (u : Usage). u.arity) s.usages ≡ map (λ (b : Sense). b.arity) s.senses) where
  named_by : (from : ℕ) (under : Bool) (x : List ℕ) (o : Option Found) → found s.names x ≡ o
      → ((k : ModelFault) → IsFaultOfName from under o k → ⊥) → IsNamed s.names x
  named_by from under x None is none = absurd (none faults.Unbound refl)
  named_by from under x (Some f) is none =
      record { now = f; there = is; value = value_by from under f.slot f.binder none }

  applied_in : (n : ℕ) (x : List ℕ) (sizes : List ℕ) (kinds : List Kind)
      (r : Result Sense ModelFault) → sense_of s.senses n (found s.names x) ≡ r
      → ((k : ModelFault) → IsFaultOfApplication r sizes kinds k → ⊥) → IsApplied s n x
  applied_in n x sizes kinds (Ok a) is none = applied_by s n x a counts is
  applied_in n x sizes kinds (Err l) is none = absurd (none l refl)

  mutual
    pub sound_term : (from : ℕ) (under : Bool) (t : Term)
        → ((i : ℕ) (k : ModelFault) → IsFaultAt s.senses s.names from under t i k → ⊥)
        → HasNames s [] t
    sound_term from under (Atom x) n =
        λ none. named_by from under x (found s.names x) refl (λ k h. n 0 k (refl, h))
    sound_term from under AllEvents n = tt
    sound_term from under EmptyRelation n = tt
    sound_term from under EmptySet n = tt
    sound_term from under (Join op a b) n = (
      sound_term from under a (λ i k h. n i k (inl h)),
      sound_term from (is_turned op under) b
          (λ i k h. n (width a + 1 + i) k (inr (inr (i, refl, h)))),
    )
    sound_term from under (Mark op a) n = sound_term from under a (λ i k h. n i k (inl h))
    sound_term from under (Not a) n = sound_term from true a (λ i k h. n (1 + i) k (i, refl, h))
    sound_term from under (On a) n =
        sound_term from under a (λ i k h. n (1 + i) k (inr (i, refl, h)))
    sound_term from under (Apply x ts) n = (
      refl,
      applied_in (count_of ts) x (sizes_in s.senses s.names ts) (kinds_in s.senses s.names ts)
          (sense_of s.senses (count_of ts) (found s.names x)) refl (λ k h. n 0 k (inl (refl, h))),
      sound_terms from under (under_of (sense_of s.senses (count_of ts) (found s.names x))) 0 ts
          (λ i k h. n (1 + i) k (inr (i, refl, h))),
    )

    pub sound_terms : (from : ℕ) (under : Bool) (is_under : ℕ → Bool) (j : ℕ) (ts : Terms)
        → ((i : ℕ) (k : ModelFault) → IsFaultAmong s.senses s.names from under is_under j ts i k
        → ⊥) → HaveNames s [] ts
    sound_terms from under is_under j NoTerm n = tt
    sound_terms from under is_under j (OneMore a others) n = (
      sound_term from (under || is_under j) a (λ i k h. n i k (inl h)),
      sound_terms from under is_under (suc j) others
          (λ i k h. n (width a + i) k (inr (i, refl, h))),
    )

  pub sound_group : (from : ℕ) (recursive : Bool) (earlier : List (List ℕ)) (bs : List Bound)
      → ((i : ℕ) (k : ModelFault) → IsFaultIn s.senses s.names from recursive earlier bs i k → ⊥)
      → Each (λ b. HasNames s [] b.body) bs
  sound_group from recursive earlier [] n = tt
  sound_group from recursive earlier (b ∷ bs) n = (
    sound_term from false b.body (λ i k h. n (1 + i) k (inr (inl (i, refl, h)))),
    sound_group from recursive (b.name ∷ earlier) bs (λ i k h.
        n (1 + width b.body + i) k (inr (inr (i, refl, h)))),
  )

  module _ (ps : List (List ℕ)) where
    inside_by : (x : List ℕ) → parameter_of (reverse ps) x ≡ None
        → ((k : ModelFault) → IsFaultInside (parameter_of (reverse ps) x) (found s.names x) k → ⊥)
        → IsNamed s.names x
    inside_by x none n =
        named_by 0 false x (found s.names x) refl (λ k h.
        n k (subst (λ (o : Option ℕ). IsFaultInside o (found s.names x) k) (sym none) h))

    no_parameter : (x : List ℕ) (o : Option ℕ) (r : Result Sense ModelFault)
        → ((k : ModelFault) → IsFaultApplied o r k → ⊥) → o ≡ None
    no_parameter x None r n = refl
    no_parameter x (Some p) r n = absurd (n faults.Arity refl)

    applied_inside : (c : ℕ) (x : List ℕ) (o : Option ℕ) (r : Result Sense ModelFault) → o ≡ None
        → sense_of s.senses c (found s.names x) ≡ r → ((k : ModelFault) → IsFaultApplied o r k → ⊥)
        → IsApplied s c x
    applied_inside c x o (Ok a) none is n = applied_by s c x a counts is
    applied_inside c x o (Err l) none is n =
        absurd (n l (subst (λ (p : Option ℕ). IsFaultApplied p (Err l) l) (sym none) refl))

    mutual
      pub sound_body : (t : Term)
          → ((i : ℕ) (k : ModelFault) → IsFaultOfBody s.senses s.names ps t i k → ⊥)
          → HasNames s ps t
      sound_body (Atom x) n = λ none. inside_by x none (λ k h. n 0 k (refl, h))
      sound_body AllEvents n = tt
      sound_body EmptyRelation n = tt
      sound_body EmptySet n = tt
      sound_body (Join op a b) n = (
        sound_body a (λ i k h. n i k (inl h)),
        sound_body b (λ i k h. n (width a + 1 + i) k (inr (i, refl, h))),
      )
      sound_body (Mark op a) n = sound_body a n
      sound_body (Not a) n = sound_body a (λ i k h. n (1 + i) k (i, refl, h))
      sound_body (On a) n = sound_body a (λ i k h. n (1 + i) k (i, refl, h))
      sound_body (Apply x ts) n =
          let p : Option ℕ = parameter_of (reverse ps) x in
          let r : Result Sense ModelFault = sense_of s.senses (count_of ts) (found s.names x) in
          let none : p ≡ None = no_parameter x p r (λ k h. n 0 k (inl (refl, h))) in (
            none,
            applied_inside (count_of ts) x p r none refl (λ k h. n 0 k (inl (refl, h))),
            sound_bodies ts (λ i k h. n (1 + i) k (inr (i, refl, h))),
          )

      pub sound_bodies : (ts : Terms)
          → ((i : ℕ) (k : ModelFault) → IsFaultOfBodies s.senses s.names ps ts i k → ⊥)
          → HaveNames s ps ts
      sound_bodies NoTerm n = tt
      sound_bodies (OneMore a others) n = (
        sound_body a (λ i k h. n i k (inl h)),
        sound_bodies others (λ i k h. n (width a + i) k (inr (i, refl, h))),
      )
