-- An expression whose names are expected and kept in two models has names that are resolved alike.
use Rattle.std.proofs.Common.{ℕ, ◌≡◌, List, reverse, Option, Some, None, refl, sym, subst}
use Rattle.text_values.specs.ModelValue.{Term, Terms, Atom, AllEvents, EmptyRelation, EmptySet, Join, Mark, Not, On, Apply, NoTerm, OneMore}
use Rattle.binding_kinds.specs.declared.scope.Found.{Found}
use Rattle.binding_kinds.specs.declared.scope.Input.{Input}
use Rattle.binding_kinds.specs.Kinds.{found}
use Rattle.binding_kinds.specs.Fits.{IsValue}
use Rattle.binding_kinds.specs.Meanings.{parameter_of}
use Rattle.binding_kinds.specs.Senses.{count_of}
use Rattle.binding_graph.specs.Usages.{usage_seen}
use Rattle.binding_laws.specs.ItemLaws.{Scope, Sight, Matching, IsSameFound, IsSameName, IsSameUnless, IsFunctionAlike, IsAppliedAlike, IsNamedAlike, AreNamedAlike}
use Rattle.binding_laws.proofs.Named.{IsNamed, IsApplied, HasNames, HaveNames, seen_usage}
use Rattle.binding_laws.proofs.Used.{IsKeptBinder, IsKeptName, IsKeptUsage, AreKept, AllAreKept}

module _ (M : Matching) (fs gs : List ℕ) (s o : Scope) (P R : Input → Type 0) (Q T : ℕ → Type 0)
    (ps : List (List ℕ)) (from start : ℕ) where
  abbrev left : Sight
  left = record { functions = fs; names = s.names }

  abbrev right : Sight
  right = record { functions = gs; names = o.names }

  -- values that are kept in both stand for the same
  abbrev pub AreSameValues : Type 0
  AreSameValues =
      (x : List ℕ) (f g : Found) → found s.names x ≡ Some f → found o.names x ≡ Some g
      → IsValue f.binder → IsValue g.binder
      → IsKeptBinder P Q s.usages s.names ps from f f.binder
      → IsKeptBinder R T o.usages o.names ps start g g.binder → IsSameFound M.pairing f g

  -- so do functions
  abbrev pub AreSameFunctions : Type 0
  AreSameFunctions =
      (n : ℕ) (x : List ℕ) (h : IsApplied s n x) (g : IsApplied o n x) → Q h.usage.item
      → T g.usage.item → IsFunctionAlike M left right h.now.binder g.now.binder

  module _ (values : AreSameValues) (functions : AreSameFunctions) where
    atom_alike : (x : List ℕ) (q : Option ℕ) → (q ≡ None → IsNamed s.names x)
        → (q ≡ None → IsNamed o.names x)
        → IsKeptName P Q s.usages s.names ps from q (found s.names x)
        → IsKeptName R T o.usages o.names ps start q (found o.names x)
        → IsSameUnless M.pairing q (found s.names x) (found o.names x)
    atom_alike x (Some i) h g k r = tt
    atom_alike x None h g k r =
        let a = h refl in
        let b = g refl in
        let kept : IsKeptBinder P Q s.usages s.names ps from a.now a.now.binder = subst (IsKeptName P Q s.usages s.names ps from None) a.there k in
        let more : IsKeptBinder R T o.usages o.names ps start b.now b.now.binder = subst (IsKeptName R T o.usages o.names ps start None) b.there r in
        let same = values x a.now b.now a.there b.there a.value b.value kept more in
        subst (λ (y : Option Found). IsSameName M.pairing y (found o.names x)) (sym a.there)
        (subst (λ (y : Option Found). IsSameName M.pairing (Some a.now) y) (sym b.there) same)

    applied_alike : (n : ℕ) (x : List ℕ) → parameter_of (reverse ps) x ≡ None → IsApplied s n x
        → IsApplied o n x
        → IsKeptUsage P Q s.usages s.names ps from (usage_seen s.usages s.names ps n x)
        → IsKeptUsage R T o.usages o.names ps start (usage_seen o.usages o.names ps n x)
        → IsAppliedAlike M left right (found s.names x) (found o.names x)
    applied_alike n x none h g k r =
        let kept : IsKeptUsage P Q s.usages s.names ps from (Some h.usage) = subst (IsKeptUsage P Q s.usages s.names ps from) (seen_usage s n ps x none h) k in
        let more : IsKeptUsage R T o.usages o.names ps start (Some g.usage) = subst (IsKeptUsage R T o.usages o.names ps start) (seen_usage o n ps x none g) r in
        let alike = functions n x h g kept.1 more.1 in
        subst (λ (y : Option Found). IsAppliedAlike M left right y (found o.names x)) (sym h.there)
        (subst (λ (y : Option Found). IsAppliedAlike M left right (Some h.now) y) (sym g.there)
        alike)

    mutual
      pub term_alike : (t : Term) → HasNames s ps t → HasNames o ps t
          → AreKept P Q s.usages s.names ps from t → AreKept R T o.usages o.names ps start t
          → IsNamedAlike M left right ps t
      term_alike (Atom x) h g k r = atom_alike x (parameter_of (reverse ps) x) h g k r
      term_alike AllEvents h g k r = tt
      term_alike EmptyRelation h g k r = tt
      term_alike EmptySet h g k r = tt
      term_alike (Join op a b) h g k r =
          (term_alike a h.0 g.0 k.0 r.0, term_alike b h.1 g.1 k.1 r.1)
      term_alike (Mark op a) h g k r = term_alike a h g k r
      term_alike (Not a) h g k r = term_alike a h g k r
      term_alike (On a) h g k r = term_alike a h g k r
      term_alike (Apply x ts) h g k r =
          (applied_alike (count_of ts) x h.0 h.1 g.1 k.0 r.0, terms_alike ts h.2 g.2 k.1 r.1)

      pub terms_alike : (ts : Terms) → HaveNames s ps ts → HaveNames o ps ts
          → AllAreKept P Q s.usages s.names ps from ts → AllAreKept R T o.usages o.names ps start ts
          → AreNamedAlike M left right ps ts
      terms_alike NoTerm h g k r = tt
      terms_alike (OneMore a others) h g k r =
          (term_alike a h.0 g.0 k.0 r.0, terms_alike others h.1 g.1 k.1 r.1)
