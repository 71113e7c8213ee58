-- Each name of an expression is among those that its item uses.
use Rattle.std.proofs.Common.{ℕ, zero, suc, ◌≡◌, ◌<◌, ◌≤◌, ◌+◌, ◌⊎◌, inl, inr, List, [], ◌∷◌, ◌++◌, length, map, reverse, Bool, true, false, nat_le, Option, Some, None, Ok, Err, refl, ap, sym, ◌∙◌, subst, arith}
use Rattle.std.specs.Prelude.{◌==◌, is_some, if◌then◌else◌, slice_get}
use Rattle.std.proofs.lemmas.Bool.{leb-true, eqb-true, eq-eqb}
use Rattle.std.proofs.lemmas.List.{reverse-append}
use Rattle.text_values.specs.ModelValue.{Term, Terms, Atom, AllEvents, EmptyRelation, EmptySet, Join, Mark, Not, On, Apply, NoTerm, OneMore}
use Rattle.binding_kinds.specs.declared.fault.ModelFault.TheVariants as faults
use Rattle.binding_kinds.specs.declared.scope.Binder.{Binder}
use Rattle.binding_kinds.specs.declared.scope.Binder.TheVariants as binders
use Rattle.binding_kinds.specs.declared.scope.Found.{Found}
use Rattle.binding_kinds.specs.declared.scope.Input.{Input}
use Rattle.binding_kinds.specs.declared.scope.Used.{Used}
use Rattle.binding_kinds.specs.Value.{Naming}
use Rattle.binding_kinds.specs.Kinds.{found}
use Rattle.binding_kinds.specs.Applicable.{applied, applied_of}
use Rattle.binding_kinds.specs.Meanings.{parameter_of}
use Rattle.binding_kinds.specs.Formula.{Formula}
use Rattle.binding_kinds.specs.Functions.{sense_seen, named_formula, bound_formula, applied_formula, formula_in, formulas_in}
use Rattle.binding_kinds.specs.Senses.{Sense, count_of}
use Rattle.binding_graph.specs.Inputs.{index_of, with_used, with_binder, with_found}
use Rattle.binding_graph.specs.Usages.{Usage, with_all_used, values_of, usage_at, usage_seen, with_meaning, with_values, with_values_among}
use Rattle.meaning.specs.Names.{Name}
use Rattle.meaning_items.specs.Formulas.{HasNames}
use Rattle.meaning_items.proofs.Applying.{IsSeen, seen}
use Rattle.meaning_items.proofs.Slots.{names_more, AllHaveNames, filled_names}

-- ---- more names are used

-- the indexes of names stay as they are
abbrev pub Extends : List Used → List Used → Type 0
Extends us vs = (slot i : ℕ) → index_of us slot ≡ Some i → index_of vs slot ≡ Some i

pub used_extends : (us : List Used) (u : Used) → Extends us (with_used us u)
used_extends us u slot i e = at_test (is_some (index_of us u.slot)) refl
  where
    at_same : (t : Bool) → (t ≡ true → u.slot ≡ slot) → is_some (index_of us u.slot) ≡ false
        → (if t then Some (length us) else index_of us slot) ≡ Some i
    at_same true same off =
        let here : index_of us u.slot ≡ Some i = ap (index_of us) (same refl) ∙ e in
        let on : is_some (index_of us u.slot) ≡ true = ap (λ (o : Option ℕ). is_some o) here in
        absurd (let f : true ≡ false = sym on ∙ off in cc)
    at_same false same off = e

    at_test : (t : Bool) → is_some (index_of us u.slot) ≡ t
        → index_of (if t then us else u ∷ us) slot ≡ Some i
    at_test true is = e
    at_test false is = at_same (u.slot == slot) (eqb-true u.slot slot) is

binder_extends : (us : List Used) (slot : ℕ) (b : Binder) → Extends us (with_binder us slot b)
binder_extends us slot (binders.Predefined p) s i e = e
binder_extends us slot (binders.Bound j) s i e =
    used_extends us (record { slot = slot; input = j }) s i e
binder_extends us slot (binders.Applicable f) s i e = e

found_extends : (us : List Used) (from : ℕ) (f : Found) → Extends us (with_found us from f)
found_extends us from f s i e = at_test (nat_le from f.slot)
  where
    at_test : (t : Bool)
        → index_of (if t then us else with_binder us f.slot f.binder) s ≡ Some i
    at_test true = e
    at_test false = binder_extends us f.slot f.binder s i e

meaning_extends : (us : List Used) (from : ℕ) (p : Option ℕ) (o : Option Found)
    → Extends us (with_meaning us from p o)
meaning_extends us from (Some p) o s i e = e
meaning_extends us from None None s i e = e
meaning_extends us from None (Some f) s i e = found_extends us from f s i e

pub all_used_extends : (vs us : List Used) → Extends vs (with_all_used vs us)
all_used_extends vs [] s i e = e
all_used_extends vs (u ∷ us) s i e =
    all_used_extends (with_used vs u) us s i (used_extends vs u s i e)

mutual
  pub values_extend : (us : List Usage) (names : List Naming) (ps : List Name) (from : ℕ) (t : Term)
      (vs : List Used) → Extends vs (with_values us names ps from t vs)
  values_extend us names ps from (Atom x) vs s i e =
      meaning_extends vs from (parameter_of (reverse ps) x) (found names x) s i e
  values_extend us names ps from AllEvents vs s i e = e
  values_extend us names ps from EmptyRelation vs s i e = e
  values_extend us names ps from EmptySet vs s i e = e
  values_extend us names ps from (Join op a b) vs s i e =
      values_extend us names ps from b (with_values us names ps from a vs) s i
      (values_extend us names ps from a vs s i e)
  values_extend us names ps from (Mark op a) vs s i e = values_extend us names ps from a vs s i e
  values_extend us names ps from (Not a) vs s i e = values_extend us names ps from a vs s i e
  values_extend us names ps from (On a) vs s i e = values_extend us names ps from a vs s i e
  values_extend us names ps from (Apply x ts) vs s i e =
      among_extend us names ps from ts
      (with_all_used vs (values_of (usage_seen us names ps (count_of ts) x))) s i
      (all_used_extends vs (values_of (usage_seen us names ps (count_of ts) x)) s i e)

  pub among_extend : (us : List Usage) (names : List Naming) (ps : List Name) (from : ℕ) (ts : Terms)
      (vs : List Used) → Extends vs (with_values_among us names ps from ts vs)
  among_extend us names ps from NoTerm vs s i e = e
  among_extend us names ps from (OneMore a ts) vs s i e =
      among_extend us names ps from ts (with_values us names ps from a vs) s i
      (values_extend us names ps from a vs s i e)

-- ---- slots among the names used

abbrev pub HasSlot : List Used → ℕ → Type 0
HasSlot [] slot = ⊥
HasSlot (u ∷ us) slot = (u.slot ≡ slot) ⊎ HasSlot us slot

abbrev pub IsUsed : List Used → ℕ → Type 0
IsUsed us slot = (index : ℕ) × (index_of us slot ≡ Some index)

pub used_slot : (us : List Used) (slot : ℕ) → IsUsed us slot → HasSlot us slot
used_slot [] slot h = absurd (let f : None ≡ Some h.0 = h.1 in cc)
used_slot (u ∷ us) slot h =
    at_test (u.slot == slot) (eqb-true u.slot slot) (λ e. used_slot us slot (h.0, e)) h.1
  where
    at_test : (t : Bool) → (t ≡ true → u.slot ≡ slot)
        → (index_of us slot ≡ Some h.0 → HasSlot us slot)
        → (if t then Some (length us) else index_of us slot) ≡ Some h.0
        → (u.slot ≡ slot) ⊎ HasSlot us slot
    at_test true same rest e = inl (same refl)
    at_test false same rest e = inr (rest e)

newly_used : (us : List Used) (u : Used) → IsUsed (with_used us u) u.slot
newly_used us u = at_test (is_some (index_of us u.slot)) refl
  where
    some : (o : Option ℕ) → is_some o ≡ true → (index : ℕ) × (o ≡ Some index)
    some (Some i) is = (i, refl)
    some None is = absurd (let f : false ≡ true = is in cc)

    at_test : (t : Bool) → is_some (index_of us u.slot) ≡ t
        → IsUsed (if t then us else u ∷ us) u.slot
    at_test true is = some (index_of us u.slot) is
    at_test false is =
        (length us, ap (λ (t : Bool). if t then Some (length us) else index_of us u.slot) (eq-eqb u.slot u.slot refl))

extended_use : (us vs : List Used) → Extends us vs → (slot : ℕ) → IsUsed us slot → IsUsed vs slot
extended_use us vs more slot h = (h.0, more slot h.0 h.1)

slots_used : (vs us : List Used) (slot : ℕ) → HasSlot us slot → IsUsed (with_all_used vs us) slot
slots_used vs [] slot h = absurd h
slots_used vs (u ∷ us) slot (inl same) =
    extended_use (with_used vs u) (with_all_used (with_used vs u) us)
    (all_used_extends (with_used vs u) us) slot
    (subst (IsUsed (with_used vs u)) same (newly_used vs u))
slots_used vs (u ∷ us) slot (inr h) = slots_used (with_used vs u) us slot h

slot_appended : (us vs : List Used) (slot : ℕ) → HasSlot us slot ⊎ HasSlot vs slot
    → HasSlot (us ++ vs) slot
slot_appended [] vs slot (inl h) = absurd h
slot_appended [] vs slot (inr h) = h
slot_appended (u ∷ us) vs slot (inl (inl h)) = inl h
slot_appended (u ∷ us) vs slot (inl (inr h)) = inr (slot_appended us vs slot (inl h))
slot_appended (u ∷ us) vs slot (inr h) = inr (slot_appended us vs slot (inr h))

pub slot_reversed : (us : List Used) (slot : ℕ) → HasSlot us slot → HasSlot (reverse us) slot
slot_reversed [] slot h = h
slot_reversed (u ∷ us) slot h =
    subst (λ (ws : List Used). HasSlot ws slot) (sym (reverse-append (u ∷ []) us))
    (slot_appended (reverse us) (u ∷ []) slot (at_side (slot_reversed us slot) h))
  where
    at_side : (HasSlot us slot → HasSlot (reverse us) slot) → (u.slot ≡ slot) ⊎ HasSlot us slot
        → HasSlot (reverse us) slot ⊎ HasSlot (u ∷ []) slot
    at_side before (inl same) = inr (inl same)
    at_side before (inr rest) = inl (before rest)

-- ---- the names of an expression are used

-- a name of another item, which has a slot below that one, is used
abbrev pub IsCovered : ℕ → List Used → Found → Type 0
IsCovered from us g = (i : Input) → g.binder ≡ binders.Bound i → g.slot < from → IsUsed us g.slot

-- the names that the body of a function uses are all that its formula holds
pub record Covers (u : Usage) (s : Sense) : Type 0 where
  pub arity : u.arity ≡ s.arity
  pub names : HasNames (λ g. (i : Input) → g.binder ≡ binders.Bound i → HasSlot u.values g.slot)
      s.formula

abbrev pub AllCover : List Usage → List Sense → Type 0
AllCover us ss =
    (f : ℕ) (s : Sense) → slice_get ss f ≡ Some s
    → (u : Usage) × (slice_get us f ≡ Some u) × Covers u s

found_covered : (vs : List Used) (from : ℕ) (f : Found) → IsCovered from (with_found vs from f) f
found_covered vs from f i is lt = at_test (nat_le from f.slot) (leb-true from f.slot)
  where
    at_test : (t : Bool) → (t ≡ true → from ≤ f.slot)
        → IsUsed (if t then vs else with_binder vs f.slot f.binder) f.slot
    at_test true past = let le = past refl in absurd (omega (arith, le, lt))
    at_test false past =
        subst (λ (b : Binder). IsUsed (with_binder vs f.slot b) f.slot) (sym is)
        (newly_used vs (record { slot = f.slot; input = i }))

name_covered : (vs : List Used) (from : ℕ) (p : Option ℕ) (o : Option Found)
    → HasNames (IsCovered from (with_meaning vs from p o)) (named_formula p o)
name_covered vs from (Some p) o = tt
name_covered vs from None None = tt
name_covered vs from None (Some f) = at_binder f.binder
  where
    at_binder : (b : Binder) → HasNames (IsCovered from (with_found vs from f)) (bound_formula f b)
    at_binder (binders.Predefined p) = found_covered vs from f
    at_binder (binders.Bound i) = found_covered vs from f
    at_binder (binders.Applicable g) = tt

covered_more : (from : ℕ) (us vs : List Used) → Extends us vs → (f : Formula)
    → HasNames (IsCovered from us) f → HasNames (IsCovered from vs) f
covered_more from us vs more f h =
    names_more (IsCovered from us) (IsCovered from vs)
    (λ g one i is lt. extended_use us vs more g.slot (one i is lt)) f h

-- the usage of a function that is applied
usage_applied : (us : List Usage) (ss : List Sense) (names : List Naming) (ps : List Name)
    (count : ℕ) (x : Name) (s : Sense) → AllCover us ss → IsSeen ss names ps count x s
    → (u : Usage) × (usage_seen us names ps count x ≡ Some u) × Covers u s
usage_applied us ss names ps count x s all h =
    let one = all h.function s h.there in
    (one.0, is one.0 one.1 (one.2.arity ∙ h.arity), one.2)
  where
    arity_at : (vs : List Usage) (f : ℕ) (u : Usage) → slice_get vs f ≡ Some u
        → slice_get (map (λ (w : Usage). w.arity) vs) f ≡ Some u.arity
    arity_at [] f u e = absurd (let g : None ≡ Some u = e in cc)
    arity_at (v ∷ vs) zero u e =
        let same : v ≡ u = let g : Some v ≡ Some u = e in cc in
        ap (λ (w : Usage). Some w.arity) same
    arity_at (v ∷ vs) (suc f) u e = arity_at vs f u e

    applied_so : (u : Usage) → slice_get us h.function ≡ Some u → u.arity ≡ count
        → applied h.function count (slice_get (map (λ (w : Usage). w.arity) us) h.function)
        ≡ Ok h.function
    applied_so u there arity =
        ap (applied h.function count) (arity_at us h.function u there)
        ∙ ap (λ (t : Bool). if t then Ok h.function else Err faults.Arity) (eq-eqb u.arity count arity)

    is : (u : Usage) → slice_get us h.function ≡ Some u → u.arity ≡ count
        → usage_seen us names ps count x ≡ Some u
    is u there arity =
        ap (λ (o : Option ℕ). usage_at us (applied_of (λ f. slice_get (map (λ (w : Usage). w.arity) us) f)
        count o (found names x))) h.no_parameter
        ∙ (ap (λ (o : Option Found). usage_at us (applied_of
        (λ f. slice_get (map (λ (w : Usage). w.arity) us) f) count None o)) h.is_found
        ∙ (rw h.is_function (ap (usage_at us) (applied_so u there arity) ∙ there)))

module _ (us : List Usage) (ss : List Sense) (names : List Naming) (ps : List Name) (from : ℕ)
    (all : AllCover us ss) where
  sense_covered : (count : ℕ) (x : Name) (vs : List Used) (s : Sense)
      → sense_seen ss names ps count x ≡ Some s
      → HasNames (IsCovered from (with_all_used vs (values_of (usage_seen us names ps count x))))
      s.formula
  sense_covered count x vs s e =
      let one = usage_applied us ss names ps count x s all (seen ss names ps count x s e) in
      subst (λ (o : Option Usage). HasNames (IsCovered from (with_all_used vs (values_of o))) s.formula)
      (sym one.1)
      (names_more (λ g. (i : Input) → g.binder ≡ binders.Bound i → HasSlot one.0.values g.slot)
      (IsCovered from (with_all_used vs one.0.values))
      (λ g has i is lt. slots_used vs one.0.values g.slot (has i is)) s.formula one.2.names)

  applied_covered : (o : Option Sense) (vs : List Used) (fs : List Formula)
      → ((s : Sense) → o ≡ Some s → HasNames (IsCovered from vs) s.formula)
      → AllHaveNames (IsCovered from vs) fs → HasNames (IsCovered from vs) (applied_formula o fs)
  applied_covered None vs fs h k = tt
  applied_covered (Some s) vs fs h k = filled_names (IsCovered from vs) fs k s.formula (h s refl)

  mutual
    pub covered : (t : Term) (vs : List Used)
        → HasNames (IsCovered from (with_values us names ps from t vs)) (formula_in ss names ps t)
    covered (Atom x) vs = name_covered vs from (parameter_of (reverse ps) x) (found names x)
    covered AllEvents vs = tt
    covered EmptyRelation vs = tt
    covered EmptySet vs = tt
    covered (Join op a b) vs = (
      covered_more from (with_values us names ps from a vs)
          (with_values us names ps from b (with_values us names ps from a vs))
          (values_extend us names ps from b (with_values us names ps from a vs))
          (formula_in ss names ps a) (covered a vs),
      covered b (with_values us names ps from a vs),
    )
    covered (Mark op a) vs = covered a vs
    covered (Not a) vs = covered a vs
    covered (On a) vs = covered a vs
    covered (Apply x ts) vs =
        let before = with_all_used vs (values_of (usage_seen us names ps (count_of ts) x)) in
        applied_covered (sense_seen ss names ps (count_of ts) x)
        (with_values_among us names ps from ts before) (formulas_in ss names ps ts)
        (λ s e. covered_more from before (with_values_among us names ps from ts before)
        (among_extend us names ps from ts before) s.formula
        (sense_covered (count_of ts) x vs s e))
        (all_covered ts before)

    all_covered : (ts : Terms) (vs : List Used)
        → AllHaveNames (IsCovered from (with_values_among us names ps from ts vs))
        (formulas_in ss names ps ts)
    all_covered NoTerm vs = tt
    all_covered (OneMore a ts) vs = (
      covered_more from (with_values us names ps from a vs)
          (with_values_among us names ps from ts (with_values us names ps from a vs))
          (among_extend us names ps from ts (with_values us names ps from a vs))
          (formula_in ss names ps a) (covered a vs),
      all_covered ts (with_values us names ps from a vs),
    )
