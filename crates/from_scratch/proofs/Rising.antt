-- The trees of bodies without fault are monotone.
use Rattle.std.proofs.Common.{ℕ, ◌≡◌, ◌<◌, ◌≤◌, ◌+◌, inl, inr, zero, suc, List, [], ◌∷◌, length, Bool, true, false, Option, Some, None, Result, Ok, Err, refl, sym, ◌∙◌, subst, arith, rules}
use Rattle.std.specs.List.{AllByRecursion}
use Rattle.text_values.specs.declared.model.Infix.{Infix}
use Rattle.text_values.specs.declared.model.Infix.TheVariants as infixes
use Rattle.text_values.specs.ModelValue.{Term, Terms, Atom, AllEvents as Everything, EmptyRelation, EmptySet, Join, Mark, Not, On, Apply, NoTerm, OneMore}
use Rattle.binding_kinds.specs.declared.fault.ModelFault.{ModelFault}
use Rattle.binding_kinds.specs.declared.fault.ModelFault.TheVariants as faults
use Rattle.binding_kinds.specs.declared.kinds.Kind.{Kind}
use Rattle.binding_kinds.specs.declared.kinds.Kind.TheVariants.{OfSet, OfRelation, OfAny}
use Rattle.binding_kinds.specs.declared.scope.Found.{Found}
use Rattle.binding_kinds.specs.declared.scope.Used.{Used}
use Rattle.binding_kinds.specs.declared.scope.Binder.{Binder}
use Rattle.binding_kinds.specs.declared.scope.Binder.TheVariants as binders
use Rattle.binding_kinds.specs.Value.{Naming, Bound, BareItem, Group, Check, Mute, Defined}
use Rattle.binding_kinds.specs.Kinds.{found, is_turned}
use Rattle.binding_kinds.specs.Formula.{Formula}
use Rattle.binding_kinds.specs.Senses.{Sense, kind_in, sense_of, under_of, count_of}
use Rattle.binding_kinds.specs.Functions.{sense_seen, bound_formula, named_formula, applied_formula, formula_in, formulas_in}
use Rattle.binding_kinds.specs.Faults.{width, with_own, names_after, IsFaultOfName, IsFaultAt, IsFaultAmong, IsFaultIn, IsFaultOfItem, HasNoFault, senses_after}
use Rattle.binding_graph.specs.declared.resolved.Body.{Body}
use Rattle.binding_graph.specs.Usages.{Usage, with_values, usages_after}
use Rattle.binding_graph.specs.Meaning.{set_tree, rel_tree, steps_of}
use Rattle.binding_graph.specs.Resolved.{AreBodies, IsGroupRole, IsCheckRole, IsResolvedIn, AreResolved}
use Rattle.binding_graph.specs.declared.resolved.Role.{Role}
use Rattle.binding_graph.specs.declared.resolved.Role.TheVariants as roles
use Rattle.binding_graph.specs.declared.resolved.ResolvedItem.{ResolvedItem}
use Rattle.text_values.specs.declared.model.CheckWord.{CheckWord}
use Rattle.binding_graph.specs.Trees.{SetTree, RelTree, rel_code}
use Rattle.cat_machine.specs.Least.{IsMonotone, AreMonotone, body}
use Rattle.cat_machine.specs.Rising.{AreCodes}
use Rattle.from_scratch.specs.Answers.{AreRisingBodies, IsRisingRole}
use Rattle.from_scratch.proofs.Safe.{Fixed, Rises, AllFixed, AllRise, IsSafe, AreSafe, by_turned, sense_found, source_outside, safe_after}

-- ---- one body

no_fault_of : (b : Binder) (f : Found) (from : ℕ) → f.binder ≡ b
    → ((k : ModelFault) → IsFaultOfName from true (Some f) k → ⊥) → from ≤ f.slot → ⊥
no_fault_of (binders.Predefined p) f from e none le =
    none faults.NotMonotone (rw e (le, search rules, refl))
no_fault_of (binders.Bound i) f from e none le =
    none faults.NotMonotone (rw e (le, search rules, refl))
no_fault_of (binders.Applicable g) f from e none le = none faults.Arity (rw e refl)

fixed_bound : (us : List Used) (from : ℕ) (f : Found) (b : Binder) → (from ≤ f.slot → ⊥)
    → Fixed us from (bound_formula f b)
fixed_bound us from f (binders.Predefined p) none = source_outside us from f none
fixed_bound us from f (binders.Bound i) none = source_outside us from f none
fixed_bound us from f (binders.Applicable g) none = tt

fixed_name : (us : List Used) (from : ℕ) (o : Option Found)
    → ((k : ModelFault) → IsFaultOfName from true o k → ⊥) → Fixed us from (named_formula None o)
fixed_name us from None none = tt
fixed_name us from (Some f) none =
    fixed_bound us from f f.binder (no_fault_of f.binder f from refl none)

monotone_bound : (us : List Used) (from : ℕ) (f : Found) (b : Binder)
    → Rises us from (bound_formula f b)
monotone_bound us from f (binders.Predefined p) = tt
monotone_bound us from f (binders.Bound i) = tt
monotone_bound us from f (binders.Applicable g) = tt

monotone_name : (us : List Used) (from : ℕ) (o : Option Found)
    → Rises us from (named_formula None o)
monotone_name us from None = tt
monotone_name us from (Some f) = monotone_bound us from f f.binder

module _ (ss : List Sense) (names : List Naming) (us : List Used) (from n : ℕ) (le : n ≤ from)
    (safe : AreSafe n ss) where
  -- the expression, seen under a complement or not, has no fault
  abbrev IsSound : Bool → Term → Type 0
  IsSound under t = (p : ℕ) (k : ModelFault) → IsFaultAt ss names from under t p k → ⊥

  abbrev AreSound : Bool → (ℕ → Bool) → ℕ → Terms → Type 0
  AreSound under turned i ts =
      (p : ℕ) (k : ModelFault) → IsFaultAmong ss names from under turned i ts p k → ⊥

  right : (under : Bool) (op : Infix) (a b : Term) → IsSound under (Join op a b)
      → IsSound (is_turned op under) b
  right under op a b h = λ p k f. h (width a + 1 + p) k (inr (inr (p, refl, f)))

  left : (under : Bool) (op : Infix) (a b : Term) → IsSound under (Join op a b) → IsSound under a
  left under op a b h = λ p k f. h p k (inl f)

  among : (under : Bool) (x : List ℕ) (ts : Terms) → IsSound under (Apply x ts)
      → AreSound under (under_of (sense_of ss (count_of ts) (found names x))) 0 ts
  among under x ts h = λ p k f. h (1 + p) k (inr (p, refl, f))

  applied_fixed : (m : ℕ) (x : List ℕ) (r : Result Sense ModelFault) (fs : List Formula)
      → sense_of ss m (found names x) ≡ r → AllFixed us from fs
      → Fixed us from (applied_formula (sense_seen ss names [] m x) fs)
  applied_fixed m x (Ok s) fs is all =
      let w : sense_seen ss names [] m x ≡ Some s = rw is refl in
      rw w ((sense_found (IsSafe n) ss m (found names x) s safe is us from fs le).0 all)
  applied_fixed m x (Err k) fs is all =
      let w : sense_seen ss names [] m x ≡ None = rw is refl in rw w tt

  applied_rises : (m : ℕ) (x : List ℕ) (r : Result Sense ModelFault) (fs : List Formula)
      → sense_of ss m (found names x) ≡ r → AllRise us from (under_of r) 0 fs
      → Rises us from (applied_formula (sense_seen ss names [] m x) fs)
  applied_rises m x (Ok s) fs is all =
      let w : sense_seen ss names [] m x ≡ Some s = rw is refl in
      rw w ((sense_found (IsSafe n) ss m (found names x) s safe is us from fs le).1 all)
  applied_rises m x (Err k) fs is all =
      let w : sense_seen ss names [] m x ≡ None = rw is refl in rw w tt

  -- seen under a complement it holds no name of the group
  mutual
    fixed : (t : Term) → IsSound true t → Fixed us from (formula_in ss names [] t)
    fixed (Atom x) h = fixed_name us from (found names x) (λ k f. h 0 k (refl, f))
    fixed Everything h = tt
    fixed EmptyRelation h = tt
    fixed EmptySet h = tt
    fixed (Join infixes.Union a b) h =
        (fixed a (left true infixes.Union a b h), fixed b (right true infixes.Union a b h))
    fixed (Join infixes.Intersection a b) h = (
      fixed a (left true infixes.Intersection a b h),
      fixed b (right true infixes.Intersection a b h),
    )
    fixed (Join infixes.Difference a b) h = (
      fixed a (left true infixes.Difference a b h),
      fixed b (right true infixes.Difference a b h),
    )
    fixed (Join infixes.Sequence a b) h =
        (fixed a (left true infixes.Sequence a b h), fixed b (right true infixes.Sequence a b h))
    fixed (Join infixes.Product a b) h = tt
    fixed (Mark op a) h = fixed a (λ p k f. h p k (inl f))
    fixed (Not a) h = fixed a (λ p k f. h (1 + p) k (p, refl, f))
    fixed (On a) h = tt
    fixed (Apply x ts) h =
        applied_fixed (count_of ts) x (sense_of ss (count_of ts) (found names x))
        (formulas_in ss names [] ts) refl (all_fixed
        (under_of (sense_of ss (count_of ts) (found names x))) 0 ts (among true x ts h))

    all_fixed : (turned : ℕ → Bool) (i : ℕ) (ts : Terms) → AreSound true turned i ts
        → AllFixed us from (formulas_in ss names [] ts)
    all_fixed turned i NoTerm h = tt
    all_fixed turned i (OneMore a others) h = (
      fixed a (λ p k f. h p k (inl f)),
      all_fixed turned (suc i) others (λ p k f. h (width a + p) k (inr (p, refl, f))),
    )

  mutual
    monotone : (t : Term) → IsSound false t → Rises us from (formula_in ss names [] t)
    monotone (Atom x) h = monotone_name us from (found names x)
    monotone Everything h = tt
    monotone EmptyRelation h = tt
    monotone EmptySet h = tt
    monotone (Join infixes.Union a b) h =
        (monotone a (left false infixes.Union a b h), monotone b (right false infixes.Union a b h))
    monotone (Join infixes.Intersection a b) h = (
      monotone a (left false infixes.Intersection a b h),
      monotone b (right false infixes.Intersection a b h),
    )
    monotone (Join infixes.Difference a b) h = (
      monotone a (left false infixes.Difference a b h),
      fixed b (right false infixes.Difference a b h),
    )
    monotone (Join infixes.Sequence a b) h = (
      monotone a (left false infixes.Sequence a b h),
      monotone b (right false infixes.Sequence a b h),
    )
    monotone (Join infixes.Product a b) h = tt
    monotone (Mark op a) h = monotone a (λ p k f. h p k (inl f))
    monotone (Not a) h = fixed a (λ p k f. h (1 + p) k (p, refl, f))
    monotone (On a) h = tt
    monotone (Apply x ts) h =
        applied_rises (count_of ts) x (sense_of ss (count_of ts) (found names x))
        (formulas_in ss names [] ts) refl (all_monotone
        (under_of (sense_of ss (count_of ts) (found names x))) 0 ts (among false x ts h))

    all_monotone : (turned : ℕ → Bool) (i : ℕ) (ts : Terms) → AreSound false turned i ts
        → AllRise us from turned i (formulas_in ss names [] ts)
    all_monotone turned i NoTerm h = tt
    all_monotone turned i (OneMore a others) h = (
      by_turned us from (formula_in ss names [] a) (turned i)
          (λ e. fixed a (λ p k f. h p k (inl (rw e f))))
          (λ e. monotone a (λ p k f. h p k (inl (rw e f)))),
      all_monotone turned (suc i) others (λ p k f. h (width a + p) k (inr (p, refl, f))),
    )

-- ---- the bodies of a group

-- the steps of what is no set are those of its relation
relation_steps : (k : Kind) (s : SetTree) (r : RelTree) → (k ≡ OfSet → ⊥)
    → steps_of k s r ≡ rel_code r []
relation_steps OfSet s r none = absurd (none refl)
relation_steps OfRelation s r none = refl
relation_steps OfAny s r none = refl

more : (t : RelTree) (ts : List RelTree) → IsMonotone t → AreMonotone ts → AreMonotone (t ∷ ts)
more t ts one all = λ x lt. at_index x lt
  where
    at_index : (x : ℕ) → x < length (t ∷ ts) → IsMonotone (body (t ∷ ts) x)
    at_index zero lt = one
    at_index (suc x) lt = all x (omega arith)

-- the bodies of a recursive group without fault are the steps of monotone trees
group_rises : (ss : List Sense) (us : List Usage) (names : List Naming) (from n : ℕ)
    (vs : List Used) (earlier : List (List ℕ)) (bs : List Bound) (bodies : List Body) → n ≤ from
    → AreSafe n ss → AreBodies ss us names from vs bs bodies
    → ((p : ℕ) (k : ModelFault) → IsFaultIn ss names from true earlier bs p k → ⊥)
    → (trees : List RelTree) × AreCodes trees bodies × AreMonotone trees
group_rises ss us names from n vs earlier [] [] le safe h none =
    ([], tt, λ x lt. absurd (omega arith))
group_rises ss us names from n vs earlier [] (r ∷ rs) le safe h none = absurd h
group_rises ss us names from n vs earlier (b ∷ bs) [] le safe h none = absurd h
group_rises ss us names from n vs earlier (b ∷ bs) (r ∷ rs) le safe h none =
    let used = with_values us names [] from b.body vs in
    let rest = group_rises ss us names from n used (b.name ∷ earlier) bs rs le safe h.2 (λ p k f. none (1 + width b.body + p) k (inr (inr (p, refl, f)))) in
    let no_set : kind_in ss names b.body ≡ OfSet → ⊥ = λ e. none 0 faults.SetInRec (inl (refl, inr (search rules, e, refl))) in
    let one : IsMonotone (rel_tree used from (formula_in ss names [] b.body)) = monotone ss names used from n le safe b.body (λ p k f. none (1 + p) k (inr (inl (p, refl, f)))) in (
      rel_tree used from (formula_in ss names [] b.body) ∷ rest.0,
      (
        h.1.1
            ∙ relation_steps (kind_in ss names b.body)
            (set_tree used from (formula_in ss names [] b.body))
            (rel_tree used from (formula_in ss names [] b.body)) no_set,
        rest.1,
      ),
      more (rel_tree used from (formula_in ss names [] b.body)) rest.0 one rest.2,
    )

-- ---- the items of a model

group_role : (ss : List Sense) (us : List Usage) (names : List Naming) (from n : ℕ)
    (bs : List Bound) (role : Role) → n ≤ from → AreSafe n ss
    → IsGroupRole ss us names from true bs role
    → ((p : ℕ) (k : ModelFault) → IsFaultIn ss names from true [] bs p k → ⊥) → IsRisingRole role
group_role ss us names from n bs (roles.Group r bodies) le safe h none =
    subst (λ (b : Bool). AreRisingBodies b bodies.items) (sym h.0) (group_rises ss us names from n [] []
    bs bodies.items le safe h.1 none)
group_role ss us names from n bs (roles.Check c) le safe h none = absurd h
group_role ss us names from n bs roles.Silent le safe h none = absurd h

other_role : (ss : List Sense) (us : List Usage) (names : List Naming) (from : ℕ) (bs : List Bound)
    (role : Role) → IsGroupRole ss us names from false bs role → IsRisingRole role
other_role ss us names from bs (roles.Group r bodies) h =
    subst (λ (b : Bool). AreRisingBodies b bodies.items) (sym h.0) tt
other_role ss us names from bs (roles.Check c) h = absurd h
other_role ss us names from bs roles.Silent h = absurd h

check_role : (ss : List Sense) (us : List Usage) (names : List Naming) (from : ℕ) (w : CheckWord)
    (e : Term) (role : Role) → IsCheckRole ss us names from w e role → IsRisingRole role
check_role ss us names from w e (roles.Group r bodies) h = absurd h
check_role ss us names from w e (roles.Check c) h = tt
check_role ss us names from w e roles.Silent h = absurd h

item_rises : (ss : List Sense) (us : List Usage) (names : List Naming) (at : ℕ) (c : BareItem)
    (r : ResolvedItem) → AreSafe (length names) ss
    → ((p : ℕ) (k : ModelFault) → IsFaultOfItem ss names at c p k → ⊥)
    → IsResolvedIn ss us names (names_after ss names at c) (length names) c r → IsRisingRole r.role
item_rises ss us names at (Group true bs) r safe none h =
    group_role ss us (with_own names at 0 bs) (length names) (length names) bs r.role (omega arith)
    safe h.0 none
item_rises ss us names at (Group false bs) r safe none h =
    other_role ss us names (length names) bs r.role h.0
item_rises ss us names at (Check w e) r safe none h =
    check_role ss us names (length names) w e r.role h.0
item_rises ss us names at Mute r safe none h = subst (λ (role : Role). IsRisingRole role) (sym h.0) tt
item_rises ss us names at (Defined n ps b) r safe none h =
    subst (λ (role : Role). IsRisingRole role) (sym h.0) tt

all_rise : (ss : List Sense) (us : List Usage) (names : List Naming) (at : ℕ)
    (clauses : List BareItem) (items : List ResolvedItem) → AreSafe (length names) ss
    → HasNoFault ss names at clauses → AreResolved ss us names at clauses items
    → AllByRecursion (λ r. IsRisingRole r.role) items
all_rise ss us names at [] [] safe none h = tt
all_rise ss us names at [] (r ∷ rs) safe none h = absurd h
all_rise ss us names at (c ∷ cs) [] safe none h = absurd h
all_rise ss us names at (c ∷ cs) (r ∷ rs) safe none h = (
  item_rises ss us names at c r safe (λ p k f. none 0 p k (inl (refl, f))) h.0,
  all_rise (senses_after ss names c) (usages_after us names at c) (names_after ss names at c) (at + 1)
      cs rs (safe_after ss names at c safe) (λ i p k f. none (1 + i) p k (inr (i, refl, f))) h.1,
)

-- the bodies of the recursive groups of a model without fault rise
pub resolved_rising : (names : List Naming) (at : ℕ) (clauses : List BareItem)
    (items : List ResolvedItem) → HasNoFault [] names at clauses
    → AreResolved [] [] names at clauses items → AllByRecursion (λ r. IsRisingRole r.role) items
resolved_rising names at clauses items none h = all_rise [] [] names at clauses items tt none h
