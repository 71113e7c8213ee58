-- Expressions without fault fit, with the functions that they apply put in.
use Rattle.std.proofs.Common.{ℕ, ◌≡◌, ◌<◌, ◌≤◌, ◌||◌, ◌⊎◌, inl, inr, subst, ◌∙◌, suc, List, [], ◌∷◌, length, Bool, true, false, Option, Some, None, Result, Ok, Err, refl, sym, ap}
use Rattle.std.specs.Prelude.{if◌then◌else◌, nat_lt, not}
use Rattle.std.proofs.lemmas.Bool.{cases_lt, lt-ltb, le-ltb}
use Rattle.binding_kinds.specs.declared.fault.ModelFault.{ModelFault}
use Rattle.binding_kinds.specs.declared.fault.ModelFault.TheVariants as faults
use Rattle.binding_kinds.specs.declared.kinds.Kind.{Kind}
use Rattle.binding_kinds.specs.declared.kinds.Kind.TheVariants.{OfAny}
use Rattle.binding_kinds.specs.declared.scope.Found.{Found}
use Rattle.binding_kinds.specs.declared.scope.Binder.{Binder}
use Rattle.binding_kinds.specs.declared.scope.Binder.TheVariants as binders
use Rattle.text_values.specs.ModelValue.{Term, Terms, Atom, AllEvents, EmptyRelation, EmptySet, Join, Mark, Not, On, Apply, NoTerm, OneMore}
use Rattle.binding_kinds.specs.Value.{Naming, Bound, BareItem, Group, Check, Mute, Defined}
use Rattle.binding_kinds.specs.Kinds.{found, takes, is_relation, is_set_kind, is_turned, joined_kind, marked, narrowed, kind_found}
use Rattle.binding_kinds.specs.Senses.{Sense, size_with, sense_of, count_of, sizes_in, kind_in, kinds_in, kind_applied, fault_applied, term_fault, first_among, under_of}
use Rattle.binding_kinds.specs.Faults.{with_own, with_all, names_after, senses_after}
use Rattle.binding_kinds.specs.Verdict.{or_else, unless, of_parameters}
use Rattle.binding_kinds.specs.First.{let_fault, first_in, first_of_body, first_of_item}
use Rattle.binding_kinds.specs.Fits.{IsKnown, IsValue, IsKnownValue, IsFitApplied, IsFit, AreFitArguments, AreFit, AreSoundSenses, kind_of, IsTyped, AreKnown}
use Rattle.binding_kinds.specs.Formula.{Formula}
use Rattle.binding_kinds.specs.Functions.{sense_seen, bound_formula, named_formula, applied_formula, formula_in, formulas_in, sense_of_function}
use Rattle.binding_kinds.proofs.Applications.{found_arity, long_kinds}
use Rattle.binding_kinds.proofs.Fitting.{none_first, none_later, holds, known_name, typed_known}
use Rattle.binding_kinds.proofs.Sound.{AreTyped, filled_typed, typed_all_known, same_true, sound_function, sound_more, function_sound}

-- ---- where there is no fault

not_large : (n : ℕ) (o : Option ModelFault)
    → (if nat_lt 4096 n then Some faults.TooLarge else o) ≡ None → (n ≤ 4096) × (o ≡ None)
not_large n o e = at_test (nat_lt 4096 n) (lt-ltb 4096 n) e
  where
    at_least : (4096 < n) ⊎ (n ≤ 4096) → (4096 < n → ⊥) → n ≤ 4096
    at_least (inl lt) none = absurd (none lt)
    at_least (inr le) none = le

    at_test : (b : Bool) → (4096 < n → b ≡ true) → (if b then Some faults.TooLarge else o) ≡ None
        → (n ≤ 4096) × (o ≡ None)
    at_test true large h = absurd (let f : Some faults.TooLarge ≡ None = h in cc)
    at_test false large h =
        (at_least (cases_lt 4096 n) (λ lt. let f : false ≡ true = large lt in cc), h)

not_clashing : (b : Bool) → unless (not b) faults.Kind ≡ None → b ≡ false
not_clashing true e = absurd (let f : Some faults.Kind ≡ None = e in cc)
not_clashing false e = refl

fit_applied : (r : Result Sense ModelFault) (sizes : List ℕ) (kinds : List Kind)
    (later : Option ModelFault) → fault_applied r sizes kinds later ≡ None
    → IsFitApplied r sizes kinds × (later ≡ None)
fit_applied (Err k) sizes kinds later e = absurd (let f : Some k ≡ None = e in cc)
fit_applied (Ok s) sizes kinds later e =
    let small = not_large (size_with s sizes) (or_else (unless (not (s.clashes kinds)) faults.Kind) later) e in (
      (small.0, not_clashing (s.clashes kinds) (none_first _ later small.1)),
      none_later (unless (not (s.clashes kinds)) faults.Kind) later small.1,
    )

mutual
  -- an expression without fault
  pub fit : (ss : List Sense) (names : List Naming) (from : ℕ) (under : Bool) (t : Term)
      → AreKnown names → term_fault ss names from under t ≡ None → IsFit ss names t
  fit ss names from under (Atom x) h e = known_name names x from under (found names x) h refl e
  fit ss names from under AllEvents h e = tt
  fit ss names from under EmptyRelation h e = tt
  fit ss names from under EmptySet h e = tt
  fit ss names from under (Join op a b) h e =
      let rest = none_later (term_fault ss names from under a) _ e in
      let here = none_first (unless (takes op (kind_in ss names a) (kind_in ss names b)) faults.Kind) _ rest in (
        fit ss names from under a h (none_first _ _ e),
        fit ss names from (is_turned op under) b h (none_later
            (unless (takes op (kind_in ss names a) (kind_in ss names b)) faults.Kind) _ rest),
        holds _ faults.Kind here,
      )
  fit ss names from under (Mark op a) h e = (
    fit ss names from under a h (none_first _ _ e),
    holds (is_relation (kind_in ss names a)) faults.Kind
        (none_later (term_fault ss names from under a) _ e),
  )
  fit ss names from under (Not a) h e = fit ss names from true a h e
  fit ss names from under (On a) h e = (
    fit ss names from under a h (none_later (unless (is_set_kind (kind_in ss names a)) faults.Kind) _
        e),
    holds (is_set_kind (kind_in ss names a)) faults.Kind
        (none_first _ (term_fault ss names from under a) e),
  )
  fit ss names from under (Apply x ts) h e =
      let f = sense_of ss (count_of ts) (found names x) in
      let one = fit_applied f (sizes_in ss names ts) (kinds_in ss names ts) (first_among ss names from under (under_of f) 0 ts) e in
      (one.0, fit_arguments ss names from under (under_of f) 0 ts h one.1)

  fit_arguments : (ss : List Sense) (names : List Naming) (from : ℕ) (under : Bool)
      (turned : ℕ → Bool) (i : ℕ) (ts : Terms) → AreKnown names
      → first_among ss names from under turned i ts ≡ None → AreFitArguments ss names ts
  fit_arguments ss names from under turned i NoTerm h e = tt
  fit_arguments ss names from under turned i (OneMore a others) h e = (
    fit ss names from (under || turned i) a h (none_first _ _ e),
    fit_arguments ss names from under turned (suc i) others h
        (none_later (term_fault ss names from (under || turned i) a) _ e),
  )

-- ---- with the functions put in

bound_typed : (f : Found) (b : Binder) → IsValue b → IsKnown f.kind
    → IsTyped [] (bound_formula f b) × (kind_of [] (bound_formula f b) ≡ f.kind)
bound_typed f (binders.Predefined p) v k = (k, refl)
bound_typed f (binders.Bound i) v k = (k, refl)
bound_typed f (binders.Applicable g) v k = absurd v

named_typed : (o : Option Found) → IsKnownValue o
    → IsTyped [] (named_formula None o) × (kind_of [] (named_formula None o) ≡ kind_found o)
named_typed None h = absurd h
named_typed (Some f) h = bound_typed f f.binder h.0 h.1

kind_small : (s : Sense) (sizes : List ℕ) (kinds : List Kind) → size_with s sizes ≤ 4096
    → kind_applied (Ok s) sizes kinds ≡ s.kind_with kinds
kind_small s sizes kinds le =
    ap (λ (b : Bool). if b then OfAny else s.kind_with kinds) (le-ltb 4096 (size_with s sizes) le)

seen_plainly : (ss : List Sense) (names : List Naming) (n : ℕ) (x : List ℕ) (s : Sense)
    → sense_of ss n (found names x) ≡ Ok s → sense_seen ss names [] n x ≡ Some s
seen_plainly ss names n x s e = rw e refl

-- an application whose arguments are typed
applied_typed : (ss : List Sense) (names : List Naming) (n : ℕ) (x : List ℕ) (sizes : List ℕ)
    (kinds : List Kind) (fs : List Formula) (r : Result Sense ModelFault)
    → sense_of ss n (found names x) ≡ r → AreSoundSenses ss → length kinds ≡ n → AreTyped [] fs kinds
    → IsFitApplied r sizes kinds
    → IsTyped [] (applied_formula (sense_seen ss names [] n x) fs)
    × (kind_of [] (applied_formula (sense_seen ss names [] n x) fs)
    ≡ kind_applied (sense_of ss n (found names x)) sizes kinds)
applied_typed ss names n x sizes kinds fs (Err k) is sound long typed fit = absurd fit
applied_typed ss names n x sizes kinds fs (Ok s) is sound long typed fit =
    let sense_is = seen_plainly ss names n x s is in
    let one = sound_function ss n (found names x) s sound is kinds (long ∙ sym (found_arity ss n (found names x) s is)) (typed_all_known [] fs kinds typed) fit.1 in
    let whole = filled_typed [] fs kinds s.formula typed one.0 in
    rw (sense_is, is) (whole.0, whole.1 ∙ (sym one.1 ∙ sym (kind_small s sizes kinds fit.0)))

mutual
  -- what fits is typed, with the same kind
  pub fit_typed : (ss : List Sense) (names : List Naming) (t : Term) → AreSoundSenses ss
      → IsFit ss names t
      → IsTyped [] (formula_in ss names [] t)
      × (kind_of [] (formula_in ss names [] t) ≡ kind_in ss names t)
  fit_typed ss names (Atom x) sound h = named_typed (found names x) h
  fit_typed ss names AllEvents sound h = (tt, refl)
  fit_typed ss names EmptyRelation sound h = (tt, refl)
  fit_typed ss names EmptySet sound h = (tt, refl)
  fit_typed ss names (Join op a b) sound h =
      let l = fit_typed ss names a sound h.0 in
      let r = fit_typed ss names b sound h.1 in
      let k : joined_kind op (kind_of [] (formula_in ss names [] a)) (kind_of [] (formula_in ss names [] b)) ≡ joined_kind op (kind_in ss names a) (kind_in ss names b) = rw (l.1, r.1) refl in
      let t : takes op (kind_of [] (formula_in ss names [] a)) (kind_of [] (formula_in ss names [] b)) ≡ takes op (kind_in ss names a) (kind_in ss names b) = rw (l.1, r.1) refl in
      ((l.0, r.0, same_true _ _ t h.2), k)
  fit_typed ss names (Mark op a) sound h =
      let l = fit_typed ss names a sound h.0 in
      ((l.0, same_true _ _ (ap is_relation l.1) h.1), ap marked l.1)
  fit_typed ss names (Not a) sound h = fit_typed ss names a sound h
  fit_typed ss names (On a) sound h =
      let l = fit_typed ss names a sound h.0 in
      ((l.0, same_true _ _ (ap is_set_kind l.1) h.1), ap narrowed l.1)
  fit_typed ss names (Apply x ts) sound h =
      applied_typed ss names (count_of ts) x (sizes_in ss names ts) (kinds_in ss names ts)
      (formulas_in ss names [] ts) (sense_of ss (count_of ts) (found names x)) refl sound
      (long_kinds ss names ts) (arguments_typed ss names ts sound h.1) h.0

  arguments_typed : (ss : List Sense) (names : List Naming) (ts : Terms) → AreSoundSenses ss
      → AreFitArguments ss names ts
      → AreTyped [] (formulas_in ss names [] ts) (kinds_in ss names ts)
  arguments_typed ss names NoTerm sound h = tt
  arguments_typed ss names (OneMore a others) sound h =
      (fit_typed ss names a sound h.0, arguments_typed ss names others sound h.1)

-- what fits is a set or a relation
pub fit_known : (ss : List Sense) (names : List Naming) (t : Term) → AreSoundSenses ss → IsFit ss names t
    → IsKnown (kind_in ss names t)
fit_known ss names t sound h =
    let l = fit_typed ss names t sound h in
    subst IsKnown l.1 (typed_known [] (formula_in ss names [] t) l.0)

pub fit_in : (ss : List Sense) (names : List Naming) (from : ℕ) (recursive : Bool)
    (earlier : List (List ℕ)) (bs : List Bound) → AreKnown names
    → first_in ss names from recursive earlier bs ≡ None → AreFit ss names bs
fit_in ss names from recursive earlier [] h e = tt
fit_in ss names from recursive earlier (b ∷ bs) h e =
    let rest = none_later (let_fault ss names recursive earlier b) _ e in (
      fit ss names from false b.body h (none_first _ _ rest),
      fit_in ss names from recursive (b.name ∷ earlier) bs h (none_later
          (term_fault ss names from false b.body) _ rest),
    )

pub known_own : (names : List Naming) (item at : ℕ) (bs : List Bound) → AreKnown names
    → AreKnown (with_own names item at bs)
known_own names item at [] h = h
known_own names item at (b ∷ bs) h = known_own _ item (suc at) bs (tt, h)

known_all : (ss : List Sense) (outer : List Naming) (item at : ℕ) (bs : List Bound)
    (names : List Naming) → AreSoundSenses ss → AreKnown names → AreFit ss outer bs
    → AreKnown (with_all ss outer names item at bs)
known_all ss outer item at [] names sound h f = h
known_all ss outer item at (b ∷ bs) names sound h f =
    let n : Naming = record { name = b.name; kind = kind_in ss outer b.body; binder = binders.Bound (record { item = item; position = at }) } in
    known_all ss outer item (suc at) bs (n ∷ names) sound (fit_known ss outer b.body sound f.0, h)
    f.1

-- its names are known
pub known_item : (ss : List Sense) (names : List Naming) (item : ℕ) (c : BareItem) → AreSoundSenses ss
    → AreKnown names → first_of_item ss names item c ≡ None → AreKnown (names_after ss names item c)
known_item ss names item (Group true bs) sound h e = known_own names item 0 bs h
known_item ss names item (Group false bs) sound h e =
    known_all ss names item 0 bs names sound h (fit_in ss names (length names) false [] bs h e)
known_item ss names item (Check w b) sound h e = h
known_item ss names item Mute sound h e = h
known_item ss names item (Defined n ps b) sound h e = (tt, h)

-- after an item without fault the functions are sound
pub sound_item : (ss : List Sense) (names : List Naming) (item : ℕ) (c : BareItem) → AreSoundSenses ss
    → AreKnown names → first_of_item ss names item c ≡ None → AreSoundSenses (senses_after ss names c)
sound_item ss names item (Group r bs) sound h e = sound
sound_item ss names item (Check w b) sound h e = sound
sound_item ss names item Mute sound h e = sound
sound_item ss names item (Defined n ps b) sound h e =
    sound_more ss (sense_of_function ss names ps b) sound (function_sound ss names ps b sound h
    (none_later (of_parameters [] ps) (first_of_body ss names ps b) e))
