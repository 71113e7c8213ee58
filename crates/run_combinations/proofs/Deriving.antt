-- Which values can arise, and which read choices there are.
use Rattle.std.proofs.Common.{ℕ, ◌≡◌, ◌<◌, ◌≤◌, ◌+◌, ◌⊎◌, inl, inr, List, [], ◌∷◌, ◌++◌, length, get_or, Option, Some, None, arith, sym, subst, refl, ap, ◌∙◌, length-append}
use Rattle.std.proofs.lemmas.Bool.{cases_eq, cases_lt}
use Rattle.std.proofs.lemmas.Option.{same_Some}
use lib.ListN.{get_or-append}
use Rattle.bit_rows.specs.Pairs.{Union, Plus}
use Rattle.store_orders.specs.Events.{ReadsFrom}
use Rattle.run_combinations.specs.ReadChoices.{Accesses, MayReadFrom, IsReadChoice, Derived, stored, read, chosen, IsPossible, AreProperAccesses}
use Rattle.run_combinations.proofs.Cycles.{turned_back, none_fails, none_first}

abbrev Linked : Accesses → List ℕ → ℕ → ℕ → Type 0
Linked g reads_from = Union g.Need (ReadsFrom g.loads reads_from)

none_is_left : {i : ℕ} → (let o : Option ℕ = None in o) ≡ Some i → ⊥
none_is_left e = cc

-- what has arisen is on no cycle
uncycled : (n : ℕ) (g : Accesses) (reads_from : List ℕ) → AreProperAccesses n g → length g.loads ≤ length reads_from
    → (x : ℕ) → Derived g reads_from None x → Plus (Linked g reads_from) x x → ⊥
uncycled n g reads_from p full x (stored st needs) round =
    let e : (c : ℕ) × Linked g reads_from c x × Plus (Linked g reads_from) c c = turned_back (Linked g reads_from) x round in
    elim e.1 [
      | inl need ↦ uncycled n g reads_from p full e.0 (needs e.0 need) e.2
      | inr r ↦ p.never_both r.0 r.2 (subst (λ (y : ℕ). g.Store y) r.4 st)
    ]
uncycled n g reads_from p full x (read i lt other is within d) round =
    let e : (c : ℕ) × Linked g reads_from c x × Plus (Linked g reads_from) c c = turned_back (Linked g reads_from) x round in
    elim e.1 [
      | inl need ↦ p.never_both i lt (subst (λ (y : ℕ). g.Store y) is (p.needing e.0 x need))
      | inr r ↦
          let same : r.0 ≡ i = p.apart r.0 i r.2 lt (sym r.4 ∙ is) in
          uncycled n g reads_from p full (get_or reads_from i 0) d (subst (λ (y : ℕ). Plus (Linked g reads_from) y y)
          (r.3 ∙ ap (λ (k : ℕ). get_or reads_from k 0) same) e.2)
    ]
uncycled n g reads_from p full x (chosen i s lt other is past source d) round =
    absurd (omega (arith, lt, past, full))

pub possible_is_read_choice : (n : ℕ) (g : Accesses) (reads_from : List ℕ) → AreProperAccesses n g
    → length g.loads ≤ length reads_from → IsPossible g reads_from → IsReadChoice g reads_from
possible_is_read_choice n g reads_from p full h a round =
    let e : (c : ℕ) × Linked g reads_from c a × Plus (Linked g reads_from) c c = turned_back (Linked g reads_from) a round in
    elim e.1 [
      | inl need ↦
          let l : (i : ℕ) × (i < length g.loads) × (e.0 ≡ get_or g.loads i 0) = p.needed e.0 a need in
          uncycled n g reads_from p full e.0
          (subst (λ (y : ℕ). Derived g reads_from None y) (sym l.2) (h.arises l.0 l.1)) e.2
      | inr r ↦ uncycled n g reads_from p full a
          (subst (λ (y : ℕ). Derived g reads_from None y) (sym r.4) (h.arises r.0 r.2)) round
    ]

-- a read choice without a cycle cannot be impossible
pub read_choice_is_possible : (n : ℕ) (g : Accesses) (reads_from : List ℕ) → AreProperAccesses n g
    → length reads_from ≡ length g.loads → ((i : ℕ) → i < length reads_from → MayReadFrom g i (get_or reads_from i 0))
    → IsReadChoice g reads_from → (IsPossible g reads_from → ⊥) → ⊥
read_choice_is_possible n g reads_from p long allowed acyclic never_possible =
    none_fails (length g.loads) (λ i. Derived g reads_from None (get_or g.loads i 0))
    (λ i lt never. none_first n (Linked g reads_from) Left acyclic (λ x u. u.0) one_before
    (get_or g.loads i 0) (p.loads_within i lt, never, inr (i, lt, refl)))
    (λ all. never_possible (record { few = omega (arith, long); allowed = allowed; arises = all }))
  where
    Left : ℕ → Type 0
    Left x =
        (x < n) × (Derived g reads_from None x → ⊥)
        × (g.Store x ⊎ ((i : ℕ) × (i < length g.loads) × (x ≡ get_or g.loads i 0)))

    one_before : (x : ℕ) → Left x → ((y : ℕ) → Left y → Linked g reads_from y x → ⊥) → ⊥
    one_before x u none = elim u.2 [
      | inl st ↦
          none_fails n (λ a. g.Need a x → Derived g reads_from None a)
          (λ a lt never. never (λ need. absurd (none a
          (lt, (λ d. never (λ again. d)), inr (p.needed a x need)) (inl need))))
          (λ all. u.1 (stored st (λ a need.
          let l : (i : ℕ) × (i < length g.loads) × (a ≡ get_or g.loads i 0) = p.needed a x need in
          all a (subst (λ (y : ℕ). y < n) (sym l.2) (p.loads_within l.0 l.1)) need)))
      | inr l ↦
          let within : l.0 < length reads_from = omega (arith, l.1, long) in
          let st : g.Store (get_or reads_from l.0 0) = p.sources l.0 (get_or reads_from l.0 0) l.1 (allowed l.0 within) in
          none (get_or reads_from l.0 0) (
            p.stores_within (get_or reads_from l.0 0) st,
            (λ d. u.1 (read l.0 l.1 none_is_left l.2 within d)),
            inl st,
          )
          (inr (l.0, within, l.1, refl, l.2))
    ]

-- a read choice with one store more
pub longer : (f : List ℕ) (s : ℕ) → length (f ++ s ∷ []) ≡ length f + 1
longer f s = omega (arith, length-append f (s ∷ []))

kept_read : (f : List ℕ) (s i : ℕ) → i < length f → get_or (f ++ s ∷ []) i 0 ≡ get_or f i 0
kept_read f s i lt = get_or-append f (s ∷ []) 0 i lt

last_read : (f : List ℕ) (s : ℕ) → get_or (f ++ s ∷ []) (length f) 0 ≡ s
last_read [] s = refl
last_read (x ∷ xs) s = last_read xs s

read_at : (f : List ℕ) (s i : ℕ) → length f ≡ i → get_or (f ++ s ∷ []) i 0 ≡ s
read_at f s i e = ap (λ (k : ℕ). get_or (f ++ s ∷ []) k 0) (sym e) ∙ last_read f s

-- what arises without the next load arises where that reads as it likes
with_next : (g : Accesses) (f : List ℕ) (s x : ℕ) → Derived g f (Some (length f)) x
    → Derived g (f ++ s ∷ []) None x
with_next g f s x (stored st needs) = stored st (λ a need. with_next g f s a (needs a need))
with_next g f s x (read i lt other is within d) =
    read i lt none_is_left is (omega (arith, within, longer f s)) (subst
    (λ (y : ℕ). Derived g (f ++ s ∷ []) None y) (sym (kept_read f s i within))
    (with_next g f s (get_or f i 0) d))
with_next g f s x (chosen i t lt other is past source d) =
    chosen i t lt none_is_left is beyond source (with_next g f s t d)
  where
    beyond : length (f ++ s ∷ []) ≤ i
    beyond = elim (cases_eq (length f) i) [
      | inl same ↦ absurd (other (ap (λ (k : ℕ). Some k) same))
      | inr apart ↦ omega (arith, past, apart, longer f s)
    ]

-- where the next load reads what arises, all arises that did
with_read : (g : Accesses) (f : List ℕ) (s : ℕ) → Derived g (f ++ s ∷ []) None s → (x : ℕ)
    → Derived g f None x → Derived g (f ++ s ∷ []) None x
with_read g f s there x (stored st needs) =
    stored st (λ a need. with_read g f s there a (needs a need))
with_read g f s there x (read i lt other is within d) =
    read i lt none_is_left is (omega (arith, within, longer f s)) (subst
    (λ (y : ℕ). Derived g (f ++ s ∷ []) None y) (sym (kept_read f s i within))
    (with_read g f s there (get_or f i 0) d))
with_read g f s there x (chosen i t lt other is past source d) =
    elim (cases_eq (length f) i) [
      | inl same ↦ read i lt none_is_left is (omega (arith, same, longer f s))
          (subst (λ (y : ℕ). Derived g (f ++ s ∷ []) None y) (sym (read_at f s i same)) there)
      | inr apart ↦ chosen i t lt none_is_left is (omega (arith, past, apart, longer f s)) source
          (with_read g f s there t d)
    ]

-- where the store does not arise without the next load, which reads it, that load plays no part
without_next : (g : Accesses) (f : List ℕ) (s : ℕ) → (Derived g f (Some (length f)) s → ⊥) → (x : ℕ)
    → Derived g (f ++ s ∷ []) None x → Derived g f (Some (length f)) x
without_next g f s never x (stored st needs) =
    stored st (λ a need. without_next g f s never a (needs a need))
without_next g f s never x (read i lt other is within d) =
    elim (cases_lt i (length f)) [
      | inl before ↦ read i lt
          (λ e. let k : length f ≡ i = same_Some _ _ e in omega (arith, k, before)) is before
          (subst (λ (y : ℕ). Derived g f (Some (length f)) y) (kept_read f s i before)
          (without_next g f s never (get_or (f ++ s ∷ []) i 0) d))
      | inr last ↦ absurd (never (subst (λ (y : ℕ). Derived g f (Some (length f)) y)
          (read_at f s i (omega (arith, last, within, longer f s)))
          (without_next g f s never (get_or (f ++ s ∷ []) i 0) d)))
    ]
without_next g f s never x (chosen i t lt other is past source d) =
    chosen i t lt
    (λ e. let k : length f ≡ i = same_Some _ _ e in omega (arith, k, past, longer f s)) is
    (omega (arith, past, longer f s)) source (without_next g f s never t d)

-- a load does not arise without itself
itself : (n : ℕ) (g : Accesses) (f : List ℕ) (i x : ℕ) → AreProperAccesses n g → i < length g.loads
    → x ≡ get_or g.loads i 0 → Derived g f (Some i) x → ⊥
itself n g f i x p lt e (stored st needs) = p.never_both i lt (subst (λ (y : ℕ). g.Store y) e st)
itself n g f i x p lt e (read j l other is within d) =
    other (ap (λ (k : ℕ). Some k) (p.apart i j lt l (sym e ∙ is)))
itself n g f i x p lt e (chosen j t l other is past source d) =
    other (ap (λ (k : ℕ). Some k) (p.apart i j lt l (sym e ∙ is)))

-- where the last load may read as it likes, all arises that did
with_choice : (g : Accesses) (f : List ℕ) (s : ℕ) → MayReadFrom g (length f) s → (x : ℕ)
    → Derived g (f ++ s ∷ []) None x → Derived g f None x
with_choice g f s allowed x (stored st needs) =
    stored st (λ a need. with_choice g f s allowed a (needs a need))
with_choice g f s allowed x (read i lt other is within d) =
    elim (cases_lt i (length f)) [
      | inl before ↦ read i lt none_is_left is before (subst (λ (y : ℕ). Derived g f None y)
          (kept_read f s i before) (with_choice g f s allowed (get_or (f ++ s ∷ []) i 0) d))
      | inr last ↦
          let same : length f ≡ i = omega (arith, last, within, longer f s) in
          chosen i s lt none_is_left is last (subst (λ (k : ℕ). MayReadFrom g k s) same allowed)
          (subst (λ (y : ℕ). Derived g f None y) (read_at f s i same)
          (with_choice g f s allowed (get_or (f ++ s ∷ []) i 0) d))
    ]
with_choice g f s allowed x (chosen i t lt other is past source d) =
    chosen i t lt none_is_left is (omega (arith, past, longer f s)) source
    (with_choice g f s allowed t d)

-- where no store that it may read arises without the next load, that load plays no part
without_any : (g : Accesses) (f : List ℕ)
    → ((s : ℕ) → MayReadFrom g (length f) s → Derived g f (Some (length f)) s → ⊥) → (x : ℕ)
    → Derived g f None x → Derived g f (Some (length f)) x
without_any g f never x (stored st needs) =
    stored st (λ a need. without_any g f never a (needs a need))
without_any g f never x (read i lt other is within d) =
    read i lt (λ e. let k : length f ≡ i = same_Some _ _ e in omega (arith, k, within)) is within
    (without_any g f never (get_or f i 0) d)
without_any g f never x (chosen i t lt other is past source d) =
    elim (cases_eq (length f) i) [
      | inl same ↦ absurd (never t (subst (λ (k : ℕ). MayReadFrom g k t) (sym same) source)
          (without_any g f never t d))
      | inr apart ↦ chosen i t lt (λ e. apart (same_Some _ _ e)) is past source
          (without_any g f never t d)
    ]

-- the next load can read what arises without it
pub possible_more : (g : Accesses) (f : List ℕ) (s : ℕ) → length f < length g.loads
    → MayReadFrom g (length f) s → Derived g f (Some (length f)) s → IsPossible g f
    → IsPossible g (f ++ s ∷ [])
possible_more g f s lt source d h = record {
  few = omega (arith, lt, longer f s);
  allowed = λ i within. elim (cases_lt i (length f)) [
    | inl before ↦ subst (λ (y : ℕ). MayReadFrom g i y) (sym (kept_read f s i before))
        (h.allowed i before)
    | inr last ↦
        let same : length f ≡ i = omega (arith, last, within, longer f s) in
        subst (λ (y : ℕ). MayReadFrom g i y) (sym (read_at f s i same))
        (subst (λ (k : ℕ). MayReadFrom g k s) same source)
  ];
  arises = λ i l. with_read g f s (with_next g f s s d) (get_or g.loads i 0) (h.arises i l);
}

-- and nothing else
pub possible_no_more : (n : ℕ) (g : Accesses) (f : List ℕ) (s : ℕ) → AreProperAccesses n g
    → length f < length g.loads → (Derived g f (Some (length f)) s → ⊥) → IsPossible g (f ++ s ∷ [])
    → ⊥
possible_no_more n g f s p lt never h =
    itself n g f (length f) (get_or g.loads (length f) 0) p lt refl (without_next g f s never
    (get_or g.loads (length f) 0) (h.arises (length f) lt))

pub possible_front : (g : Accesses) (f : List ℕ) (s : ℕ) → IsPossible g (f ++ s ∷ [])
    → IsPossible g f
possible_front g f s h =
    let source : MayReadFrom g (length f) s = subst (λ (y : ℕ). MayReadFrom g (length f) y) (last_read f s) (h.allowed (length f) (omega (arith, longer f s))) in
    record {
      few = omega (arith, h.few, longer f s);
      allowed =
          λ i before. subst (λ (y : ℕ). MayReadFrom g i y) (kept_read f s i before)
          (h.allowed i (omega (arith, before, longer f s)));
      arises = λ i l. with_choice g f s source (get_or g.loads i 0) (h.arises i l);
    }

-- a possible read choice goes on
pub possible_goes_on : (n : ℕ) (g : Accesses) (f : List ℕ) → AreProperAccesses n g
    → length f < length g.loads → IsPossible g f
    → ((s : ℕ) → MayReadFrom g (length f) s → IsPossible g (f ++ s ∷ []) → ⊥) → ⊥
possible_goes_on n g f p lt h never =
    itself n g f (length f) (get_or g.loads (length f) 0) p lt refl
    (without_any g f (λ s source d. never s source (possible_more g f s lt source d h))
    (get_or g.loads (length f) 0) (h.arises (length f) lt))
