-- What is looked for is the first fault.
use Rattle.std.proofs.Common.{ℕ, ◌≡◌, ◌<◌, ◌≤◌, ◌+◌, ◌⊎◌, inl, inr, suc, List, Bool, true, false, IsTrue, IsFalse, ◌&&◌, ◌||◌, nat_le, Option, Some, None, Result, Ok, Err, refl, arith, sym, ap, rules}
use Rattle.std.proofs.lemmas.Bool.{leb-true, lt-ltb, ltb-true}
use Rattle.std.specs.Prelude.{if◌then◌else◌, nat_lt, not}
use Rattle.text_values.specs.ModelValue.{Term, Terms, Atom, AllEvents, EmptyRelation, EmptySet, Join, Mark, Not, On, Apply, NoTerm, OneMore}
use Rattle.binding_kinds.specs.declared.kinds.Kind.{Kind}
use Rattle.binding_kinds.specs.declared.fault.ModelFault.{ModelFault}
use Rattle.binding_kinds.specs.declared.fault.ModelFault.TheVariants as faults
use Rattle.binding_kinds.specs.declared.scope.Found.{Found}
use Rattle.binding_kinds.specs.declared.scope.Binder.{Binder}
use Rattle.binding_kinds.specs.declared.scope.Binder.TheVariants as binders
use Rattle.binding_kinds.specs.Value.{Naming}
use Rattle.binding_kinds.specs.Kinds.{found, takes, is_relation, is_set_kind, is_turned}
use Rattle.binding_kinds.specs.Senses.{Sense, size_with, sense_of, count_of, sizes_in, kind_in, kinds_in, under_of, fault_applied, term_fault, first_among}
use Rattle.binding_kinds.specs.Faults.{width, widths, IsFaultOfUse, IsFaultOfName, IsFaultOfApplication, IsFaultAt, IsFaultAmong, IsFirst, IsFaultNoLater}
use Rattle.binding_kinds.specs.Verdict.{or_else, unless, of_name, of_use, of_slot}

-- the first of these faults, or that there is none
abbrev pub Judges : (ℕ → ModelFault → Type 0) → Option ModelFault → Type 0
Judges F None = (p : ℕ) (k : ModelFault) → F p k → ⊥
Judges F (Some k) = IsFirst F k

-- the faults of two parts, the one before the index and the other from it on
pub in_turn : (F G : ℕ → ModelFault → Type 0) (n : ℕ) (o q : Option ModelFault)
    → ((p : ℕ) (k : ModelFault) → F p k → p < n) → ((p : ℕ) (k : ModelFault) → G p k → n ≤ p)
    → Judges F o → Judges G q → Judges (λ p k. F p k ⊎ G p k) (or_else o q)
in_turn F G n None None low high f g = λ p k h. elim h [ inl a ↦ f p k a | inr b ↦ g p k b ]
in_turn F G n None (Some k) low high f g = record {
  index = g.index;
  there = inr g.there;
  none_before = λ p l h. elim h [ inl a ↦ absurd (f p l a) | inr b ↦ g.none_before p l b ];
}
in_turn F G n (Some k) q low high f g = record {
  index = f.index;
  there = inl f.there;
  none_before = λ p l h. elim h [
    | inl a ↦ f.none_before p l a
    | inr b ↦
        let below : f.index < n = low f.index k f.there in
        let above : n ≤ p = high p l b in
        inl (omega arith)
  ];
}

later_stays : (n a b : ℕ) (k l : ModelFault) → IsFaultNoLater a k b l → IsFaultNoLater (n + a) k (n + b) l
later_stays n a b k l h =
    elim h [ inl lt ↦ inl (omega arith) | inr (e, r) ↦ inr (ap (λ (x : ℕ). n + x) e, r) ]

-- the same faults, further on
pub judged_after : (F : ℕ → ModelFault → Type 0) (n : ℕ) (o : Option ModelFault) → Judges F o
    → Judges (λ p k. (after : ℕ) × (p ≡ n + after) × F after k) o
judged_after F n None f = λ p k (after, e, h). f after k h
judged_after F n (Some k) f = record {
  index = n + f.index;
  there = (f.index, refl, f.there);
  none_before =
      λ p l (after, e, h). rw e (later_stays n f.index after k l (f.none_before after l h));
}

-- a fault at one index, unless a test holds
pub tested : (n : ℕ) (b : Bool) (k : ModelFault)
    → Judges (λ p l. (p ≡ n) × IsFalse b × (l ≡ k)) (unless b k)
tested n true k = λ p l h. cc
tested n false k = record {
  index = n;
  there = (refl, refl, refl);
  none_before = λ p l h. inr (sym h.0, rw h.2 (omega arith));
}

at_slot : (u b : Bool) (from slot : ℕ) → (b ≡ true → from ≤ slot) → (from ≤ slot → b ≡ true)
    → Judges (λ p k. (p ≡ 0) × ((from ≤ slot) × IsTrue u × (k ≡ faults.NotMonotone)))
    (if u && b then Some faults.NotMonotone else None)
at_slot true true from slot le is = record {
  index = 0;
  there = (refl, (le refl, search rules, refl));
  none_before = λ p l h. inr (sym h.0, rw h.1.2 (omega arith));
}
at_slot true false from slot le is = λ p k h. let e : false ≡ true = is h.1.0 in cc
at_slot false true from slot le is = λ p k h. let e = h.1.1 in cc
at_slot false false from slot le is = λ p k h. let e = h.1.1 in cc

recursive : (from : ℕ) (under : Bool) (slot : ℕ)
    → Judges (λ p k. (p ≡ 0) × ((from ≤ slot) × IsTrue under × (k ≡ faults.NotMonotone)))
    (of_slot from under slot)
recursive from under slot =
    at_slot under (nat_le from slot) from slot (leb-true from slot) (λ le. grind (arith, le))

of_binder : (b : Binder) (from : ℕ) (under : Bool) (slot : ℕ)
    → Judges (λ p k. (p ≡ 0) × IsFaultOfUse b from under slot k) (of_use b from under slot)
of_binder (binders.Predefined x) from under slot = recursive from under slot
of_binder (binders.Bound x) from under slot = recursive from under slot
of_binder (binders.Applicable x) from under slot = record {
  index = 0;
  there = (refl, refl);
  none_before = λ p l h. inr (sym h.0, rw h.1 (omega arith));
}

pub named : (from : ℕ) (under : Bool) (o : Option Found)
    → Judges (λ p k. (p ≡ 0) × IsFaultOfName from under o k) (of_name from under o)
named from under None = record {
  index = 0;
  there = (refl, refl);
  none_before = λ p l h. inr (sym h.0, rw h.1 (omega arith));
}
named from under (Some f) = of_binder f.binder from under f.slot

mutual
  pub inside : (ss : List Sense) (names : List Naming) (from : ℕ) (under : Bool) (t : Term) (p : ℕ)
      (k : ModelFault) → IsFaultAt ss names from under t p k → p < width t
  inside ss names from under (Atom x) p k h = omega (arith, h.0)
  inside ss names from under AllEvents p k h = absurd h
  inside ss names from under EmptyRelation p k h = absurd h
  inside ss names from under EmptySet p k h = absurd h
  inside ss names from under (Join op a b) p k h = elim h [
    | inl f ↦ let lt : p < width a = inside ss names from under a p k f in omega arith
    | inr g ↦ elim g [
      | inl s ↦ omega (arith, s.0)
      | inr (after, e, f) ↦
          let lt : after < width b = inside ss names from (is_turned op under) b after k f in
          omega (arith, e, lt)
    ]
  ]
  inside ss names from under (Mark op a) p k h = elim h [
    | inl f ↦ let lt : p < width a = inside ss names from under a p k f in omega arith
    | inr s ↦ omega (arith, s.0)
  ]
  inside ss names from under (Not a) p k (after, e, f) =
      let lt : after < width a = inside ss names from true a after k f in omega (arith, e, lt)
  inside ss names from under (On a) p k h = elim h [
    | inl s ↦ omega (arith, s.0)
    | inr (after, e, f) ↦
        let lt : after < width a = inside ss names from under a after k f in omega (arith, e, lt)
  ]
  inside ss names from under (Apply x ts) p k h = elim h [
    | inl s ↦ omega (arith, s.0)
    | inr (after, e, f) ↦
        let lt : after < widths ts =
        inside_among ss names from under (under_of (sense_of ss (count_of ts) (found names x)))
        0 ts after k f in
        omega (arith, e, lt)
  ]

  inside_among : (ss : List Sense) (names : List Naming) (from : ℕ) (under : Bool)
      (turned : ℕ → Bool) (i : ℕ) (ts : Terms) (p : ℕ) (k : ModelFault)
      → IsFaultAmong ss names from under turned i ts p k → p < widths ts
  inside_among ss names from under turned i NoTerm p k h = absurd h
  inside_among ss names from under turned i (OneMore a others) p k h = elim h [
    | inl f ↦ let lt : p < width a = inside ss names from (under || turned i) a p k f in omega arith
    | inr (after, e, f) ↦
        let lt : after < widths others =
        inside_among ss names from under turned (suc i) others after k f in
        omega (arith, e, lt)
  ]

clash : (n : ℕ) (c : Bool) → (4096 < n → ⊥)
    → Judges
    (λ p k. (p ≡ 0) × (((4096 < n) × (k ≡ faults.TooLarge)) ⊎ (IsTrue c × (k ≡ faults.Kind))))
    (unless (not c) faults.Kind)
clash n true small = record {
  index = 0;
  there = (refl, inr (search rules, refl));
  none_before =
      λ p l h.
      inr (sym h.0, elim h.1 [ inl a ↦ absurd (small a.0) | inr b ↦ rw b.1 (omega arith) ]);
}
clash n false small = λ p l h. elim h.1 [ inl a ↦ small a.0 | inr b ↦ let e = b.0 in cc ]

large : (n : ℕ) (c : Bool) → 4096 < n
    → Judges
    (λ p k. (p ≡ 0) × (((4096 < n) × (k ≡ faults.TooLarge)) ⊎ (IsTrue c × (k ≡ faults.Kind))))
    (Some faults.TooLarge)
large n c lt = record {
  index = 0;
  there = (refl, inl (lt, refl));
  none_before =
      λ p l h.
      inr (sym h.0, elim h.1 [ inl a ↦ rw a.1 (omega arith) | inr b ↦ rw b.1 (omega arith) ]);
}

at_size : (n : ℕ) (c b : Bool) (G : ℕ → ModelFault → Type 0) (later : Option ModelFault)
    → (b ≡ true → 4096 < n) → (4096 < n → b ≡ true) → ((p : ℕ) (k : ModelFault) → G p k → 1 ≤ p)
    → Judges G later
    → Judges
    (λ p k. ((p ≡ 0) × (((4096 < n) × (k ≡ faults.TooLarge)) ⊎ (IsTrue c × (k ≡ faults.Kind))))
    ⊎ G p k)
    (if b then Some faults.TooLarge else or_else (unless (not c) faults.Kind) later)
at_size n c true G later lt is high g =
    in_turn _ G 1 (Some faults.TooLarge) later (λ p k s. omega (arith, s.0)) high
    (large n c (lt refl)) g
at_size n c false G later lt is high g =
    in_turn _ G 1 (unless (not c) faults.Kind) later (λ p k s. omega (arith, s.0)) high
    (clash n c (λ l. let e : false ≡ true = is l in cc)) g

-- the fault of an application, and then those of its arguments
applied : (f : Result Sense ModelFault) (sizes : List ℕ) (kinds : List Kind)
    (G : ℕ → ModelFault → Type 0) (later : Option ModelFault)
    → ((p : ℕ) (k : ModelFault) → G p k → 1 ≤ p) → Judges G later
    → Judges (λ p k. ((p ≡ 0) × IsFaultOfApplication f sizes kinds k) ⊎ G p k)
    (fault_applied f sizes kinds later)
applied (Err l) sizes kinds G later high g =
    in_turn _ G 1 (Some l) later (λ p k s. omega (arith, s.0)) high only g
  where
    only : Judges (λ p k. (p ≡ 0) × (k ≡ l)) (Some l)
    only =
        record {
          index = 0;
          there = (refl, refl);
          none_before = λ p m h. inr (sym h.0, rw h.1 (omega arith));
        }
applied (Ok s) sizes kinds G later high g =
    at_size (size_with s sizes) (s.clashes kinds) (nat_lt 4096 (size_with s sizes)) G later
    (ltb-true 4096 (size_with s sizes)) (lt-ltb 4096 (size_with s sizes)) high g

mutual
  pub judged : (ss : List Sense) (names : List Naming) (from : ℕ) (under : Bool) (t : Term)
      → Judges (IsFaultAt ss names from under t) (term_fault ss names from under t)
  judged ss names from under (Atom x) = named from under (found names x)
  judged ss names from under AllEvents = λ p k h. absurd h
  judged ss names from under EmptyRelation = λ p k h. absurd h
  judged ss names from under EmptySet = λ p k h. absurd h
  judged ss names from under (Join op a b) =
      in_turn _ _ (width a) _ _ (inside ss names from under a)
      (λ p k h. elim h [ inl s ↦ omega (arith, s.0) | inr (after, e, f) ↦ omega (arith, e) ])
      (judged ss names from under a)
      (in_turn _ _ (width a + 1) _ _ (λ p k s. omega (arith, s.0))
      (λ p k (after, e, f). omega (arith, e))
      (tested (width a) (takes op (kind_in ss names a) (kind_in ss names b)) faults.Kind)
      (judged_after (IsFaultAt ss names from (is_turned op under) b) (width a + 1) _
      (judged ss names from (is_turned op under) b)))
  judged ss names from under (Mark op a) =
      in_turn _ _ (width a) _ _ (inside ss names from under a) (λ p k s. omega (arith, s.0))
      (judged ss names from under a) (tested (width a) (is_relation (kind_in ss names a))
      faults.Kind)
  judged ss names from under (Not a) =
      judged_after (IsFaultAt ss names from true a) 1 _ (judged ss names from true a)
  judged ss names from under (On a) =
      in_turn _ _ 1 _ _ (λ p k s. omega (arith, s.0)) (λ p k (after, e, f). omega (arith, e))
      (tested 0 (is_set_kind (kind_in ss names a)) faults.Kind) (judged_after
      (IsFaultAt ss names from under a) 1 _ (judged ss names from under a))
  judged ss names from under (Apply x ts) =
      let f = sense_of ss (count_of ts) (found names x) in
      applied f (sizes_in ss names ts) (kinds_in ss names ts) _ _
      (λ p k (after, e, h). omega (arith, e))
      (judged_after (IsFaultAmong ss names from under (under_of f) 0 ts) 1 _
      (judged_among ss names from under (under_of f) 0 ts))

  judged_among : (ss : List Sense) (names : List Naming) (from : ℕ) (under : Bool)
      (turned : ℕ → Bool) (i : ℕ) (ts : Terms)
      → Judges (IsFaultAmong ss names from under turned i ts)
      (first_among ss names from under turned i ts)
  judged_among ss names from under turned i NoTerm = λ p k h. absurd h
  judged_among ss names from under turned i (OneMore a others) =
      in_turn _ _ (width a) _ _ (inside ss names from (under || turned i) a)
      (λ p k (after, e, f). omega (arith, e))
      (judged ss names from (under || turned i) a)
      (judged_after (IsFaultAmong ss names from under turned (suc i) others) (width a) _
      (judged_among ss names from under turned (suc i) others))
