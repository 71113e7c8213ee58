-- What is looked for is the first fault, and the sign that it stands at.
use Rattle.std.proofs.Common.{ℕ, zero, suc, ◌≡◌, ◌<◌, ◌≤◌, ◌+◌, ◌⊎◌, inl, inr, List, [], ◌∷◌, ◌++◌, length, reverse, Bool, true, false, ◌&&◌, ◌||◌, IsTrue, Option, Some, None, Result, Ok, Err, refl, arith, sym, ap, ◌∙◌, rules, length-append}
use Rattle.std.specs.Prelude.{if◌then◌else◌, nat_lt, not, slice_get, slice_index_or, codes}
use Rattle.std.proofs.lemmas.Bool.{cases_lt, lt-ltb, ltb-true}
use Rattle.text_values.specs.ModelValue.{Term, Terms, Atom, AllEvents, EmptyRelation, EmptySet, Join, Mark, Not, On, Apply, NoTerm, OneMore}
use Rattle.binding_kinds.specs.declared.kinds.Kind.{Kind}
use Rattle.binding_kinds.specs.declared.kinds.Kind.TheVariants.{OfSet, OfRelation, OfAny}
use Rattle.binding_kinds.specs.declared.fault.ModelFault.{ModelFault}
use Rattle.binding_kinds.specs.declared.fault.ModelFault.TheVariants as faults
use Rattle.binding_kinds.specs.declared.scope.Found.{Found}
use Rattle.binding_kinds.specs.Value.{Naming, Bound, BareItem, Group, Check, Mute, Defined}
use Rattle.binding_kinds.specs.Kinds.{found, takes, is_relation, is_set_kind, is_turned, takes_body}
use Rattle.binding_kinds.specs.Meanings.{parameter_of}
use Rattle.binding_kinds.specs.Senses.{Sense, size_with, sense_of, count_of, sizes_in, kind_in, kinds_in, under_of, fault_applied}
use Rattle.binding_kinds.specs.Faults.{width, widths, IsAmong, IsFaultOfApplication, IsFaultAt, IsFaultAmong, IsFaultOfBinding, IsFaultIn, IsFaultOfParameter, IsFaultOfParameters, IsFaultInside, IsFaultApplied, IsFaultOfBody, IsFaultOfBodies, IsFaultOfItem, IsFirst, IsFaultNoLater, FirstFault, HasNoFault, with_own, names_after, senses_after}
use Rattle.binding_kinds.specs.Verdict.{or_else, unless, is_seen, is_of_set, of_parameter}
use Rattle.binding_kinds.specs.First.{let_fault, fault_inside, apply_fault}
use Rattle.binding_kinds.proofs.First.{Judges, tested, named, inside}
use Rattle.binding_kinds.proofs.FirstGroup.{seen_is, is_seen_of}
use Rattle.fault_texts.specs.Signs.{infix_sign, postfix_sign, check_sign, signs, signs_of_all, signs_of_bounds, signs_of_item}
use Rattle.fault_texts.specs.Search.{SignedFault, signed_fault, or_later, first_fault_in, first_fault_among, first_fault_in_group, first_fault_in_parameters, first_fault_in_body, first_fault_in_bodies, first_fault_in_item, IndexedFault, indexed_fault, first_fault_in_items}

-- the first of these faults stands at that sign of the list, or there is none
abbrev Shows : (ℕ → ModelFault → Type 0) → List (List ℕ) → Option SignedFault → Type 0
Shows F zs None = (p : ℕ) (k : ModelFault) → F p k → ⊥
Shows F zs (Some s) = (f : IsFirst F s.fault) × (slice_get zs f.index ≡ Some s.sign)

-- ---- parts

turn : (F G : ℕ → ModelFault → Type 0) (n : ℕ) (zs : List (List ℕ)) (o q : Option SignedFault)
    → ((p : ℕ) (k : ModelFault) → F p k → p < n) → ((p : ℕ) (k : ModelFault) → G p k → n ≤ p)
    → Shows F zs o → Shows G zs q → Shows (λ p k. F p k ⊎ G p k) zs (or_later o q)
turn F G n zs None None low high f g = λ p k h. elim h [ inl a ↦ f p k a | inr b ↦ g p k b ]
turn F G n zs None (Some s) low high f g = (
  record {
    index = g.0.index;
    there = inr g.0.there;
    none_before = λ p l h. elim h [ inl a ↦ absurd (f p l a) | inr b ↦ g.0.none_before p l b ];
  },
  g.1,
)
turn F G n zs (Some s) q low high f g = (
  record {
    index = f.0.index;
    there = inl f.0.there;
    none_before = λ p l h. elim h [
      | inl a ↦ f.0.none_before p l a
      | inr b ↦
          let below : f.0.index < n = low f.0.index s.fault f.0.there in
          let above : n ≤ p = high p l b in
          inl (omega arith)
    ];
  },
  f.1,
)

later_stays : (n a b : ℕ) (k l : ModelFault) → IsFaultNoLater a k b l → IsFaultNoLater (n + a) k (n + b) l
later_stays n a b k l h =
    elim h [ inl lt ↦ inl (omega arith) | inr (e, r) ↦ inr (ap (λ (x : ℕ). n + x) e, r) ]

-- the signs of a part stand in front
prefix : (F : ℕ → ModelFault → Type 0) (xs zs : List (List ℕ)) (o : Option SignedFault)
    → ((i : ℕ) (s : List ℕ) → slice_get xs i ≡ Some s → slice_get zs i ≡ Some s) → Shows F xs o
    → Shows F zs o
prefix F xs zs None at h = h
prefix F xs zs (Some s) at h = (h.0, at h.0.index s.sign h.1)

-- or further on
behind : (F : ℕ → ModelFault → Type 0) (n : ℕ) (ys zs : List (List ℕ)) (o : Option SignedFault)
    → ((i : ℕ) → slice_get zs (n + i) ≡ slice_get ys i) → Shows F ys o
    → Shows (λ p k. (after : ℕ) × (p ≡ n + after) × F after k) zs o
behind F n ys zs None at h = λ p k (after, e, g). h after k g
behind F n ys zs (Some s) at h = (
  record {
    index = n + h.0.index;
    there = (h.0.index, refl, h.0.there);
    none_before =
        λ p l (after, e, g).
        rw e (later_stays n h.0.index after s.fault l (h.0.none_before after l g));
  },
  at h.0.index ∙ h.1,
)

-- the faults at one index
at_sign : (F : ℕ → ModelFault → Type 0) (n : ℕ) (zs : List (List ℕ)) (sign : List ℕ)
    (o : Option ModelFault) → ((p : ℕ) (k : ModelFault) → F p k → p ≡ n)
    → slice_get zs n ≡ Some sign → Judges F o → Shows F zs (signed_fault o sign)
at_sign F n zs sign None here at h = h
at_sign F n zs sign (Some k) here at h = (h, ap (slice_get zs) (here h.index k h.there) ∙ at)

get_prefix : (xs ys : List (List ℕ)) (i : ℕ) (s : List ℕ) → slice_get xs i ≡ Some s
    → slice_get (xs ++ ys) i ≡ Some s
get_prefix [] ys i s e = absurd (let f : None ≡ Some s = e in cc)
get_prefix (x ∷ xs) ys zero s e = e
get_prefix (x ∷ xs) ys (suc i) s e = get_prefix xs ys i s e

next_at : (x : List ℕ) (xs : List (List ℕ)) (i : ℕ) → slice_get (x ∷ xs) (1 + i) ≡ slice_get xs i
next_at x xs i = ap (slice_get (x ∷ xs)) (let a : 1 + i ≡ suc i = omega arith in a)

get_behind : (xs ys : List (List ℕ)) (n i : ℕ) → n ≡ length xs
    → slice_get (xs ++ ys) (n + i) ≡ slice_get ys i
get_behind xs ys n i e = ap (λ (m : ℕ). slice_get (xs ++ ys) (m + i)) e ∙ go xs
  where
    go : (zs : List (List ℕ)) → slice_get (zs ++ ys) (length zs + i) ≡ slice_get ys i
    go [] = ap (slice_get ys) (let a : 0 + i ≡ i = omega arith in a)
    go (z ∷ zs) =
        ap (slice_get (z ∷ (zs ++ ys))) (
        let a : suc (length zs) + i ≡ suc (length zs + i) = omega arith in
        a) ∙ go zs

get_next : (xs : List (List ℕ)) (y : List ℕ) (ys : List (List ℕ)) (n i : ℕ) → n ≡ length xs
    → slice_get (xs ++ y ∷ ys) (n + 1 + i) ≡ slice_get ys i
get_next xs y ys n i e =
    ap (λ (m : ℕ). slice_get (xs ++ y ∷ ys) m) (let a : n + 1 + i ≡ n + suc i = omega arith in a)
    ∙ get_behind xs (y ∷ ys) n (suc i) e

get_here : (xs : List (List ℕ)) (y : List ℕ) (ys : List (List ℕ)) (n : ℕ) → n ≡ length xs
    → slice_get (xs ++ y ∷ ys) n ≡ Some y
get_here xs y ys n e =
    ap (λ (m : ℕ). slice_get (xs ++ y ∷ ys) m) (let a : n ≡ n + 0 = omega arith in a)
    ∙ get_behind xs (y ∷ ys) n 0 e

-- ---- as many signs as indexes

mutual
  wide : (t : Term) → width t ≡ length (signs t)
  wide (Atom x) = refl
  wide AllEvents = refl
  wide EmptyRelation = refl
  wide EmptySet = refl
  wide (Join op a b) =
      let l = length-append (signs a) (infix_sign op ∷ signs b) in
      let m = wide a in let n = wide b in omega (arith, l, m, n)
  wide (Mark op a) =
      let l = length-append (signs a) (postfix_sign op ∷ []) in
      let m = wide a in omega (arith, l, m)
  wide (Not a) = let m = wide a in omega (arith, m)
  wide (On a) = let m = wide a in omega (arith, m)
  wide (Apply x ts) = let m = wide_all ts in omega (arith, m)

  wide_all : (ts : Terms) → widths ts ≡ length (signs_of_all ts)
  wide_all NoTerm = refl
  wide_all (OneMore a others) =
      let l = length-append (signs a) (signs_of_all others) in
      let m = wide a in let n = wide_all others in omega (arith, l, m, n)

-- ---- the fault of an application itself

only : (l : ModelFault) → Judges (λ p k. (p ≡ 0) × (k ≡ l)) (Some l)
only l =
    record {
      index = 0;
      there = (refl, refl);
      none_before = λ p m h. inr (sym h.0, rw h.1 (omega arith));
    }

clash : (n : ℕ) (c : Bool) → (4096 < n → ⊥)
    → Judges
    (λ p k. (p ≡ 0) × (((4096 < n) × (k ≡ faults.TooLarge)) ⊎ (IsTrue c × (k ≡ faults.Kind))))
    (or_else (unless (not c) faults.Kind) None)
clash n true small = record {
  index = 0;
  there = (refl, inr (search rules, refl));
  none_before =
      λ p l h.
      inr (sym h.0, elim h.1 [ inl a ↦ absurd (small a.0) | inr b ↦ rw b.1 (omega arith) ]);
}
clash n false small = λ p l h. elim h.1 [ inl a ↦ small a.0 | inr b ↦ let e = b.0 in cc ]

at_size : (n : ℕ) (c b : Bool) → (b ≡ true → 4096 < n) → (4096 < n → b ≡ true)
    → Judges
    (λ p k. (p ≡ 0) × (((4096 < n) × (k ≡ faults.TooLarge)) ⊎ (IsTrue c × (k ≡ faults.Kind))))
    (if b then Some faults.TooLarge else or_else (unless (not c) faults.Kind) None)
at_size n c true lt is = record {
  index = 0;
  there = (refl, inl (lt refl, refl));
  none_before =
      λ p l h.
      inr (sym h.0, elim h.1 [ inl a ↦ rw a.1 (omega arith) | inr b ↦ rw b.1 (omega arith) ]);
}
at_size n c false lt is = clash n c (λ l. let e : false ≡ true = is l in cc)

own : (f : Result Sense ModelFault) (sizes : List ℕ) (kinds : List Kind)
    → Judges (λ p k. (p ≡ 0) × IsFaultOfApplication f sizes kinds k)
    (fault_applied f sizes kinds None)
own (Err l) sizes kinds = only l
own (Ok s) sizes kinds =
    at_size (size_with s sizes) (s.clashes kinds) (nat_lt 4096 (size_with s sizes))
    (ltb-true 4096 (size_with s sizes)) (lt-ltb 4096 (size_with s sizes))

-- ---- expressions

mutual
  shown : (ss : List Sense) (names : List Naming) (from : ℕ) (under : Bool) (t : Term)
      → Shows (IsFaultAt ss names from under t) (signs t) (first_fault_in ss names from under t)
  shown ss names from under (Atom x) =
      at_sign _ 0 (x ∷ []) x _ (λ p k h. h.0) refl (named from under (found names x))
  shown ss names from under AllEvents = λ p k h. absurd h
  shown ss names from under EmptyRelation = λ p k h. absurd h
  shown ss names from under EmptySet = λ p k h. absurd h
  shown ss names from under (Join op a b) =
      let zs = signs a ++ infix_sign op ∷ signs b in
      turn _ _ (width a) zs _ _ (inside ss names from under a)
      (λ p k h. elim h [ inl s ↦ omega (arith, s.0) | inr (after, e, f) ↦ omega (arith, e) ])
      (prefix _ (signs a) zs _ (get_prefix (signs a) (infix_sign op ∷ signs b))
      (shown ss names from under a))
      (turn _ _ (width a + 1) zs _ _ (λ p k s. omega (arith, s.0))
      (λ p k (after, e, f). omega (arith, e))
      (at_sign _ (width a) zs (infix_sign op) _ (λ p k h. h.0)
      (get_here (signs a) (infix_sign op) (signs b) (width a) (wide a))
      (tested (width a) (takes op (kind_in ss names a) (kind_in ss names b)) faults.Kind))
      (behind (IsFaultAt ss names from (is_turned op under) b) (width a + 1) (signs b) zs _
      (λ i. get_next (signs a) (infix_sign op) (signs b) (width a) i (wide a))
      (shown ss names from (is_turned op under) b)))
  shown ss names from under (Mark op a) =
      let zs = signs a ++ postfix_sign op ∷ [] in
      turn _ _ (width a) zs _ _ (inside ss names from under a) (λ p k s. omega (arith, s.0))
      (prefix _ (signs a) zs _ (get_prefix (signs a) (postfix_sign op ∷ []))
      (shown ss names from under a))
      (at_sign _ (width a) zs (postfix_sign op) _ (λ p k h. h.0)
      (get_here (signs a) (postfix_sign op) [] (width a) (wide a))
      (tested (width a) (is_relation (kind_in ss names a)) faults.Kind))
  shown ss names from under (Not a) =
      behind (IsFaultAt ss names from true a) 1 (signs a) (signs (Not a)) _
      (next_at (codes "~") (signs a)) (shown ss names from true a)
  shown ss names from under (On a) =
      let zs = signs (On a) in
      turn _ _ 1 zs _ _ (λ p k s. omega (arith, s.0)) (λ p k (after, e, f). omega (arith, e))
      (at_sign _ 0 zs _ _ (λ p k h. h.0) refl (tested 0 (is_set_kind (kind_in ss names a)) faults.Kind))
      (behind (IsFaultAt ss names from under a) 1 (signs a) zs _ (next_at (codes "[") (signs a))
      (shown ss names from under a))
  shown ss names from under (Apply x ts) =
      let f = sense_of ss (count_of ts) (found names x) in
      let zs = x ∷ signs_of_all ts in
      turn _ _ 1 zs _ _ (λ p k s. omega (arith, s.0)) (λ p k (after, e, h). omega (arith, e))
      (at_sign _ 0 zs x _ (λ p k h. h.0) refl (own f (sizes_in ss names ts) (kinds_in ss names ts)))
      (behind (IsFaultAmong ss names from under (under_of f) 0 ts) 1 (signs_of_all ts) zs _
      (next_at x (signs_of_all ts)) (shown_among ss names from under (under_of f) 0 ts))

  shown_among : (ss : List Sense) (names : List Naming) (from : ℕ) (under : Bool)
      (under_at : ℕ → Bool) (i : ℕ) (ts : Terms)
      → Shows (IsFaultAmong ss names from under under_at i ts) (signs_of_all ts)
      (first_fault_among ss names from under under_at i ts)
  shown_among ss names from under under_at i NoTerm = λ p k h. absurd h
  shown_among ss names from under under_at i (OneMore a others) =
      let zs = signs a ++ signs_of_all others in
      turn _ _ (width a) zs _ _ (inside ss names from (under || under_at i) a)
      (λ p k (after, e, f). omega (arith, e))
      (prefix _ (signs a) zs _ (get_prefix (signs a) (signs_of_all others))
      (shown ss names from (under || under_at i) a))
      (behind (IsFaultAmong ss names from under under_at (suc i) others) (width a)
      (signs_of_all others) zs _
      (λ n. get_behind (signs a) (signs_of_all others) (width a) n (wide a))
      (shown_among ss names from under under_at (suc i) others))

-- ---- groups

of_set : (k : Kind) → is_of_set k ≡ true → k ≡ OfSet
of_set OfSet e = refl
of_set OfRelation e = absurd (let f : false ≡ true = e in cc)
of_set OfAny e = absurd (let f : false ≡ true = e in cc)

set_of_true : (k : Kind) → k ≡ OfSet → is_of_set k ≡ true
set_of_true k e = rw e refl

judged_binding : (ss : List Sense) (names : List Naming) (recursive : Bool)
    (earlier : List (List ℕ)) (b : Bound)
    → Judges (λ p k. (p ≡ 0) × IsFaultOfBinding ss names recursive earlier b k)
    (let_fault ss names recursive earlier b)
judged_binding ss names recursive earlier b =
    at_tests recursive (is_seen earlier b.name) (is_of_set (kind_in ss names b.body))
    (seen_is earlier b.name) (is_seen_of earlier b.name) (of_set (kind_in ss names b.body))
    (set_of_true (kind_in ss names b.body))
  where
    at_tests : (r s t : Bool) → (s ≡ true → IsAmong earlier b.name)
        → (IsAmong earlier b.name → s ≡ true) → (t ≡ true → kind_in ss names b.body ≡ OfSet)
        → (kind_in ss names b.body ≡ OfSet → t ≡ true)
        → Judges (λ p k. (p ≡ 0) × IsFaultOfBinding ss names r earlier b k)
        (if s then Some faults.Duplicate else if r && t then Some faults.SetInRec else None)
    at_tests r true t s0 s1 t0 t1 = record {
      index = 0;
      there = (refl, inl (s0 refl, refl));
      none_before =
          λ p l h.
          inr (sym h.0, elim h.1 [ inl d ↦ rw d.1 (omega arith) | inr m ↦ rw m.2 (omega arith) ]);
    }
    at_tests true false true s0 s1 t0 t1 = record {
      index = 0;
      there = (refl, inr (search rules, t0 refl, refl));
      none_before =
          λ p l h. inr (
            sym h.0,
            elim h.1 [
              | inl d ↦ absurd (let f : false ≡ true = s1 d.0 in cc)
              | inr m ↦ rw m.2
                  (omega arith)
            ],
          );
    }
    at_tests true false false s0 s1 t0 t1 =
        λ p l h. elim h.1 [
          | inl d ↦
              let f : false ≡ true = s1 d.0 in cc
          | inr m ↦ let f : false ≡ true = t1 m.1 in cc
        ]
    at_tests false false t s0 s1 t0 t1 =
        λ p l h.
        elim h.1 [ inl d ↦ let f : false ≡ true = s1 d.0 in cc | inr m ↦ let f = m.0 in cc ]

shown_group : (ss : List Sense) (names : List Naming) (from : ℕ) (recursive : Bool)
    (earlier : List (List ℕ)) (bs : List Bound)
    → Shows (IsFaultIn ss names from recursive earlier bs) (signs_of_bounds bs)
    (first_fault_in_group ss names from recursive earlier bs)
shown_group ss names from recursive earlier [] = λ p k h. absurd h
shown_group ss names from recursive earlier (b ∷ bs) =
    let xs = signs b.body in
    let ys = signs_of_bounds bs in
    let zs = b.name ∷ (xs ++ ys) in
    turn _ _ 1 zs _ _ (λ p k s. omega (arith, s.0))
    (λ p k h.
    elim h [ inl (after, e, f) ↦ omega (arith, e) | inr (after, e, f) ↦ omega (arith, e) ])
    (at_sign _ 0 zs b.name _ (λ p k h. h.0) refl (judged_binding ss names recursive earlier b))
    (turn _ _ (1 + width b.body) zs _ _
    (λ p k (after, e, f).
    let lt : after < width b.body = inside ss names from false b.body after k f in
    omega (arith, e, lt))
    (λ p k (after, e, f). omega (arith, e))
    (behind (IsFaultAt ss names from false b.body) 1 (xs ++ ys) zs _ (next_at b.name (xs ++ ys))
    (prefix _ xs (xs ++ ys) _ (get_prefix xs ys) (shown ss names from false b.body)))
    (behind (IsFaultIn ss names from recursive (b.name ∷ earlier) bs) (1 + width b.body) ys zs _
    (λ i. ap (slice_get zs) (
    let a : 1 + width b.body + i ≡ 1 + (width b.body + i) = omega arith in
    a) ∙ next_at b.name (xs ++ ys) (width b.body + i)
    ∙ get_behind xs ys (width b.body) i (wide b.body))
    (shown_group ss names from recursive (b.name ∷ earlier) bs)))

-- ---- parameters

inside_parameters : (earlier ps : List (List ℕ)) (p : ℕ) (k : ModelFault)
    → IsFaultOfParameters earlier ps p k → p < length ps
inside_parameters earlier [] p k h = absurd h
inside_parameters earlier (x ∷ xs) p k h = elim h [
  | inl a ↦ omega (arith, a.0)
  | inr (after, e, f) ↦
      let lt : after < length xs = inside_parameters (x ∷ earlier) xs after k f in
      omega (arith, e, lt)
]

judged_parameter : (earlier : List (List ℕ)) (x : List ℕ)
    → Judges (λ p k. (p ≡ 0) × IsFaultOfParameter earlier x k) (of_parameter earlier x)
judged_parameter earlier x =
    at_tests (is_seen earlier x) (nat_lt (length earlier) 8) (seen_is earlier x)
    (is_seen_of earlier x) (lt-ltb (length earlier) 8) (ltb-true (length earlier) 8)
  where
    at_tests : (b few : Bool) → (b ≡ true → IsAmong earlier x) → (IsAmong earlier x → b ≡ true)
        → (length earlier < 8 → few ≡ true) → (few ≡ true → length earlier < 8)
        → Judges (λ p k. (p ≡ 0) × IsFaultOfParameter earlier x k) (if b then Some faults.Duplicate
        else unless few faults.TooLarge)
    at_tests true few is of lt lt' = record {
      index = 0;
      there = (refl, inl (is refl, refl));
      none_before =
          λ p l h.
          inr (sym h.0, elim h.1 [ inl d ↦ rw d.1 (omega arith) | inr m ↦ rw m.1 (omega arith) ]);
    }
    at_tests false true is of lt lt' =
        λ p l h. elim h.1 [
          | inl d ↦
              let f : false ≡ true = of d.0 in
              cc
          | inr m ↦ let f = lt' refl in let g = m.0 in absurd (omega (arith, f, g))
        ]
    at_tests false false is of lt lt' = record {
      index = 0;
      there = (refl, inr (at_least (cases_lt (length earlier) 8), refl));
      none_before =
          λ p l h. inr (
            sym h.0,
            elim h.1 [
              | inl d ↦ absurd (let f : false ≡ true = of d.0 in cc)
              | inr m ↦ rw m.1
                  (omega arith)
            ],
          );
    }
      where
        at_least : (length earlier < 8) ⊎ (8 ≤ length earlier) → 8 ≤ length earlier
        at_least (inl less) = absurd (let f : false ≡ true = lt less in cc)
        at_least (inr le) = le

shown_parameters : (earlier ps : List (List ℕ))
    → Shows (IsFaultOfParameters earlier ps) ps (first_fault_in_parameters earlier ps)
shown_parameters earlier [] = λ p k h. absurd h
shown_parameters earlier (x ∷ xs) =
    turn _ _ 1 (x ∷ xs) _ _ (λ p k s. omega (arith, s.0)) (λ p k (after, e, f). omega (arith, e))
    (at_sign _ 0 (x ∷ xs) x _ (λ p k h. h.0) refl (judged_parameter earlier x))
    (behind (IsFaultOfParameters (x ∷ earlier) xs) 1 xs (x ∷ xs) _ (next_at x xs)
    (shown_parameters (x ∷ earlier) xs))

-- ---- bodies of functions

judged_inside : (o : Option ℕ) (f : Option Found)
    → Judges (λ p k. (p ≡ 0) × IsFaultInside o f k) (fault_inside o f)
judged_inside None f = named 0 false f
judged_inside (Some i) f = λ p k h. absurd h.1

judged_applied : (o : Option ℕ) (f : Result Sense ModelFault)
    → Judges (λ p k. (p ≡ 0) × IsFaultApplied o f k) (apply_fault o f)
judged_applied (Some i) f = only faults.Arity
judged_applied None (Ok s) = λ p k h. absurd h.1
judged_applied None (Err l) = only l

mutual
  inside_body : (ss : List Sense) (names : List Naming) (ps : List (List ℕ)) (t : Term) (p : ℕ)
      (k : ModelFault) → IsFaultOfBody ss names ps t p k → p < width t
  inside_body ss names ps (Atom x) p k h = omega (arith, h.0)
  inside_body ss names ps AllEvents p k h = absurd h
  inside_body ss names ps EmptyRelation p k h = absurd h
  inside_body ss names ps EmptySet p k h = absurd h
  inside_body ss names ps (Join op a b) p k h = elim h [
    | inl f ↦ let lt : p < width a = inside_body ss names ps a p k f in omega arith
    | inr (after, e, f) ↦
        let lt : after < width b = inside_body ss names ps b after k f in omega (arith, e, lt)
  ]
  inside_body ss names ps (Mark op a) p k h =
      let lt : p < width a = inside_body ss names ps a p k h in omega arith
  inside_body ss names ps (Not a) p k (after, e, f) =
      let lt : after < width a = inside_body ss names ps a after k f in omega (arith, e, lt)
  inside_body ss names ps (On a) p k (after, e, f) =
      let lt : after < width a = inside_body ss names ps a after k f in omega (arith, e, lt)
  inside_body ss names ps (Apply x ts) p k h = elim h [
    | inl s ↦ omega (arith, s.0)
    | inr (after, e, f) ↦
        let lt : after < widths ts = inside_bodies ss names ps ts after k f in omega (arith, e, lt)
  ]

  inside_bodies : (ss : List Sense) (names : List Naming) (ps : List (List ℕ)) (ts : Terms) (p : ℕ)
      (k : ModelFault) → IsFaultOfBodies ss names ps ts p k → p < widths ts
  inside_bodies ss names ps NoTerm p k h = absurd h
  inside_bodies ss names ps (OneMore a others) p k h = elim h [
    | inl f ↦ let lt : p < width a = inside_body ss names ps a p k f in omega arith
    | inr (after, e, f) ↦
        let lt : after < widths others = inside_bodies ss names ps others after k f in
        omega (arith, e, lt)
  ]

mutual
  shown_body : (ss : List Sense) (names : List Naming) (ps : List (List ℕ)) (t : Term)
      → Shows (IsFaultOfBody ss names ps t) (signs t) (first_fault_in_body ss names ps t)
  shown_body ss names ps (Atom x) =
      at_sign _ 0 (x ∷ []) x _ (λ p k h. h.0) refl (judged_inside (parameter_of (reverse ps) x)
      (found names x))
  shown_body ss names ps AllEvents = λ p k h. absurd h
  shown_body ss names ps EmptyRelation = λ p k h. absurd h
  shown_body ss names ps EmptySet = λ p k h. absurd h
  shown_body ss names ps (Join op a b) =
      let zs = signs a ++ infix_sign op ∷ signs b in
      turn _ _ (width a) zs _ _ (inside_body ss names ps a) (λ p k (after, e, f). omega (arith, e))
      (prefix _ (signs a) zs _ (get_prefix (signs a) (infix_sign op ∷ signs b))
      (shown_body ss names ps a))
      (behind (IsFaultOfBody ss names ps b) (width a + 1) (signs b) zs _
      (λ i. get_next (signs a) (infix_sign op) (signs b) (width a) i (wide a))
      (shown_body ss names ps b))
  shown_body ss names ps (Mark op a) =
      prefix _ (signs a) (signs a ++ postfix_sign op ∷ []) _
      (get_prefix (signs a) (postfix_sign op ∷ [])) (shown_body ss names ps a)
  shown_body ss names ps (Not a) =
      behind (IsFaultOfBody ss names ps a) 1 (signs a) (signs (Not a)) _
      (next_at (codes "~") (signs a)) (shown_body ss names ps a)
  shown_body ss names ps (On a) =
      behind (IsFaultOfBody ss names ps a) 1 (signs a) (signs (On a)) _
      (next_at (codes "[") (signs a)) (shown_body ss names ps a)
  shown_body ss names ps (Apply x ts) =
      let zs = x ∷ signs_of_all ts in
      turn _ _ 1 zs _ _ (λ p k s. omega (arith, s.0)) (λ p k (after, e, f). omega (arith, e))
      (at_sign _ 0 zs x _ (λ p k h. h.0) refl (judged_applied (parameter_of (reverse ps) x)
      (sense_of ss (count_of ts) (found names x))))
      (behind (IsFaultOfBodies ss names ps ts) 1 (signs_of_all ts) zs _
      (next_at x (signs_of_all ts)) (shown_bodies ss names ps ts))

  shown_bodies : (ss : List Sense) (names : List Naming) (ps : List (List ℕ)) (ts : Terms)
      → Shows (IsFaultOfBodies ss names ps ts) (signs_of_all ts)
      (first_fault_in_bodies ss names ps ts)
  shown_bodies ss names ps NoTerm = λ p k h. absurd h
  shown_bodies ss names ps (OneMore a others) =
      let zs = signs a ++ signs_of_all others in
      turn _ _ (width a) zs _ _ (inside_body ss names ps a) (λ p k (after, e, f). omega (arith, e))
      (prefix _ (signs a) zs _ (get_prefix (signs a) (signs_of_all others))
      (shown_body ss names ps a))
      (behind (IsFaultOfBodies ss names ps others) (width a) (signs_of_all others) zs _
      (λ n. get_behind (signs a) (signs_of_all others) (width a) n (wide a))
      (shown_bodies ss names ps others))

-- ---- items

shown_item : (ss : List Sense) (names : List Naming) (item : ℕ) (c : BareItem)
    → Shows (IsFaultOfItem ss names item c) (signs_of_item c) (first_fault_in_item ss names item c)
shown_item ss names item (Group true bs) =
    shown_group ss (with_own names item 0 bs) (length names) true [] bs
shown_item ss names item (Group false bs) = shown_group ss names (length names) false [] bs
shown_item ss names item (Check w e) =
    let zs = check_sign w ∷ signs e in
    turn _ _ 1 zs _ _ (λ p k s. omega (arith, s.0)) (λ p k (after, h, f). omega (arith, h))
    (at_sign _ 0 zs (check_sign w) _ (λ p k h. h.0) refl
    (tested 0 (takes_body w (kind_in ss names e)) faults.Kind))
    (behind (IsFaultAt ss names (length names) false e) 1 (signs e) zs _
    (next_at (check_sign w) (signs e)) (shown ss names (length names) false e))
shown_item ss names item Mute = λ p k h. absurd h
shown_item ss names item (Defined n ps b) =
    turn _ _ (length ps) (ps ++ signs b) _ _ (inside_parameters [] ps)
    (λ p k (after, h, f). omega (arith, h))
    (prefix _ ps (ps ++ signs b) _ (get_prefix ps (signs b)) (shown_parameters [] ps))
    (behind (IsFaultOfBody ss names ps b) (length ps) (signs b) (ps ++ signs b) _
    (λ i. get_behind ps (signs b) (length ps) i refl) (shown_body ss names ps b))

-- the first fault of the items, the first of which has the number, and where it stands
pub record IsPlaced (ss : List Sense) (names : List Naming) (from : ℕ) (cs : List BareItem)
    (x : IndexedFault) : Type 0 where
  pub first : FirstFault ss names from cs x.fault
  pub item_is : from + first.item ≡ x.item
  pub sign_is : slice_get (signs_of_item (slice_index_or cs first.item Mute)) first.index
      ≡ Some x.sign

abbrev pub ArePlaced : List Sense → List Naming → ℕ → List BareItem → Option IndexedFault → Type 0
ArePlaced ss names from cs None = HasNoFault ss names from cs
ArePlaced ss names from cs (Some x) = IsPlaced ss names from cs x

after_item : (ss : List Sense) (names : List Naming) (from : ℕ) (c : BareItem) (cs : List BareItem)
    (o : Option SignedFault) (q : Option IndexedFault)
    → Shows (IsFaultOfItem ss names from c) (signs_of_item c) o
    → ArePlaced (senses_after ss names c) (names_after ss names from c) (from + 1) cs q
    → ArePlaced ss names from (c ∷ cs) (indexed_fault from o q)
after_item ss names from c cs None None f g =
    λ i p k h. elim h [ inl (e, a) ↦ f p k a | inr (after, e, b) ↦ g after p k b ]
after_item ss names from c cs None (Some x) f g = record {
  first = record {
    item = 1 + g.first.item;
    index = g.first.index;
    there = inr (g.first.item, refl, g.first.there);
    none_before = λ i p l h. elim h [
      | inl (e, a) ↦ absurd (f p l a)
      | inr (after, e, b) ↦ elim (g.first.none_before after p l b) [
        | inl lt ↦ inl
            (omega (arith, e, lt))
        | inr s ↦ inr (ap (λ (n : ℕ). 1 + n) s.0 ∙ sym e, s.1)
      ]
    ];
  };
  item_is = let e = g.item_is in omega (arith, e);
  sign_is =
      ap (λ (n : ℕ). slice_get (signs_of_item (slice_index_or (c ∷ cs) n Mute)) g.first.index)
      (let a : 1 + g.first.item ≡ suc g.first.item = omega arith in a) ∙ g.sign_is;
}
after_item ss names from c cs (Some s) q f g = record {
  first = record {
    item = 0;
    index = f.0.index;
    there = inl (refl, f.0.there);
    none_before = λ i p l h. elim h [
      | inl (e, a) ↦ inr (sym e, f.0.none_before p l a)
      | inr (after, e, b) ↦ inl (omega (arith, e))
    ];
  };
  item_is = omega arith;
  sign_is = f.1;
}

pub items_are_placed : (ss : List Sense) (names : List Naming) (from : ℕ) (cs : List BareItem)
    → ArePlaced ss names from cs (first_fault_in_items ss names from cs)
items_are_placed ss names from [] = λ i p k h. absurd h
items_are_placed ss names from (c ∷ cs) =
    after_item ss names from c cs (first_fault_in_item ss names from c)
    (first_fault_in_items (senses_after ss names c) (names_after ss names from c) (from + 1) cs)
    (shown_item ss names from c) (items_are_placed (senses_after ss names c)
    (names_after ss names from c) (from + 1) cs)
