-- What is looked for in items is the first fault.
use Rattle.std.proofs.Common.{ℕ, suc, ◌≡◌, ◌<◌, ◌≤◌, ◌+◌, ◌⊎◌, inl, inr, List, [], ◌∷◌, length, reverse, Bool, true, false, Option, Some, None, Result, Ok, Err, refl, arith, sym, ◌∙◌, ap}
use Rattle.std.specs.Prelude.{if◌then◌else◌, nat_lt}
use Rattle.std.proofs.lemmas.Bool.{cases_lt, lt-ltb, ltb-true}
use Rattle.text_values.specs.ModelValue.{Term, Terms, Atom, AllEvents, EmptyRelation, EmptySet, Join, Mark, Not, On, Apply, NoTerm, OneMore}
use Rattle.binding_kinds.specs.declared.fault.ModelFault.{ModelFault}
use Rattle.binding_kinds.specs.declared.fault.ModelFault.TheVariants as faults
use Rattle.binding_kinds.specs.declared.scope.Found.{Found}
use Rattle.binding_kinds.specs.Value.{Naming, BareItem, Group, Check, Mute, Defined}
use Rattle.binding_kinds.specs.Kinds.{found, takes_body}
use Rattle.binding_kinds.specs.Meanings.{parameter_of}
use Rattle.binding_kinds.specs.Senses.{Sense, sense_of, count_of, kind_in}
use Rattle.binding_kinds.specs.Faults.{width, widths, IsAmong, IsFaultAt, IsFaultOfParameter, IsFaultOfParameters, IsFaultInside, IsFaultApplied, IsFaultOfBody, IsFaultOfBodies, IsFaultOfItem, FirstFault, HasNoFault, with_own, names_after, senses_after}
use Rattle.binding_kinds.specs.Verdict.{or_else, unless, is_seen, of_parameter, of_parameters}
use Rattle.binding_kinds.specs.First.{fault_inside, apply_fault, first_of_body, first_of_bodies, first_of_item, first}
use Rattle.binding_kinds.proofs.First.{Judges, in_turn, judged_after, tested, named, judged}
use Rattle.binding_kinds.proofs.FirstGroup.{seen_is, is_seen_of, judged_in}

inside_parameters : (earlier ps : List (List ℕ)) (p : ℕ) (k : ModelFault)
    → IsFaultOfParameters earlier ps p k → p < length ps
inside_parameters earlier [] p k h = absurd h
inside_parameters earlier (x ∷ xs) p k h = elim h [
  | inl a ↦ omega (arith, a.0)
  | inr (after, e, f) ↦
      let lt : after < length xs = inside_parameters (x ∷ earlier) xs after k f in
      omega (arith, e, lt)
]

judged_parameter : (earlier : List (List ℕ)) (x : List ℕ)
    → Judges (λ p k. (p ≡ 0) × IsFaultOfParameter earlier x k) (of_parameter earlier x)
judged_parameter earlier x =
    at_tests (is_seen earlier x) (nat_lt (length earlier) 8) (seen_is earlier x)
    (is_seen_of earlier x) (lt-ltb (length earlier) 8) (ltb-true (length earlier) 8)
  where
    at_tests : (b few : Bool) → (b ≡ true → IsAmong earlier x) → (IsAmong earlier x → b ≡ true)
        → (length earlier < 8 → few ≡ true) → (few ≡ true → length earlier < 8)
        → Judges (λ p k. (p ≡ 0) × IsFaultOfParameter earlier x k) (if b then Some faults.Duplicate
        else unless few faults.TooLarge)
    at_tests true few is of lt lt' = record {
      index = 0;
      there = (refl, inl (is refl, refl));
      none_before =
          λ p l h.
          inr (sym h.0, elim h.1 [ inl d ↦ rw d.1 (omega arith) | inr m ↦ rw m.1 (omega arith) ]);
    }
    at_tests false true is of lt lt' =
        λ p l h. elim h.1 [
          | inl d ↦
              let f : false ≡ true = of d.0 in
              cc
          | inr m ↦ let f = lt' refl in let g = m.0 in absurd (omega (arith, f, g))
        ]
    at_tests false false is of lt lt' = record {
      index = 0;
      there = (refl, inr (at_least (cases_lt (length earlier) 8), refl));
      none_before =
          λ p l h. inr (
            sym h.0,
            elim h.1 [
              | inl d ↦ absurd (let f : false ≡ true = of d.0 in cc)
              | inr m ↦ rw m.1
                  (omega arith)
            ],
          );
    }
      where
        at_least : (length earlier < 8) ⊎ (8 ≤ length earlier) → 8 ≤ length earlier
        at_least (inl less) = absurd (let f : false ≡ true = lt less in cc)
        at_least (inr le) = le

judged_parameters : (earlier ps : List (List ℕ))
    → Judges (IsFaultOfParameters earlier ps) (of_parameters earlier ps)
judged_parameters earlier [] = λ p k h. absurd h
judged_parameters earlier (x ∷ xs) =
    in_turn _ _ 1 _ _ (λ p k s. omega (arith, s.0)) (λ p k (after, e, f). omega (arith, e))
    (judged_parameter earlier x) (judged_after (IsFaultOfParameters (x ∷ earlier) xs) 1 _
    (judged_parameters (x ∷ earlier) xs))

judged_inside : (o : Option ℕ) (f : Option Found)
    → Judges (λ p k. (p ≡ 0) × IsFaultInside o f k) (fault_inside o f)
judged_inside None f = named 0 false f
judged_inside (Some i) f = λ p k h. absurd h.1

only : (l : ModelFault) → Judges (λ p k. (p ≡ 0) × (k ≡ l)) (Some l)
only l =
    record {
      index = 0;
      there = (refl, refl);
      none_before = λ p m h. inr (sym h.0, rw h.1 (omega arith));
    }

judged_applied : (o : Option ℕ) (f : Result Sense ModelFault)
    → Judges (λ p k. (p ≡ 0) × IsFaultApplied o f k) (apply_fault o f)
judged_applied (Some i) f = only faults.Arity
judged_applied None (Ok s) = λ p k h. absurd h.1
judged_applied None (Err l) = only l

mutual
  inside_body : (ss : List Sense) (names : List Naming) (ps : List (List ℕ)) (t : Term) (p : ℕ)
      (k : ModelFault) → IsFaultOfBody ss names ps t p k → p < width t
  inside_body ss names ps (Atom x) p k h = omega (arith, h.0)
  inside_body ss names ps AllEvents p k h = absurd h
  inside_body ss names ps EmptyRelation p k h = absurd h
  inside_body ss names ps EmptySet p k h = absurd h
  inside_body ss names ps (Join op a b) p k h = elim h [
    | inl f ↦ let lt : p < width a = inside_body ss names ps a p k f in omega arith
    | inr (after, e, f) ↦
        let lt : after < width b = inside_body ss names ps b after k f in omega (arith, e, lt)
  ]
  inside_body ss names ps (Mark op a) p k h =
      let lt : p < width a = inside_body ss names ps a p k h in omega arith
  inside_body ss names ps (Not a) p k (after, e, f) =
      let lt : after < width a = inside_body ss names ps a after k f in omega (arith, e, lt)
  inside_body ss names ps (On a) p k (after, e, f) =
      let lt : after < width a = inside_body ss names ps a after k f in omega (arith, e, lt)
  inside_body ss names ps (Apply x ts) p k h = elim h [
    | inl s ↦ omega (arith, s.0)
    | inr (after, e, f) ↦
        let lt : after < widths ts = inside_bodies ss names ps ts after k f in omega (arith, e, lt)
  ]

  inside_bodies : (ss : List Sense) (names : List Naming) (ps : List (List ℕ)) (ts : Terms) (p : ℕ)
      (k : ModelFault) → IsFaultOfBodies ss names ps ts p k → p < widths ts
  inside_bodies ss names ps NoTerm p k h = absurd h
  inside_bodies ss names ps (OneMore a others) p k h = elim h [
    | inl f ↦ let lt : p < width a = inside_body ss names ps a p k f in omega arith
    | inr (after, e, f) ↦
        let lt : after < widths others = inside_bodies ss names ps others after k f in
        omega (arith, e, lt)
  ]

mutual
  judged_body : (ss : List Sense) (names : List Naming) (ps : List (List ℕ)) (t : Term)
      → Judges (IsFaultOfBody ss names ps t) (first_of_body ss names ps t)
  judged_body ss names ps (Atom x) = judged_inside (parameter_of (reverse ps) x) (found names x)
  judged_body ss names ps AllEvents = λ p k h. absurd h
  judged_body ss names ps EmptyRelation = λ p k h. absurd h
  judged_body ss names ps EmptySet = λ p k h. absurd h
  judged_body ss names ps (Join op a b) =
      in_turn _ _ (width a) _ _ (inside_body ss names ps a) (λ p k (after, e, f). omega (arith, e))
      (judged_body ss names ps a) (judged_after (IsFaultOfBody ss names ps b) (width a + 1) _
      (judged_body ss names ps b))
  judged_body ss names ps (Mark op a) = judged_body ss names ps a
  judged_body ss names ps (Not a) =
      judged_after (IsFaultOfBody ss names ps a) 1 _ (judged_body ss names ps a)
  judged_body ss names ps (On a) =
      judged_after (IsFaultOfBody ss names ps a) 1 _ (judged_body ss names ps a)
  judged_body ss names ps (Apply x ts) =
      in_turn _ _ 1 _ _ (λ p k s. omega (arith, s.0)) (λ p k (after, e, f). omega (arith, e))
      (judged_applied (parameter_of (reverse ps) x) (sense_of ss (count_of ts) (found names x)))
      (judged_after (IsFaultOfBodies ss names ps ts) 1 _ (judged_bodies ss names ps ts))

  judged_bodies : (ss : List Sense) (names : List Naming) (ps : List (List ℕ)) (ts : Terms)
      → Judges (IsFaultOfBodies ss names ps ts) (first_of_bodies ss names ps ts)
  judged_bodies ss names ps NoTerm = λ p k h. absurd h
  judged_bodies ss names ps (OneMore a others) =
      in_turn _ _ (width a) _ _ (inside_body ss names ps a) (λ p k (after, e, f). omega (arith, e))
      (judged_body ss names ps a) (judged_after (IsFaultOfBodies ss names ps others) (width a) _
      (judged_bodies ss names ps others))

pub judged_item : (ss : List Sense) (names : List Naming) (item : ℕ) (c : BareItem)
    → Judges (IsFaultOfItem ss names item c) (first_of_item ss names item c)
judged_item ss names item (Group true bs) =
    judged_in ss (with_own names item 0 bs) (length names) true [] bs
judged_item ss names item (Group false bs) = judged_in ss names (length names) false [] bs
judged_item ss names item (Check w e) =
    in_turn _ _ 1 _ _ (λ p k s. omega (arith, s.0)) (λ p k (after, h, f). omega (arith, h))
    (tested 0 (takes_body w (kind_in ss names e)) faults.Kind)
    (judged_after (IsFaultAt ss names (length names) false e) 1 _
    (judged ss names (length names) false e))
judged_item ss names item Mute = λ p k h. absurd h
judged_item ss names item (Defined n ps b) =
    in_turn _ _ (length ps) _ _ (inside_parameters [] ps) (λ p k (after, h, f). omega (arith, h))
    (judged_parameters [] ps) (judged_after (IsFaultOfBody ss names ps b) (length ps) _
    (judged_body ss names ps b))

-- the first fault of the items, or that there is none
abbrev pub JudgesItems : List Sense → List Naming → ℕ → List BareItem → Option ModelFault → Type 0
JudgesItems ss names from cs None = HasNoFault ss names from cs
JudgesItems ss names from cs (Some k) = FirstFault ss names from cs k

after_item : (ss : List Sense) (names : List Naming) (from : ℕ) (c : BareItem) (cs : List BareItem)
    (o q : Option ModelFault) → Judges (IsFaultOfItem ss names from c) o
    → JudgesItems (senses_after ss names c) (names_after ss names from c) (from + 1) cs q
    → JudgesItems ss names from (c ∷ cs) (or_else o q)
after_item ss names from c cs None None f g =
    λ i p k h. elim h [ inl (e, a) ↦ f p k a | inr (after, e, b) ↦ g after p k b ]
after_item ss names from c cs None (Some k) f g = record {
  item = 1 + g.item;
  index = g.index;
  there = inr (g.item, refl, g.there);
  none_before = λ i p l h. elim h [
    | inl (e, a) ↦ absurd (f p l a)
    | inr (after, e, b) ↦ elim (g.none_before after p l b) [
      | inl lt ↦ inl (omega (arith, e, lt))
      | inr s ↦ inr (ap (λ (n : ℕ). 1 + n) s.0 ∙ sym e, s.1)
    ]
  ];
}
after_item ss names from c cs (Some k) q f g = record {
  item = 0;
  index = f.index;
  there = inl (refl, f.there);
  none_before = λ i p l h. elim h [
    | inl (e, a) ↦ inr (sym e, f.none_before p l a)
    | inr (after, e, b) ↦ inl (omega (arith, e))
  ];
}

pub judged_items : (ss : List Sense) (names : List Naming) (from : ℕ) (cs : List BareItem)
    → JudgesItems ss names from cs (first ss names from cs)
judged_items ss names from [] = λ i p k h. absurd h
judged_items ss names from (c ∷ cs) =
    after_item ss names from c cs (first_of_item ss names from c)
    (first (senses_after ss names c) (names_after ss names from c) (from + 1) cs)
    (judged_item ss names from c) (judged_items (senses_after ss names c) (names_after ss names from c)
    (from + 1) cs)

-- parameters without fault are at most eight
few_after : (earlier ps : List (List ℕ)) → length earlier ≤ 8 → of_parameters earlier ps ≡ None
    → length earlier + length ps ≤ 8
few_after earlier [] le e = omega (arith, le)
few_after earlier (x ∷ xs) le e =
    at_tests (is_seen earlier x) (nat_lt (length earlier) 8) (ltb-true (length earlier) 8) e
    (λ le h. few_after (x ∷ earlier) xs le h)
  where
    at_tests : (b few : Bool) → (few ≡ true → length earlier < 8)
        → or_else (if b then Some faults.Duplicate else unless few faults.TooLarge)
        (of_parameters (x ∷ earlier) xs) ≡ None
        → (suc (length earlier) ≤ 8 → of_parameters (x ∷ earlier) xs ≡ None
        → suc (length earlier) + length xs ≤ 8) → length earlier + suc (length xs) ≤ 8
    at_tests true few lt h rest = absurd (let f : Some faults.Duplicate ≡ None = h in cc)
    at_tests false true lt h rest =
        let l = lt refl in let r = rest (omega (arith, l)) h in omega (arith, r)
    at_tests false false lt h rest = absurd (let f : Some faults.TooLarge ≡ None = h in cc)

pub few_parameters : (ps : List (List ℕ)) → of_parameters [] ps ≡ None → length ps ≤ 8
few_parameters ps e = let h = few_after [] ps (omega arith) e in omega (arith, h)
