-- What is looked for in a group is the first fault.
use Rattle.std.proofs.Common.{ℕ, ◌≡◌, ◌<◌, ◌+◌, ◌⊎◌, inl, inr, List, [], ◌∷◌, Bool, true, false, ◌&&◌, ◌||◌, Some, None, refl, arith, sym, rules}
use Rattle.std.specs.Prelude.{if◌then◌else◌, bytes_eq}
use Rattle.std.proofs.lemmas.Slice.Eq.{bytes_eq-Decides}
use Rattle.binding_kinds.specs.declared.fault.ModelFault.TheVariants as faults
use Rattle.binding_kinds.specs.declared.kinds.Kind.{Kind}
use Rattle.binding_kinds.specs.declared.kinds.Kind.TheVariants.{OfSet, OfRelation, OfAny}
use Rattle.binding_kinds.specs.Value.{Naming, Bound}
use Rattle.binding_kinds.specs.Senses.{Sense, kind_in}
use Rattle.binding_kinds.specs.Faults.{width, IsAmong, IsFaultAt, IsFaultOfBinding, IsFaultIn}
use Rattle.binding_kinds.specs.Verdict.{is_seen, is_of_set}
use Rattle.binding_kinds.specs.First.{let_fault, first_in}
use Rattle.binding_kinds.proofs.First.{Judges, in_turn, judged_after, inside, judged}

pub seen_is : (ns : List (List ℕ)) (x : List ℕ) → is_seen ns x ≡ true → IsAmong ns x
seen_is [] x e = absurd (let f : false ≡ true = e in cc)
seen_is (n ∷ ns) x e = at_test (bytes_eq n x) (bytes_eq-Decides n x).0 (seen_is ns x) e
  where
    at_test : (b : Bool) → (b ≡ true → n ≡ x) → (is_seen ns x ≡ true → IsAmong ns x)
        → (b || is_seen ns x) ≡ true → (n ≡ x) ⊎ IsAmong ns x
    at_test true same rest h = inl (same refl)
    at_test false same rest h = inr (rest h)

pub is_seen_of : (ns : List (List ℕ)) (x : List ℕ) → IsAmong ns x → is_seen ns x ≡ true
is_seen_of [] x h = absurd h
is_seen_of (n ∷ ns) x h = at_test (bytes_eq n x) (bytes_eq-Decides n x).1 (is_seen_of ns x) h
  where
    at_test : (b : Bool) → (n ≡ x → b ≡ true) → (IsAmong ns x → is_seen ns x ≡ true)
        → (n ≡ x) ⊎ IsAmong ns x → (b || is_seen ns x) ≡ true
    at_test true same rest h = refl
    at_test false same rest h =
        elim h [ inl e ↦ absurd (let f : false ≡ true = same e in cc) | inr t ↦ rest t ]

of_set : (k : Kind) → is_of_set k ≡ true → k ≡ OfSet
of_set OfSet e = refl
of_set OfRelation e = absurd (let f : false ≡ true = e in cc)
of_set OfAny e = absurd (let f : false ≡ true = e in cc)

set_of_true : (k : Kind) → k ≡ OfSet → is_of_set k ≡ true
set_of_true k e = rw e refl

judged_binding : (ss : List Sense) (names : List Naming) (recursive : Bool)
    (earlier : List (List ℕ)) (b : Bound)
    → Judges (λ p k. (p ≡ 0) × IsFaultOfBinding ss names recursive earlier b k)
    (let_fault ss names recursive earlier b)
judged_binding ss names recursive earlier b =
    at_tests recursive (is_seen earlier b.name) (is_of_set (kind_in ss names b.body))
    (seen_is earlier b.name) (is_seen_of earlier b.name) (of_set (kind_in ss names b.body))
    (set_of_true (kind_in ss names b.body))
  where
    at_tests : (r s t : Bool) → (s ≡ true → IsAmong earlier b.name)
        → (IsAmong earlier b.name → s ≡ true) → (t ≡ true → kind_in ss names b.body ≡ OfSet)
        → (kind_in ss names b.body ≡ OfSet → t ≡ true)
        → Judges (λ p k. (p ≡ 0) × IsFaultOfBinding ss names r earlier b k)
        (if s then Some faults.Duplicate else if r && t then Some faults.SetInRec else None)
    at_tests r true t s0 s1 t0 t1 = record {
      index = 0;
      there = (refl, inl (s0 refl, refl));
      none_before =
          λ p l h.
          inr (sym h.0, elim h.1 [ inl d ↦ rw d.1 (omega arith) | inr m ↦ rw m.2 (omega arith) ]);
    }
    at_tests true false true s0 s1 t0 t1 = record {
      index = 0;
      there = (refl, inr (search rules, t0 refl, refl));
      none_before =
          λ p l h. inr (
            sym h.0,
            elim h.1 [
              | inl d ↦ absurd (let f : false ≡ true = s1 d.0 in cc)
              | inr m ↦ rw m.2
                  (omega arith)
            ],
          );
    }
    at_tests true false false s0 s1 t0 t1 =
        λ p l h. elim h.1 [
          | inl d ↦
              let f : false ≡ true = s1 d.0 in cc
          | inr m ↦ let f : false ≡ true = t1 m.1 in cc
        ]
    at_tests false false t s0 s1 t0 t1 =
        λ p l h.
        elim h.1 [ inl d ↦ let f : false ≡ true = s1 d.0 in cc | inr m ↦ let f = m.0 in cc ]

pub judged_in : (ss : List Sense) (names : List Naming) (from : ℕ) (recursive : Bool)
    (earlier : List (List ℕ)) (bs : List Bound)
    → Judges (IsFaultIn ss names from recursive earlier bs)
    (first_in ss names from recursive earlier bs)
judged_in ss names from recursive earlier [] = λ p k h. absurd h
judged_in ss names from recursive earlier (b ∷ bs) =
    in_turn _ _ 1 _ _ (λ p k s. omega (arith, s.0))
    (λ p k h.
    elim h [ inl (after, e, f) ↦ omega (arith, e) | inr (after, e, f) ↦ omega (arith, e) ])
    (judged_binding ss names recursive earlier b)
    (in_turn _ _ (1 + width b.body) _ _
    (λ p k (after, e, f).
    let lt : after < width b.body = inside ss names from false b.body after k f in
    omega (arith, e, lt))
    (λ p k (after, e, f). omega (arith, e))
    (judged_after (IsFaultAt ss names from false b.body) 1 _ (judged ss names from false b.body))
    (judged_after (IsFaultIn ss names from recursive (b.name ∷ earlier) bs) (1 + width b.body) _
    (judged_in ss names from recursive (b.name ∷ earlier) bs)))
