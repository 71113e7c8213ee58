-- Sixteen rows in two vectors.
use Rattle.std.proofs.Common.{ℕ, ◌≡◌, ◌<◌, ◌≤◌, ◌+◌, ◌-◌, ◌↔◌, ◌⊎◌, List, get_or, inl, inr, arith, refl, sym, subst}
use Rattle.std.proofs.lemmas.Bool.{cases_lt}
use Rattle.bit_rows.specs.Pairs.{Plus, PlusBelow}
use Rattle.bit_rows.specs.Relation.{Bit}
use Rattle.bit_rows.specs.Rows.{RowsHave, AreRowsFilled, AreLanesJoined, Through, Sixteen}
use Rattle.bit_rows.proofs.Closing.{Plus-within}
use Rattle.bit_rows.proofs.Columns.{Within}
use Rattle.bit_rows.proofs.Paths.{PlusBelow-all}

pub both_ways : {P Q R : Type 0} → P ↔ Q → Q ↔ R → P ↔ R
both_ways p q = ((λ h. q.0 (p.0 h)), (λ h. p.1 (q.1 h)))

pub both_back : {P Q : Type 0} → P ↔ Q → Q ↔ P
both_back p = (p.1, p.0)

-- the same paths, below a bound that is said in another way
pub as_far : (P R : ℕ → ℕ → Type 0) (k m : ℕ) → k ≡ m → ((a b : ℕ) → P a b ↔ PlusBelow R k a b)
    → (a b : ℕ) → P a b ↔ PlusBelow R m a b
as_far P R k m e are = subst (λ (x : ℕ). (a b : ℕ) → P a b ↔ PlusBelow R x a b) e are

-- the row of a middle joined to each row that leads to it
pub through_middle : (at k row : ℕ) (own other own' other' : List ℕ) → (at ≡ 0) ⊎ (at ≡ 8) → k < 8
    → row ≡ get_or own k 0 → AreLanesJoined own own (at + k) row own'
    → AreLanesJoined other other (at + k) row other' → (a b : ℕ)
    → Sixteen at own' other' a b ↔ Through (at + k) (Sixteen at own other) a b
through_middle at k row own other own' other' half small is_row step_own step_other a b = (to, back)
  where
    to : Sixteen at own' other' a b → Through (at + k) (Sixteen at own other) a b
    to (inl (j, lt, e, h)) = elim ((step_own j lt b).0 h) [
      | inl o ↦ inl (inl (j, lt, e, o))
      | inr t ↦ inr (
        inl (j, lt, e, t.0),
        inl (k, small, refl, subst (λ (x : ℕ). Bit x b) is_row t.1),
      )
    ]
    to (inr (j, lt, e, h)) = elim ((step_other j lt b).0 h) [
      | inl o ↦ inl (inr (j, lt, e, o))
      | inr t ↦ inr (
        inr (j, lt, e, t.0),
        inl (k, small, refl, subst (λ (x : ℕ). Bit x b) is_row t.1),
      )
    ]

    joined : Sixteen at own other a (at + k) → Bit row b → Sixteen at own' other' a b
    joined (inl (j, lt, e, h)) r = inl (j, lt, e, (step_own j lt b).1 (inr (h, r)))
    joined (inr (j, lt, e, h)) r = inr (j, lt, e, (step_other j lt b).1 (inr (h, r)))

    of_row : (j : ℕ) → at + k ≡ at + j → RowsHave own j b → Bit row b
    of_row j e h =
        subst (λ (x : ℕ). Bit x b) (sym is_row) (subst (λ (x : ℕ). RowsHave own x b) same h)
      where
        same : j ≡ k
        same = omega (arith, e)

    apart : (j : ℕ) → j < 8 → at + k ≡ 8 - at + j → ⊥
    apart j lt e =
        elim half [
          | inl z ↦ omega (arith, z, small, lt, e)
          | inr z ↦ omega
              (arith, z, small, lt, e)
        ]

    back : Through (at + k) (Sixteen at own other) a b → Sixteen at own' other' a b
    back (inl (inl (j, lt, e, o))) = inl (j, lt, e, (step_own j lt b).1 (inl o))
    back (inl (inr (j, lt, e, o))) = inr (j, lt, e, (step_other j lt b).1 (inl o))
    back (inr (p, inl (j, lt, e, h))) = joined p (of_row j e h)
    back (inr (p, inr (j, lt, e, h))) = absurd (apart j lt e)

pub swapped : (first second : List ℕ) (a b : ℕ)
    → Sixteen 8 second first a b ↔ Sixteen 0 first second a b
swapped first second a b = (
  (λ h. elim h [ inl t ↦ inr t | inr t ↦ inl t ]),
  (λ h. elim h [ inl t ↦ inr t | inr t ↦ inl t ]),
)

pub first_lane : (first second : List ℕ) (j b : ℕ) → j < 8
    → RowsHave first j b ↔ Sixteen 0 first second (0 + j) b
first_lane first second j b lt = ((λ h. inl (j, lt, refl, h)), from)
  where
    from : Sixteen 0 first second (0 + j) b → RowsHave first j b
    from (inl (i, small, e, h)) =
        let same : i ≡ j = omega (arith, e) in subst (λ (x : ℕ). RowsHave first x b) same h
    from (inr (i, small, e, h)) = absurd (omega (arith, e, lt))

pub second_lane : (first second : List ℕ) (j b : ℕ) → j < 8
    → RowsHave second j b ↔ Sixteen 0 first second (8 + j) b
second_lane first second j b lt = ((λ h. inr (j, lt, refl, h)), from)
  where
    from : Sixteen 0 first second (8 + j) b → RowsHave second j b
    from (inl (i, small, e, h)) = absurd (omega (arith, e, small))
    from (inr (i, small, e, h)) =
        let same : i ≡ j = omega (arith, e) in subst (λ (x : ℕ). RowsHave second x b) same h

-- the first sixteen rows, where there are no others
pub all_loaded : (n : ℕ) (words first second : List ℕ) → n ≤ 16 → Within (RowsHave words) n
    → ((i : ℕ) → i < 8 → get_or first i 0 ≡ get_or words (0 + i) 0)
    → ((i : ℕ) → i < 8 → get_or second i 0 ≡ get_or words (8 + i) 0) → (a b : ℕ)
    → Sixteen 0 first second a b ↔ RowsHave words a b
all_loaded n words first second few within low high a b = (to, from)
  where
    to : Sixteen 0 first second a b → RowsHave words a b
    to (inl (j, lt, e, h)) =
        subst (λ (x : ℕ). RowsHave words x b) (sym e) (subst (λ (x : ℕ). Bit x b) (low j lt) h)
    to (inr (j, lt, e, h)) =
        subst (λ (x : ℕ). RowsHave words x b) (sym e) (subst (λ (x : ℕ). Bit x b) (high j lt) h)

    from : RowsHave words a b → Sixteen 0 first second a b
    from h = elim (cases_lt a 8) [
      | inl lt ↦
          let e : a ≡ 0 + a = omega arith in
          inl (
            a,
            lt,
            e,
            subst (λ (x : ℕ). Bit x b) (sym (low a lt))
                (subst (λ (x : ℕ). RowsHave words x b) e h),
          )
      | inr ge ↦
          let w = within a b h in
          let e : a ≡ 8 + (a - 8) = omega arith in
          let lt : a - 8 < 8 = omega (arith, w.0, few, ge) in
          inr (
            a - 8,
            lt,
            e,
            subst (λ (x : ℕ). Bit x b) (sym (high (a - 8) lt))
                (subst (λ (x : ℕ). RowsHave words x b) e h),
          )
    ]

-- sixteen rows that are closed below the count are the closure
pub closed_sixteen : (n m : ℕ) (old new : List ℕ) (P : ℕ → ℕ → Type 0) → n ≤ 16 → n ≤ m
    → Within (RowsHave old) n → AreRowsFilled old new 16 P
    → ((a b : ℕ) → P a b ↔ PlusBelow (RowsHave old) m a b) → (a b : ℕ)
    → RowsHave new a b ↔ Plus (RowsHave old) a b
closed_sixteen n m old new P few enough within written are a b =
    elim (cases_lt a 16) [
      | inl lt ↦
          let here = written.inside a lt b in (
            (λ h. all.0 ((are a b).0 (here.0 h))),
            (λ p. here.1 ((are a b).1 (all.1 p))),
          )
      | inr ge ↦ (
        (λ h. absurd (beyond (within a b (subst (λ (x : ℕ). Bit x b) (written.outside a ge) h)).0
            ge)),
        (λ p. absurd (beyond (Plus-within (RowsHave old) n within a b p).0 ge)),
      )
    ]
  where
    all : PlusBelow (RowsHave old) m a b ↔ Plus (RowsHave old) a b
    all =
        PlusBelow-all (RowsHave old) m a b (λ x y r.
        let w = within x y r in (omega (arith, w.0, enough), omega (arith, w.1, enough)))

    beyond : a < n → 16 ≤ a → ⊥
    beyond p q = omega (arith, few)
