-- The closure, one middle after another.
use Rattle.std.specs.Prelude.{IsTrue}
use Rattle.std.proofs.Common.{Bool, ℕ, ◌≡◌, ◌<◌, ◌≤◌, ◌+◌, ◌↔◌, List, [], ◌∷◌, length, get_or, inl, inr, arith, sym, ◌∙◌, subst}
use Rattle.std.proofs.lemmas.Bool.{cases_lt}
use Rattle.bit_rows.specs.Pairs.{Path, Plus, PlusBelow, IsAcyclic}
use Rattle.bit_rows.specs.Relation.{Bit, AreRelColumns, wide}
use Rattle.bit_rows.specs.Rows.{RowsHave, AllFit, AreRowsFilled, UnionWhere, Through}
use Rattle.bit_rows.proofs.Bits.{Bit-width, Bit-zero}
use Rattle.bit_rows.proofs.Columns.{IsColumn, IsMade, Within, taken_apart, column_written, empty_row}
use Rattle.bit_rows.proofs.Wide.{low_bit}
use Rattle.bit_rows.proofs.Paths.{PlusBelow-suc, PlusBelow-start}

pub Through-within : (R : ℕ → ℕ → Type 0) (middle n : ℕ) → Within R n → Within (Through middle R) n
Through-within R middle n within a b (inl r) = within a b r
Through-within R middle n within a b (inr t) = ((within a middle t.0).0, (within middle b t.1).1)

-- one column with the row of the middle joined
through_column : {n end : ℕ} {event : ℕ → ℕ} {old new : List ℕ} {R : ℕ → ℕ → Type 0}
    (select : List ℕ) (middle k : ℕ) → ((a b : ℕ) → a < n → event b < n → a < end)
    → IsColumn old event R → Within R n → ((a : ℕ) → RowsHave select a k ↔ R a middle)
    → AreRowsFilled old new end (UnionWhere (RowsHave old) (RowsHave select) k (get_or old middle 0))
    → IsColumn new event (Through middle R)
through_column {n} {R = R} select middle k covered column within sel written =
    column_written covered column within (Through-within R middle n within)
    (written.fits column.fits) written (λ a b lt inside.
    let here = column.bits a b lt in
    let there = column.bits middle b lt in (
      (λ h. elim h [ inl o ↦ inl (here.0 o) | inr t ↦ inr ((sel a).0 t.0, there.0 t.1) ]),
      (λ h. elim h [ inl o ↦ inl (here.1 o) | inr t ↦ inr ((sel a).1 t.0, there.1 t.1) ]),
    ))

-- both columns, up to an end that covers the count
pub through : (n end middle k : ℕ) (low high low' high' select : List ℕ) → n ≤ end
    → AreRelColumns n low high → ((a : ℕ) → RowsHave select a k ↔ RowsHave (wide low high) a middle)
    → AreRowsFilled low low' end (UnionWhere (RowsHave low) (RowsHave select) k (get_or low middle 0))
    → AreRowsFilled high high' end (UnionWhere (RowsHave high) (RowsHave select) k
    (get_or high middle 0))
    → IsMade n low' high' (Through middle (RowsHave (wide low high)))
through n end middle k low high low' high' select enough columns sel write_low write_high =
    let m = taken_apart n low high columns in
    record {
      few = m.few;
      low = through_column select middle k (λ a b p q. covered p) m.low m.within sel write_low;
      high = through_column select middle k (λ a b p q. covered p) m.high m.within sel write_high;
      within = Through-within (RowsHave (wide low high)) middle n m.within;
    }
  where
    covered : {a : ℕ} → a < n → a < end
    covered p = omega (arith, enough)

pub close_step : (R : ℕ → ℕ → Type 0) (k : ℕ) (Old New : ℕ → ℕ → Type 0)
    → ((a b : ℕ) → Old a b ↔ PlusBelow R k a b) → ((a b : ℕ) → New a b ↔ Through k Old a b)
    → (a b : ℕ) → New a b ↔ PlusBelow R (k + 1) a b
close_step R k Old New are turn a b = (
  (λ h. (PlusBelow-suc R k a b).1 (elim ((turn a b).0 h) [
    | inl kept ↦ inl ((are a b).0 kept)
    | inr t ↦ inr ((are a k).0 t.0, (are k b).0 t.1)
  ])),
  (λ p. (turn a b).1 (elim ((PlusBelow-suc R k a b).0 p) [
    | inl kept ↦ inl ((are a b).1 kept)
    | inr t ↦ inr ((are a k).1 t.0, (are k b).1 t.1)
  ])),
)

-- nothing leads through a middle with an empty row
pub through_nothing : (low high : List ℕ) (n k : ℕ) → AreRelColumns n low high → get_or low k 0 ≡ 0
    → get_or high k 0 ≡ 0 → (a b : ℕ)
    → RowsHave (wide low high) a b ↔ Through k (RowsHave (wide low high)) a b
through_nothing low high n k columns p q a b = (
  (λ h. inl h),
  (λ h. elim h [ inl o ↦ o | inr t ↦ absurd (empty_row low high n k b columns p q t.1) ]),
)

-- the ends of a path are ends of pairs
pub Plus-within : (R : ℕ → ℕ → Type 0) (n : ℕ) → Within R n → Within (Plus R) n
Plus-within R n within a b p = go a p.0 p.1
  where
    go : (x : ℕ) (xs : List ℕ) → Path R x xs b → (x < n) × (b < n)
    go x [] r = within x b r
    go x (c ∷ cs) r = ((within x c r.0).0, (go c cs r.1).1)

-- the same paths along the same pairs
pub Plus-map : (R S : ℕ → ℕ → Type 0) → ((a b : ℕ) → R a b → S a b) → (a b : ℕ) → Plus R a b
    → Plus S a b
Plus-map R S to a b p = (p.0, go a p.0 p.1)
  where
    go : (x : ℕ) (xs : List ℕ) → Path R x xs b → Path S x xs b
    go x [] r = to x b r
    go x (c ∷ cs) r = (to x c r.0, go c cs r.1)

-- up to 64 events, the low words hold all
pub one_word : (n : ℕ) (low high : List ℕ) → n ≤ 64 → AreRelColumns n low high → (a b : ℕ)
    → RowsHave low a b ↔ RowsHave (wide low high) a b
one_word n low high few columns a b =
    elim (cases_lt b 64) [
      | inl lt ↦ let w = low_bit low high a b same lt in (w.1, w.0)
      | inr ge ↦ (
        (λ h. absurd (apart (Bit-width (get_or low a 0) b (m.low.fits a) h) ge)),
        (λ h. absurd (beyond (columns.within a b h).1 ge)),
      )
    ]
  where
    m : IsMade n low high (RowsHave (wide low high))
    m = taken_apart n low high columns

    same : length low ≡ length high
    same = columns.low_height ∙ sym columns.high_height

    apart : b < 64 → 64 ≤ b → ⊥
    apart p q = omega arith

    beyond : b < n → 64 ≤ b → ⊥
    beyond p q = omega (arith, few)

pub low_within : (n : ℕ) (low high : List ℕ) → n ≤ 64 → AreRelColumns n low high
    → Within (RowsHave low) n
low_within n low high few columns a b h =
    columns.within a b ((one_word n low high few columns a b).0 h)

-- closed low words are the closure
pub closed_low : (n : ℕ) (low high low' : List ℕ) → n ≤ 64 → AreRelColumns n low high
    → length low' ≡ 128 → AllFit low' → ((a b : ℕ) → RowsHave low' a b ↔ Plus (RowsHave low) a b)
    → IsMade n low' high (Plus (RowsHave (wide low high)))
closed_low n low high low' few columns height fits pairs = record {
  few = m.few;
  low = record {
    height = height;
    fits = fits;
    bits = λ a b lt. (
      (λ h. Plus-map (RowsHave low) R (λ x y r. (same x y).0 r) a b ((pairs a b).0 h)),
      (λ p. (pairs a b).1 (Plus-map R (RowsHave low) (λ x y r. (same x y).1 r) a b p)),
    );
  };
  high = record {
    height = m.high.height;
    fits = m.high.fits;
    bits = λ a b lt. (
      (λ h. absurd (beyond b (m.within a (b + 64) ((m.high.bits a b lt).0 h)).1)),
      (λ p. absurd (beyond b (Plus-within R n m.within a (b + 64) p).1)),
    );
  };
  within = Plus-within R n m.within;
}
  where
    R : ℕ → ℕ → Type 0
    R = RowsHave (wide low high)

    m : IsMade n low high R
    m = taken_apart n low high columns

    same : (a b : ℕ) → RowsHave low a b ↔ R a b
    same = one_word n low high few columns

    beyond : (b : ℕ) → b + 64 < n → ⊥
    beyond b p = omega (arith, few)

-- one step on rows of one word
pub step_low : (R : ℕ → ℕ → Type 0) (n end k : ℕ) (old new : List ℕ) → n ≤ end → Within R n
    → ((a b : ℕ) → RowsHave old a b ↔ PlusBelow R k a b)
    → AreRowsFilled old new end (UnionWhere (RowsHave old) (RowsHave old) k (get_or old k 0))
    → (a b : ℕ) → RowsHave new a b ↔ PlusBelow R (k + 1) a b
step_low R n end k old new enough within are written =
    close_step R k (RowsHave old) (RowsHave new) are (λ a b. elim (cases_lt a end) [
      | inl inside ↦ written.inside a inside b
      | inr past ↦ rw (written.outside a past) (
        (λ h. inl h),
        (λ h. elim h [
          | inl o ↦ o
          | inr t ↦ absurd (beyond
              (PlusBelow-start R n k a k within ((are a k).0 t.0)) past)
        ]),
      )
    ])
  where
    beyond : {a : ℕ} → a < n → end ≤ a → ⊥
    beyond p q = omega (arith, enough)

-- an empty row
pub passed_low : (R : ℕ → ℕ → Type 0) (k : ℕ) (old : List ℕ)
    → ((a b : ℕ) → RowsHave old a b ↔ PlusBelow R k a b) → get_or old k 0 ≡ 0 → (a b : ℕ)
    → RowsHave old a b ↔ PlusBelow R (k + 1) a b
passed_low R k old are empty =
    close_step R k (RowsHave old) (RowsHave old) are (λ a b. (
      (λ h. inl h),
      (λ h. elim h [
        | inl o ↦ o
        | inr t ↦ absurd
            (Bit-zero b (subst (λ (x : ℕ). Bit x b) empty t.1))
      ]),
    ))

-- a closure without a pair of an event with itself is of an acyclic relation
pub acyclic_low : (n : ℕ) (low closed : List ℕ) (free : Bool) → n ≤ 64 → Within (RowsHave low) n
    → ((a b : ℕ) → RowsHave closed a b ↔ Plus (RowsHave low) a b)
    → (IsTrue free ↔ ((a b : ℕ) → a < n → b < 64 → a ≡ b + 0 → RowsHave closed a b → ⊥))
    → IsTrue free ↔ IsAcyclic (RowsHave low)
acyclic_low n low closed free few within pairs diagonal = (
  (λ t a p.
      let w = Plus-within (RowsHave low) n within a a p in
      diagonal.0 t a a w.0 (small w.0) (none_more a) ((pairs a a).1 p)),
  (λ none. diagonal.1 (λ a b lt small e h.
      none a ((pairs a a).0 (subst (λ (x : ℕ). RowsHave closed a x) (back e) h)))),
)
  where
    small : {a : ℕ} → a < n → a < 64
    small p = omega (arith, few)

    none_more : (a : ℕ) → a ≡ a + 0
    none_more a = omega arith

    back : {a b : ℕ} → a ≡ b + 0 → b ≡ a
    back e = omega arith
