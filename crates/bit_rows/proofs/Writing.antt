-- A loop that writes words one after another.
use Rattle.std.proofs.Common.{ℕ, ◌≡◌, ◌<◌, ◌≤◌, ◌↔◌, ◌+◌, ◌-◌, ◌^◌, ◌⊎◌, List, length, get_or, set, replicate, inl, inr, arith, refl, sym, ◌∙◌, subst, get_or-set_other, get_or-set_same}
use Rattle.std.proofs.lemmas.Bool.{cases_eq, cases_lt}
use Rattle.std.proofs.lemmas.List.{length-set, length-replicate, get_or-replicate, get_or_past}
use Rattle.bit_rows.specs.Relation.{Bit, wide}
use Rattle.bit_rows.specs.Rows.{RowsHave, AllFit, AreRowsFilled, JoinedBelow, JoinedFrom}
use Rattle.bit_rows.proofs.Bits.{Bit-zero}
use Rattle.bit_rows.proofs.Wide.{low_bit, high_bit}

pub written_none : (rows : List ℕ) (P : ℕ → ℕ → Type 0) → AreRowsFilled rows rows 0 P
written_none rows P =
    record {
      height = refl;
      fits = λ f. f;
      inside = λ a lt. absurd (omega (arith, lt));
      outside = λ a le. refl;
    }

pub written_more : (old new : List ℕ) (i w : ℕ) (P : ℕ → ℕ → Type 0) → i < length old
    → AreRowsFilled old new i P → w < 2 ^ 64 → ((b : ℕ) → Bit w b ↔ P i b)
    → AreRowsFilled old (set new i w) (i + 1) P
written_more old new i w P room before small row = record {
  height = length-set new i w ∙ before.height;
  fits = λ f a. elim (cases_eq a i) [
    | inl same ↦
        let here : get_or (set new i w) a 0 ≡ w = rw same (get_or-set_same new i w 0 in_new) in
        rw here small
    | inr other ↦
        let there : get_or (set new i w) a 0 ≡ get_or new a 0 = get_or-set_other new i a w 0 other in
        rw there (before.fits f a)
  ];
  inside = λ a lt b.
      elim (cases_eq a i) [
        | inl same ↦
            let here : get_or (set new i w) a 0 ≡ w = rw same (get_or-set_same new i w 0 in_new) in
            rw (here, same) (row b)
        | inr other ↦
            let there : get_or (set new i w) a 0 ≡ get_or new a 0 = get_or-set_other new i a w 0 other in
            rw there (before.inside a (below other lt) b)
      ];
  outside =
      λ a le. get_or-set_other new i a w 0 (λ e. omega (arith, le, e))
      ∙ before.outside a (omega (arith, le));
}
  where
    in_new : i < length new
    in_new = rw before.height room

    below : {a : ℕ} → (a ≡ i → ⊥) → a < i + 1 → a < i
    below ne lt = omega arith

-- the row at hand is still the old one
pub still : {old new : List ℕ} {i : ℕ} {P : ℕ → ℕ → Type 0} → AreRowsFilled old new i P
    → get_or new i 0 ≡ get_or old i 0
still {old} {new} {i} before = before.outside i (omega arith)

pub zeros : (n a : ℕ) → ◌≡◌ {A = ℕ} (get_or (replicate n 0) a 0) 0
zeros n a =
    elim (cases_lt a n) [
      | inl lt ↦ get_or-replicate {A = ℕ} n a 0 0 lt
      | inr ge ↦
          let past : length (replicate {A = ℕ} n 0) ≤ a = rw (length-replicate {A = ℕ} n 0) ge in
          get_or_past {X = ℕ} (replicate n 0) a 0 past
    ]

-- the same bits, said in another way
pub written_as : {old new : List ℕ} {end : ℕ} {P Q : ℕ → ℕ → Type 0} → AreRowsFilled old new end P
    → ((a b : ℕ) → P a b ↔ Q a b) → AreRowsFilled old new end Q
written_as w same = record {
  height = w.height;
  fits = w.fits;
  inside =
      λ a lt b.
      let p = w.inside a lt b in let q = same a b in ((λ h. q.0 (p.0 h)), (λ h. p.1 (q.1 h)));
  outside = w.outside;
}

-- an event of a low word, as one of the row
low_joined : (count n_low : ℕ) (low high others : List ℕ) (a b : ℕ) → length low ≡ length high
    → n_low ≤ 64 → ((c : ℕ) → c < 64 → (c < n_low ↔ (c < count)))
    → ((c : ℕ) × (c < n_low) × RowsHave low a c × RowsHave others (c + 0) b)
    → (c : ℕ) × (c < count) × RowsHave (wide low high) a c × RowsHave others c b
low_joined count n_low low high others a b e few cut_low t =
    let lt : t.0 < 64 = omega (arith, t.1) in (
      t.0,
      (cut_low t.0 lt).0 t.1,
      (low_bit low high a t.0 e lt).1 t.2,
      subst (λ (x : ℕ). RowsHave others x b) (zero_more t.0) t.3,
    )
  where
    zero_more : (c : ℕ) → c + 0 ≡ c
    zero_more c = omega arith

-- the events of the low words joined, and then those of the high ones
pub both_joined : (count n_low n_high end : ℕ) (old mid new low high others : List ℕ)
    → length low ≡ length high → AllFit low → n_low ≤ 64
    → ((b : ℕ) → b < 64 → (b < n_low ↔ (b < count))) → ((b : ℕ) → b < n_high ↔ (b + 64 < count))
    → AreRowsFilled old mid end (JoinedFrom 0 n_low (RowsHave old) (RowsHave low) (RowsHave others))
    → AreRowsFilled mid new end (JoinedFrom 64 n_high (RowsHave mid) (RowsHave high) (RowsHave others))
    → AreRowsFilled old new end (JoinedBelow count (RowsHave old) (RowsHave (wide low high))
    (RowsHave others))
both_joined count n_low n_high end old mid new low high others e fits few cut_low cut_high first
    second = record {
      height = second.height ∙ first.height;
      fits = λ f. second.fits (first.fits f);
      inside = λ a lt b. (
        (λ h. elim ((second.inside a lt b).0 h) [
          | inl kept ↦ elim ((first.inside a lt b).0 kept) [
            | inl o ↦ inl o
            | inr t ↦ inr (low_joined count n_low low high others a b e few cut_low t)
          ]
          | inr t ↦ inr (
            t.0 + 64,
            (cut_high t.0).0 t.1,
            (high_bit low high a (t.0 + 64) e fits (omega arith)).1
                (subst (λ (x : ℕ). RowsHave high a x) (sym (less t.0)) t.2),
            t.3,
          )
        ]),
        (λ h. (second.inside a lt b).1 (elim h [
          | inl o ↦ inl ((first.inside a lt b).1 (inl o))
          | inr t ↦ elim (cases_lt t.0 64) [
            | inl small ↦ inl ((first.inside a lt b).1 (inr (
              t.0,
              (cut_low t.0 small).1 t.1,
              (low_bit low high a t.0 e small).0 t.2,
              subst (λ (x : ℕ). RowsHave others x b) (sym (zero_more t.0)) t.3,
            )))
            | inr ge ↦
                let again = more ge in
                inr (
                  t.0 - 64,
                  (cut_high (t.0 - 64)).1 (subst (λ (x : ℕ). x < count) (sym again) t.1),
                  (high_bit low high a t.0 e fits ge).0 t.2,
                  subst (λ (x : ℕ). RowsHave others x b) (sym again) t.3,
                )
          ]
        ])),
      );
      outside = λ a le. second.outside a le ∙ first.outside a le;
    }
  where
    less : (c : ℕ) → c + 64 - 64 ≡ c
    less c = omega arith

    more : {c : ℕ} → 64 ≤ c → c - 64 + 64 ≡ c
    more ge = omega arith

    zero_more : (c : ℕ) → c + 0 ≡ c
    zero_more c = omega arith

-- the events of the low words joined, where there are no others
pub one_joined : (count n_low end : ℕ) (old new low high others : List ℕ) → length low ≡ length high
    → count ≤ 64 → n_low ≤ 64 → ((b : ℕ) → b < 64 → (b < n_low ↔ (b < count)))
    → AreRowsFilled old new end (JoinedFrom 0 n_low (RowsHave old) (RowsHave low) (RowsHave others))
    → AreRowsFilled old new end (JoinedBelow count (RowsHave old) (RowsHave (wide low high))
    (RowsHave others))
one_joined count n_low end old new low high others e small few cut_low first =
    written_as first (λ a b. (
      (λ h. elim h [
        | inl o ↦ inl o
        | inr t ↦ inr
            (low_joined count n_low low high others a b e few cut_low t)
      ]),
      (λ h. elim h [
        | inl o ↦ inl o
        | inr t ↦
            let lt : t.0 < 64 = omega (arith, t.1) in
            inr (
              t.0,
              (cut_low t.0 lt).1 t.1,
              (low_bit low high a t.0 e lt).0 t.2,
              subst (λ (x : ℕ). RowsHave others x b) (sym (zero_more t.0)) t.3,
            )
      ]),
    ))
  where
    zero_more : (c : ℕ) → c + 0 ≡ c
    zero_more c = omega arith

pub column_none : (words : List ℕ) (at k : ℕ) → (b : ℕ)
    → Bit 0 b ↔ ((b < 0) × RowsHave words (b + at) k)
column_none words at k b = ((λ h. absurd (Bit-zero b h)), (λ h. absurd (omega (arith, h.0))))

pub column_more : (words : List ℕ) (at k a old new own : ℕ)
    → ((b : ℕ) → Bit old b ↔ ((b < a) × RowsHave words (b + at) k))
    → ((b : ℕ) → Bit new b ↔ (Bit old b ⊎ (RowsHave words (a + at) k × Bit own b)))
    → ((b : ℕ) → Bit own b ↔ (Bit 0 b ⊎ (a ≡ b))) → (b : ℕ)
    → Bit new b ↔ ((b < a + 1) × RowsHave words (b + at) k)
column_more words at k a old new own before step mine b = (
  (λ h. elim ((step b).0 h) [
    | inl kept ↦ let t = (before b).0 kept in (omega (arith, t.0), t.1)
    | inr t ↦ elim ((mine b).0 t.1) [
      | inl z ↦ absurd (Bit-zero b z)
      | inr e ↦ (omega (arith, e), subst (λ (y : ℕ). RowsHave words (y + at) k) e t.0)
    ]
  ]),
  (λ h. (step b).1 (elim (cases_eq a b) [
    | inl e ↦ inr (subst (λ (y : ℕ). RowsHave words (y + at) k) (sym e) h.1, (mine b).1 (inr e))
    | inr other ↦ inl ((before b).1 (less other h.0, h.1))
  ])),
)
  where
    less : {b : ℕ} → (a ≡ b → ⊥) → b < a + 1 → b < a
    less ne lt = omega arith
