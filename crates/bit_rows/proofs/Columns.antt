-- A relation as a column of low words and one of high words.
use Rattle.std.proofs.Common.{ℕ, ◌≡◌, ◌<◌, ◌≤◌, ◌+◌, ◌-◌, ◌↔◌, ◌⊎◌, List, length, get_or, inl, inr, arith, sym, refl, subst, ◌∙◌}
use Rattle.std.proofs.lemmas.Bool.{cases_lt}
use Rattle.bit_rows.specs.Relation.{Relation, Has, IsRelation, AreRelColumns, wide}
use Rattle.bit_rows.specs.Rows.{RowsHave, AllFit, AreRowsFilled}
use Rattle.bit_rows.proofs.Bits.{Bit-width, Bit-zero, word_fits}
use Rattle.bit_rows.proofs.Wide.{low_again, high_again, low_bit, high_bit, length-wide, low_fits}

-- all pairs are below n
abbrev pub Within : (ℕ → ℕ → Type 0) → ℕ → Type 0
Within R n = (a b : ℕ) → R a b → (a < n) × (b < n)

-- the second events of low words, and those of high words
abbrev pub near : ℕ → ℕ
near b = b

abbrev pub far : ℕ → ℕ
far b = b + 64

-- the words hold the pairs whose second events are those that the bits stand for
pub record IsColumn (ws : List ℕ) (event : ℕ → ℕ) (R : ℕ → ℕ → Type 0) : Type 0 where
  pub height : length ws ≡ 128
  pub fits : AllFit ws
  pub bits : (a b : ℕ) → b < 64 → RowsHave ws a b ↔ R a (event b)

-- both columns of a relation
pub record IsMade (n : ℕ) (ls hs : List ℕ) (R : ℕ → ℕ → Type 0) : Type 0 where
  pub few : n ≤ 128
  pub low : IsColumn ls near R
  pub high : IsColumn hs far R
  pub within : Within R n

abbrev pub of_columns : ℕ → List ℕ → List ℕ → Relation
of_columns n low high = record { count = n; rows = wide low high }

-- what a `Rel` keeps
pub taken_apart : (n : ℕ) (low high : List ℕ) → AreRelColumns n low high
    → IsMade n low high (Has (of_columns n low high))
taken_apart n low high c = record {
  few = c.few;
  low = record {
    height = c.low_height;
    fits = fits;
    bits = λ a b lt. turned (low_bit low high a b same lt);
  };
  high = record {
    height = c.high_height;
    fits =
        λ a. word_fits (get_or high a 0) (λ b h. below a b ((high_bit low high a (b + 64) same fits
        (omega arith)).1
        (subst (λ (x : ℕ). RowsHave high a x) (sym (less b)) h)));
    bits =
        λ a b lt. turned (subst (λ (x : ℕ). RowsHave (wide low high) a (b + 64) ↔ RowsHave high a x)
        (less b) (high_bit low high a (b + 64) same fits (omega arith)));
  };
  within = c.within;
}
  where
    same : length low ≡ length high
    same = c.low_height ∙ sym c.high_height

    fits : AllFit low
    fits = low_fits low high c.low_kept

    less : (b : ℕ) → b + 64 - 64 ≡ b
    less b = omega arith

    below : (a b : ℕ) → RowsHave (wide low high) a (b + 64) → b < 64
    below a b h = let w : b + 64 < n = (c.within a (b + 64) h).1 in omega (arith, w, c.few)

    turned : {A B : Type 0} → (A ↔ B) → B ↔ A
    turned (f, g) = (g, f)

-- the pairs of columns
pub made_pairs : (n : ℕ) (low high : List ℕ) (R : ℕ → ℕ → Type 0) → IsMade n low high R → (a b : ℕ)
    → RowsHave (wide low high) a b ↔ R a b
made_pairs n low high R m a b =
    elim (cases_lt b 64) [
      | inl lt ↦
          let w = low_bit low high a b same lt in
          let r = m.low.bits a b lt in ((λ h. r.0 (w.0 h)), (λ h. w.1 (r.1 h)))
      | inr ge ↦ let w = high_bit low high a b same m.low.fits ge in elim (cases_lt (b - 64) 64) [
        | inl lt ↦
            let r = subst (λ (x : ℕ). RowsHave high a (b - 64) ↔ R a x) (more ge) (m.high.bits a (b - 64) lt) in
            ((λ h. r.0 (w.0 h)), (λ h. w.1 (r.1 h)))
        | inr past ↦ (
          (λ h. absurd (apart (Bit-width (get_or high a 0) (b - 64) (m.high.fits a) (w.0 h)) past)),
          (λ h. absurd (beyond ge past (m.within a b h).1)),
        )
      ]
    ]
  where
    same : length low ≡ length high
    same = m.low.height ∙ sym m.high.height

    more : 64 ≤ b → b - 64 + 64 ≡ b
    more ge = omega arith

    apart : {x : ℕ} → x < 64 → 64 ≤ x → ⊥
    apart p q = omega arith

    beyond : 64 ≤ b → 64 ≤ b - 64 → b < n → ⊥
    beyond p q r = omega (arith, m.few)

-- columns make a `Rel`
pub put_together : {n : ℕ} {low high : List ℕ} {R : ℕ → ℕ → Type 0} → IsMade n low high R
    → AreRelColumns n low high
put_together {n} {low} {high} {R} m = record {
  few = m.few;
  low_height = m.low.height;
  high_height = m.high.height;
  low_kept = low_again low high m.low.height m.high.height m.low.fits;
  high_kept = high_again low high m.low.height m.high.height m.low.fits;
  within = λ a b h. m.within a b ((made_pairs n low high R m a b).0 h);
}

-- and that is the relation
pub made_relation : {n : ℕ} {low high : List ℕ} {R : ℕ → ℕ → Type 0} → IsMade n low high R
    → IsRelation (of_columns n low high) n R
made_relation {n} {low} {high} {R} m = record {
  count = refl;
  regular = record {
    few = m.few;
    height = length-wide low high (m.low.height ∙ sym m.high.height) ∙ m.low.height;
    within = λ a b h. m.within a b ((made_pairs n low high R m a b).0 h);
  };
  pairs = made_pairs n low high R m;
}

-- a column is written over up to an end behind which neither relation has pairs
pub column_written : {n end : ℕ} {event : ℕ → ℕ} {old new : List ℕ} {R P Q : ℕ → ℕ → Type 0}
    → ((a b : ℕ) → a < n → event b < n → a < end) → IsColumn old event R → Within R n → Within P n
    → AllFit new → AreRowsFilled old new end Q → ((a b : ℕ) → b < 64 → a < end → Q a b ↔ P a (event b))
    → IsColumn new event P
column_written {n} {end} {event} {old} {new} {R} {P} {Q} covered column within_old within_new fits
    written same = record {
      height = written.height ∙ column.height;
      fits = fits;
      bits = λ a b lt. elim (cases_lt a end) [
        | inl inside ↦
            let w = written.inside a inside b in
            let s = same a b lt inside in ((λ h. s.0 (w.0 h)), (λ h. w.1 (s.1 h)))
        | inr past ↦ rw (written.outside a past) (
          (λ h.
              let p = within_old a (event b) ((column.bits a b lt).0 h) in
              absurd (both (covered a b p.0 p.1) past)),
          (λ h. let p = within_new a (event b) h in absurd (both (covered a b p.0 p.1) past)),
        )
      ];
    }
  where
    both : {a : ℕ} → a < end → end ≤ a → ⊥
    both p q = omega arith

-- a row of two empty words has no pair
pub empty_row : (low high : List ℕ) (n a b : ℕ) → AreRelColumns n low high → get_or low a 0 ≡ 0
    → get_or high a 0 ≡ 0 → RowsHave (wide low high) a b → ⊥
empty_row low high n a b c p q h =
    elim (cases_lt b 64) [
      | inl lt ↦ Bit-zero b (rw p at ((low_bit low high a b same lt).0 h))
      | inr ge ↦ Bit-zero (b - 64) (rw q at ((high_bit low high a b same
          (low_fits low high c.low_kept) ge).0 h))
    ]
  where
    same : length low ≡ length high
    same = c.low_height ∙ sym c.high_height

-- columns of an empty relation, under an equal count
pub emptied : {n : ℕ} {ls hs : List ℕ} {R : ℕ → ℕ → Type 0} (k : ℕ) → IsMade n ls hs R → n ≡ k
    → ((a b : ℕ) → R a b ↔ ⊥) → IsMade k ls hs (λ a b. ⊥)
emptied k m e none = record {
  few = rw e at m.few;
  low =
      record {
        height = m.low.height;
        fits = m.low.fits;
        bits = λ a b lt. ((λ h. (none a b).0 ((m.low.bits a b lt).0 h)), (λ h. absurd h));
      };
  high =
      record {
        height = m.high.height;
        fits = m.high.fits;
        bits =
            λ a b lt. ((λ h. (none a (b + 64)).0 ((m.high.bits a b lt).0 h)), (λ h. absurd h));
      };
  within = λ a b h. absurd h;
}

pub columns_at : {n k : ℕ} {ls hs : List ℕ} {P : ℕ → ℕ → Type 0} → n ≡ k → IsMade k ls hs P
    → AreRelColumns n ls hs
columns_at {n} {k} {ls} {hs} e m = subst (λ (x : ℕ). AreRelColumns x ls hs) (sym e) (put_together m)

pub relation_at : {n k : ℕ} {ls hs : List ℕ} {P : ℕ → ℕ → Type 0} → n ≡ k → IsMade k ls hs P
    → IsRelation (of_columns n ls hs) k P
relation_at {n} {k} {ls} {hs} {P} e m =
    subst (λ (x : ℕ). IsRelation (of_columns x ls hs) k P) (sym e) (made_relation m)

pub columns_relation : {n : ℕ} {ls hs : List ℕ} {P : ℕ → ℕ → Type 0} → AreRelColumns n ls hs
    → ((a b : ℕ) → RowsHave (wide ls hs) a b ↔ P a b) → IsRelation (of_columns n ls hs) n P
columns_relation {n} {ls} {hs} c same = record {
  count = refl;
  regular = (made_relation (taken_apart n ls hs c)).regular;
  pairs = same;
}

-- a pair stands in a low word or in a high one
pub found : {n : ℕ} {ls hs : List ℕ} {R : ℕ → ℕ → Type 0} → IsMade n ls hs R → (a b : ℕ) → R a b
    → ((b < 64) × RowsHave ls a b) ⊎ ((k : ℕ) × (k < 64) × (b ≡ k + 64) × RowsHave hs a k)
found {n} {ls} {hs} {R} m a b r =
    elim (cases_lt b 64) [
      | inl lt ↦ inl (lt, (m.low.bits a b lt).1 r)
      | inr ge ↦
          let small : b - 64 < 64 = let w = m.within a b r in omega (arith, w.1, m.few) in
          let e : b ≡ b - 64 + 64 = omega arith in
          inr (b - 64, small, e, (m.high.bits a (b - 64) small).1 (subst (λ (x : ℕ). R a x) e r))
    ]
