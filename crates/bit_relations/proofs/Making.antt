-- What each operation makes of columns.
use Rattle.std.proofs.Common.{ℕ, ◌≡◌, ◌<◌, ◌≤◌, ◌+◌, ◌-◌, ◌^◌, ◌↔◌, List, length, get_or, inl, inr, arith, sym, subst, refl}
use Rattle.std.proofs.lemmas.Bool.{cases_lt}
use Rattle.bit_rows.specs.Pairs.{WithPair, Union, Inter, Minus, Composite, Complement, Inverse, Opt, Product, Restriction}
use Rattle.bit_rows.specs.Relation.{Bit, wide, wide_word}
use Rattle.bit_rows.specs.Rows.{RowsHave, AllFit, AreRowsFilled, Nothing, WithOwn, WordProduct, Kept, WordComplement, JoinedBelow, InverseFrom, Read, StoredPairs}
use Rattle.bit_rows.proofs.Bits.{Bit-zero}
use Rattle.bit_rows.proofs.Columns.{IsMade, Within, far, column_written, made_pairs}
use Rattle.bit_rows.proofs.Wide.{Bit-low, Bit-high}

-- up to where high words are in use
pub record IsEnd (n end : ℕ) : Type 0 where
  pub few : end ≤ 128
  pub none : n ≤ 64 → end ≡ 0
  pub all : 64 < n → end ≡ n

-- both columns are written over as far as they are in use
pub changed : {n end : ℕ} {ls hs ls' hs' : List ℕ} {R QL QH : ℕ → ℕ → Type 0} (P : ℕ → ℕ → Type 0)
    → IsMade n ls hs R → IsEnd n end → Within P n → AreRowsFilled ls ls' n QL
    → AreRowsFilled hs hs' end QH → ((a b : ℕ) → a < n → b < 64 → QL a b ↔ P a b)
    → ((a b : ℕ) → a < n → b < 64 → QH a b ↔ P a (b + 64)) → IsMade n ls' hs' P
changed {n} {end} P m e within write_low write_high low high = record {
  few = m.few;
  low =
      column_written (λ a b p q. p) m.low m.within within (write_low.fits m.low.fits) write_low
      (λ a b lt inside. low a b inside lt);
  high =
      column_written covered m.high m.within within (write_high.fits m.high.fits) write_high
      (λ a b lt inside. high a b (below inside) lt);
  within = within;
}
  where
    covered : (a b : ℕ) → a < n → far b < n → a < end
    covered a b p q = let k : end ≡ n = e.all (omega arith) in omega arith

    below : {a : ℕ} → a < end → a < n
    below {a} p = elim (cases_lt 64 n) [
      | inl over ↦ let k : end ≡ n = e.all over in omega arith
      | inr under ↦ let k : end ≡ 0 = e.none under in absurd (omega arith)
    ]

pub nothing_made : (n : ℕ) (ls hs : List ℕ) → n ≤ 128 → length ls ≡ 128 → length hs ≡ 128
    → ((a : ℕ) → get_or ls a 0 ≡ 0) → ((a : ℕ) → get_or hs a 0 ≡ 0) → IsMade n ls hs (λ a b. ⊥)
nothing_made n ls hs few p q low high = record {
  few = few;
  low =
      record {
        height = p;
        fits = λ a. rw (low a) (omega arith);
        bits = λ a b lt. rw (low a) ((λ h. Bit-zero b h), (λ h. absurd h));
      };
  high =
      record {
        height = q;
        fits = λ a. rw (high a) (omega arith);
        bits = λ a b lt. rw (high a) ((λ h. Bit-zero b h), (λ h. absurd h));
      };
  within = λ a b h. absurd h;
}

pub cleared : {n end : ℕ} {ls hs ls' hs' : List ℕ} {R : ℕ → ℕ → Type 0} (k : ℕ) → k ≤ 128
    → IsMade n ls hs R → IsEnd n end → AreRowsFilled ls ls' n Nothing → AreRowsFilled hs hs' end Nothing
    → IsMade k ls' hs' (λ a b. ⊥)
cleared k few m e low high =
    let c = changed (λ a b. ⊥) m e (λ a b h. absurd h) low high (λ a b p q. ((λ h. h), (λ h. h))) (λ a b p q. ((λ h. h), (λ h. h))) in
    record { few = few; low = c.low; high = c.high; within = λ a b h. absurd h }

-- written over by others, as far as either is in use
pub copied : {n k most end : ℕ} {ls hs ls' hs' ls'' hs'' : List ℕ} {R S : ℕ → ℕ → Type 0}
    → most ≤ 128 → IsMade n ls hs R → IsMade k ls' hs' S → n ≤ most → k ≤ most → IsEnd most end
    → AreRowsFilled ls ls'' most (RowsHave ls') → AreRowsFilled hs hs'' end (RowsHave hs')
    → IsMade k ls'' hs'' S
copied {n} {k} {most} {R = R} {S = S} few r s n_le k_le e low high =
    let wide_r : Within R most = λ a b h. let w = r.within a b h in (omega (arith, w.0), omega (arith, w.1)) in
    let wide_s : Within S most = λ a b h. let w = s.within a b h in (omega (arith, w.0), omega (arith, w.1)) in
    let c = changed S (record { few = few; low = r.low; high = r.high; within = wide_r }) e wide_s low high (λ a b p lt. s.low.bits a b lt) (λ a b p lt. s.high.bits a b lt) in
    record { few = s.few; low = c.low; high = c.high; within = s.within }

pub united : {n k end : ℕ} {ls hs ls' hs' ls'' hs'' : List ℕ} {R S : ℕ → ℕ → Type 0}
    → IsMade n ls hs R → IsMade k ls' hs' S → k ≡ n → IsEnd n end
    → AreRowsFilled ls ls'' n (Union (RowsHave ls) (RowsHave ls'))
    → AreRowsFilled hs hs'' end (Union (RowsHave hs) (RowsHave hs')) → IsMade n ls'' hs'' (Union R S)
united {n} {R = R} {S = S} r s same e low high =
    changed (Union R S) r e
    (λ a b h. elim h [ inl x ↦ r.within a b x | inr y ↦ rw same at (s.within a b y) ]) low high
    (λ a b p lt.
    let x = r.low.bits a b lt in
    let y = s.low.bits a b lt in (
      (λ h. elim h [ inl u ↦ inl (x.0 u) | inr v ↦ inr (y.0 v) ]),
      (λ h. elim h [ inl u ↦ inl (x.1 u) | inr v ↦ inr (y.1 v) ]),
    ))
    (λ a b p lt.
    let x = r.high.bits a b lt in
    let y = s.high.bits a b lt in (
      (λ h. elim h [ inl u ↦ inl (x.0 u) | inr v ↦ inr (y.0 v) ]),
      (λ h. elim h [ inl u ↦ inl (x.1 u) | inr v ↦ inr (y.1 v) ]),
    ))

pub met : {n k end : ℕ} {ls hs ls' hs' ls'' hs'' : List ℕ} {R S : ℕ → ℕ → Type 0} → IsMade n ls hs R
    → IsMade k ls' hs' S → IsEnd n end → AreRowsFilled ls ls'' n (Inter (RowsHave ls) (RowsHave ls'))
    → AreRowsFilled hs hs'' end (Inter (RowsHave hs) (RowsHave hs')) → IsMade n ls'' hs'' (Inter R S)
met {n} {R = R} {S = S} r s e low high =
    changed (Inter R S) r e (λ a b h. r.within a b h.0) low high
    (λ a b p lt.
    let x = r.low.bits a b lt in
    let y = s.low.bits a b lt in ((λ h. (x.0 h.0, y.0 h.1)), (λ h. (x.1 h.0, y.1 h.1))))
    (λ a b p lt.
    let x = r.high.bits a b lt in
    let y = s.high.bits a b lt in ((λ h. (x.0 h.0, y.0 h.1)), (λ h. (x.1 h.0, y.1 h.1))))

pub reduced : {n k end : ℕ} {ls hs ls' hs' ls'' hs'' : List ℕ} {R S : ℕ → ℕ → Type 0}
    → IsMade n ls hs R → IsMade k ls' hs' S → IsEnd n end
    → AreRowsFilled ls ls'' n (Minus (RowsHave ls) (RowsHave ls'))
    → AreRowsFilled hs hs'' end (Minus (RowsHave hs) (RowsHave hs')) → IsMade n ls'' hs'' (Minus R S)
reduced {n} {R = R} {S = S} r s e low high =
    changed (Minus R S) r e (λ a b h. r.within a b h.0) low high
    (λ a b p lt.
    let x = r.low.bits a b lt in
    let y = s.low.bits a b lt in
    ((λ h. (x.0 h.0, (λ z. h.1 (y.1 z)))), (λ h. (x.1 h.0, (λ z. h.1 (y.0 z))))))
    (λ a b p lt.
    let x = r.high.bits a b lt in
    let y = s.high.bits a b lt in
    ((λ h. (x.0 h.0, (λ z. h.1 (y.1 z)))), (λ h. (x.1 h.0, (λ z. h.1 (y.0 z))))))

pub turned : {n m k end : ℕ} (all_low all_high : ℕ) {ls hs ls' hs' : List ℕ} {R : ℕ → ℕ → Type 0}
    → IsMade n ls hs R → IsEnd n end → ((b : ℕ) → b < 64 → (b < m ↔ (b < n)))
    → ((b : ℕ) → b < k ↔ (b + 64 < n)) → ((b : ℕ) → Bit all_low b ↔ (b < m))
    → ((b : ℕ) → Bit all_high b ↔ (b < k)) → AreRowsFilled ls ls' n (WordComplement all_low (RowsHave ls))
    → AreRowsFilled hs hs' end (WordComplement all_high (RowsHave hs)) → IsMade n ls' hs' (Complement n R)
turned {n} all_low all_high {R = R} r e cut_low cut_high is_low is_high low high =
    changed (Complement n R) r e (λ a b h. (h.0, h.1)) low high
    (λ a b p lt. let x = r.low.bits a b lt in (
      (λ h. (p, (cut_low b lt).0 ((is_low b).0 h.0), (λ z. h.1 (x.1 z)))),
      (λ h. ((is_low b).1 ((cut_low b lt).1 h.1), (λ z. h.2 (x.0 z)))),
    ))
    (λ a b p lt. let x = r.high.bits a b lt in (
      (λ h. (p, (cut_high b).0 ((is_high b).0 h.0), (λ z. h.1 (x.1 z)))),
      (λ h. ((is_high b).1 ((cut_high b).1 h.1), (λ z. h.2 (x.0 z)))),
    ))

pub with_identity : {n end : ℕ} {ls hs ls' hs' : List ℕ} {R : ℕ → ℕ → Type 0} → IsMade n ls hs R
    → IsEnd n end → AreRowsFilled ls ls' n (WithOwn 0 (RowsHave ls))
    → AreRowsFilled hs hs' end (WithOwn 64 (RowsHave hs)) → IsMade n ls' hs' (Opt n R)
with_identity {n} {R = R} r e low high =
    changed (Opt n R) r e
    (λ a b h.
    elim h [ inl d ↦ (d.0, subst (λ (y : ℕ). y < n) d.1 d.0) | inr x ↦ r.within a b x ]) low
    high
    (λ a b p lt. let x = r.low.bits a b lt in (
      (λ h. elim h [ inl u ↦ inr (x.0 u) | inr d ↦ inl (p, omega (arith, d.1)) ]),
      (λ h. elim h [ inl d ↦ inr (lt, omega (arith, d.1)) | inr u ↦ inl (x.1 u) ]),
    ))
    (λ a b p lt. let x = r.high.bits a b lt in (
      (λ h. elim h [ inl u ↦ inr (x.0 u) | inr d ↦ inl (p, d.1) ]),
      (λ h. elim h [ inl d ↦ inr (lt, d.1) | inr u ↦ inl (x.1 u) ]),
    ))

-- the bits of two words, as those of one
low_member : (l h word b : ℕ) → wide_word l h ≡ word → b < 64 → Bit l b ↔ Bit word b
low_member l h word b e lt =
    let w = Bit-low h l b lt in ((λ x. rw e at (w.1 x)), (λ x. w.0 (rw (← e) at x)))

high_member : (l h word b : ℕ) → wide_word l h ≡ word → l < 2 ^ 64 → Bit h b ↔ Bit word (b + 64)
high_member l h word b e fits =
    let w = subst (λ (x : ℕ). Bit (wide_word l h) (b + 64) ↔ Bit h x) less (Bit-high h l (b + 64) fits (omega arith)) in
    ((λ x. rw e at (w.1 x)), (λ x. w.0 (rw (← e) at x)))
  where
    less : b + 64 - 64 ≡ b
    less = omega arith

pub kept : {n end : ℕ} (l h word : ℕ) {ls hs ls' hs' : List ℕ} {R : ℕ → ℕ → Type 0}
    → IsMade n ls hs R → IsEnd n end → wide_word l h ≡ word → l < 2 ^ 64
    → AreRowsFilled ls ls' n (Kept (wide_word l h) l (RowsHave ls))
    → AreRowsFilled hs hs' end (Kept (wide_word l h) h (RowsHave hs))
    → IsMade n ls' hs' (Restriction R (Bit word))
kept {n} {end} l h word {R = R} r e same fits low high =
    changed (Restriction R (Bit word)) r e (λ a b x. r.within a b x.0) low high
    (λ a b p lt. let x = r.low.bits a b lt in let y = low_member l h word b same lt in (
      (λ t. (x.0 t.1, rw same at t.0, y.0 t.2)),
      (λ t. (rw (← same) at t.1, x.1 t.0, y.1 t.2)),
    ))
    (λ a b p lt. let x = r.high.bits a b lt in let y = high_member l h word b same fits in (
      (λ t. (x.0 t.1, rw same at t.0, y.0 t.2)),
      (λ t. (rw (← same) at t.1, x.1 t.0, y.1 t.2)),
    ))

pub filled : {n end : ℕ} (l h word l' h' word' : ℕ) {ls hs ls' hs' : List ℕ}
    → IsMade n ls hs (λ a b. ⊥) → IsEnd n end → wide_word l h ≡ word → wide_word l' h' ≡ word'
    → l' < 2 ^ 64 → ((a : ℕ) → Bit word a → a < n) → ((a : ℕ) → Bit word' a → a < n)
    → AreRowsFilled ls ls' n (WordProduct (wide_word l h) l') → AreRowsFilled hs hs' end (WordProduct (wide_word l h) h')
    → IsMade n ls' hs' (Product (Bit word) (Bit word'))
filled {n} {end} l h word l' h' word' r e same same' fits within within' low high =
    changed (Product (Bit word) (Bit word')) r e (λ a b x. (within a x.0, within' b x.1)) low high
    (λ a b p lt.
    let y = low_member l' h' word' b same' lt in
    ((λ t. (rw same at t.0, y.0 t.1)), (λ t. (rw (← same) at t.0, y.1 t.1))))
    (λ a b p lt.
    let y = high_member l' h' word' b same' fits in
    ((λ t. (rw same at t.0, y.0 t.1)), (λ t. (rw (← same) at t.0, y.1 t.1))))

pub composed : {n m k low_end high_end : ℕ} {ls hs ls' hs' rl rh ll lh : List ℕ}
    {R S : ℕ → ℕ → Type 0} → IsMade n ls hs (λ a b. ⊥) → IsMade m ll lh R → IsMade k rl rh S
    → m ≡ n → k ≡ n → n ≤ low_end → (64 < n → n ≤ high_end)
    → AreRowsFilled ls ls' low_end (JoinedBelow n (RowsHave ls) (RowsHave (wide ll lh)) (RowsHave rl))
    → AreRowsFilled hs hs' high_end (JoinedBelow n (RowsHave hs) (RowsHave (wide ll lh)) (RowsHave rh))
    → IsMade n ls' hs' (Composite R S)
composed {n} {m} {k} {low_end} {high_end} {ll = ll} {lh = lh} {R = R} {S = S} none r s same_r same_s
    enough_low enough_high low high = record {
      few = none.few;
      low =
          column_written (λ a b p q. covered_low p) none.low none.within within
          (low.fits none.low.fits)
          low (λ a b lt inside. (
            (λ h. elim h [
              | inl z ↦ absurd ((none.low.bits a b lt).0 z)
              | inr t ↦ (t.0, (made_pairs m ll lh R r a t.0).0 t.2, (s.low.bits t.0 b lt).0 t.3)
            ]),
            (λ t. inr (
              t.0,
              (rw same_r at (r.within a t.0 t.1)).1,
              (made_pairs m ll lh R r a t.0).1 t.1,
              (s.low.bits t.0 b lt).1 t.2,
            )),
          ));
      high =
          column_written (λ a b p q. covered_high b p q) none.high none.within within
          (high.fits none.high.fits) high (λ a b lt inside. (
            (λ h. elim h [
              | inl z ↦ absurd ((none.high.bits a b lt).0 z)
              | inr t ↦ (t.0, (made_pairs m ll lh R r a t.0).0 t.2, (s.high.bits t.0 b lt).0 t.3)
            ]),
            (λ t. inr (
              t.0,
              (rw same_r at (r.within a t.0 t.1)).1,
              (made_pairs m ll lh R r a t.0).1 t.1,
              (s.high.bits t.0 b lt).1 t.2,
            )),
          ));
      within = within;
    }
  where
    within : Within (Composite R S) n
    within a b t = ((rw same_r at (r.within a t.0 t.1)).0, (rw same_s at (s.within t.0 b t.2)).1)

    covered_low : {a : ℕ} → a < n → a < low_end
    covered_low p = omega (arith, enough_low)

    covered_high : {a : ℕ} (b : ℕ) → a < n → far b < n → a < high_end
    covered_high b p q = let enough : n ≤ high_end = enough_high (omega arith) in omega arith

pub inverted : {n m part_low part_high end : ℕ} {ls hs ls' hs' ol oh : List ℕ} {R : ℕ → ℕ → Type 0}
    → IsMade n ls hs (λ a b. ⊥) → IsMade m ol oh R → m ≡ n → IsEnd n end
    → ((b : ℕ) → b < 64 → (b < part_low ↔ (b < n))) → ((b : ℕ) → b < part_high ↔ (b + 64 < n))
    → AreRowsFilled ls ls' n (InverseFrom 0 part_low (RowsHave (wide ol oh)))
    → AreRowsFilled hs hs' end (InverseFrom 64 part_high (RowsHave (wide ol oh)))
    → IsMade n ls' hs' (Inverse R)
inverted {n} {m} {ol = ol} {oh = oh} {R = R} none r same e cut_low cut_high low high =
    changed (Inverse R) none e (λ a b t. let w = rw same at (r.within b a t) in (w.1, w.0)) low high
    (λ a b p lt. let x = made_pairs m ol oh R r b a in (
      (λ t. x.0 (subst (λ (y : ℕ). RowsHave (wide ol oh) y a) (zero_more b) t.1)),
      (λ t. (
        (cut_low b lt).1 (rw same at (r.within b a t)).0,
        subst (λ (y : ℕ). RowsHave (wide ol oh) y a) (sym (zero_more b)) (x.1 t),
      )),
    ))
    (λ a b p lt. let x = made_pairs m ol oh R r (b + 64) a in (
      (λ t. x.0 t.1),
      (λ t. ((cut_high b).1 (rw same at (r.within (b + 64) a t)).0, x.1 t)),
    ))
  where
    zero_more : (x : ℕ) → x + 0 ≡ x
    zero_more x = omega arith

added_within : (R : ℕ → ℕ → Type 0) (n from to : ℕ) → Within R n → from < n → to < n
    → Within (WithPair R from to) n
added_within R n from to within p q a b (inl r) = within a b r
added_within R n from to within p q a b (inr e) = rw (e.0, e.1) (p, q)

-- one pair more, in a low word and in a high one
pub added_low : {n : ℕ} {ls hs ls' : List ℕ} {R : ℕ → ℕ → Type 0} (from to : ℕ) → IsMade n ls hs R
    → from < n → to < n → to < 64 → length ls' ≡ 128 → AllFit ls'
    → ((a b : ℕ) → RowsHave ls' a b ↔ WithPair (RowsHave ls) from to a b)
    → IsMade n ls' hs (WithPair R from to)
added_low {n} {R = R} from to m below_from below_to lt height fits bits = record {
  few = m.few;
  low = record {
    height = height;
    fits = fits;
    bits = λ a b small. let x = m.low.bits a b small in (
      (λ h. elim ((bits a b).0 h) [ inl o ↦ inl (x.0 o) | inr e ↦ inr e ]),
      (λ h. (bits a b).1 (elim h [ inl o ↦ inl (x.1 o) | inr e ↦ inr e ])),
    );
  };
  high = record {
    height = m.high.height;
    fits = m.high.fits;
    bits = λ a b small. let x = m.high.bits a b small in (
      (λ h. inl (x.0 h)),
      (λ h. elim h [ inl o ↦ x.1 o | inr e ↦ absurd (omega (arith, e.1, lt)) ]),
    );
  };
  within = added_within R n from to m.within below_from below_to;
}

pub added_high : {n : ℕ} {ls hs hs' : List ℕ} {R : ℕ → ℕ → Type 0} (from to k : ℕ)
    → IsMade n ls hs R → from < n → to < n → 64 ≤ to → k + 64 ≡ to → length hs' ≡ 128 → AllFit hs'
    → ((a b : ℕ) → RowsHave hs' a b ↔ WithPair (RowsHave hs) from k a b)
    → IsMade n ls hs' (WithPair R from to)
added_high {n} {R = R} from to k m below_from below_to ge is height fits bits = record {
  few = m.few;
  low = record {
    height = m.low.height;
    fits = m.low.fits;
    bits = λ a b small. let x = m.low.bits a b small in (
      (λ h. inl (x.0 h)),
      (λ h. elim h [ inl o ↦ x.1 o | inr e ↦ absurd (omega (arith, e.1, ge, small)) ]),
    );
  };
  high = record {
    height = height;
    fits = fits;
    bits = λ a b small. let x = m.high.bits a b small in (
      (λ h. elim ((bits a b).0 h) [
        | inl o ↦ inl (x.0 o)
        | inr e ↦ inr
            (e.0, omega (arith, e.1, is))
      ]),
      (λ h. (bits a b).1 (elim h [
        | inl o ↦ inl (x.1 o)
        | inr e ↦ inr
            (e.0, omega (arith, e.1, is))
      ])),
    );
  };
  within = added_within R n from to m.within below_from below_to;
}

-- words that are read from a list
pub stored : {n m k end : ℕ} (all_low all_high : ℕ) (list : List ℕ) (at : ℕ)
    {ls hs ls' hs' : List ℕ} → IsMade n ls hs (λ a b. ⊥) → IsEnd n end
    → ((b : ℕ) → b < 64 → (b < m ↔ (b < n))) → ((b : ℕ) → b < k ↔ (b + 64 < n))
    → ((b : ℕ) → Bit all_low b ↔ (b < m)) → ((b : ℕ) → Bit all_high b ↔ (b < k))
    → AreRowsFilled ls ls' n (Read list at all_low)
    → AreRowsFilled hs hs' end (Read list (at + n) all_high) → IsMade n ls' hs' (StoredPairs list at n)
stored {n} all_low all_high list at r e cut_low cut_high is_low is_high low high =
    changed (StoredPairs list at n) r e (λ a b t. (t.0, t.1)) low high
    (λ a b p lt. (
      (λ h. (p, (cut_low b lt).0 ((is_low b).0 h.1), inl (lt, h.0))),
      (λ t. elim t.2 [
        | inl x ↦ (x.1, (is_low b).1 ((cut_low b lt).1 t.1))
        | inr y ↦ absurd (omega (arith, y.1, lt))
      ]),
    ))
    (λ a b p lt. (
      (λ h. (p, (cut_high b).0 ((is_high b).0 h.1), inr (b, refl, h.0))),
      (λ t. elim t.2 [
        | inl x ↦ absurd (omega (arith, x.0))
        | inr y ↦
            let same : y.0 ≡ b = omega (arith, y.1) in (
              subst (λ (x : ℕ). Bit (get_or list (at + n + a) 0) x) same y.2,
              (is_high b).1 ((cut_high b).1 t.1),
            )
      ]),
    ))
