-- A set of events as two words.
use Rattle.std.proofs.Common.{ℕ, ◌≡◌, ◌<◌, ◌≤◌, ◌+◌, ◌-◌, ◌^◌, ◌↔◌, ◌⊎◌, inl, inr, arith, sym, refl, subst}
use Rattle.std.proofs.lemmas.Bool.{cases_lt}
use Rattle.bit_rows.specs.Relation.{Bit, IsEvents, AreEventSetWords, wide_word}
use Rattle.bit_rows.proofs.Bits.{Bit-zero, same_word}
use Rattle.bit_rows.proofs.Wide.{Bit-low, Bit-high}

-- two words hold a set of events below n
pub record IsHeld (n l h : ℕ) (S : ℕ → Type 0) : Type 0 where
  pub few : n ≤ 128
  pub fits : l < 2 ^ 64
  pub low : (b : ℕ) → b < 64 → Bit l b ↔ S b
  pub high : (b : ℕ) → Bit h b ↔ S (b + 64)
  pub within : (a : ℕ) → S a → a < n

pub held_apart : {n l h : ℕ} → AreEventSetWords n l h → IsHeld n l h (Bit (wide_word l h))
held_apart {n} {l} {h} c = record {
  few = c.few;
  fits = c.low_fits;
  low = λ b lt. turned (Bit-low h l b lt);
  high =
      λ b. turned (subst (λ (x : ℕ). Bit (wide_word l h) (b + 64) ↔ Bit h x) (less b)
      (Bit-high h l (b + 64) c.low_fits (omega arith)));
  within = c.within;
}
  where
    less : (b : ℕ) → b + 64 - 64 ≡ b
    less b = omega arith

    turned : {A B : Type 0} → (A ↔ B) → B ↔ A
    turned (f, g) = (g, f)

pub held_bits : {n l h : ℕ} {S : ℕ → Type 0} → IsHeld n l h S → (a : ℕ) → Bit (wide_word l h) a ↔ S a
held_bits {n} {l} {h} {S} m a =
    elim (cases_lt a 64) [
      | inl lt ↦
          let w = Bit-low h l a lt in let r = m.low a lt in ((λ x. r.0 (w.0 x)), (λ x. w.1 (r.1 x)))
      | inr ge ↦
          let w = Bit-high h l a m.fits ge in
          let r = subst (λ (x : ℕ). Bit h (a - 64) ↔ S x) (more ge) (m.high (a - 64)) in
          ((λ x. r.0 (w.0 x)), (λ x. w.1 (r.1 x)))
    ]
  where
    more : 64 ≤ a → a - 64 + 64 ≡ a
    more ge = omega arith

pub held_words : {n l h : ℕ} {S : ℕ → Type 0} → IsHeld n l h S → AreEventSetWords n l h
held_words m =
    record { few = m.few; low_fits = m.fits; within = λ a x. m.within a ((held_bits m a).0 x) }

pub held_events : {n l h : ℕ} {S : ℕ → Type 0} → IsHeld n l h S
    → IsEvents (record { count = n; word = wide_word l h }) n S
held_events m =
    record { count = refl; within = λ a x. m.within a ((held_bits m a).0 x); members = held_bits m }

pub held_none : (n : ℕ) → n ≤ 128 → IsHeld n 0 0 (λ a. ⊥)
held_none n few = record {
  few = few;
  fits = omega arith;
  low = λ b lt. ((λ x. Bit-zero b x), (λ x. absurd x));
  high = λ b. ((λ x. Bit-zero b x), (λ x. absurd x));
  within = λ a x. absurd x;
}

pub held_all : (n m k l h : ℕ) → n ≤ 128 → l < 2 ^ 64 → ((b : ℕ) → b < 64 → (b < m ↔ (b < n)))
    → ((b : ℕ) → b < k ↔ (b + 64 < n)) → ((b : ℕ) → Bit l b ↔ (b < m))
    → ((b : ℕ) → Bit h b ↔ (b < k)) → IsHeld n l h (λ a. a < n)
held_all n m k l h few fits cut_low cut_high low high = record {
  few = few;
  fits = fits;
  low = λ b lt. ((λ x. (cut_low b lt).0 ((low b).0 x)), (λ x. (low b).1 ((cut_low b lt).1 x)));
  high = λ b. ((λ x. (cut_high b).0 ((high b).0 x)), (λ x. (high b).1 ((cut_high b).1 x)));
  within = λ a x. x;
}

pub held_union : {n k l h l' h' l'' h'' : ℕ} {S T : ℕ → Type 0} → IsHeld n l h S → IsHeld k l' h' T
    → k ≡ n → l'' < 2 ^ 64 → ((b : ℕ) → Bit l'' b ↔ (Bit l b ⊎ Bit l' b))
    → ((b : ℕ) → Bit h'' b ↔ (Bit h b ⊎ Bit h' b)) → IsHeld n l'' h'' (λ a. S a ⊎ T a)
held_union s t same fits low high = record {
  few = s.few;
  fits = fits;
  low = λ b lt. (
    (λ x. elim ((low b).0 x) [ inl y ↦ inl ((s.low b lt).0 y) | inr y ↦ inr ((t.low b lt).0 y) ]),
    (λ x. (low b).1 (elim x [ inl y ↦ inl ((s.low b lt).1 y) | inr y ↦ inr ((t.low b lt).1 y) ])),
  );
  high = λ b. (
    (λ x. elim ((high b).0 x) [ inl y ↦ inl ((s.high b).0 y) | inr y ↦ inr ((t.high b).0 y) ]),
    (λ x. (high b).1 (elim x [ inl y ↦ inl ((s.high b).1 y) | inr y ↦ inr ((t.high b).1 y) ])),
  );
  within =
      λ a x. elim x [ inl y ↦ s.within a y | inr y ↦ subst (λ (m : ℕ). a < m) same (t.within a y) ];
}

pub held_inter : {n k l h l' h' l'' h'' : ℕ} {S T : ℕ → Type 0} → IsHeld n l h S → IsHeld k l' h' T
    → l'' < 2 ^ 64 → ((b : ℕ) → Bit l'' b ↔ (Bit l b × Bit l' b))
    → ((b : ℕ) → Bit h'' b ↔ (Bit h b × Bit h' b)) → IsHeld n l'' h'' (λ a. S a × T a)
held_inter s t fits low high = record {
  few = s.few;
  fits = fits;
  low = λ b lt. (
    (λ x. let y = (low b).0 x in ((s.low b lt).0 y.0, (t.low b lt).0 y.1)),
    (λ x. (low b).1 ((s.low b lt).1 x.0, (t.low b lt).1 x.1)),
  );
  high = λ b. (
    (λ x. let y = (high b).0 x in ((s.high b).0 y.0, (t.high b).0 y.1)),
    (λ x. (high b).1 ((s.high b).1 x.0, (t.high b).1 x.1)),
  );
  within = λ a x. s.within a x.0;
}

pub held_minus : {n k l h l' h' l'' h'' : ℕ} {S T : ℕ → Type 0} → IsHeld n l h S → IsHeld k l' h' T
    → l'' < 2 ^ 64 → ((b : ℕ) → Bit l'' b ↔ (Bit l b × (Bit l' b → ⊥)))
    → ((b : ℕ) → Bit h'' b ↔ (Bit h b × (Bit h' b → ⊥))) → IsHeld n l'' h'' (λ a. S a × (T a → ⊥))
held_minus s t fits low high = record {
  few = s.few;
  fits = fits;
  low = λ b lt. (
    (λ x. let y = (low b).0 x in ((s.low b lt).0 y.0, (λ z. y.1 ((t.low b lt).1 z)))),
    (λ x. (low b).1 ((s.low b lt).1 x.0, (λ z. x.1 ((t.low b lt).0 z)))),
  );
  high = λ b. (
    (λ x. let y = (high b).0 x in ((s.high b).0 y.0, (λ z. y.1 ((t.high b).1 z)))),
    (λ x. (high b).1 ((s.high b).1 x.0, (λ z. x.1 ((t.high b).0 z)))),
  );
  within = λ a x. s.within a x.0;
}

-- one event more, in the low word and in the high one
pub held_low : {n l h l' : ℕ} {S : ℕ → Type 0} (event : ℕ) → IsHeld n l h S → event < n → event < 64
    → l' < 2 ^ 64 → ((b : ℕ) → Bit l' b ↔ (Bit l b ⊎ (event ≡ b)))
    → IsHeld n l' h (λ a. S a ⊎ (a ≡ event))
held_low {n} event s below lt fits low = record {
  few = s.few;
  fits = fits;
  low = λ b in_low. (
    (λ x. elim ((low b).0 x) [ inl y ↦ inl ((s.low b in_low).0 y) | inr e ↦ inr (sym e) ]),
    (λ x. (low b).1 (elim x [ inl y ↦ inl ((s.low b in_low).1 y) | inr e ↦ inr (sym e) ])),
  );
  high =
      λ b. (
        (λ x. inl ((s.high b).0 x)),
        (λ x. elim x [ inl y ↦ (s.high b).1 y | inr e ↦ absurd (omega (arith, e, lt)) ]),
      );
  within = λ a x. elim x [ inl y ↦ s.within a y | inr e ↦ subst (λ (m : ℕ). m < n) (sym e) below ];
}

pub held_high : {n l h h' : ℕ} {S : ℕ → Type 0} (event : ℕ) → IsHeld n l h S → event < n
    → 64 ≤ event → ((b : ℕ) → Bit h' b ↔ (Bit h b ⊎ (event - 64 ≡ b)))
    → IsHeld n l h' (λ a. S a ⊎ (a ≡ event))
held_high {n} event s below ge high = record {
  few = s.few;
  fits = s.fits;
  low =
      λ b in_low. (
        (λ x. inl ((s.low b in_low).0 x)),
        (λ x. elim x [
          | inl y ↦ (s.low b in_low).1 y
          | inr e ↦ absurd
              (omega (arith, e, ge, in_low))
        ]),
      );
  high = λ b. (
    (λ x. elim ((high b).0 x) [
      | inl y ↦ inl ((s.high b).0 y)
      | inr e ↦ inr
          (omega (arith, e, ge))
    ]),
    (λ x. (high b).1 (elim x [
      | inl y ↦ inl ((s.high b).1 y)
      | inr e ↦ inr
          (omega (arith, e, ge))
    ])),
  );
  within = λ a x. elim x [ inl y ↦ s.within a y | inr e ↦ subst (λ (m : ℕ). m < n) (sym e) below ];
}

pub held_empty : {n l h : ℕ} {S : ℕ → Type 0} → IsHeld n l h S → l ≡ 0 → h ≡ 0 → (a : ℕ) → S a → ⊥
held_empty m p q a x = Bit-zero a (rw (p, q) at ((held_bits m a).1 x))

pub held_empty_back : (l h : ℕ) → l < 2 ^ 64 → ((a : ℕ) → Bit (wide_word l h) a → ⊥)
    → (l ≡ 0) × (h ≡ 0)
held_empty_back l h fits none =
    let e : wide_word l h ≡ 0 = same_word (wide_word l h) 0 (λ k. ((λ x. absurd (none k x)), (λ x. absurd (Bit-zero k x)))) in
    omega arith
