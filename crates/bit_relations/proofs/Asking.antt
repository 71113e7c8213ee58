-- What questions about columns say of a relation.
use Rattle.std.proofs.Common.{ℕ, ◌≡◌, ◌<◌, ◌+◌, List, get_or, inl, inr, arith, sym, subst, ap, ◌∙◌}
use Rattle.bit_rows.specs.Pairs.{IsIrreflexive}
use Rattle.bit_rows.specs.Relation.{Bit, Relation, IsRelation, AreRelColumns, high_words}
use Rattle.bit_rows.specs.Rows.{RowsHave}
use Rattle.bit_rows.proofs.Bits.{Bit-zero, Bit-width, same_word}
use Rattle.bit_rows.proofs.Columns.{IsColumn, IsMade, of_columns, found, made_relation}
use Rattle.bit_relations.proofs.Laws.{same_relation}
use Rattle.bit_relations.proofs.Making.{IsEnd}

zero_column : {ls : List ℕ} {event : ℕ → ℕ} {R : ℕ → ℕ → Type 0} → IsColumn ls event R
    → ((a b : ℕ) → R a b → ⊥) → (a : ℕ) → get_or ls a 0 ≡ 0
zero_column {ls} {event} m none a = same_word (get_or ls a 0) 0 (λ b. (
  (λ h. absurd (none a (event b) ((m.bits a b (Bit-width (get_or ls a 0) b (m.fits a) h)).0 h))),
  (λ h. absurd (Bit-zero b h)),
))

pub zero_low : {n : ℕ} {ls hs : List ℕ} {R : ℕ → ℕ → Type 0} → IsMade n ls hs R
    → ((a b : ℕ) → R a b → ⊥) → (a : ℕ) → get_or ls a 0 ≡ 0
zero_low m none = zero_column m.low none

pub zero_high : {n : ℕ} {ls hs : List ℕ} {R : ℕ → ℕ → Type 0} → IsMade n ls hs R
    → ((a b : ℕ) → R a b → ⊥) → (a : ℕ) → get_or hs a 0 ≡ 0
zero_high m none = zero_column m.high none

in_use : {n end a b : ℕ} (k : ℕ) → IsEnd n end → a < n → b < n → b ≡ k + 64 → a < end
in_use {n} {end} k e p q s = let x : end ≡ n = e.all (omega arith) in omega arith

pub none_there : {n end : ℕ} {ls hs : List ℕ} {R : ℕ → ℕ → Type 0} → IsMade n ls hs R → IsEnd n end
    → ((a : ℕ) → a < n → get_or ls a 0 ≡ 0) → ((a : ℕ) → a < end → get_or hs a 0 ≡ 0) → (a b : ℕ)
    → R a b → ⊥
none_there {n} {end} {ls} {hs} m e low high a b r =
    let w = m.within a b r in
    elim (found m a b r) [
      | inl t ↦ Bit-zero b (subst (λ (x : ℕ). Bit x b) (low a w.0) t.1)
      | inr t ↦ Bit-zero t.0 (subst (λ (x : ℕ). Bit x t.0) (high a (in_use t.0 e w.0 w.1 t.2)) t.3)
    ]

pub irreflexive : {n end : ℕ} {ls hs : List ℕ} {R : ℕ → ℕ → Type 0} → IsMade n ls hs R → IsEnd n end
    → ((a b : ℕ) → a < n → b < 64 → a ≡ b + 0 → RowsHave ls a b → ⊥)
    → ((a b : ℕ) → a < end → b < 64 → a ≡ b + 64 → RowsHave hs a b → ⊥) → IsIrreflexive R
irreflexive m e low high a r =
    let w = m.within a a r in
    elim (found m a a r) [
      | inl t ↦ low a a w.0 t.0 (omega arith) t.1
      | inr t ↦ high a t.0 (in_use t.0 e w.0 w.1 t.2) t.1 t.2 t.3
    ]

pub irreflexive_low : {n : ℕ} {ls hs : List ℕ} {R : ℕ → ℕ → Type 0} → IsMade n ls hs R
    → IsIrreflexive R → (a b : ℕ) → a < n → b < 64 → a ≡ b + 0 → RowsHave ls a b → ⊥
irreflexive_low {R = R} m none a b p lt e h =
    none a (subst (λ (x : ℕ). R a x) same ((m.low.bits a b lt).0 h))
  where
    same : b ≡ a
    same = omega arith

pub irreflexive_high : {n end : ℕ} {ls hs : List ℕ} {R : ℕ → ℕ → Type 0} → IsMade n ls hs R
    → IsIrreflexive R → (a b : ℕ) → a < end → b < 64 → a ≡ b + 64 → RowsHave hs a b → ⊥
irreflexive_high {R = R} m none a b p lt e h =
    none a (subst (λ (x : ℕ). R a x) (sym e) ((m.high.bits a b lt).0 h))

half_same : {n end k : ℕ} {ls hs ls' hs' : List ℕ} {R S : ℕ → ℕ → Type 0} → IsMade n ls hs R
    → IsMade k ls' hs' S → IsEnd n end → ((a : ℕ) → a < n → get_or ls a 0 ≡ get_or ls' a 0)
    → ((a : ℕ) → a < end → get_or hs a 0 ≡ get_or hs' a 0) → (a b : ℕ) → R a b → S a b
half_same {S = S} r s e low high a b h =
    let w = r.within a b h in
    elim (found r a b h) [
      | inl t ↦ (s.low.bits a b t.0).0 (subst (λ (x : ℕ). Bit x b) (low a w.0) t.1)
      | inr t ↦ subst (λ (x : ℕ). S a x) (sym t.2) ((s.high.bits a t.0 t.1).0
          (subst (λ (x : ℕ). Bit x t.0) (high a (in_use t.0 e w.0 w.1 t.2)) t.3))
    ]

-- equal words below the count are equal relations
pub same_made : {n end k : ℕ} {ls hs ls' hs' : List ℕ} {R S : ℕ → ℕ → Type 0} → IsMade n ls hs R
    → IsMade k ls' hs' S → n ≡ k → IsEnd n end → ((a : ℕ) → a < n → get_or ls a 0 ≡ get_or ls' a 0)
    → ((a : ℕ) → a < end → get_or hs a 0 ≡ get_or hs' a 0)
    → of_columns n ls hs ≡ of_columns k ls' hs'
same_made {n} {end} {k} {ls} {hs} {ls'} {hs'} {R} {S} r s same e low high =
    same_relation (of_columns n ls hs) (of_columns k ls' hs') x.regular y.regular same (λ a b. (
      (λ h. (y.pairs a b).1 (half_same r s e low high a b ((x.pairs a b).0 h))),
      (λ h. (x.pairs a b).1 (half_same s r e' (λ c lt. sym (low c (rw (← same) at lt)))
          (λ c lt. sym (high c lt)) a b ((y.pairs a b).0 h))),
    ))
  where
    x : IsRelation (of_columns n ls hs) n R
    x = made_relation r

    y : IsRelation (of_columns k ls' hs') k S
    y = made_relation s

    e' : IsEnd k end
    e' = subst (λ (m : ℕ). IsEnd m end) same e

-- columns with the same pairs are equal relations
pub same_pairs : {n k : ℕ} {ls hs ls' hs' : List ℕ} {R : ℕ → ℕ → Type 0} → IsMade n ls hs R
    → IsMade k ls' hs' R → n ≡ k → of_columns n ls hs ≡ of_columns k ls' hs'
same_pairs {n} {k} {ls} {hs} {ls'} {hs'} {R} r s same =
    same_relation (of_columns n ls hs) (of_columns k ls' hs') x.regular y.regular same
    (λ a b. (
      (λ h. (y.pairs a b).1 ((x.pairs a b).0 h)),
      (λ h. (x.pairs a b).1 ((y.pairs a b).0 h)),
    ))
  where
    x : IsRelation (of_columns n ls hs) n R
    x = made_relation r

    y : IsRelation (of_columns k ls' hs') k R
    y = made_relation s

pub same_high : {n k : ℕ} {ls hs ls' hs' : List ℕ} → AreRelColumns n ls hs → AreRelColumns k ls' hs'
    → of_columns n ls hs ≡ of_columns k ls' hs' → hs ≡ hs'
same_high p q e = sym p.high_kept ∙ ap (λ (r : Relation). high_words r.rows) e ∙ q.high_kept
