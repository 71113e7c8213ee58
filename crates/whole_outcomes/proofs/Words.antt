-- A word with the bits that a test tells, and rows of them.
use Rattle.std.proofs.Common.{ℕ, ◌≡◌, ◌<◌, ◌≤◌, ◌++◌, ◌^◌, ◌↔◌, ◌∙◌, zero, suc, inl, inr, List, [], ◌∷◌, length, get_or, Bool, true, false, cond, IsTrue, refl, sym, ap, arith}
use Rattle.std.specs.Prelude.{◌&&◌, nat_lt, bit_or}
use Rattle.std.proofs.lemmas.Bool.{cases_eq, cases_lt}
use Rattle.std.proofs.lemmas.Bool.Decides.{nat_tests}
use Rattle.std.proofs.lemmas.List.{length_push, get_or_push, get_or_append_left}
use Rattle.std.proofs.lemmas.Nat.Bits.{bit_at-pow_same, bit_at-pow_other}
use Rattle.bit_rows.specs.Relation.{Bit, Relation, IsRelation}
use Rattle.bit_rows.proofs.Bits.{Bit-zero, Bit-or}
use Rattle.whole_outcomes.specs.RelationLaws.{TestsAreSets, TestsAreRelations}

-- ---- words

one_bit : (k a : ℕ) → Bit (2 ^ k) a ↔ (a ≡ k)
unfolding Bit
one_bit k a = (
  (λ h. elim (cases_eq a k) [
    | inl same ↦ same
    | inr other ↦ let z = bit_at-pow_other k a other in absurd (omega (arith, z, h))
  ]),
  (λ same. rw same (bit_at-pow_same k)),
)

word_of : (ℕ → Bool) → ℕ → ℕ
word_of test zero = 0
word_of test (suc n) = cond (test n) (bit_or (word_of test n) (2 ^ n)) (word_of test n)

no_truth : false ≡ true → ⊥
no_truth e = absurd (let f : false ≡ true = e in cc)

word_has : (test : ℕ → Bool) (n a : ℕ) → Bit (word_of test n) a ↔ ((a < n) × IsTrue (test a))
unfolding word_of
word_has test zero a = ((λ h. absurd (Bit-zero a h)), (λ h. absurd (omega (arith, h.0))))
word_has test (suc n) a = at_test (word_has test n a) (test n) refl
  where
    at_test : Bit (word_of test n) a ↔ ((a < n) × IsTrue (test a)) → (b : Bool) → test n ≡ b
        → Bit (cond b (bit_or (word_of test n) (2 ^ n)) (word_of test n)) a ↔ ((a < suc n) × IsTrue (test a))
    at_test before true e = (
      (λ h. elim ((Bit-or (word_of test n) (2 ^ n) a).0 h) [
        | inl old ↦ let o = before.0 old in (omega (arith, o.0), o.1)
        | inr new ↦
            let same : a ≡ n = (one_bit n a).0 new in
            (omega (arith, same), ap test same ∙ e)
      ]),
      (λ h. elim (cases_eq a n) [
        | inl same ↦ (Bit-or (word_of test n) (2 ^ n) a).1 (inr ((one_bit n a).1 same))
        | inr other ↦ (Bit-or (word_of test n) (2 ^ n) a).1 (inl (before.1 (omega (arith, h.0, other), h.1)))
      ]),
    )
    at_test before false e = (
      (λ h. let o = before.0 h in (omega (arith, o.0), o.1)),
      (λ h. elim (cases_eq a n) [
        | inl same ↦ absurd (no_truth (sym e ∙ (ap test (sym same) ∙ h.1)))
        | inr other ↦ before.1 (omega (arith, h.0, other), h.1)
      ]),
    )

pub sets_told : TestsAreSets
sets_told n test = (
  record { count = n; word = word_of test n },
  record { count = refl; within = λ a h. ((word_has test n a).0 h).0; members = λ a. word_has test n a },
)

-- ---- rows

module _ (n : ℕ) (test : ℕ → ℕ → Bool) where
  -- an event that is none of the first n leads to nothing
  row : ℕ → ℕ
  row a = word_of (λ b. nat_lt a n && test a b) n

  rows : ℕ → List ℕ
  rows zero = []
  rows (suc m) = rows m ++ row m ∷ []

  rows_long : (m : ℕ) → length (rows m) ≡ m
  unfolding rows
  rows_long zero = refl
  rows_long (suc m) = let long = rows_long m in let more = length_push (rows m) (row m) in omega (arith, long, more)

  row_at : (m a : ℕ) → a < m → get_or (rows m) a 0 ≡ row a
  unfolding rows
  row_at zero a lt = absurd (omega (arith, lt))
  row_at (suc m) a lt = elim (cases_eq a m) [
    | inl same ↦
        get_or_push (rows m) (row m) 0 a (rows_long m ∙ sym same) ∙ ap row (sym same)
    | inr other ↦
        let less : a < m = omega (arith, lt, other) in
        get_or_append_left (rows m) (row m ∷ []) 0 a (omega (arith, less, rows_long m))
        ∙ row_at m a less
  ]

  both_true : (a b : ℕ) → IsTrue (nat_lt a n && test a b) → (a < n) × IsTrue (test a b)
  both_true a b h = at_test (nat_lt a n) refl h
    where
      at_test : (c : Bool) → nat_lt a n ≡ c → IsTrue (c && test a b) → (a < n) × IsTrue (test a b)
      at_test true e h = (grind (arith, nat_tests, e), h)
      at_test false e h = absurd (no_truth h)

  true_both : (a b : ℕ) → a < n → IsTrue (test a b) → IsTrue (nat_lt a n && test a b)
  true_both a b lt h = at_test (nat_lt a n) refl
    where
      at_test : (c : Bool) → nat_lt a n ≡ c → IsTrue (c && test a b)
      at_test true e = h
      at_test false e = absurd (let no : n ≤ a = grind (arith, nat_tests, e) in omega (arith, no, lt))

  row_has : (a b : ℕ) → Bit (row a) b ↔ ((a < n) × (b < n) × IsTrue (test a b))
  unfolding row
  row_has a b = (
    (λ h.
        let one = (word_has (λ c. nat_lt a n && test a c) n b).0 h in
        let two = both_true a b one.1 in
        (two.0, one.0, two.1)),
    (λ h. (word_has (λ c. nat_lt a n && test a c) n b).1 (h.1, true_both a b h.0 h.2)),
  )

  rows_have : (m a b : ℕ) → n ≤ m
      → Bit (get_or (rows m) a 0) b ↔ ((a < n) × (b < n) × IsTrue (test a b))
  rows_have m a b le = elim (cases_lt a m) [
    | inl lt ↦ rw (row_at m a lt) (row_has a b)
    | inr ge ↦
        let none : get_or (rows m) a 0 ≡ 0 = past (rows m) a (omega (arith, ge, rows_long m)) in (
          (λ h. absurd (Bit-zero b (rw none at h))),
          (λ h. absurd (omega (arith, h.0, ge, le))),
        )
  ]
    where
      past : (xs : List ℕ) (k : ℕ) → length xs ≤ k → get_or xs k 0 ≡ 0
      past [] k le = refl
      past (x ∷ xs) zero le = absurd (omega (arith, le))
      past (x ∷ xs) (suc k) le = past xs k (omega (arith, le))

  told : (m : ℕ) → m ≡ 128 → n ≤ m
      → (r : Relation) × IsRelation r n (λ a b. (a < n) × (b < n) × IsTrue (test a b))
  told m full le = (
    record { count = n; rows = rows m },
    record {
      count = refl;
      regular = record {
        few = omega (arith, full, le);
        height = rows_long m ∙ full;
        within = λ a b h. let t = (rows_have m a b le).0 h in (t.0, t.1);
      };
      pairs = λ a b. rows_have m a b le;
    },
  )

pub relations_told : TestsAreRelations
relations_told n test le = told n test 128 refl le
