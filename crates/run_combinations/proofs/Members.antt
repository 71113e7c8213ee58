-- Members of sets of events.
use Rattle.std.proofs.Common.{ℕ, zero, suc, ◌≡◌, ◌<◌, ◌≤◌, ◌+◌, ◌*◌, ◌/◌, ◌%◌, ◌^◌, ◌⊎◌, ◌↔◌, inl, inr, List, Some, slice_get, IsTrue, Bool, max, arith, sym, subst, ap, ◌∙◌}
use Rattle.std.specs.Int.{bit_at}
use Rattle.std.specs.Int.RustNames.{bit_or}
use Rattle.std.proofs.lemmas.Nat.Bits.{bit_at_or, bit_at-lt, same_from_bits, bit_at_cat_low, bit_at_above}
use Rattle.std.proofs.lemmas.Nat.{le_or_l}
use Rattle.std.proofs.lemmas.Bool.{cases_eq, cases_lt}
use Rattle.bit_rows.specs.Relation.{Bit, Events, IsMember, IsEvents}
use Rattle.run_combinations.specs.Rounds.{Stepped}

-- a number is a member, or it is not
pub member_cases : (s : Events) (a : ℕ) → IsMember s a ⊎ (IsMember s a → ⊥)
unfolding Bit
member_cases s a = cases_eq (bit_at s.word a) 1

-- what is not no member is one
pub member_not_not : (s : Events) (a : ℕ) → ((IsMember s a → ⊥) → ⊥) → IsMember s a
member_not_not s a h = elim (member_cases s a) [
  | inl there ↦ there
  | inr never ↦ absurd (h never)
]

search_below : (s : Events) (n : ℕ)
    → ((a : ℕ) × IsMember s a) ⊎ ((a : ℕ) → a < n → IsMember s a → ⊥)
search_below s zero = inr (λ a lt h. omega (arith, lt))
search_below s (suc n) = elim (member_cases s n) [
  | inl there ↦ inl (n, there)
  | inr never ↦ elim (search_below s n) [
    | inl found ↦ inl found
    | inr none ↦ inr (λ a lt h. elim (cases_eq a n) [
      | inl same ↦ never (subst (λ (x : ℕ). IsMember s x) same h)
      | inr other ↦ none a (omega (arith, lt, other)) h
    ])
  ]
]

-- a set that is not empty has a member
pub some_member : (s : Events) (n : ℕ) → ((a : ℕ) → IsMember s a → a < n)
    → (((a : ℕ) → IsMember s a → ⊥) → ⊥) → (a : ℕ) × IsMember s a
some_member s n within h = elim (search_below s n) [
  | inl found ↦ found
  | inr none ↦ absurd (h (λ a m. none a (within a m) m))
]

same_parts : (m n v w : ℕ) → m ≡ n → v ≡ w
    → (let s : Events = record { count = m; word = v } in s) ≡ record { count = n; word = w }
same_parts m n v w e f = cc

-- a set with more members is a greater number
pub wider_is_more : (s t : Events) → ((a : ℕ) → IsMember s a → IsMember t a) → s.word ≤ t.word
unfolding Bit
wider_is_more s t wider =
    let e : bit_or s.word t.word ≡ t.word = same_from_bits (bit_or s.word t.word) t.word (λ k. bit_at_or s.word t.word k ∙ greater (bit_at s.word k) (bit_at t.word k) (bit_at-lt s.word k) (bit_at-lt t.word k) (wider k)) in
    let le : s.word ≤ bit_or s.word t.word = le_or_l s.word t.word in
    omega (arith, e, le)
  where
    greater : (x y : ℕ) → x < 2 → y < 2 → (x ≡ 1 → y ≡ 1) → max x y ≡ y
    greater x y l m h = elim (cases_eq x 1) [
      | inl one ↦ let o : y ≡ 1 = h one in omega (arith, one, o)
      | inr none ↦ omega (arith, l, none)
    ]

pub wider_grows : (s t : Events) → s.count ≡ t.count → ((a : ℕ) → IsMember s a → IsMember t a)
    → (s ≡ t → ⊥) → s.word < t.word
wider_grows s t c wider apart = elim (cases_lt s.word t.word) [
  | inl lt ↦ lt
  | inr ge ↦ absurd (apart (same_parts s.count t.count s.word t.word c
      (omega (arith, ge, wider_is_more s t wider))))
]

-- one index more
pub one_step_more : {X : Type 0} (event : X → ℕ) (W : ℕ → X → Type 0) (B : ℕ → Type 0) (n i : ℕ)
    (xs : List X) (s : X) (b : Bool) (old new : Events) → slice_get xs i ≡ Some s
    → IsTrue b ↔ W i s → IsEvents old n (λ x. B x ⊎ Stepped event W n i xs x)
    → IsEvents new old.count (λ x. IsMember old x ⊎ ((x < old.count) × (x ≡ event s) × IsTrue b))
    → IsEvents new n (λ x. B x ⊎ Stepped event W n (i + 1) xs x)
one_step_more {X} event W B n i xs s b old new at test before step = record {
  count = step.count ∙ before.count;
  within = λ a m. subst (λ (k : ℕ). a < k) before.count (step.within a m);
  members = λ x. (
    (λ m. elim ((step.members x).0 m) [
      | inl was ↦ elim ((before.members x).0 was) [
        | inl base ↦ inl base
        | inr t ↦ inr (record {
          index = t.index;
          item = t.item;
          below = omega (arith, t.below);
          there = t.there;
          holds = t.holds;
        })
      ]
      | inr now ↦ inr (record {
        index = i;
        item = s;
        below = omega arith;
        there = at;
        holds = (subst (λ (k : ℕ). x < k) before.count now.0, now.1, test.0 now.2);
      })
    ]),
    (λ m. (step.members x).1 (elim m [
      | inl base ↦ inl ((before.members x).1 (inl base))
      | inr t ↦ elim (cases_lt t.index i) [
        | inl lt ↦ inl ((before.members x).1 (inr (record {
          index = t.index;
          item = t.item;
          below = lt;
          there = t.there;
          holds = t.holds;
        })))
        | inr ge ↦
            let k : t.index ≡ i = omega (arith, ge, t.below) in
            let e : t.item ≡ s = same_item (sym t.there ∙ ap (λ (j : ℕ). slice_get xs j) k ∙ at) in
            inr (
              subst (λ (j : ℕ). x < j) (sym before.count) t.holds.0,
              t.holds.1 ∙ ap event e,
              test.1 (subst (λ (y : X). W i y) e (subst (λ (j : ℕ). W j t.item) k t.holds.2)),
            )
      ]
    ])),
  );
}
  where
    same_item : {u v : X} → Some u ≡ Some v → u ≡ v
    same_item h = cc

-- a set of events below 128 as a number
pub few_fit : (s : Events) → ((a : ℕ) → IsMember s a → a < 128) → s.word < 2 ^ 128
unfolding Bit
few_fit s below =
    let e : s.word ≡ s.word % 2 ^ 128 = same_from_bits s.word (s.word % 2 ^ 128) each in
    let lt : s.word % 2 ^ 128 < 2 ^ 128 = omega arith in
    omega (arith, e, lt)
  where
    split : s.word ≡ (s.word / 2 ^ 128) * 2 ^ 128 + s.word % 2 ^ 128
    split = omega arith

    zero_bit : {n : ℕ} → n < 2 → (n ≡ 1 → ⊥) → n ≡ 0
    zero_bit lt not_one = omega arith

    each : (k : ℕ) → bit_at s.word k ≡ bit_at (s.word % 2 ^ 128) k
    each k = elim (cases_lt k 128) [
      | inl lt ↦ ap (λ (n : ℕ). bit_at n k) split
          ∙ bit_at_cat_low (s.word / 2 ^ 128) 128 (s.word % 2 ^ 128) k lt
      | inr ge ↦
          let high : bit_at (s.word % 2 ^ 128) k ≡ 0 = bit_at_above (s.word % 2 ^ 128) 128 k (omega arith) ge in
          zero_bit (bit_at-lt s.word k) (λ h. let lt : k < 128 = below k h in omega arith)
          ∙ sym high
    ]
