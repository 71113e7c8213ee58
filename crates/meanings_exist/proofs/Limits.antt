-- A test is refused or accepted.
use Rattle.std.proofs.Common.{◌≡◌, ◌⊎◌, inl, inr, ℕ, zero, suc, ◌<◌, ◌≤◌, subst, arith}
use Rattle.std.proofs.lemmas.Bool.{cases_lt}
use Rattle.text_values.specs.TestValue.{Content}
use Rattle.meaning.specs.Sets.{HasOver}
use Rattle.meaning.specs.Machine.{is_load}
use Rattle.meaning.specs.Domain.{instruction_count}
use Rattle.meaning.specs.Executions.{AreRuns, IsExecution}
use Rattle.meaning.specs.Refusals.{Refusal, TooManyEvents, TooManyValues, TooManyRuns, TooManyCandidates, AddressFault, TooManyCombinations, event_count, IsRefusedAt, HasFewEvents, HasDomain, HasFewCombinations, HasFewExecutions, IsRefusal, IsAccepted}
use Rattle.meanings_exist.proofs.Decisions.{Decided}
use Rattle.meanings_exist.proofs.Finite.{over_decided}
use Rattle.meanings_exist.proofs.Threads.{all_runs}
use Rattle.meanings_exist.proofs.Domain.{in_domain, refused_or_not}
use Rattle.meanings_exist.proofs.Executing.{same_rows, same_or_not}
use Rattle.meanings_exist.proofs.Executions.{executions, fault_or_not}

-- ---- the first number with a property

record IsFirst (P : ℕ → Type 0) (n k : ℕ) : Type 0 where
  pub bound : k ≤ n
  pub before : (j : ℕ) → j < k → P j → ⊥
  pub is : P k

-- there is a first one, or none
abbrev FirstOrNone : (ℕ → Type 0) → ℕ → Type 0
FirstOrNone P n = ((k : ℕ) × IsFirst P n k) ⊎ ((k : ℕ) → k ≤ n → P k → ⊥)

none_at_all : (P : ℕ → Type 0) → (P 0 → ⊥) → (k : ℕ) → k ≤ 0 → P k → ⊥
none_at_all P not k le is = let none : k ≡ 0 = omega (arith, le) in not (subst P none is)

one_more : (P : ℕ → Type 0) (n : ℕ) → FirstOrNone P n → Decided (P (suc n))
    → FirstOrNone P (suc n)
one_more P n (inl (k, first)) d =
    inl (
      k,
      record { bound = omega (arith, first.bound); before = first.before; is = first.is },
    )
one_more P n (inr none) (inl is) =
    inl (
      suc n,
      record {
        bound = omega arith;
        before = λ j lt. none j (omega (arith, lt));
        is = is;
      },
    )
one_more P n (inr none) (inr not) = inr none_still
  where
    none_still : (k : ℕ) → k ≤ suc n → P k → ⊥
    none_still k le is = elim (cases_lt k (suc n)) [
      | inl lt ↦ none k (omega (arith, lt)) is
      | inr ge ↦ let last : k ≡ suc n = omega (arith, le, ge) in not (subst P last is)
    ]

first_or_none : (P : ℕ → Type 0) (n : ℕ) → ((k : ℕ) → k ≤ n → Decided (P k))
    → FirstOrNone P n
first_or_none P zero each = elim (each 0 (omega arith)) [
  | inl is ↦
      inl (
        0,
        record { bound = omega arith; before = λ j lt. absurd (omega (arith, lt)); is = is },
      )
  | inr not ↦ inr (none_at_all P not)
]
first_or_none P (suc n) each =
    one_more P n (first_or_none P n (λ k le. each k (omega (arith, le))))
    (each (suc n) (omega arith))

-- ---- the refusals

-- the values after so many rounds are refused
abbrev IsRefusedThere : Content → ℕ → Type 0
IsRefusedThere t k = (r : Refusal) × IsRefusedAt t k r

abbrev rounds : Content → ℕ
rounds t = instruction_count is_load t

combinations : (t : Content) → Decided (HasOver 1048576 (AreRuns t))
combinations t =
    over_decided (AreRuns t) (same_rows t) 1048576 (all_runs t (in_domain t))

many_executions : (t : Content) → Decided (HasOver 16384 (IsExecution t))
many_executions t = over_decided (IsExecution t) (same_or_not t) 16384 (executions t)

abbrev RefusedOrAccepted : Content → Type 0
RefusedOrAccepted t = ((r : Refusal) × IsRefusal t r) ⊎ IsAccepted t

module _ (t : Content) where
  with_executions : HasFewExecutions t → RefusedOrAccepted t
  with_executions few = elim (fault_or_not t) [
    | inl fault ↦ inl (AddressFault, (few, fault))
    | inr none ↦ inr (few, none)
  ]

  with_combinations : HasFewCombinations t → RefusedOrAccepted t
  with_combinations few = elim (many_executions t) [
    | inl over ↦ inl (TooManyCandidates, (few, over))
    | inr none ↦ with_executions (few, none)
  ]

  with_domain : HasDomain t → RefusedOrAccepted t
  with_domain domain = elim (combinations t) [
    | inl over ↦ inl (TooManyCombinations, (domain, over))
    | inr none ↦ with_combinations (domain, none)
  ]

  refused_first : HasFewEvents t → (k : ℕ) → IsFirst (IsRefusedThere t) (rounds t) k → (r : Refusal)
      → IsRefusedAt t k r → RefusedOrAccepted t
  refused_first few k first TooManyValues is =
      inl (
        TooManyValues,
        (few, (k, record { bound = first.bound; before = λ j q lt h. first.before j lt (q, h); refused = is })),
      )
  refused_first few k first TooManyRuns is =
      inl (
        TooManyRuns,
        (few, (k, record { bound = first.bound; before = λ j q lt h. first.before j lt (q, h); refused = is })),
      )
  refused_first few k first TooManyEvents is = absurd is
  refused_first few k first TooManyCandidates is = absurd is
  refused_first few k first AddressFault is = absurd is
  refused_first few k first TooManyCombinations is = absurd is

  with_events : HasFewEvents t → RefusedOrAccepted t
  with_events few = elim (first_or_none (IsRefusedThere t) (rounds t) (λ k le. refused_or_not t k)) [
    | inl (k, first) ↦ refused_first few k first first.is.0 first.is.1
    | inr none ↦ with_domain (few, λ k r le is. none k le (r, is))
  ]

  pub refused_or_accepted : RefusedOrAccepted t
  refused_or_accepted = elim (cases_lt 128 (event_count t)) [
    | inl many ↦ inl (TooManyEvents, many)
    | inr few ↦ with_events few
  ]
