-- A test has one refusal, or none.
use Rattle.std.proofs.Common.{◌≡◌, ◌<◌, ◌⊎◌, inl, inr, ℕ, refl, subst, arith}
use Rattle.std.proofs.lemmas.Bool.{cases_order}
use Rattle.text_values.specs.TestValue.{Content}
use Rattle.meaning.specs.Refusals.{Refusal, TooManyEvents, TooManyValues, TooManyRuns, TooManyCandidates, AddressFault, TooManyCombinations, IsRefusal, IsAccepted, IsRefusedAt, IsFirstRefused, HasFewEvents, HasDomain, event_count}

few_against : (t : Content) → HasFewEvents t → 128 < event_count t → ⊥
few_against t few many = absurd (omega arith)

domain_against : (t : Content) (r : Refusal) → HasDomain t → (k : ℕ) × IsFirstRefused t k r → ⊥
domain_against t r domain (k, first) = domain.1 k r first.bound first.refused

-- the values that are refused first are refused in one way
at_one : (t : Content) (k : ℕ) → IsRefusedAt t k TooManyValues → IsRefusedAt t k TooManyRuns → ⊥
at_one t k values runs = runs.0 values

firsts_are_one : (t : Content) → (k : ℕ) × IsFirstRefused t k TooManyValues
    → (k : ℕ) × IsFirstRefused t k TooManyRuns → ⊥
firsts_are_one t (k, values) (j, runs) = compared (cases_order k j)
  where
    compared : (k ≡ j) ⊎ ((k < j) ⊎ (j < k)) → ⊥
    compared (inl same) =
        at_one t j (subst (λ i. IsRefusedAt t i TooManyValues) same values.refused) runs.refused
    compared (inr (inl before)) = runs.before k TooManyValues before values.refused
    compared (inr (inr after)) = values.before j TooManyRuns after runs.refused

pub not_accepted : (t : Content) (r : Refusal) → IsRefusal t r → IsAccepted t → ⊥
not_accepted t TooManyEvents h ok = few_against t ok.0.0.0.0 h
not_accepted t TooManyValues h ok = domain_against t TooManyValues ok.0.0.0 h.1
not_accepted t TooManyRuns h ok = domain_against t TooManyRuns ok.0.0.0 h.1
not_accepted t TooManyCombinations h ok = ok.0.0.1 h.1
not_accepted t TooManyCandidates h ok = ok.0.1 h.1
not_accepted t AddressFault h ok = ok.1 h.1

pub refusals_are_one : (t : Content) (r q : Refusal) → IsRefusal t r → IsRefusal t q → r ≡ q
refusals_are_one t TooManyEvents TooManyEvents h g = refl
refusals_are_one t TooManyEvents TooManyValues h g = absurd (few_against t g.0 h)
refusals_are_one t TooManyEvents TooManyRuns h g = absurd (few_against t g.0 h)
refusals_are_one t TooManyEvents TooManyCombinations h g = absurd (few_against t g.0.0 h)
refusals_are_one t TooManyEvents TooManyCandidates h g = absurd (few_against t g.0.0.0 h)
refusals_are_one t TooManyEvents AddressFault h g = absurd (few_against t g.0.0.0.0 h)
refusals_are_one t TooManyValues TooManyEvents h g = absurd (few_against t h.0 g)
refusals_are_one t TooManyValues TooManyValues h g = refl
refusals_are_one t TooManyValues TooManyRuns h g = absurd (firsts_are_one t h.1 g.1)
refusals_are_one t TooManyValues TooManyCombinations h g =
    absurd (domain_against t TooManyValues g.0 h.1)
refusals_are_one t TooManyValues TooManyCandidates h g =
    absurd (domain_against t TooManyValues g.0.0 h.1)
refusals_are_one t TooManyValues AddressFault h g =
    absurd (domain_against t TooManyValues g.0.0.0 h.1)
refusals_are_one t TooManyRuns TooManyEvents h g = absurd (few_against t h.0 g)
refusals_are_one t TooManyRuns TooManyValues h g = absurd (firsts_are_one t g.1 h.1)
refusals_are_one t TooManyRuns TooManyRuns h g = refl
refusals_are_one t TooManyRuns TooManyCombinations h g =
    absurd (domain_against t TooManyRuns g.0 h.1)
refusals_are_one t TooManyRuns TooManyCandidates h g =
    absurd (domain_against t TooManyRuns g.0.0 h.1)
refusals_are_one t TooManyRuns AddressFault h g =
    absurd (domain_against t TooManyRuns g.0.0.0 h.1)
refusals_are_one t TooManyCombinations TooManyEvents h g = absurd (few_against t h.0.0 g)
refusals_are_one t TooManyCombinations TooManyValues h g =
    absurd (domain_against t TooManyValues h.0 g.1)
refusals_are_one t TooManyCombinations TooManyRuns h g =
    absurd (domain_against t TooManyRuns h.0 g.1)
refusals_are_one t TooManyCombinations TooManyCombinations h g = refl
refusals_are_one t TooManyCombinations TooManyCandidates h g = absurd (g.0.1 h.1)
refusals_are_one t TooManyCombinations AddressFault h g = absurd (g.0.0.1 h.1)
refusals_are_one t TooManyCandidates TooManyEvents h g = absurd (few_against t h.0.0.0 g)
refusals_are_one t TooManyCandidates TooManyValues h g =
    absurd (domain_against t TooManyValues h.0.0 g.1)
refusals_are_one t TooManyCandidates TooManyRuns h g =
    absurd (domain_against t TooManyRuns h.0.0 g.1)
refusals_are_one t TooManyCandidates TooManyCombinations h g = absurd (h.0.1 g.1)
refusals_are_one t TooManyCandidates TooManyCandidates h g = refl
refusals_are_one t TooManyCandidates AddressFault h g = absurd (g.0.1 h.1)
refusals_are_one t AddressFault TooManyEvents h g = absurd (few_against t h.0.0.0.0 g)
refusals_are_one t AddressFault TooManyValues h g =
    absurd (domain_against t TooManyValues h.0.0.0 g.1)
refusals_are_one t AddressFault TooManyRuns h g =
    absurd (domain_against t TooManyRuns h.0.0.0 g.1)
refusals_are_one t AddressFault TooManyCombinations h g = absurd (h.0.0.1 g.1)
refusals_are_one t AddressFault TooManyCandidates h g = absurd (h.0.1 g.1)
refusals_are_one t AddressFault AddressFault h g = refl
