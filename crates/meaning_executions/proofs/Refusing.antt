-- A test is refused for what its program is refused for.
use Rattle.std.proofs.Common.{ℕ, ◌<◌, ◌≤◌, sym, subst}
use Rattle.text_values.specs.declared.test.Test.{Test}
use Rattle.text_values.specs.TestValue.{content_of}
use Rattle.thread_runs.specs.declared.instruction.Program.{Program}
use Rattle.ppc_lowering.specs.Domain as program
use Rattle.ppc_lowering.specs.Domain.{IsBoundedRound, IsFirstFailure, event_total, load_total}
use Rattle.ppc_lowering.specs.Lowering.{IsProgram}
use Rattle.meaning.specs.Refusals.{Refusal, TooManyValues, TooManyRuns, IsFirstRefused, IsRefusedAt, HasDomain, event_count}
use Rattle.meaning_executions.specs.Refusals.{AreRefusedAlike}
use Rattle.meaning_executions.proofs.Totals.{loads_are, events_are}
use Rattle.meaning_executions.proofs.Bounds.{rounds_refused}

module _ (t : Test) (p : Program) (of : IsProgram t p) where
  few_events : event_total p ≤ 128 → event_count (content_of t) ≤ 128
  few_events few = subst (λ (n : ℕ). n ≤ 128) (events_are t p of) few

  first_refused : (F : Program → ℕ → Type 0) (r : Refusal)
      → ((k : ℕ) → F p k → IsRefusedAt (content_of t) k r) → (k : ℕ) → IsFirstFailure p k F
      → IsFirstRefused (content_of t) k r
  first_refused F r to k h = record {
    bound = subst (λ (n : ℕ). k ≤ n) (loads_are t p of) h.bound;
    before = λ j q less is. (rounds_refused t p of j).bounded (h.before j less) q is;
    refused = to k h.fails;
  }

  has_domain : event_total p ≤ 128 → ((k : ℕ) → k ≤ load_total p → IsBoundedRound p k)
      → HasDomain (content_of t)
  has_domain few rounds = (
    few_events few,
    λ k r le is.
        (rounds_refused t p of k).bounded
        (rounds k (subst (λ (n : ℕ). k ≤ n) (sym (loads_are t p of)) le)) r is,
  )

  pub refused_alike : AreRefusedAlike (content_of t) p
  refused_alike = record {
    events = λ h. subst (λ (n : ℕ). 128 < n) (events_are t p of) h;
    values = λ q. let (k, h) = q in (
      few_events h.events,
      (k, first_refused program.HasManyValues TooManyValues (λ j f. (rounds_refused t p of j).values f) k h),
    );
    runs = λ q. let (k, h) = q in (
      few_events h.events,
      (k, first_refused program.HasManyRuns TooManyRuns (λ j f. (rounds_refused t p of j).runs f) k h),
    );
    domain = has_domain;
  }
