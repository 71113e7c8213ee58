-- Two spaces of a test show the same.
use Rattle.std.proofs.Common.{ℕ, ◌≡◌, List, [], ◌∷◌, refl, inl, inr, ap, sym, subst, ◌∙◌, arith}
use Rattle.text_values.specs.declared.test.Test.{Test}
use Rattle.thread_runs.specs.declared.value.Value.{Value}
use Rattle.taints.specs.Chains.{Executed, IsPairBefore}
use Rattle.taints.proofs.PairDecision.{dependencies_one}
use Rattle.candidate_spaces.proofs.Alike.{shown_one}
use Rattle.candidates.proofs.OneProgram.{names_one, test_executions_one}
use Rattle.candidates.proofs.Sole.{same_rising}
use Rattle.candidate_spaces.specs.Space.{Shown, shown_in}
use Rattle.ppc_lowering.specs.Lowering.{test_names}
use Rattle.std.specs.List.{AllZip}
use Rattle.candidates.specs.Executions.{Execution}
use Rattle.candidates.specs.Listed.{ShowsExecution, AreDependencyPairs}
use Rattle.candidates.specs.Laws.{ShowOneTest}
use Rattle.candidate_spaces.specs.declared.candidate.Space.{Space}

-- pairs in rising order are one list
before_apart : (p q : ℕ × ℕ) → IsPairBefore p q → IsPairBefore q p → ⊥
before_apart p q (inl a) (inl b) = omega (arith, a, b)
before_apart p q (inl a) (inr b) = omega (arith, a, b.0)
before_apart p q (inr a) (inl b) = omega (arith, a.0, b)
before_apart p q (inr a) (inr b) = omega (arith, a.1, b.1)

pairs_one : (R : Executed → ℕ → ℕ → Type 0) (initial : List Value) (x : Execution)
    (ps qs : List (ℕ × ℕ)) → AreDependencyPairs R initial x ps → AreDependencyPairs R initial x qs → ps ≡ qs
pairs_one R initial x ps qs h k =
    same_rising IsPairBefore before_apart ps qs h.rising k.rising
    (λ p c. (k.exact p).1 ((h.exact p).0 c)) (λ p c. (h.exact p).1 ((k.exact p).0 c))

alike : (initial : List Value) (x : Execution) (d e : Shown) → ShowsExecution initial x d → ShowsExecution initial x e
    → d ≡ e
alike initial x d e h k =
    shown_one d e (h.events ∙ sym k.events)
    (dependencies_one d.dependencies e.dependencies
    (pairs_one _ initial x d.dependencies.addr_pairs e.dependencies.addr_pairs h.addr k.addr)
    (pairs_one _ initial x d.dependencies.data_pairs e.dependencies.data_pairs h.«data» k.«data»)
    (pairs_one _ initial x d.dependencies.ctrl_pairs e.dependencies.ctrl_pairs h.ctrl k.ctrl)
    (pairs_one _ initial x d.dependencies.ctrlisync_pairs e.dependencies.ctrlisync_pairs h.ctrlisync
    k.ctrlisync))
    (h.reads_from ∙ sym k.reads_from) (h.coherence ∙ sym k.coherence)
    (h.registers ∙ sym k.registers)

all_alike : (initial : List Value) (xs : List Execution) (ds es : List Shown)
    → AllZip (ShowsExecution initial) xs ds → AllZip (ShowsExecution initial) xs es → ds ≡ es
all_alike initial [] [] [] h k = refl
all_alike initial [] [] (e ∷ es) h k = absurd k
all_alike initial [] (d ∷ ds) es h k = absurd h
all_alike initial (x ∷ xs) [] es h k = absurd h
all_alike initial (x ∷ xs) (d ∷ ds) [] h k = absurd k
all_alike initial (x ∷ xs) (d ∷ ds) (e ∷ es) h k =
    ap (λ (z : Shown). z ∷ ds) (alike initial x d e h.0 k.0)
    ∙ ap (λ (l : List Shown). e ∷ l) (all_alike initial xs ds es h.1 k.1)

pub shown_alike : (t : Test) (r s : Space) → ShowOneTest t r s
shown_alike t r s h k = (
  names_one (test_names t) r.locations.items s.locations.items h.locations k.locations,
  all_alike h.initial h.all (shown_in r) (shown_in s) h.shown
      (subst (λ (vs : List Value). AllZip (ShowsExecution vs) h.all (shown_in s)) (sym same.0)
      (subst (λ (xs : List Execution). AllZip (ShowsExecution k.initial) xs (shown_in s))
      (sym same.1) k.shown)),
)
  where
    same : (h.initial ≡ k.initial) × (h.all ≡ k.all)
    same = test_executions_one t h.initial k.initial h.all k.all h.executions k.executions
