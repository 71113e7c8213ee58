-- When two lists, and two values, are the same.
use Rattle.std.proofs.Common.{Vec, ℕ, zero, suc, Some, slice_get, map, HoldsAt, ◌≡◌, ◌<◌, List, [], ◌∷◌, length, ap, sym, ◌∙◌, arith}
use Rattle.std.specs.declared.alloc.Global.{Global}
use Rattle.thread_runs.specs.declared.value.Value.{Value}
use Rattle.taints.specs.DependencyLists.{DependencyLists}
use Rattle.candidate_spaces.specs.Space.{Shown, shown_by, shown_of, Candidate, IsCandidateOf}
use Rattle.store_orders.specs.declared.combination.Event.{Event}
use Rattle.candidate_spaces.specs.declared.execution.Execution.{Execution}

-- what is shown, part by part
pub shown_one : (d e : Shown) → d.events ≡ e.events → d.dependencies ≡ e.dependencies
    → d.reads_from ≡ e.reads_from → d.coherence ≡ e.coherence → d.registers ≡ e.registers → d ≡ e
shown_one d e events dependencies reads_from coherence registers =
    ap (λ (x : List Event). record d { events = x }) events
    ∙ ap
    (λ (x : DependencyLists). record e {
      dependencies = x;
      reads_from = d.reads_from;
      coherence = d.coherence;
      registers = d.registers;
    }) dependencies
    ∙ ap (λ (x : List ℕ). record e { reads_from = x; coherence = d.coherence; registers = d.registers })
    reads_from
    ∙ ap (λ (x : List ℕ). record e { coherence = x; registers = d.registers }) coherence
    ∙ ap (λ (x : List (List Value)). record e { registers = x }) registers

-- an execution shows what its candidate does
candidate_shown : (threads : List (Vec (List Value) Global)) (u : Candidate) (x : Execution)
    → IsCandidateOf threads u.0 u.1 x → shown_of threads u ≡ shown_by x
candidate_shown threads u x h =
    shown_one (shown_of threads u) (shown_by x) (sym h.events) (sym h.dependencies) (sym h.reads_from)
    (sym h.coherence) (sym h.registers)

pub shown_there : (threads : List (Vec (List Value) Global)) (xs : List Candidate) (index : ℕ)
    (x : Execution) → index < length xs → HoldsAt (λ u. IsCandidateOf threads u.0 u.1 x) xs index
    → slice_get (map (shown_of threads) xs) index ≡ Some (shown_by x)
shown_there threads [] index x lt holds = absurd (omega (arith, lt))
shown_there threads (u ∷ xs) zero x lt holds =
    ap (λ (y : Shown). Some y) (candidate_shown threads u x (holds u))
shown_there threads (u ∷ xs) (suc k) x lt holds =
    shown_there threads xs k x (omega (arith, lt)) (λ d. holds d)
