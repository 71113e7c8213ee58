-- A candidate ends in the state in which the execution ends that it shows.
use Rattle.std.proofs.Common.{ℕ, zero, suc, ◌+◌, ◌≡◌, Bool, cond, ◌&&◌, List, [], ◌∷◌, Option, Some, None, Vec, Global, map, drop, refl, sym, ap, ◌∙◌}
use mathlib.Core.Path.{fun_ext}
use Rattle.std.specs.Prelude.{slice_get, replicate, option_and_then}
use Rattle.std.specs.Option.{unwrap_or}
use Rattle.thread_runs.specs.declared.value.Value.{Value}
use Rattle.thread_runs.specs.declared.value.Value.TheVariants.{NoValue}
use Rattle.candidate_spaces.specs.Space.{Candidate, candidates_in, end_at, registers_at, shown_of, shown_in}
use Rattle.candidate_spaces.specs.declared.candidate.Space.{Space}
use Rattle.outcome_states.specs.Counting.{count_kept}
use Rattle.outcome_states.specs.Ends as ends
use Rattle.outcome_states.specs.Final.{value_shown, final_value, final_state}
use Rattle.outcome_states.specs.Kept.{holds_at}
use Rattle.outcome_states.specs.Order.{is_state}
use Rattle.outcome_states.specs.declared.answer.FinalValue.{FinalValue}
use Rattle.outcome_states.specs.declared.observable.Observable.{Observable}
use Rattle.outcome_states.specs.declared.observable.Observable.TheVariants.{Register, Location}

abbrev in_file : ℕ → List Value → Option Value
in_file register registers = slice_get registers register

none_held : (n register : ℕ)
    → unwrap_or (slice_get (replicate n NoValue) register) NoValue ≡ NoValue
none_held zero register = refl
none_held (suc n) zero = refl
none_held (suc n) (suc register) = none_held n register

-- the registers of a run, and no values where there is none
held_at_end : (ends : List (List Value)) (run register : ℕ)
    → unwrap_or (option_and_then (in_file register) (slice_get ends run)) NoValue
    ≡ unwrap_or (slice_get (end_at ends run) register) NoValue
held_at_end [] run register = sym (none_held 32 register)
held_at_end (e ∷ es) zero register = refl
held_at_end (e ∷ es) (suc run) register = held_at_end es run register

no_runs : (o : Option (Vec (List Value) Global)) (register : ℕ)
    → unwrap_or
    (option_and_then
    (λ runs. option_and_then
    (λ run. option_and_then (in_file register) (slice_get runs.items run)) None) o)
    NoValue ≡ NoValue
no_runs None register = refl
no_runs (Some runs) register = refl

register_shown : (threads : List (Vec (List Value) Global)) (runs : List ℕ) (thread register : ℕ)
    → unwrap_or
    (option_and_then
    (λ rs. option_and_then
    (λ run. option_and_then (in_file register) (slice_get rs.items run))
    (slice_get runs thread))
    (slice_get threads thread)) NoValue
    ≡ unwrap_or (option_and_then (in_file register) (slice_get (registers_at threads runs) thread))
    NoValue
register_shown [] runs thread register = refl
register_shown (t ∷ ts) [] thread register = no_runs (slice_get (t ∷ ts) thread) register
register_shown (t ∷ ts) (r ∷ rs) zero register = held_at_end t.items r register
register_shown (t ∷ ts) (r ∷ rs) (suc thread) register = register_shown ts rs thread register

value_held : (space : Space) (x : Candidate) (observable : Observable)
    → ends.candidate_final_value space x.0 x.1.1 observable ≡ final_value (shown_of space.registers.items x) observable
value_held space x (Register thread register) =
    ap value_shown (register_shown space.registers.items x.0.runs.items thread register)
value_held space x (Location location) = refl

state_held : (space : Space) (observables : List Observable) (x : Candidate)
    → ends.candidate_final_state space observables x ≡ final_state observables (shown_of space.registers.items x)
state_held space observables x =
    ap (λ (f : Observable → FinalValue). map f observables) (fun_ext (value_held space x))

count_mapped : {X Y : Type 0} (f : X → Y) (test : Y → Bool) (keep : List Bool) (xs : List X)
    → count_kept (λ x. test (f x)) keep xs ≡ count_kept test keep (map f xs)
unfolding count_kept
count_mapped f test keep [] = refl
count_mapped f test keep (x ∷ xs) =
    ap (λ (n : ℕ). cond (holds_at 0 keep && test (f x)) 1 0 + n)
    (count_mapped f test (drop 1 keep) xs)

-- as many candidates end in a state as executions do that they show
pub counts_shown : (space : Space) (observables : List Observable) (keep : List Bool)
    (v : List FinalValue)
    → count_kept (λ x. is_state v (ends.candidate_final_state space observables x)) keep
    (candidates_in space.combinations.items)
    ≡ count_kept (λ e. is_state v (final_state observables e)) keep (shown_in space)
counts_shown space observables keep v =
    ap
    (λ (f : Candidate → List FinalValue).
    count_kept (λ x. is_state v (f x)) keep (candidates_in space.combinations.items))
    (fun_ext (state_held space observables))
    ∙ count_mapped (shown_of space.registers.items) (λ e. is_state v (final_state observables e)) keep
    (candidates_in space.combinations.items)
