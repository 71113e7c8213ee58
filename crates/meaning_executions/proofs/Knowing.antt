-- The events of a test correspond to those of its program.
use Rattle.std.proofs.Common.{ℕ, zero, suc, ◌≡◌, ◌<◌, ◌+◌, true, List, [], ◌∷◌, map, length, get_or, All, Contains, Option, Some, None, option_map, unwrap_or, slice_get, refl, ap, subst, ◌∙◌, arith}
use Rattle.std.specs.List.{AllZip}
use Rattle.std.proofs.lemmas.Option.{same_Some, slice_get-map}
use Rattle.text_values.specs.declared.test.Test.{Test}
use Rattle.text_values.specs.declared.test.Place.TheVariants as observables
use Rattle.text_values.specs.TestValue.{content_of}
use Rattle.thread_runs.specs.declared.value.Value as numbered_value
use Rattle.thread_runs.specs.declared.value.Value.TheVariants as numbers
use Rattle.thread_runs.specs.declared.instruction.Program.{Program}
use Rattle.thread_runs.specs.declared.instruction.RunStep.{RunStep}
use Rattle.thread_runs.specs.declared.instruction.Event as run_events
use Rattle.thread_runs.specs.Runs as by_number
use Rattle.thread_runs.specs.Runs.{executed}
use Rattle.ppc_lowering.specs.Lowering.{AreInitial, IsProgram, lowered_instruction}
use Rattle.taints.specs.Chains as chains
use Rattle.store_orders.specs.declared.combination.Event as numbered_event
use Rattle.store_orders.specs.Events.{initial_stores}
use Rattle.candidates.specs.Executions as candidates
use Rattle.candidates.specs.Executions.{IsStoreOrder, event_number, locations_from}
use Rattle.candidates.proofs.Elements.{in_first}
use Rattle.meaning.specs.Names.{Name, locations}
use Rattle.meaning.specs.Runs.{Instance, Run, initial_value}
use Rattle.meaning.specs.Executions.{Event, Initial, Does, Execution, AreRuns, IsEvent, IsOrder, instances_of, loads_in}
use Rattle.meaning_executions.specs.Values.{IsSameValue}
use Rattle.meaning_executions.specs.Runs as runs
use Rattle.meaning_executions.specs.Runs.{AreSameSteps}
use Rattle.meaning_executions.proofs.Located.{numbered_are}
use Rattle.meaning_executions.proofs.Starts.{starts_alike}
use Rattle.meaning_executions.specs.Events.{IsNumbered, events_in, named_events}
use Rattle.meaning_executions.specs.ThreadRuns.{AreSameThreadRuns}
use Rattle.meaning_executions.proofs.Lists.{index_of, carried, turned}
use Rattle.meaning_executions.proofs.Doing.{action_of_event}
use Rattle.meaning_executions.proofs.Taking.{IsSound, thread_took}
use Rattle.meaning_executions.proofs.Alike.{Alike, pointwise, loads_numbered, all_alike, events_alike}
use Rattle.meaning_executions.proofs.Numbering.{same_event, number_is, named_once}
use Rattle.meaning_executions.specs.Events.{AreSameEvents}
use Rattle.meaning_executions.proofs.Pairing.{run_numbered}

executed_at : (names labels : List Name) {steps : List RunStep} {events : List run_events.Event}
    {is : List Instance} → AreSameSteps names labels steps events is → (n : ℕ) (i : Instance)
    → slice_get is n ≡ Some i → executed steps n ≡ lowered_instruction labels i.instruction
executed_at names labels runs.none n i at = absurd cc
executed_at names labels (runs.more instruction loaded does rest) zero i at =
    instruction ∙ ap (λ (j : Instance). lowered_instruction labels j.instruction) (same_Some _ _ at)
executed_at names labels (runs.more instruction loaded does rest) (suc n) i at =
    executed_at names labels rest n i at

-- the run of a thread that executes something
run_of_thread : (x : Execution) (thread n : ℕ) (i : Instance)
    → slice_get (instances_of x thread) n ≡ Some i
    → (q : Run) × (slice_get x.runs thread ≡ Some q) × (slice_get q.instances n ≡ Some i)
run_of_thread x thread n i at = go (slice_get x.runs thread) refl at
  where
    go : (o : Option Run) → slice_get x.runs thread ≡ o
        → slice_get (unwrap_or (option_map (λ r. r.instances) o) []) n ≡ Some i
        → (q : Run) × (slice_get x.runs thread ≡ Some q) × (slice_get q.instances n ≡ Some i)
    go None e there = absurd cc
    go (Some q) e there = (q, e, there)

module _ (t : Test) (p : Program) (of : IsProgram t p) where
  abbrev names : List Name
  names = locations (content_of t)

  abbrev initial : List numbered_value.Value
  initial = p.initial.items

  pub initial_are : AreInitial t.init.items names initial
  initial_are =
      subst (λ (ns : List Name). AreInitial t.init.items ns initial)
      (numbered_are t p.locations.items of.locations) of.initial

  holds : (k : ℕ) → k < length names
      → IsSameValue names (get_or initial k numbers.NoValue)
      (initial_value (content_of t) (observables.Location (get_or names k [])))
  holds k lt =
      starts_alike (content_of t) (observables.Location (get_or names k []))
      (get_or initial k numbers.NoValue) (initial_are.starts k lt)

  module _ (rs : List by_number.Run) (x : Execution)
      (are : AreSameThreadRuns (content_of t) 0 rs x.runs) (of_test : AreRuns (content_of t) x.runs)
    where
      abbrev ns : List numbered_event.Event
      ns = candidates.events initial rs

      abbrev es : List Event
      es = named_events (content_of t) x.runs

      sound : (q : Run) → Contains x.runs q → All IsSound q.instances
      sound q there =
          let at : _ = index_of x.runs q there in
          let run : _ = of_test.each at.0 q at.1 in
          (thread_took (content_of t) at.0 run.0 q run.2).sound

      first : Alike (content_of t) x (initial_stores 0 initial) (map Initial names) []
      first =
          all_alike (content_of t) x initial initial_are.each_one
          (λ k lt. record { below = lt; name = refl; value = holds k lt })

      alike : Alike (content_of t) x ns es (loads_in 0 x.runs)
      alike = events_alike (content_of t) x initial rs sound are first

      pub number_at : (thread : ℕ) (r : by_number.Run) → slice_get rs thread ≡ Some r → (step : ℕ)
          → chains.is_event (executed r.outcome.walk.steps step) ≡ true
          → IsNumbered es (event_number initial rs thread r step) (Does thread step)
      number_at = number_is (content_of t) x sound initial rs are first

      firsts : (k : ℕ) (l : Name) → slice_get names k ≡ Some l → IsNumbered es k (Initial l)
      firsts k l at =
          in_first (map Initial names) (events_in 0 x.runs) k (Initial l)
          (slice_get-map Initial names k ∙ ap (λ (o : Option Name). option_map Initial o) at)

      complete : (e : Event) → IsEvent (content_of t) x e → (n : ℕ) × IsNumbered es n e
      complete (Initial l) (a, has) =
          let at : _ = index_of names l has.0 in (at.0, firsts at.0 l at.1)
      complete (Does thread n) (a, (i, at, does)) =
          let run : _ = run_of_thread x thread n i at in
          let found : _ = run_numbered (content_of t) 0 are thread run.0 run.1 in (
            event_number initial rs thread found.0 n,
            number_at thread found.0 found.1 n
                (ap chains.is_event (executed_at names found.2.labels found.2.same.steps n i run.2)
                ∙ same_event found.2.labels i.instruction ∙ action_of_event i a does),
          )

      pub correspond : AreSameEvents (content_of t) x ns es
      correspond = record {
        alike = pointwise alike;
        loads = loads_numbered alike es 0
            (λ j k e. ap (λ (n : ℕ). slice_get es n) (omega (arith, e)));
        once = named_once (content_of t) x.runs;
        complete = complete;
        firsts = firsts;
      }
