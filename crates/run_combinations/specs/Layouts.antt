-- What the candidates of a program are made of: its initial stores, and the runs of each thread
-- that may be in one.
use Rattle.std.specs.Prelude.{Vec, vec_len, ℕ, ◌≡◌, ◌≤◌, ◌+◌, ◌⊎◌, List, [], ◌∷◌, ◌++◌, length, Some, slice_get}
use Rattle.std.specs.declared.alloc.Global.{Global}
use Rattle.thread_runs.specs.declared.value.Value.{Value}
use Rattle.thread_runs.specs.declared.run.Run.{Run}
use Rattle.thread_runs.specs.declared.instruction.Program.{Program}
use Rattle.thread_runs.specs.LocationValues.{ShowsServed}
use Rattle.store_orders.specs.Events.{thread_events, initial_stores, CannotRead}
use Rattle.run_combinations.specs.Parts.{IsPartOf}
use Rattle.store_orders.specs.declared.combination.Event.{Event}
use Rattle.run_combinations.specs.declared.layout.Layout.{Layout}
use Rattle.run_combinations.specs.declared.layout.ThreadParts.{ThreadParts}
use Rattle.run_combinations.specs.declared.part.Part.{Part}

-- the runs of each thread over these values, but for some with a load of what its location never
-- holds
pub record AreServedRuns (p : Program) (values : List Value) (runs : List (Vec Run Global))
    : Type 0 where
  pub count : length runs ≡ vec_len p.threads
  pub each : (t : ℕ) (v : Vec Run Global) → slice_get runs t ≡ Some v
      → ShowsServed p t values v.items

-- parts of some runs of the thread, in their order, from this index on
abbrev pub ArePartsOf : ℕ → List Run → ℕ → List Part → Type 0
ArePartsOf thread runs least [] = Unit {0}
ArePartsOf thread runs least (p ∷ ps) =
    (least ≤ p.run) × ((r : Run) × (slice_get runs p.run ≡ Some r) × IsPartOf thread r p)
    × ArePartsOf thread runs (p.run + 1) ps

abbrev pub AreThreadsOf : ℕ → List (Vec Run Global) → List ThreadParts → Type 0
AreThreadsOf thread [] [] = Unit {0}
AreThreadsOf thread [] (t ∷ ts) = ⊥
AreThreadsOf thread (v ∷ vs) [] = ⊥
AreThreadsOf thread (v ∷ vs) (t ∷ ts) =
    ArePartsOf thread v.items 0 t.parts.items × AreThreadsOf (thread + 1) vs ts

-- a run of each thread, by its index
abbrev pub AreChosen : List (Vec Run Global) → List ℕ → List Run → Type 0
AreChosen [] [] [] = Unit {0}
AreChosen (v ∷ vs) (k ∷ ks) (r ∷ rs) = (slice_get v.items k ≡ Some r) × AreChosen vs ks rs
AreChosen _ _ _ = ⊥

abbrev pub chosen_events : ℕ → List Run → List Event
chosen_events thread [] = []
chosen_events thread (r ∷ rs) = thread_events thread r.events.items ++ chosen_events (thread + 1) rs

-- each of them has a part
abbrev pub HasRun : List Part → ℕ → Type 0
HasRun [] k = ⊥
HasRun (p ∷ ps) k = (p.run ≡ k) ⊎ HasRun ps k

abbrev pub HaveParts : List ThreadParts → List ℕ → Type 0
HaveParts [] [] = Unit {0}
HaveParts [] (k ∷ ks) = ⊥
HaveParts (t ∷ ts) [] = ⊥
HaveParts (t ∷ ts) (k ∷ ks) = HasRun t.parts.items k × HaveParts ts ks

-- the initial stores, and the parts of the runs, of which those are left out that are in no
-- candidate
pub record IsLaidOut (p : Program) (runs : List (Vec Run Global)) (l : Layout) : Type 0 where
  pub locations : l.locations ≡ p.locations
  pub initial : l.initial.items ≡ initial_stores 0 p.initial.items
  pub threads : AreThreadsOf 0 runs l.threads.items
  pub left_out : (ks : List ℕ) (rs : List Run) → AreChosen runs ks rs
      → HaveParts l.threads.items ks ⊎ CannotRead (l.initial.items ++ chosen_events 0 rs)
