-- Runs of threads as parts of candidates, and which of them are left out.
use Rattle.std.specs.Prelude.{Vec, ℕ, ◌≡◌, ◌<◌, ◌≤◌, ◌+◌, ◌⊎◌, List, [], ◌∷◌, length, Some, slice_get}
use Rattle.std.specs.List.{AllZip}
use Rattle.std.specs.declared.alloc.Global.{Global}
use Rattle.thread_runs.specs.declared.value.Value.{Value}
use Rattle.thread_runs.specs.declared.run.Run.{Run}
use Rattle.thread_runs.specs.Runs.{executed}
use Rattle.taints.specs.Chains.{event_index}
use Rattle.dataflow.specs.Dependencies.{AreLinks}
use Rattle.store_orders.specs.Events.{thread_events}
use Rattle.run_combinations.specs.Keys.{HasKey, AreKeysIn, AreKeys, bit_of}
use Rattle.run_combinations.specs.declared.keys.KeySet.{KeySet}
use Rattle.run_combinations.specs.declared.layout.ThreadParts.{ThreadParts}
use Rattle.run_combinations.specs.declared.part.Part.{Part}
use Rattle.run_combinations.specs.declared.part.Sketch.{Sketch}

-- the sets are those of the run that the sketch names
abbrev pub IsSketch : List Value → List Run → Sketch → Type 0
IsSketch values runs s =
    (r : Run) × (slice_get runs s.run ≡ Some r)
    × ((thread : ℕ)
    → AreKeys (bit_of values) (thread_events thread r.events.items) s.loads s.stores)

-- a sketch of each run, in order
pub record AreSketches (values : List Value) (runs : List Run) (ss : List Sketch) : Type 0 where
  pub whole : length ss ≡ length runs
  pub each : (k : ℕ) (s : Sketch) → slice_get ss k ≡ Some s → (s.run ≡ k) × IsSketch values runs s

-- the set has what the runs store
abbrev pub HasStoresOf : KeySet → List Sketch → Type 0
HasStoresOf set [] = Unit {0}
HasStoresOf set (s ∷ ss) = AreKeysIn s.stores set × HasStoresOf set ss

abbrev pub HasStoresOfAll : KeySet → List (Vec Sketch Global) → Type 0
HasStoresOfAll set [] = Unit {0}
HasStoresOfAll set (v ∷ vs) = HasStoresOf set v.items × HasStoresOfAll set vs

-- the second list has those of the first that stay: each other one reads what is not stored
pub data AreSketchesKept (stored : KeySet) : List Sketch → List Sketch → Type 0 where
  none : AreSketchesKept stored [] []
  kept : {s : Sketch} {ss ts : List Sketch} → AreSketchesKept stored ss ts
      → AreSketchesKept stored (s ∷ ss) (s ∷ ts)
  left : {s : Sketch} {ss ts : List Sketch} (a b : ℕ) → HasKey s.loads a b → (HasKey stored a b → ⊥)
      → AreSketchesKept stored ss ts → AreSketchesKept stored (s ∷ ss) ts

-- the second list has some of the first, in order
pub data AreSome {X : Type 0} : List X → List X → Type 0 where
  end : AreSome [] []
  kept_one : {x : X} {xs ys : List X} → AreSome xs ys → AreSome (x ∷ xs) (x ∷ ys)
  left_out : {x : X} {xs ys : List X} → AreSome xs ys → AreSome (x ∷ xs) ys

-- one of each list
abbrev pub Among : List Sketch → Sketch → Type 0
Among [] s = ⊥
Among (t ∷ ts) s = (t ≡ s) ⊎ Among ts s

abbrev pub IsChoice : List (Vec Sketch Global) → List Sketch → Type 0
IsChoice [] [] = Unit {0}
IsChoice [] (s ∷ ss) = ⊥
IsChoice (v ∷ vs) [] = ⊥
IsChoice (v ∷ vs) (s ∷ ss) = Among v.items s × IsChoice vs ss

-- some of these runs reads the bit, or stores it
abbrev pub HasLoadKey : List Sketch → ℕ → ℕ → Type 0
HasLoadKey [] a b = ⊥
HasLoadKey (s ∷ ss) a b = HasKey s.loads a b ⊎ HasLoadKey ss a b

abbrev pub HasStoreKey : List Sketch → ℕ → ℕ → Type 0
HasStoreKey [] a b = ⊥
HasStoreKey (s ∷ ss) a b = HasKey s.stores a b ⊎ HasStoreKey ss a b

-- some of them reads what neither an initial store nor one of them stores
abbrev pub IsUnread : KeySet → List Sketch → Type 0
IsUnread initial cs =
    (a b : ℕ) × HasLoadKey cs a b × (HasKey initial a b → ⊥) × (HasStoreKey cs a b → ⊥)

-- the runs of each thread that stay: a combination with one that does not has a load that reads
-- what is not stored
pub record IsSifted (initial : KeySet) (old new : List (Vec Sketch Global)) : Type 0 where
  pub some : AllZip (λ v w. AreSome v.items w.items) old new
  pub choices : (cs : List Sketch) → IsChoice old cs → IsChoice new cs ⊎ IsUnread initial cs

-- the part is made of the run
pub record IsPartOf (thread : ℕ) (r : Run) (p : Part) : Type 0 where
  pub events : p.events.items ≡ thread_events thread r.events.items
  pub links : event_index (executed r.steps.items) (length r.steps.items) ≤ 128
      → AreLinks (executed r.steps.items) p.links
  pub registers : p.registers ≡ r.registers
  pub faulted : p.is_faulted ≡ r.faulted

-- the part is made of the run that the sketch names
abbrev pub IsMade : ℕ → List Run → Sketch → Part → Type 0
IsMade thread runs s p =
    (p.run ≡ s.run) × (p.loads ≡ s.loads) × (p.stores ≡ s.stores) × (r : Run)
    × (slice_get runs s.run ≡ Some r) × IsPartOf thread r p

-- the sketches name runs of the thread
abbrev pub AreBelow : ℕ → List Sketch → Type 0
AreBelow n [] = Unit {0}
AreBelow n (s ∷ ss) = (s.run < n) × AreBelow n ss

abbrev pub NamesRuns : Vec Run Global → Vec Sketch Global → Type 0
NamesRuns runs sketches = AreBelow (length runs.items) sketches.items

-- the parts of each thread, from this one on
abbrev pub AreThreadParts : ℕ → List (Vec Run Global) → List (Vec Sketch Global) → List ThreadParts
    → Type 0
AreThreadParts thread [] [] [] = Unit {0}
AreThreadParts thread (r ∷ rs) (s ∷ ss) (t ∷ ts) =
    HasStoresOf t.stores s.items × AllZip (IsMade thread r.items) s.items t.parts.items
    × AreThreadParts (thread + 1) rs ss ts
AreThreadParts thread _ _ _ = ⊥

-- the parts of each thread, of those of its runs that stay
pub record AreSiftedParts (values : List Value) (initial : KeySet) (runs : List (Vec Run Global))
    (threads : List ThreadParts) : Type 0 where
  pub all : List (Vec Sketch Global)
  pub left : List (Vec Sketch Global)
  pub sketched : AllZip (λ r s. AreSketches values r.items s.items) runs all
  pub sifted : IsSifted initial all left
  pub made : AreThreadParts 0 runs left threads
