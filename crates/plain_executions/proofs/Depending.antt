-- Dependencies hold between instructions of runs alone.
use Rattle.std.proofs.Common.{◌≡◌, ◌↔◌, ◌⊎◌, inl, inr, ℕ, ◌<◌, ◌≤◌, List, [], length, map, Bool, true, false, refl, sym, ap, subst, arith}
use Rattle.std.specs.Prelude.{IsTrue, Option, option_map, slice_get, unwrap_or}
use Rattle.std.proofs.lemmas.List.{length-map}
use Rattle.std.proofs.lemmas.Option.{slice_get_past}
use Rattle.text_values.specs.declared.instruction.Instruction as text
use Rattle.text_values.specs.declared.instruction.Instruction.TheVariants as texts
use Rattle.meaning.specs.Machine.{is_load}
use Rattle.meaning.specs.Runs.{Instance, Run}
use Rattle.meaning.specs.Dependencies.{Instructions, IsAddressRegister, IsStoredRegister, is_event}
use Rattle.meaning.specs.Executions.{Execution, Does, Dependency, instances_of}
use Rattle.plain_runs.specs.declared.run.Run as code
use Rattle.plain_runs.specs.Runs.{run_as}
use Rattle.plain_events.specs.declared.event.Event as events
use Rattle.plain_events.specs.declared.event.Event.TheVariants as found
use Rattle.plain_events.specs.Events.{event_as, of_runs}
use Rattle.plain_executions.specs.Kinds.{dependency_of}
use Rattle.plain_executions.specs.declared.dependent.Kind.{Kind}
use Rattle.plain_executions.specs.declared.dependent.Kind.TheVariants.{Address, Data, Need, Control, ControlIsync}

-- the instructions of a list of instances
abbrev pub At : List Instance → Instructions
At instances index =
    unwrap_or (option_map (λ i. i.instruction) (slice_get instances index)) (texts.Branch [])

past : (instances : List Instance) (k : ℕ) → length instances ≤ k
    → At instances k ≡ texts.Branch []
past instances k le =
    ap (λ (o : Option Instance). unwrap_or (option_map (λ i. i.instruction) o) (texts.Branch []))
    (slice_get_past instances k le)

not_so : IsTrue false → ⊥
not_so is = let h : false ≡ true = is in cc

pub no : {P : Type 0} → (P → ⊥) → IsTrue false ↔ P
no none = ((λ is. absurd (not_so is)), λ is. absurd (none is))

pub yes : {P : Type 0} → P → IsTrue true ↔ P
yes is = ((λ it. is), λ it. refl)

from_load : (kind : Kind) (at : Instructions) (i j : ℕ) → dependency_of kind at i j
    → IsTrue (is_load (at i))
from_load Address at i j is = is.0
from_load Data at i j is = is.0
from_load Need at i j is = is.0
from_load Control at i j is = is.1.3.0
from_load ControlIsync at i j is = is.1.3.1.3.0

to_other : (kind : Kind) (at : Instructions) (i j : ℕ) → dependency_of kind at i j
    → at j ≡ texts.Branch [] → ⊥
to_other Address at i j is e = subst (λ (x : text.Instruction). IsAddressRegister x is.1.0) e is.1.1
to_other Data at i j is e = subst (λ (x : text.Instruction). IsStoredRegister x is.1.0) e is.1.1
to_other Need at i j is e = subst (λ (x : text.Instruction). IsStoredRegister x is.1.0) e is.1.1
to_other Control at i j is e =
    not_so (subst (λ (x : text.Instruction). IsTrue (is_event x)) e is.0)
to_other ControlIsync at i j is e =
    not_so (subst (λ (x : text.Instruction). IsTrue (is_event x)) e is.0)

pub from_within : (kind : Kind) (instances : List Instance) (i j : ℕ)
    → dependency_of kind (At instances) i j → i < length instances
from_within kind instances i j is = elim order [
  | inl lt ↦ lt
  | inr le ↦
      absurd (not_so (subst (λ (x : text.Instruction). IsTrue (is_load x)) (past instances i le) (from_load kind (At instances) i j is)))
]
  where
    order : (i < length instances) ⊎ (length instances ≤ i)
    order = grind arith

pub to_within : (kind : Kind) (instances : List Instance) (i j : ℕ)
    → dependency_of kind (At instances) i j → j < length instances
to_within kind instances i j is = elim order [
  | inl lt ↦ lt
  | inr le ↦ absurd (to_other kind (At instances) i j is (past instances j le))
]
  where
    order : (j < length instances) ⊎ (length instances ≤ j)
    order = grind arith

pub no_thread : (kind : Kind) (rs : List code.Run) (thread i j : ℕ) → length rs ≤ thread
    → dependency_of kind (At (instances_of (of_runs (map run_as rs)) thread)) i j → ⊥
no_thread kind rs thread i j le is =
    let none : i < length (instances_of (of_runs (map run_as rs)) thread) =
    from_within kind (instances_of (of_runs (map run_as rs)) thread) i j is in
    let e : length (instances_of (of_runs (map run_as rs)) thread) ≡ 0 = ap (λ (l : List Instance). length l) empty in
    omega (arith, none, e)
  where
    empty : instances_of (of_runs (map run_as rs)) thread ≡ []
    empty =
        ap (λ (o : Option Run). unwrap_or (option_map (λ r. r.instances) o) [])
        (slice_get_past (map run_as rs) thread
        (let e : length (map run_as rs) ≡ length rs = length-map rs run_as in omega (arith, e, le)))

-- an answer of events, where the code has them
pub dependent_as : (kind : Kind) (x : Execution) (first second : events.Event) (u i v j : ℕ) (b : Bool)
    → first ≡ found.Does u i → second ≡ found.Does v j
    → IsTrue b ↔ Dependency (dependency_of kind) x (Does u i) (Does v j)
    → IsTrue b ↔ Dependency (dependency_of kind) x (event_as first) (event_as second)
dependent_as kind x first second u i v j b e also is =
    subst
    (λ (a : events.Event). IsTrue b ↔ Dependency (dependency_of kind) x (event_as a) (event_as second))
    (sym e)
    (subst
    (λ (a : events.Event). IsTrue b ↔ Dependency (dependency_of kind) x (Does u i) (event_as a))
    (sym also) is)

pub depends_at : (b : Bool) (u v : ℕ) (D : Type 0) → u ≡ v → IsTrue b ↔ D → IsTrue b ↔ ((u ≡ v) × D)
depends_at b u v D e is = ((λ yes. (e, is.0 yes)), λ both. is.1 both.1)
