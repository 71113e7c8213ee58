-- The number of an event is its index among the events by name, and each event has one number.
use Rattle.std.proofs.Common.{ℕ, zero, suc, ◌≡◌, ◌<◌, ◌≤◌, ◌+◌, inl, inr, Bool, true, false, List, [], ◌∷◌, ◌++◌, map, take, length, get_or, All, Contains, Option, Some, None, option_map, slice_get, if◌then◌else◌, bytes_eq, refl, sym, ap, ap₂, subst, ◌∙◌, arith, true≢false, eqb-true, eq-eqb, length-append}
use Rattle.std.proofs.lemmas.Option.{same_Some, slice_get_within, get_or_from_slice_get, slice_get-map}
use Rattle.text_values.specs.declared.instruction.Instruction as text
use Rattle.text_values.specs.declared.instruction.Instruction.TheVariants as does
use Rattle.text_values.specs.TestValue.{Content}
use Rattle.thread_runs.specs.declared.value.Value as numbered_value
use Rattle.thread_runs.specs.declared.instruction.Instruction as numbered_instruction
use Rattle.thread_runs.specs.declared.instruction.RunStep.{RunStep}
use Rattle.thread_runs.specs.declared.instruction.Event as run_events
use Rattle.thread_runs.specs.Runs as by_number
use Rattle.thread_runs.specs.Runs.{executed}
use Rattle.ppc_lowering.specs.Lowering.{lowered_instruction}
use Rattle.taints.specs.Chains as chains
use Rattle.taints.specs.Chains.{event_index}
use Rattle.store_orders.specs.Events.{thread_events, initial_stores}
use Rattle.candidates.specs.Executions as candidates
use Rattle.candidates.specs.Executions.{event_number}
use Rattle.candidates.proofs.Elements.{in_first, behind_first}
use Rattle.meaning.specs.Names.{Name, locations}
use Rattle.meaning.specs.Runs.{Instance, Run}
use Rattle.meaning.specs.Dependencies.{is_event}
use Rattle.meaning.specs.Executions.{Event, Initial, Does, Execution}
use Rattle.meaning_executions.specs.Runs as runs
use Rattle.meaning_executions.specs.Runs.{AreSameSteps}
use Rattle.meaning_executions.proofs.Located.{rises}
use Rattle.meaning_executions.proofs.Machines.{apart}
use Rattle.meaning_executions.specs.Events.{events_from, events_in, named_events, IsNumbered, IsSameEvent}
use Rattle.meaning_executions.specs.ThreadRuns as same
use Rattle.meaning_executions.specs.ThreadRuns.{AreSameThreadRuns}
use Rattle.meaning_executions.proofs.Lists.{as_long, which_part, StandsOnce, none_twice, one_more_once, both_once}
use Rattle.meaning_executions.proofs.Taking.{IsSound}
use Rattle.meaning_executions.proofs.Alike.{Alike, pointwise, run_alike}

-- ---- The index of an event

-- the index of an event, from the first instruction on
shifted : (at : ℕ → numbered_instruction.Instruction) (n : ℕ)
    → event_index at (suc n)
    ≡ (if chains.is_event (at 0) then 1 else 0) + event_index (λ k. at (suc k)) n
shifted at zero = go (chains.is_event (at 0))
  where
    go : (b : Bool) → (if b then 0 + 1 else 0) ≡ (if b then 1 else 0) + 0
    go true = refl
    go false = refl
shifted at (suc n) = go (chains.is_event (at (suc n))) (if chains.is_event (at 0) then 1 else 0) (event_index at (suc n)) (event_index (λ k. at (suc k)) n) (shifted at n)
  where
    go : (b : Bool) (c i j : ℕ) → i ≡ c + j → (if b then i + 1 else i) ≡ c + (if b then j + 1 else j)
    go true c i j h = omega (arith, h)
    go false c i j h = h

pub same_event : (labels : List Name) (i : text.Instruction)
    → chains.is_event (lowered_instruction labels i) ≡ is_event i
same_event labels (does.LoadImmediate d n) = refl
same_event labels (does.Move d a) = refl
same_event labels (does.AddImmediate d a n) = refl
same_event labels (does.Compute o d a b) = refl
same_event labels (does.Load d a) = refl
same_event labels (does.LoadIndexed d a b) = refl
same_event labels (does.Store d a) = refl
same_event labels (does.StoreIndexed d a b) = refl
same_event labels (does.Compare a b) = refl
same_event labels (does.CompareImmediate a n) = refl
same_event labels (does.BranchIf c l) = refl
same_event labels (does.Branch l) = refl
same_event labels (does.Fence f) = refl

first_there : (b : Bool) → b ≡ true → (d e : Event) (es : List Event) → d ≡ e
    → slice_get (if b then d ∷ es else es) 0 ≡ Some e
first_there true is d e es at = ap (λ (f : Event). Some f) at
first_there false is d e es at = absurd (true≢false (sym is))

later_there : (b : Bool) (d e : Event) (es : List Event) (j k : ℕ) → k ≡ (if b then 1 else 0) + j
    → slice_get es j ≡ Some e → slice_get (if b then d ∷ es else es) k ≡ Some e
later_there true d e es j k at h =
    let next : suc j ≡ k = omega (arith, at) in
    subst (λ (i : ℕ). slice_get (d ∷ es) i ≡ Some e) next h
later_there false d e es j k at h =
    let next : j ≡ k = omega (arith, at) in subst (λ (i : ℕ). slice_get es i ≡ Some e) next h

-- an event of a thread stands at its index among the events of its run
place_in_run : (names labels : List Name) {steps : List RunStep} {events : List run_events.Event}
    {is : List Instance} → AreSameSteps names labels steps events is → (thread index n : ℕ)
    → chains.is_event (executed steps n) ≡ true
    → slice_get (events_from thread index is) (event_index (executed steps) n)
    ≡ Some (Does thread (index + n))
place_in_run names labels runs.none thread index n event = absurd (true≢false (sym event))
place_in_run names labels (runs.more {s = s} {i = i} {instances = is} instruction loaded does rest) thread index zero event =
    let at : index ≡ index + 0 = omega arith in
    first_there (is_event i.instruction)
    (sym (ap chains.is_event instruction ∙ same_event labels i.instruction) ∙ event)
    (Does thread index) (Does thread (index + 0)) (events_from thread (suc index) is)
    (ap (λ (k : ℕ). Does thread k) at)
place_in_run names labels (runs.more {s = s} {steps = steps} {i = i} {instances = is} instruction loaded does rest) thread index (suc n) event =
    let at : suc index + n ≡ index + suc n = omega arith in
    later_there (is_event i.instruction) (Does thread index) (Does thread (index + suc n))
    (events_from thread (suc index) is) (event_index (executed steps) n)
    (event_index (executed (s ∷ steps)) (suc n))
    (shifted (executed (s ∷ steps)) n
    ∙ ap (λ (b : Bool). (if b then 1 else 0) + event_index (executed steps) n)
    (ap chains.is_event instruction ∙ same_event labels i.instruction))
    (place_in_run names labels rest thread (suc index) n event
    ∙ ap (λ (k : ℕ). Some (Does thread k)) at)

module _ (t : Content) (x : Execution)
    (sound : (q : Run) → Contains x.runs q → All IsSound q.instances) where
  place : (thread : ℕ) {rs : List by_number.Run} {qs : List Run} → AreSameThreadRuns t thread rs qs
      → ((j k : ℕ) → j ≡ thread + k → slice_get x.runs j ≡ slice_get qs k) → (k : ℕ)
      (r : by_number.Run) → slice_get rs k ≡ Some r → (step : ℕ)
      → chains.is_event (executed r.outcome.walk.steps step) ≡ true
      → slice_get (events_in thread qs)
      (length (candidates.events_from thread (take k rs))
      + event_index (executed r.outcome.walk.steps) step)
      ≡ Some (Does (thread + k) step)
  place thread same.none there k r at step event = absurd cc
  place thread (same.more {r = s} {q = q} {rs = rs} {qs = qs} one rest) there zero r at step event =
      let is : s ≡ r = same_Some _ _ at in
      let own : AreSameSteps (locations t) one.labels r.outcome.walk.steps r.outcome.walk.events q.instances =
      subst (λ (u : by_number.Run). AreSameSteps (locations t) one.labels u.outcome.walk.steps u.outcome.walk.events q.instances) is one.same.steps in
      let number : event_index (executed r.outcome.walk.steps) step
      ≡ 0 + event_index (executed r.outcome.walk.steps) step = omega arith in
      let of : Does thread (0 + step) ≡ Does (thread + 0) step =
      ap₂ (λ (u i : ℕ). Does u i) (omega arith) (omega arith) in
      in_first (events_from thread 0 q.instances) (events_in (suc thread) qs)
      (0 + event_index (executed r.outcome.walk.steps) step) (Does (thread + 0) step)
      (subst (λ (i : ℕ). slice_get (events_from thread 0 q.instances) i ≡ Some (Does (thread + 0) step))
      number
      (place_in_run (locations t) one.labels own thread 0 step event
      ∙ ap (λ (e : Event). Some e) of))
  place thread (same.more {r = s} {q = q} {rs = rs} {qs = qs} one rest) there (suc k) r at step event =
      let here : List Event = events_from thread 0 q.instances in
      let index : ℕ = event_index (executed r.outcome.walk.steps) step in
      let next : thread + 1 ≡ suc thread = omega arith in
      let long : length (thread_events thread s.outcome.walk.events) ≡ length here =
      as_long (IsSameEvent t x) (thread_events thread s.outcome.walk.events) here
      (pointwise (run_alike t x sound thread s q one (there thread 0 (omega arith)))) in
      let later : length (candidates.events_from (thread + 1) (take k rs))
      ≡ length (candidates.events_from (suc thread) (take k rs)) =
      ap (λ (n : ℕ). length (candidates.events_from n (take k rs))) next in
      let parts : _ = length-append (thread_events thread s.outcome.walk.events)
      (candidates.events_from (thread + 1) (take k rs)) in
      let number : length (candidates.events_from thread (s ∷ take k rs)) + index
      ≡ length here + (length (candidates.events_from (suc thread) (take k rs)) + index) =
      omega (arith, long, later, parts) in
      let of : suc thread + k ≡ thread + suc k = omega arith in
      ap (λ (n : ℕ). slice_get (here ++ events_in (suc thread) qs) n) number
      ∙ behind_first here (events_in (suc thread) qs)
      (length (candidates.events_from (suc thread) (take k rs)) + index)
      ∙ place (suc thread) rest (λ i j h. there i (suc j) (omega (arith, h))) k r at step event
      ∙ ap (λ (n : ℕ). Some (Does n step)) of

  -- the number of an instruction that is an event
  pub number_is : (initial : List numbered_value.Value) (rs : List by_number.Run)
      → AreSameThreadRuns t 0 rs x.runs
      → Alike t x (initial_stores 0 initial) (map Initial (locations t)) [] → (thread : ℕ)
      (r : by_number.Run) → slice_get rs thread ≡ Some r → (step : ℕ)
      → chains.is_event (executed r.outcome.walk.steps step) ≡ true
      → IsNumbered (named_events t x.runs) (event_number initial rs thread r step)
      (Does thread step)
  number_is initial rs are first thread r at step event =
      let firsts : List Event = map Initial (locations t) in
      let index : ℕ = event_index (executed r.outcome.walk.steps) step in
      let long : length (initial_stores 0 initial) ≡ length firsts =
      as_long (IsSameEvent t x) (initial_stores 0 initial) firsts (pointwise first) in
      let parts : _ = length-append (initial_stores 0 initial)
      (candidates.events_from 0 (take thread rs)) in
      let number : event_number initial rs thread r step
      ≡ length firsts + (length (candidates.events_from 0 (take thread rs)) + index) =
      omega (arith, long, parts) in
      let of : 0 + thread ≡ thread = omega arith in
      ap (λ (n : ℕ). slice_get (firsts ++ events_in 0 x.runs) n) number
      ∙ behind_first firsts (events_in 0 x.runs)
      (length (candidates.events_from 0 (take thread rs)) + index)
      ∙ place 0 are (λ j k e. ap (λ (n : ℕ). slice_get x.runs n) (omega (arith, e))) thread r at step event
      ∙ ap (λ (n : ℕ). Some (Does n step)) of

-- ---- One number

mapped : {X Y : Type 0} (f : X → Y) (o : Option X) (y : Y) → option_map f o ≡ Some y
    → (x : X) × (o ≡ Some x) × (f x ≡ y)
mapped f None y e = absurd cc
mapped f (Some x) y e = (x, refl, same_Some _ _ e)

pub names_once : (t : Content) → StandsOnce (locations t)
names_once t m n l at there =
    let below : m < length (locations t) = slice_get_within (locations t) m l at in
    let under : n < length (locations t) = slice_get_within (locations t) n l there in
    let first : get_or (locations t) m [] ≡ l = get_or_from_slice_get (locations t) m l [] at in
    let second : get_or (locations t) n [] ≡ l = get_or_from_slice_get (locations t) n l [] there in
    eqb-true m n
    (sym (apart (locations t) (rises t) m n below under)
    ∙ ap (λ (k : Name). bytes_eq (get_or (locations t) m []) k) (second ∙ sym first)
    ∙ apart (locations t) (rises t) m m below below ∙ eq-eqb m m refl)

same_location : {l m : Name} → Initial l ≡ Initial m → l ≡ m
same_location e = cc

same_index : {u v i j : ℕ} → Does u i ≡ Does v j → i ≡ j
same_index e = cc

same_thread : {u v i j : ℕ} → Does u i ≡ Does v j → u ≡ v
same_thread e = cc

initial_once : (t : Content) → StandsOnce (map Initial (locations t))
initial_once t m n e at there =
    let first : _ = mapped Initial (slice_get (locations t) m) e
    (sym (slice_get-map Initial (locations t) m) ∙ at) in
    let second : _ = mapped Initial (slice_get (locations t) n) e
    (sym (slice_get-map Initial (locations t) n) ∙ there) in
    names_once t m n first.0 first.1
    (second.1 ∙ ap (λ (l : Name). Some l) (same_location (second.2 ∙ sym first.2)))

of_thread : (thread index : ℕ) (is : List Instance) (k : ℕ) (e : Event)
    → slice_get (events_from thread index is) k ≡ Some e
    → (j : ℕ) × (index ≤ j) × (Does thread j ≡ e)
of_thread thread index [] k e h = absurd cc
of_thread thread index (i ∷ is) k e h =
    go (is_event i.instruction) k h (λ n at. of_thread thread (suc index) is n e at)
  where
    go : (b : Bool) (n : ℕ)
        → slice_get (if b then Does thread index ∷ events_from thread (suc index) is else events_from thread (suc index) is) n ≡ Some e
        → ((m : ℕ) → slice_get (events_from thread (suc index) is) m ≡ Some e
        → (j : ℕ) × (suc index ≤ j) × (Does thread j ≡ e))
        → (j : ℕ) × (index ≤ j) × (Does thread j ≡ e)
    go true zero at rest = (index, omega arith, same_Some _ _ at)
    go true (suc n) at rest = let found : _ = rest n at in (found.0, omega (arith, found.1), found.2)
    go false n at rest = let found : _ = rest n at in (found.0, omega (arith, found.1), found.2)

run_once : (thread index : ℕ) (is : List Instance) → StandsOnce (events_from thread index is)
run_once thread index [] = none_twice
run_once thread index (i ∷ is) = go (is_event i.instruction) (run_once thread (suc index) is)
  where
    go : (b : Bool) → StandsOnce (events_from thread (suc index) is)
        → StandsOnce (if b then Does thread index ∷ events_from thread (suc index) is else events_from thread (suc index) is)
    go true rest =
        one_more_once (Does thread index) (events_from thread (suc index) is)
        (λ k at.
        let found : _ = of_thread thread (suc index) is k (Does thread index) at in
        let is : found.0 ≡ index = same_index found.2 in omega (arith, found.1, is))
        rest
    go false rest = rest

of_threads : (thread : ℕ) (qs : List Run) (k : ℕ) (e : Event)
    → slice_get (events_in thread qs) k ≡ Some e
    → (u : ℕ) × (j : ℕ) × (thread ≤ u) × (Does u j ≡ e)
of_threads thread [] k e h = absurd cc
of_threads thread (q ∷ qs) k e h =
    elim (which_part (events_from thread 0 q.instances) (events_in (suc thread) qs) k e h) [
      | inl at ↦
          let found : _ = of_thread thread 0 q.instances k e at in
          (thread, found.0, omega arith, found.2)
      | inr (n, here, at) ↦
          let found : _ = of_threads (suc thread) qs n e at in
          (found.0, found.1, omega (arith, found.2), found.3)
    ]

runs_once : (thread : ℕ) (qs : List Run) → StandsOnce (events_in thread qs)
runs_once thread [] = none_twice
runs_once thread (q ∷ qs) =
    both_once (events_from thread 0 q.instances) (events_in (suc thread) qs)
    (run_once thread 0 q.instances) (runs_once (suc thread) qs)
    (λ j k e at there.
    let first : _ = of_thread thread 0 q.instances j e at in
    let second : _ = of_threads (suc thread) qs k e there in
    let is : second.0 ≡ thread = same_thread (second.3 ∙ sym first.2) in
    omega (arith, second.2, is))

-- no event has two numbers
pub named_once : (t : Content) (qs : List Run) → StandsOnce (named_events t qs)
named_once t qs =
    both_once (map Initial (locations t)) (events_in 0 qs) (initial_once t) (runs_once 0 qs)
    (λ j k e at there.
    let first : _ = mapped Initial (slice_get (locations t) j) e
    (sym (slice_get-map Initial (locations t) j) ∙ at) in
    let second : _ = of_threads 0 qs k e there in
    let never : Initial first.0 ≡ Does second.0 second.1 = first.2 ∙ sym second.3 in cc)
