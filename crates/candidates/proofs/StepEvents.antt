-- What stands at the event place of a step of a run: a load where the step is a load, a store where
-- it is a store.
use Rattle.std.proofs.Common.{ℕ, zero, suc, ◌≡◌, ◌<◌, ◌≤◌, ◌+◌, Bool, true, false, cond, not, List, [], ◌∷◌, ◌++◌, length, Some, None, slice_get, refl, ap, sym, subst, ◌∙◌, inl, inr, arith}
use Rattle.std.proofs.lemmas.Bool.{cases_eq, cases_lt}
use Rattle.std.proofs.lemmas.List.{length-append, get_or_append_left, get_or_at, get_or_past}
use Rattle.std.proofs.lemmas.List.Concat.{flat_map-append}
use Rattle.std.proofs.lemmas.Option.{same_Some}
use Rattle.thread_runs.specs.declared.value.Value.{Value}
use Rattle.thread_runs.specs.declared.value.Value.TheVariants.{Number, Address, NoValue}
use Rattle.thread_runs.specs.declared.instruction.Event as run
use Rattle.thread_runs.specs.declared.instruction.Event.TheVariants as run_event
use Rattle.thread_runs.specs.declared.instruction.Instruction.{Instruction}
use Rattle.thread_runs.specs.declared.instruction.Instruction.TheVariants.{Immediate, Move, AddImmediate, Operate, Load, LoadIndexed, Store, StoreIndexed, Compare, CompareImmediate, Branch, Jump, Fence as FenceInstruction}
use Rattle.thread_runs.specs.declared.instruction.Line.{Line}
use Rattle.thread_runs.specs.declared.instruction.RunStep.{RunStep}
use Rattle.thread_runs.specs.declared.state.State.{State}
use Rattle.thread_runs.specs.Machine.{register, sum_of, is_load as loads, is_fault, is_address, event_of}
use Rattle.thread_runs.specs.Runs.{Walk, RunOutcome, walk_at, walk_after, run_of, executed, no_step}
use Rattle.taints.specs.Chains.{Executed, event_index, is_event}
use Rattle.candidates.proofs.Elements.{behind_first, in_first}
use Rattle.candidates.proofs.Places.{along, Placed, placed_more, places_same}
use Rattle.candidates.proofs.Whole.{AreLocated, located_both, event_located, located_all}
use Rattle.text_values.specs.declared.instruction.Fence.{Fence}
use Rattle.store_orders.specs.Events.{thread_events, with_action, action_in, is_store_instruction, fence_of_instruction, IsKind}
use Rattle.store_orders.specs.declared.combination.Action.TheVariants.{Fence as FenceAction}
use Rattle.store_orders.specs.declared.combination.Event.{Event}

-- the events of an instruction that is one
pub record Alone (t : ℕ) (i : Instruction) (es : List run.Event) : Type 0 where
  pub event : Event
  pub alone : thread_events t es ≡ event ∷ []
  pub kind : IsKind t i event

no_fence : {f : Fence} → Some f ≡ None → ⊥
no_fence e = cc

read_alone : (t : ℕ) (i : Instruction) (x v : Value) → is_store_instruction i ≡ false → fence_of_instruction i ≡ None
    → not (is_address x) ≡ false → Alone t i (run_event.Load x v ∷ [])
read_alone t i (Number n) v never unfenced h = absurd cc
read_alone t i (Address l) v never unfenced h =
    record {
      event = _;
      alone = refl;
      kind =
          record {
            of_thread = refl;
            loads = λ e. refl;
            stores = λ e. absurd (true_false (sym e ∙ never));
            fences = λ f e. absurd (no_fence (sym e ∙ unfenced));
          };
    }
  where
    true_false : true ≡ false → ⊥
    true_false h = cc
read_alone t i NoValue v never unfenced h = absurd cc

write_alone : (t : ℕ) (i : Instruction) (x v : Value) → loads i ≡ false → fence_of_instruction i ≡ None
    → not (is_address x) ≡ false → Alone t i (run_event.Store x v ∷ [])
write_alone t i (Number n) v never unfenced h = absurd cc
write_alone t i (Address l) v never unfenced h =
    record {
      event = _;
      alone = refl;
      kind =
          record {
            of_thread = refl;
            loads = λ e. absurd (true_false (sym e ∙ never));
            stores = λ e. refl;
            fences = λ f e. absurd (no_fence (sym e ∙ unfenced));
          };
    }
  where
    true_false : true ≡ false → ⊥
    true_false h = cc
write_alone t i NoValue v never unfenced h = absurd cc

alone : (t : ℕ) (i : Instruction) (v : Value) (s : State) → is_fault i s ≡ false → is_event i ≡ true
    → Alone t i (event_of i v s)
alone t (Immediate d n) v s h e = absurd cc
alone t (Move d a) v s h e = absurd cc
alone t (AddImmediate d a n) v s h e = absurd cc
alone t (Operate o d a b) v s h e = absurd cc
alone t (Load d a) v s h e = read_alone t (Load d a) (register s a) v refl refl h
alone t (LoadIndexed d a b) v s h e =
    read_alone t (LoadIndexed d a b) (sum_of (register s a) (register s b)) v refl refl h
alone t (Store d a) v s h e = write_alone t (Store d a) (register s a) (register s d) refl refl h
alone t (StoreIndexed d a b) v s h e =
    write_alone t (StoreIndexed d a b) (sum_of (register s a) (register s b)) (register s d) refl
    refl h
alone t (Compare a b) v s h e = absurd cc
alone t (CompareImmediate a n) v s h e = absurd cc
alone t (Branch c l) v s h e = absurd cc
alone t (Jump l) v s h e = absurd cc
alone t (FenceInstruction f) v s h e =
    record {
      event = _;
      alone = refl;
      kind =
          record {
            of_thread = refl;
            loads = λ e. absurd cc;
            stores = λ e. absurd cc;
            fences = λ g e. ap (λ (x : Fence). FenceAction x) (same_Some _ _ e);
          };
    }

-- at the place of each step that is an event stands its event
pub record Stands (t : ℕ) (steps : List RunStep) (es : List run.Event) (n : ℕ) : Type 0 where
  pub event : Event
  pub there : slice_get (thread_events t es) (event_index (executed steps) n) ≡ Some event
  pub kind : IsKind t (executed steps n) event

record Stand (t : ℕ) (w : Walk) : Type 0 where
  placed : Placed w
  located : AreLocated w.events
  each : (n : ℕ) → n < length w.steps → is_event (executed w.steps n) ≡ true
      → Stands t w.steps w.events n

module _ (t : ℕ) (i : Instruction) (b : Bool) (v : Value) (w : Walk)
    (sound : is_fault i w.state ≡ false) (h : Stand t w) where
  abbrev one : RunStep
  one = record { instruction = i; loaded = v }

  long : length (w.steps ++ one ∷ []) ≡ suc (length w.steps)
  long = omega (arith, length-append w.steps (one ∷ []))

  earlier : (k : ℕ) → k < length w.steps → executed (w.steps ++ one ∷ []) k ≡ executed w.steps k
  earlier k lt =
      ap (λ (s : RunStep). s.instruction) (get_or_append_left w.steps (one ∷ []) no_step k lt)

  last : executed (w.steps ++ one ∷ []) (length w.steps) ≡ i
  last =
      ap (λ (s : RunStep). s.instruction) (get_or_at w.steps one [] no_step (length w.steps) refl)

  place : (n : ℕ) → n ≤ length w.steps
      → event_index (executed (w.steps ++ one ∷ [])) n ≡ event_index (executed w.steps) n
  place n le =
      places_same (executed (w.steps ++ one ∷ [])) (executed w.steps) n
      (λ k lt. earlier k (omega (arith, lt, le)))

  events : thread_events t (w.events ++ event_of i v w.state)
      ≡ thread_events t w.events ++ thread_events t (event_of i v w.state)
  events = flat_map-append (λ e. with_action t (action_in e)) w.events (event_of i v w.state)

  new_stands : is_event i ≡ true
      → Stands t (w.steps ++ one ∷ []) (w.events ++ event_of i v w.state) (length w.steps)
  new_stands is =
      let a : Alone t i (event_of i v w.state) = alone t i v w.state sound is in
      let z : length (thread_events t w.events) ≡ length (thread_events t w.events) + 0 = omega arith in
      record {
        event = a.event;
        there =
            ap (λ (k : ℕ). slice_get (thread_events t (w.events ++ event_of i v w.state)) k)
            (place (length w.steps) (omega arith) ∙ h.placed
            ∙ sym (located_all t w.events h.located) ∙ z)
            ∙ ap (λ (l : List Event). slice_get l (length (thread_events t w.events) + 0)) events
            ∙ behind_first (thread_events t w.events) (thread_events t (event_of i v w.state)) 0
            ∙ ap (λ (l : List Event). slice_get l 0) a.alone;
        kind = subst (λ (j : Instruction). IsKind t j a.event) (sym last) a.kind;
      }

  old_stands : (n : ℕ) → n < length w.steps → Stands t w.steps w.events n
      → Stands t (w.steps ++ one ∷ []) (w.events ++ event_of i v w.state) n
  old_stands n lt s = record {
    event = s.event;
    there =
        ap (λ (k : ℕ). slice_get (thread_events t (w.events ++ event_of i v w.state)) k)
        (place n (omega (arith, lt)))
        ∙ ap (λ (l : List Event). slice_get l (event_index (executed w.steps) n)) events
        ∙ in_first (thread_events t w.events) (thread_events t (event_of i v w.state))
        (event_index (executed w.steps) n) s.event s.there;
    kind = subst (λ (j : Instruction). IsKind t j s.event) (sym (earlier n lt)) s.kind;
  }

  stand_more : Stand t (walk_after i b v w)
  stand_more = record {
    placed = placed_more i b v w h.placed;
    located =
        located_both w.events (event_of i v w.state) h.located (event_located i v w.state sound);
    each = λ n lt is. elim (cases_eq n (length w.steps)) [
      | inl same ↦ subst
          (λ (k : ℕ). Stands t (w.steps ++ one ∷ []) (w.events ++ event_of i v w.state) k)
          (sym same) (new_stands (sym (ap is_event last)
          ∙ ap (λ (k : ℕ). is_event (executed (w.steps ++ one ∷ []) k)) (sym same) ∙ is))
      | inr other ↦
          let less : n < length w.steps = omega (arith, lt, other, long) in
          old_stands n less (h.each n less (sym (ap is_event (earlier n less)) ∙ is))
    ];
  }

-- past the end of a run nothing is an event
pub in_run : (steps : List RunStep) (n : ℕ) → is_event (executed steps n) ≡ true → n < length steps
in_run steps n is = elim (cases_lt n (length steps)) [
  | inl lt ↦ lt
  | inr ge ↦ absurd (no (sym (ap (λ (s : RunStep). is_event s.instruction)
      (get_or_past steps n no_step ge)) ∙ is))
]
  where
    no : false ≡ true → ⊥
    no e = cc

pub events_stand : (t : ℕ) (lines : List Line) (s : State) (vs : List Value) (o : RunOutcome)
    → run_of lines s vs ≡ Some o → (n : ℕ) → is_event (executed o.walk.steps n) ≡ true
    → Stands t o.walk.steps o.walk.events n
events_stand t lines s vs o e n is =
    (along (Stand t) (λ i b v w sound h. stand_more t i b v w sound h)
    (λ x l w h. record { placed = h.placed; located = h.located; each = h.each }) lines
    (walk_at s) vs o e
    (record { placed = refl; located = tt; each = λ k lt i. absurd (omega (arith, lt)) })).each n
    (in_run o.walk.steps n is) is

-- no place of a run is past the number of its events
place_suc : (f : Executed) (n : ℕ) → event_index f n ≤ event_index f (suc n)
place_suc f n = go (is_event (f n))
  where
    go : (b : Bool) → event_index f n ≤ cond b (event_index f n + 1) (event_index f n)
    go true = omega arith
    go false = omega arith

place_rises : (f : Executed) (i j : ℕ) → i ≤ j → event_index f i ≤ event_index f j
place_rises f i zero le =
    let z : i ≡ 0 = omega (arith, le) in
    subst (λ (k : ℕ). event_index f k ≤ 0) (sym z) (omega arith)
place_rises f i (suc j) le = elim (cases_eq i (suc j)) [
  | inl same ↦ subst (λ (k : ℕ). event_index f i ≤ event_index f k) same (omega arith)
  | inr other ↦ omega (arith, place_suc f j, place_rises f i j (omega (arith, le, other)))
]

place_past : (steps : List RunStep) (k : ℕ)
    → event_index (executed steps) (length steps + k) ≡ event_index (executed steps) (length steps)
place_past steps zero =
    let z : length steps + 0 ≡ length steps = omega arith in
    ap (λ (n : ℕ). event_index (executed steps) n) z
place_past steps (suc k) =
    let z : length steps + suc k ≡ suc (length steps + k) = omega arith in
    ap (λ (n : ℕ). event_index (executed steps) n) z
    ∙ ap
    (λ (s : RunStep). cond (is_event s.instruction)
    (event_index (executed steps) (length steps + k) + 1)
    (event_index (executed steps) (length steps + k)))
    (get_or_past steps (length steps + k) no_step (omega arith))
    ∙ place_past steps k

pub place_few : (steps : List RunStep) (n : ℕ)
    → event_index (executed steps) n ≤ event_index (executed steps) (length steps)
place_few steps n =
    let a : event_index (executed steps) n ≤ event_index (executed steps) (length steps + n) = place_rises (executed steps) n (length steps + n) (omega arith) in
    omega (arith, a, place_past steps n)
