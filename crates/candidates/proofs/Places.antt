-- The events of a run are as many as its steps have event places.
use Rattle.std.proofs.Common.{ℕ, zero, suc, ◌≡◌, ◌<◌, ◌+◌, Bool, true, false, cond, List, [], ◌∷◌, ◌++◌, length, Option, Some, None, refl, ap, sym, subst, ◌∙◌, arith}
use Rattle.std.proofs.lemmas.List.{length-append, get_or_append_left, get_or_at}
use Rattle.std.proofs.lemmas.Option.{same_Some}
use Rattle.thread_runs.specs.declared.value.Value.{Value}
use Rattle.thread_runs.specs.declared.value.Value.TheVariants.{NoValue}
use Rattle.thread_runs.specs.declared.instruction.Instruction.{Instruction}
use Rattle.thread_runs.specs.declared.instruction.Instruction.TheVariants.{Immediate, Move, AddImmediate, Operate, Load, LoadIndexed, Store, StoreIndexed, Compare, CompareImmediate, Branch, Jump, Fence}
use Rattle.thread_runs.specs.declared.instruction.Line.{Line}
use Rattle.thread_runs.specs.declared.instruction.Line.TheVariants.{Label, Does}
use Rattle.thread_runs.specs.declared.instruction.RunStep.{RunStep}
use Rattle.thread_runs.specs.declared.state.State.{State}
use Rattle.thread_runs.specs.Machine.{is_load, is_fault, takes_branch, event_of}
use Rattle.thread_runs.specs.Runs.{Walk, RunOutcome, walk_at, walk_after, walk_past, ends, after_load, after_instruction, after_line, run_from, run_of, executed, no_step}
use Rattle.taints.specs.Chains.{Executed, event_index, is_event}

-- what each step of a run keeps holds at its end
module _ (P : Walk → Type 0)
    (step : (i : Instruction) (b : Bool) (v : Value) (w : Walk) → is_fault i w.state ≡ false → P w
    → P (walk_after i b v w))
    (pass : (x : Line) (l : ℕ) (w : Walk) → P w → P (walk_past x l w)) where
  at_end : (f : Bool) (w : Walk) (vs : List Value) (o : RunOutcome) → ends f w vs ≡ Some o → P w
      → P o.walk
  at_end f w [] o e h = subst (λ (q : RunOutcome). P q.walk) (same_Some _ _ e) h
  at_end f w (v ∷ vs) o e h = absurd cc

  at_load : (xs : List Line)
      → ((w : Walk) (vs : List Value) (o : RunOutcome) → run_from xs w vs ≡ Some o → P w → P o.walk)
      → (l : Bool) (i : Instruction) (b : Bool) (w : Walk) (vs : List Value) (o : RunOutcome)
      → is_fault i w.state ≡ false → after_load l i b (run_from xs) w vs ≡ Some o → P w → P o.walk
  at_load xs rest true i b w [] o sound e h = absurd cc
  at_load xs rest true i b w (v ∷ vs) o sound e h =
      rest (walk_after i b v w) vs o e (step i b v w sound h)
  at_load xs rest false i b w vs o sound e h =
      rest (walk_after i b NoValue w) vs o e (step i b NoValue w sound h)

  at_step : (xs : List Line)
      → ((w : Walk) (vs : List Value) (o : RunOutcome) → run_from xs w vs ≡ Some o → P w → P o.walk)
      → (f : Bool) (i : Instruction) (w : Walk) (vs : List Value) (o : RunOutcome)
      → is_fault i w.state ≡ f → after_instruction f i (run_from xs) w vs ≡ Some o → P w → P o.walk
  at_step xs rest true i w vs o is e h = at_end true w vs o e h
  at_step xs rest false i w vs o is e h =
      at_load xs rest (is_load i) i (takes_branch i w.state) w vs o is e h

  at_line : (xs : List Line)
      → ((w : Walk) (vs : List Value) (o : RunOutcome) → run_from xs w vs ≡ Some o → P w → P o.walk)
      → (s : Option ℕ) (x : Line) (w : Walk) (vs : List Value) (o : RunOutcome)
      → after_line s x (run_from xs) w vs ≡ Some o → P w → P o.walk
  at_line xs rest (Some l) x w vs o e h = rest (walk_past x l w) vs o e (pass x l w h)
  at_line xs rest None (Label m) w vs o e h = rest w vs o e h
  at_line xs rest None (Does i) w vs o e h = at_step xs rest (is_fault i w.state) i w vs o refl e h

  pub along : (xs : List Line) (w : Walk) (vs : List Value) (o : RunOutcome)
      → run_from xs w vs ≡ Some o → P w → P o.walk
  along [] w vs o e h = at_end false w vs o e h
  along (x ∷ xs) w vs o e h = at_line xs (along xs) w.seeking x w vs o e h

-- the places of events
pub places_same : (at on : Executed) (n : ℕ) → ((k : ℕ) → k < n → at k ≡ on k)
    → event_index at n ≡ event_index on n
places_same at on zero same = refl
places_same at on (suc n) same =
    ap (λ (i : Instruction). cond (is_event i) (event_index at n + 1) (event_index at n))
    (same n (omega arith))
    ∙ ap (λ (k : ℕ). cond (is_event (on n)) (k + 1) k)
    (places_same at on n (λ k lt. same k (omega (arith, lt))))

pub event_count : (i : Instruction) (v : Value) (s : State)
    → length (event_of i v s) ≡ cond (is_event i) 1 0
event_count (Immediate d n) v s = refl
event_count (Move d a) v s = refl
event_count (AddImmediate d a n) v s = refl
event_count (Operate o d a b) v s = refl
event_count (Load d a) v s = refl
event_count (LoadIndexed d a b) v s = refl
event_count (Store d a) v s = refl
event_count (StoreIndexed d a b) v s = refl
event_count (Compare a b) v s = refl
event_count (CompareImmediate a n) v s = refl
event_count (Branch c l) v s = refl
event_count (Jump l) v s = refl
event_count (Fence f) v s = refl

pub one_place_more : (b : Bool) (k : ℕ) → cond b (k + 1) k ≡ k + cond b 1 0
one_place_more true k = omega arith
one_place_more false k = omega arith

abbrev pub Placed : Walk → Type 0
Placed w = event_index (executed w.steps) (length w.steps) ≡ length w.events

pub placed_more : (i : Instruction) (b : Bool) (v : Value) (w : Walk) → Placed w
    → Placed (walk_after i b v w)
placed_more i b v w h =
    let long : length (w.steps ++ record { instruction = i; loaded = v } ∷ []) ≡ suc (length w.steps) = omega (arith, length-append w.steps (record { instruction = i; loaded = v } ∷ [])) in
    ap
    (λ (n : ℕ).
    event_index (executed (w.steps ++ record { instruction = i; loaded = v } ∷ [])) n) long
    ∙ ap
    (λ (j : Instruction). cond (is_event j)
    (event_index (executed (w.steps ++ record { instruction = i; loaded = v } ∷ []))
    (length w.steps) + 1)
    (event_index (executed (w.steps ++ record { instruction = i; loaded = v } ∷ []))
    (length w.steps)))
    (ap (λ (s : RunStep). s.instruction) (get_or_at w.steps
    (record { instruction = i; loaded = v }) [] no_step (length w.steps) refl))
    ∙ ap (λ (k : ℕ). cond (is_event i) (k + 1) k) (places_same
    (executed (w.steps ++ record { instruction = i; loaded = v } ∷ []))
    (executed w.steps) (length w.steps) (λ k lt. ap (λ (s : RunStep). s.instruction)
    (get_or_append_left w.steps (record { instruction = i; loaded = v } ∷ [])
    no_step k lt)) ∙ h)
    ∙ one_place_more (is_event i) (length w.events)
    ∙ ap (λ (k : ℕ). length w.events + k) (sym (event_count i v w.state))
    ∙ sym (length-append w.events (event_of i v w.state))

-- the event places of a run end where its events do
pub places_are_events : (lines : List Line) (s : State) (vs : List Value) (o : RunOutcome)
    → run_of lines s vs ≡ Some o
    → event_index (executed o.walk.steps) (length o.walk.steps) ≡ length o.walk.events
places_are_events lines s vs o e =
    along Placed (λ i b v w sound h. placed_more i b v w h) (λ x l w h. h) lines (walk_at s) vs o e
    refl
