-- The events of a run come from the instructions that it executes, and its loads read the values
-- that it was given.
use Rattle.std.proofs.Common.{ℕ, zero, suc, ◌≡◌, ◌<◌, ◌+◌, Bool, true, false, not, List, [], ◌∷◌, ◌++◌, map, Option, Some, None, refl, ap, sym, subst, ◌∙◌, arith, append-nil, nat_eq}
use Rattle.std.specs.Prelude.{slice_get}
use Rattle.std.specs.List.{AllZip, filter_map, flat_map}
use Rattle.std.proofs.lemmas.Bool.{eq-eqb, eqb-true}
use Rattle.std.proofs.lemmas.List.Elements.{filter_map-append}
use Rattle.std.proofs.lemmas.List.Concat.{flat_map-append}
use Rattle.std.proofs.lemmas.Option.{same_Some}
use Rattle.text_values.specs.declared.instruction.Fence.{Fence}
use Rattle.thread_runs.specs.declared.value.Value.{Value}
use Rattle.thread_runs.specs.declared.value.Value.TheVariants.{Number, Address, NoValue}
use Rattle.thread_runs.specs.declared.instruction.Event as run
use Rattle.thread_runs.specs.declared.instruction.Event.TheVariants as run_event
use Rattle.thread_runs.specs.declared.instruction.Instruction.{Instruction}
use Rattle.thread_runs.specs.declared.instruction.Instruction.TheVariants.{Immediate, Move, AddImmediate, Operate, Load, LoadIndexed, Store, StoreIndexed, Compare, CompareImmediate, Branch, Jump, Fence as FenceInstruction}
use Rattle.thread_runs.specs.declared.instruction.Line.{Line}
use Rattle.thread_runs.specs.declared.instruction.Line.TheVariants.{Label, Does}
use Rattle.thread_runs.specs.declared.instruction.RunStep.{RunStep}
use Rattle.thread_runs.specs.declared.state.State.{State}
use Rattle.thread_runs.specs.Machine.{register, sum_of, is_load, is_fault, is_address, takes_branch, event_of}
use Rattle.thread_runs.specs.Runs.{Walk, RunOutcome, Run, walk_at, walk_after, walk_past, ends, after_load, after_instruction, after_line, run_from, run_of}
use Rattle.store_orders.specs.Events.{action_in, with_action, thread_events, initial_stores, is_store_instruction, fence_of_instruction}
use Rattle.store_orders.specs.declared.combination.Action.{Action}
use Rattle.store_orders.specs.declared.combination.Action.TheVariants.{Fence as FenceAction}
use Rattle.store_orders.specs.declared.combination.Event.{Event}
use Rattle.candidates.specs.Executions.{events, events_from}
use Rattle.candidates.proofs.LoadValues.{read_in}
use Rattle.candidates.proofs.Whole.{AreLocated}
use Rattle.why_text.specs.OfRuns.{ComesFrom}
use Rattle.why_text.specs.Origins.{made_by, made_in, makes_event, not_made, event_value_read, values_read}

-- two lists, and two more behind them
pub zip_both : {A B : Type 0} (R : A → B → Type 0) (xs us : List A) (ys vs : List B)
    → AllZip R xs ys → AllZip R us vs → AllZip R (xs ++ us) (ys ++ vs)
zip_both R [] us [] vs h k = k
zip_both R [] us (y ∷ ys) vs h k = absurd h
zip_both R (x ∷ xs) us [] vs h k = absurd h
zip_both R (x ∷ xs) us (y ∷ ys) vs h k = (h.0, zip_both R xs us ys vs h.1 k)

-- ---- one instruction

true_false : true ≡ false → ⊥
true_false e = cc

no_fence : {f : Fence} → Some f ≡ None → ⊥
no_fence e = cc

read_comes : (t : ℕ) (i : Instruction) (x v : Value) → makes_event i ≡ true → is_store_instruction i ≡ false
    → fence_of_instruction i ≡ None → not (is_address x) ≡ false
    → AllZip ComesFrom (Some i ∷ []) (thread_events t (run_event.Load x v ∷ []))
read_comes t i (Number n) v makes never unfenced h = absurd cc
read_comes t i (Address l) v makes never unfenced h = (
  (
    makes,
    t,
    record {
      of_thread = refl;
      loads = λ e. refl;
      stores = λ e. absurd (true_false (sym e ∙ never));
      fences = λ f e. absurd (no_fence (sym e ∙ unfenced));
    },
  ),
  tt,
)
read_comes t i NoValue v makes never unfenced h = absurd cc

write_comes : (t : ℕ) (i : Instruction) (x v : Value) → makes_event i ≡ true → is_load i ≡ false
    → fence_of_instruction i ≡ None → not (is_address x) ≡ false
    → AllZip ComesFrom (Some i ∷ []) (thread_events t (run_event.Store x v ∷ []))
write_comes t i (Number n) v makes never unfenced h = absurd cc
write_comes t i (Address l) v makes never unfenced h = (
  (
    makes,
    t,
    record {
      of_thread = refl;
      loads = λ e. absurd (true_false (sym e ∙ never));
      stores = λ e. refl;
      fences = λ f e. absurd (no_fence (sym e ∙ unfenced));
    },
  ),
  tt,
)
write_comes t i NoValue v makes never unfenced h = absurd cc

abbrev step_of : Instruction → Value → RunStep
step_of i v = record { instruction = i; loaded = v }

-- an instruction and its events
comes : (t : ℕ) (i : Instruction) (given v : Value) (s : State) → is_fault i s ≡ false
    → AllZip ComesFrom (made_in (step_of i given ∷ [])) (thread_events t (event_of i v s))
comes t (Immediate d n) given v s h = tt
comes t (Move d a) given v s h = tt
comes t (AddImmediate d a n) given v s h = tt
comes t (Operate o d a b) given v s h = tt
comes t (Load d a) given v s h = read_comes t (Load d a) (register s a) v refl refl refl h
comes t (LoadIndexed d a b) given v s h =
    read_comes t (LoadIndexed d a b) (sum_of (register s a) (register s b)) v refl refl refl h
comes t (Store d a) given v s h =
    write_comes t (Store d a) (register s a) (register s d) refl refl refl h
comes t (StoreIndexed d a b) given v s h =
    write_comes t (StoreIndexed d a b) (sum_of (register s a) (register s b)) (register s d) refl
    refl refl h
comes t (Compare a b) given v s h = tt
comes t (CompareImmediate a n) given v s h = tt
comes t (Branch c l) given v s h = tt
comes t (Jump l) given v s h = tt
comes t (FenceInstruction f) given v s h = (
  (
    refl,
    t,
    record {
      of_thread = refl;
      loads = λ e. absurd cc;
      stores = λ e. absurd cc;
      fences = λ g e. ap (λ (x : Fence). FenceAction x) (same_Some _ _ e);
    },
  ),
  tt,
)

-- ---- a run

abbrev Agrees : ℕ → Walk → Type 0
Agrees t w = AllZip ComesFrom (made_in w.steps) (thread_events t w.events)

abbrev KeepsOn : ℕ → List Line → Type 0
KeepsOn t xs =
    (w : Walk) (vs : List Value) (o : RunOutcome) → run_from xs w vs ≡ Some o → Agrees t w
    → Agrees t o.walk

agrees_more : (t : ℕ) (i : Instruction) (b : Bool) (v : Value) (w : Walk)
    → is_fault i w.state ≡ false → Agrees t w → Agrees t (walk_after i b v w)
agrees_more t i b v w sound h =
    let steps : made_in (w.steps ++ step_of i v ∷ []) ≡ made_in w.steps ++ made_in (step_of i v ∷ []) = filter_map-append made_by w.steps (step_of i v ∷ []) in
    let es : thread_events t (w.events ++ event_of i v w.state) ≡ thread_events t w.events ++ thread_events t (event_of i v w.state) = flat_map-append (λ e. with_action t (action_in e)) w.events (event_of i v w.state) in
    subst
    (λ (xs : List (Option Instruction)).
    AllZip ComesFrom xs (thread_events t (w.events ++ event_of i v w.state)))
    (sym steps)
    (subst
    (λ (ys : List Event). AllZip ComesFrom (made_in w.steps ++ made_in (step_of i v ∷ [])) ys)
    (sym es)
    (zip_both ComesFrom (made_in w.steps) (made_in (step_of i v ∷ [])) (thread_events t w.events)
    (thread_events t (event_of i v w.state)) h (comes t i v v w.state sound)))

ends_agree : (t : ℕ) (f : Bool) (w : Walk) (vs : List Value) (o : RunOutcome) → ends f w vs ≡ Some o
    → Agrees t w → Agrees t o.walk
ends_agree t f w [] o e h = subst (λ (q : RunOutcome). Agrees t q.walk) (same_Some _ _ e) h
ends_agree t f w (v ∷ vs) o e h = absurd cc

module _ (t : ℕ) (xs : List Line) (rest : KeepsOn t xs) where
  advanced_agree : (i : Instruction) (b : Bool) (v : Value) (w : Walk) (vs : List Value)
      (o : RunOutcome) → is_fault i w.state ≡ false → run_from xs (walk_after i b v w) vs ≡ Some o
      → Agrees t w → Agrees t o.walk
  advanced_agree i b v w vs o sound e h =
      rest (walk_after i b v w) vs o e (agrees_more t i b v w sound h)

  supplied_agree : (l : Bool) (i : Instruction) (b : Bool) (w : Walk) (vs : List Value)
      (o : RunOutcome) → is_fault i w.state ≡ false → after_load l i b (run_from xs) w vs ≡ Some o
      → Agrees t w → Agrees t o.walk
  supplied_agree true i b w [] o sound e h = absurd cc
  supplied_agree true i b w (v ∷ vs) o sound e h = advanced_agree i b v w vs o sound e h
  supplied_agree false i b w vs o sound e h = advanced_agree i b NoValue w vs o sound e h

  obeyed_agree : (f : Bool) (i : Instruction) (w : Walk) (vs : List Value) (o : RunOutcome)
      → is_fault i w.state ≡ f → after_instruction f i (run_from xs) w vs ≡ Some o → Agrees t w
      → Agrees t o.walk
  obeyed_agree true i w vs o is e h = ends_agree t true w vs o e h
  obeyed_agree false i w vs o is e h = supplied_agree (is_load i) i (takes_branch i w.state) w vs o is e h

  one_agree : (s : Option ℕ) (x : Line) (w : Walk) (vs : List Value) (o : RunOutcome)
      → after_line s x (run_from xs) w vs ≡ Some o → Agrees t w → Agrees t o.walk
  one_agree (Some l) x w vs o e h = rest (walk_past x l w) vs o e h
  one_agree None (Label m) w vs o e h = rest w vs o e h
  one_agree None (Does i) w vs o e h = obeyed_agree (is_fault i w.state) i w vs o refl e h

lines_agree : (t : ℕ) (xs : List Line) → KeepsOn t xs
lines_agree t [] w vs o e h = ends_agree t false w vs o e h
lines_agree t (x ∷ xs) w vs o e h = one_agree t xs (lines_agree t xs) w.seeking x w vs o e h

pub run_agrees : (t : ℕ) (lines : List Line) (s : State) (vs : List Value) (o : RunOutcome)
    → run_of lines s vs ≡ Some o
    → AllZip ComesFrom (made_in o.walk.steps) (thread_events t o.walk.events)
run_agrees t lines s vs o e = lines_agree t lines (walk_at s) vs o e tt

-- ---- what the loads of a thread read

values_both : (n : ℕ) (es fs : List Event)
    → values_read n (es ++ fs) ≡ values_read n es ++ values_read n fs
values_both n es fs = filter_map-append (event_value_read n) es fs

initial_values : (n location : ℕ) (vs : List Value)
    → values_read n (initial_stores location vs) ≡ []
initial_values n location [] = refl
initial_values n location (v ∷ vs) = initial_values n (location + 1) vs

skipped : (n m : ℕ) (o : Option Action) → nat_eq m n ≡ false → values_read n (with_action m o) ≡ []
skipped n m None e = refl
skipped n m (Some a) e = rw e refl

other_values : (n m : ℕ) (es : List run.Event) → nat_eq m n ≡ false
    → values_read n (thread_events m es) ≡ []
other_values n m [] e = refl
other_values n m (x ∷ es) e =
    values_both n (with_action m (action_in x)) (thread_events m es)
    ∙ ap (λ (l : List Value). l ++ values_read n (thread_events m es))
    (skipped n m (action_in x) e) ∙ other_values n m es e

own_values : (n : ℕ) (es : List run.Event) → nat_eq n n ≡ true → AreLocated es
    → values_read n (thread_events n es) ≡ read_in es
own_values n [] e h = refl
own_values n (run_event.Load (Number k) v ∷ es) e h = absurd (nothing_there h.0.1)
  where
    nothing_there : {a : Action} → None ≡ Some a → ⊥
    nothing_there e = cc
own_values n (run_event.Load (Address l) v ∷ es) e h =
    rw e (ap (λ (vs : List Value). v ∷ vs) (own_values n es e h.1))
own_values n (run_event.Load NoValue v ∷ es) e h = absurd (nothing_there h.0.1)
  where
    nothing_there : {a : Action} → None ≡ Some a → ⊥
    nothing_there e = cc
own_values n (run_event.Store (Number k) v ∷ es) e h = own_values n es e h.1
own_values n (run_event.Store (Address l) v ∷ es) e h = rw e (own_values n es e h.1)
own_values n (run_event.Store NoValue v ∷ es) e h = own_values n es e h.1
own_values n (run_event.Fence f ∷ es) e h = rw e (own_values n es e h.1)

same_number : (n : ℕ) → nat_eq n n ≡ true
same_number n = eq-eqb n n refl

other_number : (m n : ℕ) → (m ≡ n → ⊥) → nat_eq m n ≡ false
other_number m n other = go (nat_eq m n) refl
  where
    go : (b : Bool) → nat_eq m n ≡ b → nat_eq m n ≡ false
    go true e = absurd (other (eqb-true m n e))
    go false e = e

earlier_values : (n m : ℕ) (rs : List Run) → n < m → values_read n (events_from m rs) ≡ []
earlier_values n m [] lt = refl
earlier_values n m (r ∷ rs) lt =
    values_both n (thread_events m r.outcome.walk.events) (events_from (m + 1) rs)
    ∙ ap (λ (l : List Value). l ++ values_read n (events_from (m + 1) rs))
    (other_values n m r.outcome.walk.events (other_number m n (λ e. omega (arith, e, lt))))
    ∙ earlier_values n (m + 1) rs (omega (arith, lt))

abbrev AllLocated : List Run → Type 0
AllLocated rs = (k : ℕ) (r : Run) → slice_get rs k ≡ Some r → AreLocated r.outcome.walk.events

values_at : (j m n : ℕ) (rs : List Run) (r : Run) → n ≡ m + j → AllLocated rs
    → slice_get rs j ≡ Some r → values_read n (events_from m rs) ≡ read_in r.outcome.walk.events
values_at j m n [] r at located is = absurd cc
values_at zero m n (q ∷ rs) r at located is =
    let here : q ≡ r = same_Some _ _ is in
    let same : m ≡ n = omega (arith, at) in
    let own : values_read n (thread_events m q.outcome.walk.events) ≡ read_in q.outcome.walk.events = subst (λ (k : ℕ). values_read n (thread_events k q.outcome.walk.events) ≡ read_in q.outcome.walk.events) (sym same) (own_values n q.outcome.walk.events (same_number n) (located 0 q refl)) in
    values_both n (thread_events m q.outcome.walk.events) (events_from (m + 1) rs)
    ∙ ap (λ (l : List Value). l ++ values_read n (events_from (m + 1) rs)) own
    ∙ ap (λ (l : List Value). read_in q.outcome.walk.events ++ l)
    (earlier_values n (m + 1) rs (omega (arith, at)))
    ∙ append-nil (read_in q.outcome.walk.events)
    ∙ ap (λ (x : Run). read_in x.outcome.walk.events) here
values_at (suc j) m n (q ∷ rs) r at located is =
    values_both n (thread_events m q.outcome.walk.events) (events_from (m + 1) rs)
    ∙ ap (λ (l : List Value). l ++ values_read n (events_from (m + 1) rs))
    (other_values n m q.outcome.walk.events (other_number m n (λ e. omega (arith, at, e))))
    ∙ values_at j (m + 1) n rs r (omega (arith, at)) (λ k x. located (suc k) x) is

-- the loads of thread n read what its run was given
pub thread_values : (n : ℕ) (initial : List Value) (rs : List Run) (r : Run) → AllLocated rs
    → slice_get rs n ≡ Some r → values_read n (events initial rs) ≡ read_in r.outcome.walk.events
thread_values n initial rs r located is =
    values_both n (initial_stores 0 initial) (events_from 0 rs)
    ∙ ap (λ (l : List Value). l ++ values_read n (events_from 0 rs)) (initial_values n 0 initial)
    ∙ values_at n 0 n rs r (omega arith) located is

-- ---- the initial stores

none_here : (m : ℕ) (o : Option Action) → filter_map not_made (with_action m o) ≡ []
none_here m None = refl
none_here m (Some a) = refl

none_in_thread : (m : ℕ) (es : List run.Event) → filter_map not_made (thread_events m es) ≡ []
none_in_thread m [] = refl
none_in_thread m (x ∷ es) =
    filter_map-append not_made (with_action m (action_in x)) (thread_events m es)
    ∙ ap (λ (l : List (Option Instruction)). l ++ filter_map not_made (thread_events m es))
    (none_here m (action_in x)) ∙ none_in_thread m es

none_in_runs : (m : ℕ) (rs : List Run) → filter_map not_made (events_from m rs) ≡ []
none_in_runs m [] = refl
none_in_runs m (r ∷ rs) =
    filter_map-append not_made (thread_events m r.outcome.walk.events) (events_from (m + 1) rs)
    ∙ ap (λ (l : List (Option Instruction)). l ++ filter_map not_made (events_from (m + 1) rs))
    (none_in_thread m r.outcome.walk.events) ∙ none_in_runs (m + 1) rs

initial_none : (location : ℕ) (vs : List Value)
    → filter_map not_made (initial_stores location vs) ≡ map (λ v. None) vs
initial_none location [] = refl
initial_none location (v ∷ vs) =
    ap (λ (l : List (Option Instruction)). None ∷ l) (initial_none (location + 1) vs)

pub none_made : (initial : List Value) (rs : List Run)
    → filter_map not_made (events initial rs) ≡ map (λ v. None) initial
none_made initial rs =
    filter_map-append not_made (initial_stores 0 initial) (events_from 0 rs)
    ∙ ap
    (λ (l : List (Option Instruction)). filter_map not_made (initial_stores 0 initial) ++ l)
    (none_in_runs 0 rs)
    ∙ append-nil (filter_map not_made (initial_stores 0 initial)) ∙ initial_none 0 initial

pub initial_comes : (location : ℕ) (vs : List Value)
    → AllZip ComesFrom (map (λ v. None) vs) (initial_stores location vs)
initial_comes location [] = tt
initial_comes location (v ∷ vs) = (refl, initial_comes (location + 1) vs)
