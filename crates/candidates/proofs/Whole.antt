-- A run makes no access but to a location's address: none of its events is left out.
use Rattle.std.proofs.Common.{ℕ, ◌≡◌, ◌+◌, Bool, true, false, not, List, [], ◌∷◌, ◌++◌, length, Option, Some, None, refl, ap, subst, arith}
use Rattle.std.proofs.lemmas.List.{length-append}
use Rattle.std.proofs.lemmas.Option.{same_Some}
use Rattle.thread_runs.specs.declared.value.Value.{Value}
use Rattle.thread_runs.specs.declared.value.Value.TheVariants.{Number, Address, NoValue}
use Rattle.thread_runs.specs.declared.instruction.Event as run
use Rattle.thread_runs.specs.declared.instruction.Event.TheVariants as run_event
use Rattle.thread_runs.specs.declared.instruction.Instruction.{Instruction}
use Rattle.thread_runs.specs.declared.instruction.Instruction.TheVariants.{Immediate, Move, AddImmediate, Operate, Load, LoadIndexed, Store, StoreIndexed, Compare, CompareImmediate, Branch, Jump, Fence}
use Rattle.thread_runs.specs.declared.instruction.Line.{Line}
use Rattle.thread_runs.specs.declared.instruction.Line.TheVariants.{Label, Does}
use Rattle.thread_runs.specs.declared.state.State.{State}
use Rattle.thread_runs.specs.Machine.{register, sum_of, is_load, is_fault, is_address, takes_branch, event_of}
use Rattle.thread_runs.specs.Runs.{Walk, RunOutcome, walk_at, walk_after, walk_past, ends, after_load, after_instruction, after_line, run_from, run_of}
use Rattle.store_orders.specs.Events.{action_in, with_action, thread_events}
use Rattle.store_orders.specs.declared.combination.Action.{Action}
use Rattle.store_orders.specs.declared.combination.Action.TheVariants as actions

-- each event is a fence or is at a location
abbrev pub AreLocated : List run.Event → Type 0
AreLocated [] = Unit {0}
AreLocated (e ∷ es) = ((a : Action) × (action_in e ≡ Some a)) × AreLocated es

pub located_both : (es fs : List run.Event) → AreLocated es → AreLocated fs → AreLocated (es ++ fs)
located_both [] fs h k = k
located_both (e ∷ es) fs h k = (h.0, located_both es fs h.1 k)

read_located : (x v : Value) → not (is_address x) ≡ false → AreLocated (run_event.Load x v ∷ [])
read_located (Number n) v h = absurd cc
read_located (Address l) v h = ((actions.Load l v, refl), tt)
read_located NoValue v h = absurd cc

write_located : (x v : Value) → not (is_address x) ≡ false → AreLocated (run_event.Store x v ∷ [])
write_located (Number n) v h = absurd cc
write_located (Address l) v h = ((actions.Store l v, refl), tt)
write_located NoValue v h = absurd cc

pub event_located : (i : Instruction) (v : Value) (s : State) → is_fault i s ≡ false
    → AreLocated (event_of i v s)
event_located (Immediate d n) v s h = tt
event_located (Move d a) v s h = tt
event_located (AddImmediate d a n) v s h = tt
event_located (Operate o d a b) v s h = tt
event_located (Load d a) v s h = read_located (register s a) v h
event_located (LoadIndexed d a b) v s h = read_located (sum_of (register s a) (register s b)) v h
event_located (Store d a) v s h = write_located (register s a) (register s d) h
event_located (StoreIndexed d a b) v s h =
    write_located (sum_of (register s a) (register s b)) (register s d) h
event_located (Compare a b) v s h = tt
event_located (CompareImmediate a n) v s h = tt
event_located (Branch c l) v s h = tt
event_located (Jump l) v s h = tt
event_located (Fence f) v s h = ((actions.Fence f, refl), tt)

-- what is left of the text keeps it so
abbrev Keeps : List Line → Type 0
Keeps xs =
    (w : Walk) (vs : List Value) (o : RunOutcome) → run_from xs w vs ≡ Some o → AreLocated w.events
    → AreLocated o.walk.events

ends_located : (f : Bool) (w : Walk) (vs : List Value) (o : RunOutcome) → ends f w vs ≡ Some o
    → AreLocated w.events → AreLocated o.walk.events
ends_located f w [] o e h = subst (λ (q : RunOutcome). AreLocated q.walk.events) (same_Some _ _ e) h
ends_located f w (v ∷ vs) o e h = absurd cc

module _ (xs : List Line) (rest : Keeps xs) where
  advanced_located : (i : Instruction) (b : Bool) (v : Value) (w : Walk) (vs : List Value)
      (o : RunOutcome) → is_fault i w.state ≡ false → run_from xs (walk_after i b v w) vs ≡ Some o
      → AreLocated w.events → AreLocated o.walk.events
  advanced_located i b v w vs o sound e h =
      rest (walk_after i b v w) vs o e (located_both w.events (event_of i v w.state) h
      (event_located i v w.state sound))

  supplied_located : (l : Bool) (i : Instruction) (b : Bool) (w : Walk) (vs : List Value)
      (o : RunOutcome) → is_fault i w.state ≡ false → after_load l i b (run_from xs) w vs ≡ Some o
      → AreLocated w.events → AreLocated o.walk.events
  supplied_located true i b w [] o sound e h = absurd cc
  supplied_located true i b w (v ∷ vs) o sound e h = advanced_located i b v w vs o sound e h
  supplied_located false i b w vs o sound e h = advanced_located i b NoValue w vs o sound e h

  obeyed_located : (f : Bool) (i : Instruction) (w : Walk) (vs : List Value) (o : RunOutcome)
      → is_fault i w.state ≡ f → after_instruction f i (run_from xs) w vs ≡ Some o → AreLocated w.events
      → AreLocated o.walk.events
  obeyed_located true i w vs o is e h = ends_located true w vs o e h
  obeyed_located false i w vs o is e h =
      supplied_located (is_load i) i (takes_branch i w.state) w vs o is e h

  one_located : (s : Option ℕ) (x : Line) (w : Walk) (vs : List Value) (o : RunOutcome)
      → after_line s x (run_from xs) w vs ≡ Some o → AreLocated w.events → AreLocated o.walk.events
  one_located (Some l) x w vs o e h = rest (walk_past x l w) vs o e h
  one_located None (Label m) w vs o e h = rest w vs o e h
  one_located None (Does i) w vs o e h = obeyed_located (is_fault i w.state) i w vs o refl e h

pub run_located : (xs : List Line) → Keeps xs
run_located [] w vs o e h = ends_located false w vs o e h
run_located (x ∷ xs) w vs o e h = one_located xs (run_located xs) w.seeking x w vs o e h

one_each : (thread : ℕ) (e : run.Event) (a : Action) → action_in e ≡ Some a
    → length (with_action thread (action_in e)) ≡ 1
one_each thread e a is = ap (λ (o : Option Action). length (with_action thread o)) is

pub located_all : (thread : ℕ) (es : List run.Event) → AreLocated es
    → length (thread_events thread es) ≡ length es
located_all thread [] h = refl
located_all thread (e ∷ es) h =
    let a : length (with_action thread (action_in e) ++ thread_events thread es) ≡ length (with_action thread (action_in e)) + length (thread_events thread es) = length-append (with_action thread (action_in e)) (thread_events thread es) in
    let b : length (with_action thread (action_in e)) ≡ 1 = one_each thread e h.0.0 h.0.1 in
    let c : length (thread_events thread es) ≡ length es = located_all thread es h.1 in
    omega (arith, a, b, c)

-- no event of a run is left out
pub none_left_out : (thread : ℕ) (lines : List Line) (s : State) (vs : List Value) (o : RunOutcome)
    → run_of lines s vs ≡ Some o
    → length (thread_events thread o.walk.events) ≡ length o.walk.events
none_left_out thread lines s vs o e =
    located_all thread o.walk.events (run_located lines (walk_at s) vs o e tt)
