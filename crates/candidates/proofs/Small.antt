-- No combination of runs has more events than the text of the test.
use Rattle.std.proofs.Common.{Vec, ℕ, zero, suc, ◌≡◌, ◌≤◌, ◌+◌, Bool, true, false, cond, List, [], ◌∷◌, ◌++◌, map, take, length, Option, Some, None, slice_get, count_by, Contains, arith, refl, ap, ◌∙◌}
use Rattle.std.specs.List.{sum_by}
use Rattle.std.specs.declared.alloc.Global.{Global}
use Rattle.std.proofs.lemmas.List.{length-append}
use Rattle.std.proofs.lemmas.List.Sums.{sum_by-cons}
use Rattle.std.proofs.lemmas.List.Elements.{Contains-push, Contains-append_left, Contains-append_right}
use Rattle.std.proofs.lemmas.Option.{same_Some}
use Rattle.text_values.specs.declared.test.Test.{Test}
use Rattle.thread_runs.specs.declared.value.Value.{Value}
use Rattle.thread_runs.specs.declared.value.Value.TheVariants.{NoValue}
use Rattle.thread_runs.specs.declared.instruction.Event as run
use Rattle.thread_runs.specs.declared.instruction.Instruction.{Instruction}
use Rattle.thread_runs.specs.declared.instruction.Instruction.TheVariants.{Immediate, Move, AddImmediate, Operate, Load, LoadIndexed, Store, StoreIndexed, Compare, CompareImmediate, Branch, Jump, Fence}
use Rattle.thread_runs.specs.declared.instruction.Line.{Line}
use Rattle.thread_runs.specs.declared.instruction.Line.TheVariants.{Label, Does}
use Rattle.thread_runs.specs.declared.instruction.Program.{Program}
use Rattle.thread_runs.specs.declared.run.Run as made
use Rattle.thread_runs.specs.declared.state.State.{State}
use Rattle.thread_runs.specs.Machine.{is_load, is_fault, takes_branch, event_of}
use Rattle.thread_runs.specs.Runs.{Walk, RunOutcome, Run, walk_at, walk_after, walk_past, ends, after_load, after_instruction, after_line, run_from}
use Rattle.thread_runs.specs.AllRuns.{ShownRun, run_shown, shown_run, lines_at, thread_of}
use Rattle.thread_runs.specs.LocationValues.{IsUnserved, ShowsServed}
use Rattle.thread_runs.proofs.Serving.{left_contains}
use Rattle.ppc_lowering.specs.Domain.{makes_event, has_event, IsDomain}
use Rattle.store_orders.specs.Events.{action_in, with_action, thread_events, initial_stores}
use Rattle.run_combinations.specs.Layouts.{AreServedRuns, ArePartsOf, AreThreadsOf, IsLaidOut}
use Rattle.run_combinations.specs.Search.{PrefixLists, with_run, combinations, initial_prefix, all_combinations}
use Rattle.run_combinations.specs.Candidates.{AreSmall}
use Rattle.candidates.specs.TestSpaces.{HasLayout}
use Rattle.store_orders.specs.declared.combination.Action.{Action}
use Rattle.store_orders.specs.declared.combination.Event.{Event}
use Rattle.run_combinations.specs.declared.layout.Layout.{Layout}
use Rattle.run_combinations.specs.declared.layout.ThreadParts.{ThreadParts}
use Rattle.run_combinations.specs.declared.part.Part.{Part}
use Rattle.run_combinations.proofs.Searching.{going_on}

-- a run has at most one event for each line that may make one
event_few : (i : Instruction) (v : Value) (s : State)
    → length (event_of i v s) ≤ cond (makes_event i) 1 0
event_few (Immediate d n) v s = omega arith
event_few (Move d a) v s = omega arith
event_few (AddImmediate d a n) v s = omega arith
event_few (Operate o d a b) v s = omega arith
event_few (Load d a) v s = omega arith
event_few (LoadIndexed d a b) v s = omega arith
event_few (Store d a) v s = omega arith
event_few (StoreIndexed d a b) v s = omega arith
event_few (Compare a b) v s = omega arith
event_few (CompareImmediate a n) v s = omega arith
event_few (Branch c l) v s = omega arith
event_few (Jump l) v s = omega arith
event_few (Fence f) v s = omega arith

-- what is left of the text adds so many
abbrev pub Adds : List Line → ℕ → Type 0
Adds xs n =
    (w : Walk) (vs : List Value) (o : RunOutcome) → run_from xs w vs ≡ Some o
    → length o.walk.events ≤ length w.events + n

ends_few : (f : Bool) (w : Walk) (vs : List Value) (o : RunOutcome) (n : ℕ) → ends f w vs ≡ Some o
    → length o.walk.events ≤ length w.events + n
ends_few f w [] o n e =
    let a : length w.events ≡ length o.walk.events =
    ap (λ (q : RunOutcome). length q.walk.events) (same_Some _ _ e) in
    omega (arith, a)
ends_few f w (v ∷ vs) o n e = absurd cc

module _ (xs : List Line) (n : ℕ) (rest : Adds xs n) where
  advanced_few : (i : Instruction) (b : Bool) (v : Value) (w : Walk) (vs : List Value) (o : RunOutcome)
      → run_from xs (walk_after i b v w) vs ≡ Some o
      → length o.walk.events ≤ length w.events + (cond (makes_event i) 1 0 + n)
  advanced_few i b v w vs o e =
      let a : length o.walk.events ≤ length (w.events ++ event_of i v w.state) + n = rest (walk_after i b v w) vs o e in
      omega (arith, a, length-append w.events (event_of i v w.state), event_few i v w.state)

  supplied_few : (l : Bool) (i : Instruction) (b : Bool) (w : Walk) (vs : List Value) (o : RunOutcome)
      → after_load l i b (run_from xs) w vs ≡ Some o
      → length o.walk.events ≤ length w.events + (cond (makes_event i) 1 0 + n)
  supplied_few true i b w [] o e = absurd cc
  supplied_few true i b w (v ∷ vs) o e = advanced_few i b v w vs o e
  supplied_few false i b w vs o e = advanced_few i b NoValue w vs o e

  obeyed_few : (f : Bool) (i : Instruction) (w : Walk) (vs : List Value) (o : RunOutcome)
      → after_instruction f i (run_from xs) w vs ≡ Some o
      → length o.walk.events ≤ length w.events + (cond (makes_event i) 1 0 + n)
  obeyed_few true i w vs o e = ends_few true w vs o (cond (makes_event i) 1 0 + n) e
  obeyed_few false i w vs o e = supplied_few (is_load i) i (takes_branch i w.state) w vs o e

  one_few : (s : Option ℕ) (x : Line) (w : Walk) (vs : List Value) (o : RunOutcome)
      → after_line s x (run_from xs) w vs ≡ Some o
      → length o.walk.events ≤ length w.events + (cond (has_event x) 1 0 + n)
  one_few (Some l) x w vs o e =
      let a : length o.walk.events ≤ length w.events + n = rest (walk_past x l w) vs o e in
      omega (arith, a)
  one_few None (Label m) w vs o e =
      let a : length o.walk.events ≤ length w.events + n = rest w vs o e in omega (arith, a)
  one_few None (Does i) w vs o e = obeyed_few (is_fault i w.state) i w vs o e

pub run_few : (xs : List Line) → Adds xs (count_by has_event xs)
run_few [] w vs o e = ends_few false w vs o 0 e
run_few (x ∷ xs) w vs o e =
    let a : length o.walk.events ≤ length w.events + (cond (has_event x) 1 0 + count_by has_event xs) = one_few xs (count_by has_event xs) (run_few xs) w.seeking x w vs o e in
    omega (arith, a, sum_by-cons (λ (y : Line). cond (has_event y) 1 0) x xs)

-- so has a run as it is kept
taken : (n : ℕ) (es : List run.Event) → length (take n es) ≤ length es
taken zero es = omega arith
taken (suc n) [] = omega arith
taken (suc n) (e ∷ es) = let a : length (take n es) ≤ length es = taken n es in omega (arith, a)

shown_few : (n : ℕ) (runs : List made.Run) (all : List Run) → map run_shown runs ≡ map shown_run all
    → ((q : Run) → Contains all q → length q.outcome.walk.events ≤ n) → (k : ℕ) (r : made.Run)
    → slice_get runs k ≡ Some r → length r.events.items ≤ n
shown_few n [] all e few k r g = absurd cc
shown_few n (m ∷ runs) [] e few k r g = absurd cc
shown_few n (m ∷ runs) (q ∷ all) e few zero r g =
    let a : length m.events.items ≡ length (take 128 q.outcome.walk.events) = first e in
    let b : length m.events.items ≡ length r.events.items = ap (λ (x : made.Run). length x.events.items) (made_is g) in
    omega (
      arith,
      a,
      b,
      taken 128 q.outcome.walk.events,
      few q (Contains-append_left (q ∷ []) all q (Contains-push [] q)),
    )
  where
    made_is : {x y : made.Run} → Some x ≡ Some y → x ≡ y
    made_is e = cc

    heads : {x y : ShownRun} {xs ys : List ShownRun} → (x ∷ xs) ≡ (y ∷ ys) → x ≡ y
    heads e = cc

    first : map run_shown (m ∷ runs) ≡ map shown_run (q ∷ all)
        → length m.events.items ≡ length (take 128 q.outcome.walk.events)
    first e = ap (λ (x : ShownRun). length x.events) (heads e)
shown_few n (m ∷ runs) (q ∷ all) e few (suc k) r g =
    shown_few n runs all (rest e) (λ x there. few x (Contains-append_right (q ∷ []) all x there)) k
    r g
  where
    tails : {x y : ShownRun} {xs ys : List ShownRun} → (x ∷ xs) ≡ (y ∷ ys) → xs ≡ ys
    tails e = cc

    rest : map run_shown (m ∷ runs) ≡ map shown_run (q ∷ all) → map run_shown runs ≡ map shown_run all
    rest e = tails e

runs_few : (p : Program) (t : ℕ) (V : List Value) (runs : List made.Run) → ShowsServed p t V runs
    → (k : ℕ) (r : made.Run) → slice_get runs k ≡ Some r
    → length r.events.items ≤ count_by has_event (thread_of p t).lines
runs_few p t V runs s k r g =
    shown_few (count_by has_event (thread_of p t).lines) runs s.2 s.4 few k r g
  where
    few : (q : Run) → Contains s.2 q
        → length q.outcome.walk.events ≤ count_by has_event (thread_of p t).lines
    few q there =
        let a : length q.outcome.walk.events ≤ 0 + count_by has_event (thread_of p t).lines = run_few (thread_of p t).lines (walk_at (thread_of p t).first) q.values q.outcome ((s.1.exact q).0 (left_contains (IsUnserved p) s.0 s.2 s.3 q there)).1 in
        omega (arith, a)

-- and its part
one_action : (thread : ℕ) (o : Option Action) → length (with_action thread o) ≤ 1
one_action thread None = omega arith
one_action thread (Some a) = omega arith

part_few : (thread : ℕ) (es : List run.Event) → length (thread_events thread es) ≤ length es
part_few thread [] = omega arith
part_few thread (e ∷ es) =
    let a : length (thread_events thread es) ≤ length es = part_few thread es in
    omega (
      arith,
      a,
      one_action thread (action_in e),
      length-append (with_action thread (action_in e)) (thread_events thread es),
    )

abbrev AreFew : ℕ → List Part → Type 0
AreFew n [] = Unit {0}
AreFew n (p ∷ ps) = (length p.events.items ≤ n) × AreFew n ps

parts_few : (thread : ℕ) (runs : List made.Run) (least n : ℕ) (ps : List Part)
    → ((k : ℕ) (r : made.Run) → slice_get runs k ≡ Some r → length r.events.items ≤ n)
    → ArePartsOf thread runs least ps → AreFew n ps
parts_few thread runs least n [] few h = tt
parts_few thread runs least n (p ∷ ps) few h =
    let r : made.Run = h.1.0 in
    let a : length p.events.items ≡ length (thread_events thread r.events.items) = ap (λ (es : List Event). length es) h.1.2.events in (
      omega (arith, a, part_few thread r.events.items, few p.run r h.1.1),
      parts_few thread runs (p.run + 1) n ps few h.2,
    )

abbrev ThreadsFew : List (Vec Line Global) → List ThreadParts → Type 0
ThreadsFew [] [] = Unit {0}
ThreadsFew (l ∷ ls) (t ∷ ts) = AreFew (count_by has_event l.items) t.parts.items × ThreadsFew ls ts
ThreadsFew _ _ = ⊥

threads_few : (thread : ℕ) (vs : List (Vec made.Run Global)) (ls : List (Vec Line Global))
    (ts : List ThreadParts) → length vs ≡ length ls
    → ((j : ℕ) (v : Vec made.Run Global) → slice_get vs j ≡ Some v → (k : ℕ) (r : made.Run)
    → slice_get v.items k ≡ Some r
    → length r.events.items ≤ count_by has_event (lines_at (slice_get ls j)))
    → AreThreadsOf thread vs ts → ThreadsFew ls ts
threads_few thread [] [] [] e few h = tt
threads_few thread [] [] (t ∷ ts) e few h = absurd h
threads_few thread [] (l ∷ ls) ts e few h = absurd (omega (arith, e))
threads_few thread (v ∷ vs) [] ts e few h = absurd (omega (arith, e))
threads_few thread (v ∷ vs) (l ∷ ls) [] e few h = absurd h
threads_few thread (v ∷ vs) (l ∷ ls) (t ∷ ts) e few h = (
  parts_few thread v.items 0 (count_by has_event l.items) t.parts.items (few 0 v refl) h.0,
  threads_few (thread + 1) vs ls ts (omega (arith, e)) (λ j w g. few (suc j) w g) h.1,
)

-- so all combinations are small
both_small : (xs ys : List PrefixLists) → AreSmall xs → AreSmall ys → AreSmall (xs ++ ys)
both_small [] ys h k = k
both_small (x ∷ xs) ys h k = (h.0, both_small xs ys h.1 k)

goes_small : (b : PrefixLists) (ts : List ThreadParts) (n m : ℕ)
    → ((c : PrefixLists) → length c.combination.events ≤ m → AreSmall (combinations c ts))
    → length b.combination.events + n ≤ m → (at : ℕ) (ps : List Part) → AreFew n ps
    → AreSmall (going_on b ts at ps)
goes_small b ts n m each le at [] few = tt
goes_small b ts n m each le at (p ∷ ps) few =
    let a : length p.events.items ≤ n = few.0 in
    both_small (combinations (with_run at p b) ts) (going_on b ts (at + 1) ps)
    (each (with_run at p b) (omega (
      arith,
      le,
      a,
      length-append b.combination.events p.events.items,
    )))
    (goes_small b ts n m each le (at + 1) ps few.1)

all_small : (ls : List (Vec Line Global)) (ts : List ThreadParts) (b : PrefixLists)
    → ThreadsFew ls ts
    → length b.combination.events
    + sum_by (λ (lines : Vec Line Global). count_by has_event lines.items) ls ≤ 128
    → AreSmall (combinations b ts)
all_small [] [] b few le = (omega (arith, le), tt)
all_small [] (t ∷ ts) b few le = absurd few
all_small (l ∷ ls) [] b few le = absurd few
all_small (l ∷ ls) (t ∷ ts) b few le =
    let s : sum_by (λ (lines : Vec Line Global). count_by has_event lines.items) (l ∷ ls) ≡ count_by has_event l.items + sum_by (λ (lines : Vec Line Global). count_by has_event lines.items) ls = sum_by-cons (λ (lines : Vec Line Global). count_by has_event lines.items) l ls in
    goes_small b ts (count_by has_event l.items)
    (length b.combination.events + count_by has_event l.items)
    (λ c small. all_small ls ts c few.1 (omega (arith, small, le, s))) (omega arith) 0
    t.parts.items few.0

initial_length : (at : ℕ) (vs : List Value) → length (initial_stores at vs) ≡ length vs
initial_length at [] = refl
initial_length at (v ∷ vs) = ap (λ (n : ℕ). suc n) (initial_length (at + 1) vs)

pub layout_small : (t : Test) (l : Layout) → HasLayout t l → AreSmall (all_combinations l)
layout_small t l h =
    let p : Program = h.0 in
    let d : IsDomain p h.1 = h.4 in
    let r : AreServedRuns p h.1 h.2 = h.5 in
    let o : IsLaidOut p h.2 l = h.6 in
    let a : length l.initial.items ≡ length (initial_stores 0 p.initial.items) = ap (λ (es : List Event). length es) o.initial in
    let b : length p.initial.items ≡ length p.locations.items = h.3.initial.each_one in
    all_small p.threads.items l.threads.items (initial_prefix l.initial.items)
    (threads_few 0 h.2 p.threads.items l.threads.items (r.count ∙ p.threads.ok.0)
    (λ j v g. runs_few p j h.1 v.items (r.each j v g)) o.threads)
    (omega (arith, a, b, initial_length 0 p.initial.items, d.events))
