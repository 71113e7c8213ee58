-- The loads of a run read the values that it was given, and are at most as many as those of its
-- text.
use Rattle.std.proofs.Common.{ℕ, ◌≡◌, ◌≤◌, ◌+◌, Bool, true, false, cond, List, [], ◌∷◌, ◌++◌, length, Option, Some, None, refl, ap, sym, ◌∙◌, arith, append_assoc, append-nil}
use Rattle.std.specs.List.{count_by}
use Rattle.std.proofs.lemmas.List.Sums.{sum_by-cons}
use Rattle.std.proofs.lemmas.Option.{same_Some}
use Rattle.thread_runs.specs.declared.value.Value.{Value}
use Rattle.thread_runs.specs.declared.value.Value.TheVariants.{NoValue}
use Rattle.thread_runs.specs.declared.instruction.Event as run
use Rattle.thread_runs.specs.declared.instruction.Event.TheVariants as run_event
use Rattle.thread_runs.specs.declared.instruction.Instruction.{Instruction}
use Rattle.thread_runs.specs.declared.instruction.Instruction.TheVariants.{Immediate, Move, AddImmediate, Operate, Load, LoadIndexed, Store, StoreIndexed, Compare, CompareImmediate, Branch, Jump, Fence}
use Rattle.thread_runs.specs.declared.instruction.Line.{Line}
use Rattle.thread_runs.specs.declared.instruction.Line.TheVariants.{Label, Does}
use Rattle.thread_runs.specs.declared.state.State.{State}
use Rattle.thread_runs.specs.Machine.{is_load, is_fault, takes_branch, event_of}
use Rattle.thread_runs.specs.Runs.{Walk, RunOutcome, walk_at, walk_after, walk_past, ends, after_load, after_instruction, after_line, run_from, run_of}
use Rattle.ppc_lowering.specs.Domain.{has_load}

-- the values that events read
abbrev pub read_in : List run.Event → List Value
read_in [] = []
read_in (run_event.Load a v ∷ es) = v ∷ read_in es
read_in (run_event.Store a v ∷ es) = read_in es
read_in (run_event.Fence f ∷ es) = read_in es

read_both : (es fs : List run.Event) → read_in (es ++ fs) ≡ read_in es ++ read_in fs
read_both [] fs = refl
read_both (run_event.Load a v ∷ es) fs = ap (λ (l : List Value). v ∷ l) (read_both es fs)
read_both (run_event.Store a v ∷ es) fs = read_both es fs
read_both (run_event.Fence f ∷ es) fs = read_both es fs

abbrev given : Bool → Value → List Value
given true v = v ∷ []
given false v = []

event_reads : (i : Instruction) (v : Value) (s : State)
    → read_in (event_of i v s) ≡ given (is_load i) v
event_reads (Immediate d n) v s = refl
event_reads (Move d a) v s = refl
event_reads (AddImmediate d a n) v s = refl
event_reads (Operate o d a b) v s = refl
event_reads (Load d a) v s = refl
event_reads (LoadIndexed d a b) v s = refl
event_reads (Store d a) v s = refl
event_reads (StoreIndexed d a b) v s = refl
event_reads (Compare a b) v s = refl
event_reads (CompareImmediate a n) v s = refl
event_reads (Branch c l) v s = refl
event_reads (Jump l) v s = refl
event_reads (Fence f) v s = refl

-- an instruction that is no load adds nothing
pub read_more : (es : List run.Event) (i : Instruction) (v : Value) (s : State) → is_load i ≡ false
    → read_in (es ++ event_of i v s) ≡ read_in es
read_more es i v s is =
    read_both es (event_of i v s) ∙ ap (λ (l : List Value). read_in es ++ l) (event_reads i v s)
    ∙ ap (λ (b : Bool). read_in es ++ given b v) is ∙ append-nil (read_in es)

-- the values that are left are those of the loads to come, at most so many
record Takes (n : ℕ) (w : Walk) (vs : List Value) (o : RunOutcome) : Type 0 where
  values : read_in o.walk.events ≡ read_in w.events ++ vs
  few : length vs ≤ n

abbrev TakesAll : List Line → ℕ → Type 0
TakesAll xs n =
    (w : Walk) (vs : List Value) (o : RunOutcome) → run_from xs w vs ≡ Some o → Takes n w vs o

ends_taken : (f : Bool) (w : Walk) (vs : List Value) (o : RunOutcome) (n : ℕ) → ends f w vs ≡ Some o
    → Takes n w vs o
ends_taken f w [] o n e =
    record {
      values =
          ap (λ (q : RunOutcome). read_in q.walk.events) (sym (same_Some _ _ e))
          ∙ sym (append-nil (read_in w.events));
      few = omega arith;
    }
ends_taken f w (v ∷ vs) o n e = absurd cc

module _ (xs : List Line) (n : ℕ) (rest : TakesAll xs n) where
  advanced_taken : (i : Instruction) (b : Bool) (v : Value) (w : Walk) (vs : List Value)
      (o : RunOutcome) → run_from xs (walk_after i b v w) vs ≡ Some o
      → (read_in o.walk.events ≡ read_in w.events ++ (given (is_load i) v ++ vs)) × (length vs ≤ n)
  advanced_taken i b v w vs o e =
      let t : Takes n (walk_after i b v w) vs o = rest (walk_after i b v w) vs o e in (
        t.values
            ∙ ap (λ (l : List Value). l ++ vs) (read_both w.events (event_of i v w.state)
            ∙ ap (λ (l : List Value). read_in w.events ++ l)
            (event_reads i v w.state))
            ∙ append_assoc (read_in w.events) (given (is_load i) v) vs,
        t.few,
      )

  supplied_taken : (l : Bool) (i : Instruction) (b : Bool) (w : Walk) (vs : List Value)
      (o : RunOutcome) → is_load i ≡ l → after_load l i b (run_from xs) w vs ≡ Some o
      → Takes (cond l 1 0 + n) w vs o
  supplied_taken true i b w [] o is e = absurd cc
  supplied_taken true i b w (v ∷ vs) o is e =
      let t : (read_in o.walk.events ≡ read_in w.events ++ (given (is_load i) v ++ vs)) × (length vs ≤ n) = advanced_taken i b v w vs o e in
      record { values = t.0 ∙ ap (λ (k : Bool). read_in w.events ++ (given k v ++ vs)) is; few = omega (arith, t.1) }
  supplied_taken false i b w vs o is e =
      let t : (read_in o.walk.events ≡ read_in w.events ++ (given (is_load i) NoValue ++ vs)) × (length vs ≤ n) = advanced_taken i b NoValue w vs o e in
      record { values = t.0 ∙ ap (λ (k : Bool). read_in w.events ++ (given k NoValue ++ vs)) is; few = omega (arith, t.1) }

  obeyed_taken : (f : Bool) (i : Instruction) (w : Walk) (vs : List Value) (o : RunOutcome)
      → after_instruction f i (run_from xs) w vs ≡ Some o → Takes (cond (is_load i) 1 0 + n) w vs o
  obeyed_taken true i w vs o e = ends_taken true w vs o (cond (is_load i) 1 0 + n) e
  obeyed_taken false i w vs o e = supplied_taken (is_load i) i (takes_branch i w.state) w vs o refl e

  one_taken : (s : Option ℕ) (x : Line) (w : Walk) (vs : List Value) (o : RunOutcome)
      → after_line s x (run_from xs) w vs ≡ Some o → Takes (cond (has_load x) 1 0 + n) w vs o
  one_taken (Some l) x w vs o e =
      let t : Takes n (walk_past x l w) vs o = rest (walk_past x l w) vs o e in
      record { values = t.values; few = omega (arith, t.few) }
  one_taken None (Label m) w vs o e =
      let t : Takes n w vs o = rest w vs o e in
      record { values = t.values; few = omega (arith, t.few) }
  one_taken None (Does i) w vs o e = obeyed_taken (is_fault i w.state) i w vs o e

lines_taken : (xs : List Line) → TakesAll xs (count_by has_load xs)
lines_taken [] w vs o e = ends_taken false w vs o 0 e
lines_taken (x ∷ xs) w vs o e =
    let t : Takes (cond (has_load x) 1 0 + count_by has_load xs) w vs o = one_taken xs (count_by has_load xs) (lines_taken xs) w.seeking x w vs o e in
    record { values = t.values; few = omega (arith, t.few, sum_by-cons (λ (y : Line). cond (has_load y) 1 0) x xs) }

pub values_read : (lines : List Line) (s : State) (vs : List Value) (o : RunOutcome)
    → run_of lines s vs ≡ Some o → read_in o.walk.events ≡ vs
values_read lines s vs o e = (lines_taken lines (walk_at s) vs o e).values

pub loads_few : (lines : List Line) (s : State) (vs : List Value) (o : RunOutcome)
    → run_of lines s vs ≡ Some o → length vs ≤ count_by has_load lines
loads_few lines s vs o e = (lines_taken lines (walk_at s) vs o e).few
