-- Which values a location may hold: what it holds at the start, and what some run of some thread
-- stores there, its loads taking any values. A run with a load of anything else is in no execution,
-- and `served_runs_of` leaves some of these out.
use Rattle.std.specs.Prelude.{Vec, vec_len, ℕ, ◌≡◌, ◌<◌, ◌⊎◌, ◌||◌, ◌&&◌, Bool, true, false, nat_eq, List, [], ◌∷◌, map, Some, slice_get, Contains}
use Rattle.std.specs.List.{list_any}
use Rattle.std.specs.declared.alloc.Global.{Global}
use Rattle.thread_runs.specs.declared.value.Value.{Value}
use Rattle.thread_runs.specs.declared.value.Value.TheVariants.{Number, Address, NoValue}
use Rattle.thread_runs.specs.declared.instruction.Instruction.{Instruction}
use Rattle.thread_runs.specs.declared.instruction.Instruction.TheVariants.{Immediate, Move, AddImmediate, Operate, Load, LoadIndexed, Store, StoreIndexed}
use Rattle.thread_runs.specs.declared.instruction.Line.{Line}
use Rattle.thread_runs.specs.declared.instruction.Line.TheVariants.{Label, Does}
use Rattle.thread_runs.specs.declared.instruction.Program.{Program}
use Rattle.thread_runs.specs.declared.instruction.Event.TheVariants as run_event
use Rattle.thread_runs.specs.declared.state.State.{State}
use Rattle.thread_runs.specs.declared.run.Run as made
use Rattle.thread_runs.specs.Machine.{register}
use Rattle.thread_runs.specs.Runs.{RunOutcome, Run, AreThreadRuns, run_of}
use Rattle.thread_runs.specs.AllRuns.{run_shown, shown_run, thread_of}

-- some run of a thread of the program stores the value at the location
abbrev pub SomeRunStores : Program → ℕ → Value → Type 0
SomeRunStores p location v =
    (t : ℕ) × (t < vec_len p.threads) × (vs : List Value) × (o : RunOutcome)
    × (run_of (thread_of p t).lines (thread_of p t).first vs ≡ Some o)
    × Contains o.walk.events (run_event.Store (Address location) v)

abbrev pub MayHold : Program → ℕ → Value → Type 0
MayHold p location v = (slice_get p.initial.items location ≡ Some v) ⊎ SomeRunStores p location v

-- the second list has those of the first that stay; of each that is left out the fact holds
pub data AreLeft {X : Type 0} (Out : X → Type 0) : List X → List X → Type 0 where
  none : AreLeft Out [] []
  stays : {x : X} {xs ys : List X} → AreLeft Out xs ys → AreLeft Out (x ∷ xs) (x ∷ ys)
  goes : {x : X} {xs ys : List X} → Out x → AreLeft Out xs ys → AreLeft Out (x ∷ xs) ys

-- for each of some first locations the values of the list that it may hold, and maybe others
abbrev pub AreLocationValues : Program → List Value → List (Vec Value Global) → Type 0
AreLocationValues p V held =
    (location : ℕ) (vs : Vec Value Global) → slice_get held location ≡ Some vs
    → AreLeft (λ v. MayHold p location v → ⊥) V vs.items

-- a load of the run takes a value that its location never holds
abbrev pub IsUnserved : Program → Run → Type 0
IsUnserved p r =
    (location : ℕ) × (v : Value)
    × Contains r.outcome.walk.events (run_event.Load (Address location) v)
    × (MayHold p location v → ⊥)

-- the list shows the runs of a thread whose loads take these values, in order, but for some that
-- are unserved
abbrev pub ShowsServed : Program → ℕ → List Value → List made.Run → Type 0
ShowsServed p t V runs =
    (all : List Run) × AreThreadRuns (thread_of p t) (Contains V) all
    × (served : List Run) × AreLeft (IsUnserved p) all served
    × (map run_shown runs ≡ map shown_run served)

-- what the text tells: both are one value
abbrev pub same_value : Value → Value → Bool
same_value (Number m) (Number n) = nat_eq m n
same_value (Address k) (Address l) = nat_eq k l
same_value NoValue NoValue = true
same_value _ _ = false

-- the instruction may write the value into the register: a number that the text has, or whatever is
-- loaded or computed
abbrev pub may_put : Instruction → ℕ → Value → Bool
may_put (Immediate d n) r v = nat_eq d r && same_value (Number n) v
may_put (Move d a) r v = nat_eq d r
may_put (AddImmediate d a n) r v = nat_eq d r
may_put (Operate o d a b) r v = nat_eq d r
may_put (Load d a) r v = nat_eq d r
may_put (LoadIndexed d a b) r v = nat_eq d r
may_put _ r v = false

abbrev pub line_may_put : ℕ → Value → Line → Bool
line_may_put r v (Label m) = false
line_may_put r v (Does i) = may_put i r v

-- the register may hold the value on some way through the lines
abbrev pub may_hold : List Line → State → ℕ → Value → Bool
may_hold lines first r v = same_value (register first r) v || list_any (line_may_put r v) lines

-- the line may store the value at the location
abbrev pub may_store : List Line → State → ℕ → Value → Instruction → Bool
may_store lines first location v (Store d a) =
    may_hold lines first a (Address location) && may_hold lines first d v
may_store lines first location v (StoreIndexed d a b) = may_hold lines first d v
may_store lines first location v _ = false

abbrev pub line_may_store : List Line → State → ℕ → Value → Line → Bool
line_may_store lines first location v (Label m) = false
line_may_store lines first location v (Does i) = may_store lines first location v i

abbrev pub thread_may_store : Program → ℕ → Value → ℕ → Bool
thread_may_store p location v t =
    list_any (line_may_store (thread_of p t).lines (thread_of p t).first location v)
    (thread_of p t).lines
