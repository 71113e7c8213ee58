-- The runs of a thread: one for each list of values that its loads take. Read next: Domain.
use Rattle.std.specs.Prelude.{ℕ, ◌≡◌, Bool, true, false, bytes_eq, List, [], ◌∷◌, Option, Some, None, option_map, if◌then◌else◌, slice_index_or, All, map}
use Rattle.std.specs.List.{range_with_len}
use Rattle.text_values.specs.declared.test.Place.{Place}
use Rattle.text_values.specs.declared.test.Place.TheVariants as observables
use Rattle.text_values.specs.declared.test.InitEntry.{InitEntry}
use Rattle.text_values.specs.declared.test.Step.{Step}
use Rattle.text_values.specs.declared.test.Step.TheVariants.{Label, Instruction}
use Rattle.text_values.specs.declared.instruction.Instruction as text
use Rattle.text_values.specs.TestValue.{Content}
use Rattle.meaning.specs.Names.{Name, is_same_observable}
use Rattle.meaning.specs.Machine.{Value, Number, NoValue, Equal, State, value_of, state_after, is_load, is_fault, is_taken_in, target}

-- An instruction that a run executes, the state before it, and the value that it loads if it is a
-- load. The same instruction of the text may be executed in many runs.
pub record Instance : Type 0 where
  pub instruction : text.Instruction
  pub before : State
  pub loaded : Value

-- A run: what it executes, the state at the end, and whether a fault ended it. The instruction that
-- is a fault is not executed.
pub record Run : Type 0 where
  pub instances : List Instance
  pub final : State
  pub faulted : Bool

-- the run with an instance before it
abbrev pub with_instance : Instance → Run → Run
with_instance i r = record r { instances = i ∷ r.instances }

-- the end of a run, which there is only where no value is left over
abbrev pub end_of_run : Bool → State → List Value → Option Run
end_of_run faulted s [] = Some (record { instances = []; final = s; faulted = faulted })
end_of_run faulted s (v ∷ vs) = None

-- What the lines from one on do: a function of the label at which the thread goes on, if it does
-- not go on at that line, of the state, and of the values that are left for loads.
abbrev pub Rest : Type 0
Rest = Option Name → State → List Value → Option Run

-- the run of an instruction, with its branch taken or not, that loads this value, and of the rest
abbrev pub run_with : text.Instruction → Bool → Value → State → Rest → List Value → Option Run
run_with i taken v s rest vs =
    option_map (with_instance (record { instruction = i; before = s; loaded = v }))
    (rest (target i taken) (state_after i v s) vs)

-- the same, where a load takes the next value
abbrev pub run_from : Bool → text.Instruction → Bool → State → Rest → List Value → Option Run
run_from true i taken s rest [] = None
run_from true i taken s rest (v ∷ vs) = run_with i taken v s rest vs
run_from false i taken s rest vs = run_with i taken NoValue s rest vs

-- the label that is still looked for behind a label
abbrev pub label_after : Name → Option Name → Option Name
label_after m None = None
label_after m (Some l) = if bytes_eq l m then None else Some l

-- The run of these lines whose loads take these values in order. There is one only if it executes
-- just as many loads; it stops at a fault.
abbrev pub run_of : List Step → Rest
run_of [] seeking s vs = end_of_run false s vs
run_of (Label m ∷ xs) seeking s vs = run_of xs (label_after m seeking) s vs
run_of (Instruction i ∷ xs) (Some l) s vs = run_of xs (Some l) s vs
run_of (Instruction i ∷ xs) None s vs =
    if is_fault i s then end_of_run true s vs
    else run_from (is_load i) i (is_taken_in s i) s (λ l u us. run_of xs l u us) vs

-- what the entries give an observable, or this value if they have none for it
abbrev pub value_given : List InitEntry → Value → Place → Value
value_given [] v p = v
value_given (e ∷ es) v p =
    value_given es (if is_same_observable e.place p then value_of e.value else v) p

-- What an observable holds at the start is what its entry says, and 0 if it has none.
abbrev pub initial_value : Content → Place → Value
initial_value t p = value_given t.init (Number 0) p

-- what the 32 registers of a thread hold at the start
abbrev pub initial_registers : Content → ℕ → List Value
initial_registers t thread =
    map (λ r. initial_value t (observables.Register thread r)) (range_with_len 0 32)

-- the state in which a thread starts
abbrev pub initial_state : Content → ℕ → State
initial_state t thread = record { registers = initial_registers t thread; compared = Equal }

-- the lines of a thread
abbrev pub lines_of_thread : Content → ℕ → List Step
lines_of_thread t thread = slice_index_or t.threads thread []

-- It is a run of the thread, whose loads take values of the set.
abbrev pub IsRun : Content → (Value → Type 0) → ℕ → Run → Type 0
IsRun t V thread r =
    (vs : List Value) × All V vs
    × (run_of (lines_of_thread t thread) None (initial_state t thread) vs ≡ Some r)
