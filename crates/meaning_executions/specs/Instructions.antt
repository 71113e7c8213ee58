-- What an instruction does on both machines. Read next: Runs.
use Rattle.std.specs.Prelude.{◌≡◌, Bool, false, List, [], ◌∷◌, IsTrue, option_map}
use Rattle.text_values.specs.declared.instruction.Fence as kinds
use Rattle.text_values.specs.declared.instruction.Instruction as text
use Rattle.text_values.specs.declared.instruction.Instruction.TheVariants.{Fence}
use Rattle.thread_runs.specs.declared.value.Value as numbered_value
use Rattle.thread_runs.specs.declared.state.State as numbered_state
use Rattle.thread_runs.specs.declared.instruction.Event as numbered_event
use Rattle.thread_runs.specs.declared.instruction.Event.TheVariants as run_event
use Rattle.thread_runs.specs.Machine as numbered
use Rattle.ppc_lowering.specs.Lowering.{lowered_instruction, name_index}
use Rattle.meaning.specs.Names.{Name}
use Rattle.meaning.specs.Machine.{Value, State, state_after, address_of, stored_values, is_load, is_branch, is_fault, is_taken_in, target}
use Rattle.meaning.specs.Runs.{Instance}
use Rattle.meaning.specs.Dependencies.{is_event}
use Rattle.meaning_executions.specs.Values.{IsSameValue, IsSameState}

-- The events of the program are what the instance does: one, or none.
pub data AreEventsOf (names : List Name) (i : Instance) : List numbered_event.Event → Type 0 where
  loads : {a v : numbered_value.Value} → IsTrue (is_load i.instruction)
      → IsSameValue names a (address_of i.instruction i.before) → IsSameValue names v i.loaded
      → AreEventsOf names i (run_event.Load a v ∷ [])
  stores : {a v : numbered_value.Value} {w : Value}
      → stored_values i.instruction i.before ≡ w ∷ []
      → IsSameValue names a (address_of i.instruction i.before) → IsSameValue names v w
      → AreEventsOf names i (run_event.Store a v ∷ [])
  fences : {f : kinds.Fence} → i.instruction ≡ Fence f
      → AreEventsOf names i (run_event.Fence f ∷ [])
  nothing : is_event i.instruction ≡ false → AreEventsOf names i []

-- In these states the instruction does the same on both machines, where the program numbers these
-- locations and these labels.
pub record DoesSame (names labels : List Name) (i : text.Instruction) (s : numbered_state.State)
    (u : State) : Type 0 where
  pub fault : numbered.is_fault (lowered_instruction labels i) s ≡ is_fault i u
  pub load : numbered.is_load (lowered_instruction labels i) ≡ is_load i
  pub branch : numbered.is_branch (lowered_instruction labels i) ≡ is_branch i
  pub taken : numbered.takes_branch (lowered_instruction labels i) s ≡ is_taken_in u i
  pub goes_on : (taken : Bool)
      → numbered.branch_target (lowered_instruction labels i) taken
      ≡ option_map (λ l. name_index labels l) (target i taken)
  pub state : (v : numbered_value.Value) (w : Value) → IsSameValue names v w
      → IsSameState names (numbered.state_after (lowered_instruction labels i) v s)
      (state_after i w u)
  pub events : (v : numbered_value.Value) (w : Value) → IsSameValue names v w
      → AreEventsOf names (record { instruction = i; before = u; loaded = w })
      (numbered.event_of (lowered_instruction labels i) v s)
