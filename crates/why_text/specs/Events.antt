-- How events are told, as `a: W[x]=1  P0  stw r1,0(r2)`.
use Rattle.std.specs.Prelude.{ℕ, ◌+◌, ◌-◌, ◌%◌, ◌/◌, List, [], ◌∷◌, ◌++◌, Bool, true, false, Option, Some, None, nat_lt, if◌then◌else◌, decimal, codes}
use Rattle.litmus_printing.specs.Printing.{fence_text}
use Rattle.thread_runs.specs.declared.instruction.Instruction.{Instruction}
use Rattle.thread_runs.specs.declared.instruction.Instruction.TheVariants as instructions
use Rattle.thread_runs.specs.declared.value.Value.{Value}
use Rattle.store_orders.specs.declared.combination.Action.{Action}
use Rattle.store_orders.specs.declared.combination.Action.TheVariants as actions
use Rattle.outcome_states.specs.Final.{value_shown}
use Rattle.outcome_states.specs.Text.{name_at, value_text}
use Rattle.why_text.specs.declared.event.ToldEvent.{ToldEvent}

-- the letters from `a` on, and behind `z` again with a number: `a1`
abbrev pub lettered : ℕ → List ℕ
lettered n = (97 + n % 26) ∷ (if nat_lt n 26 then [] else decimal (n / 26))

-- the name of an event: the initial stores, which are the first, are `I0` and so on, and the others
-- have small letters
unfoldable pub event_name : ℕ → ℕ → List ℕ
event_name initial n = if nat_lt n initial then codes "I" ++ decimal n else lettered (n - initial)

-- what an access is of, and its value where values are told
unfoldable pub value_told : Bool → List (List ℕ) → Value → List ℕ
value_told true locations value = codes "=" ++ value_text locations (value_shown value)
value_told false locations value = []

unfoldable pub access_text : List ℕ → Bool → List (List ℕ) → ℕ → Value → List ℕ
access_text letter shows locations location value =
    letter ++ codes "[" ++ name_at locations location ++ codes "]"
    ++ value_told shows locations value

unfoldable pub fence_told : List ℕ → List ℕ
fence_told name = codes "F[" ++ name ++ codes "]"

unfoldable pub action_text : Bool → List (List ℕ) → Action → List ℕ
action_text shows locations (actions.Load location value) =
    access_text (codes "R") shows locations location value
action_text shows locations (actions.Store location value) =
    access_text (codes "W") shows locations location value
action_text shows locations (actions.Fence f) = fence_told (fence_text f)

unfoldable pub thread_text : Option ℕ → List ℕ
thread_text None = codes "init"
thread_text (Some thread) = codes "P" ++ decimal thread

-- an access by one register, as `stw r1,0(r2)`, and by the sum of two
unfoldable pub plain_access : List ℕ → ℕ → ℕ → List ℕ
plain_access word first base =
    word ++ codes " r" ++ decimal first ++ codes ",0(r" ++ decimal base ++ codes ")"

unfoldable pub indexed_access : List ℕ → ℕ → ℕ → ℕ → List ℕ
indexed_access word first base index =
    word ++ codes " r" ++ decimal first ++ codes ",r" ++ decimal base ++ codes ",r" ++ decimal index

-- the instruction of an event; others make no event
unfoldable pub instruction_text : Instruction → List ℕ
instruction_text (instructions.Load target base) = plain_access (codes "lwz") target base
instruction_text (instructions.LoadIndexed target base index) =
    indexed_access (codes "lwzx") target base index
instruction_text (instructions.Store source base) = plain_access (codes "stw") source base
instruction_text (instructions.StoreIndexed source base index) =
    indexed_access (codes "stwx") source base index
instruction_text (instructions.Fence f) = fence_text f
instruction_text instruction = []

unfoldable pub instruction_told : Option Instruction → List ℕ
instruction_told None = []
instruction_told (Some instruction) = codes "  " ++ instruction_text instruction

-- an event on a line: its name, what it does, its thread and its instruction
unfoldable pub event_line : Bool → List (List ℕ) → ℕ → ToldEvent → List ℕ
event_line shows locations initial e =
    codes "  " ++ event_name initial e.number ++ codes ": "
    ++ action_text shows locations e.event.action ++ codes "  " ++ thread_text e.event.thread
    ++ instruction_told e.instruction ++ codes "\n"
