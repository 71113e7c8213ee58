-- What the slots of the code are in the definitions, and how instructions read them. Read next:
-- Reaching.
use Rattle.std.specs.Prelude.{◌≡◌, ◌⊎◌, Bool, List, map, slice_get, unwrap_or, option_map, []}
use Rattle.text_values.specs.declared.instruction.Instruction.{Instruction}
use Rattle.text_values.specs.declared.instruction.Instruction.TheVariants as texts
use Rattle.meaning.specs.Dependencies as dependencies
use Rattle.meaning.specs.Dependencies.{Instructions, IsAddressRegister, IsStoredRegister, IsOperand, is_link, is_link_of_need}
use Rattle.plain_runs.specs.declared.run.Instance.{Instance}
use Rattle.plain_runs.specs.Runs.{instance_as}
use Rattle.plain_events.specs.declared.slot.Slot.{Slot}
use Rattle.plain_events.specs.declared.slot.Slot.TheVariants as slots
use Rattle.plain_events.specs.declared.slot.Slots.{Slots}
use Rattle.plain_events.specs.declared.slot.Slots.TheVariants.{Nothing, One, Two}
use Rattle.plain_events.specs.declared.slot.Reads.{Reads}
use Rattle.plain_events.specs.declared.slot.Reads.TheVariants.{Address, Stored, Operand}
use Rattle.plain_events.specs.declared.slot.Passes.{Passes}
use Rattle.plain_events.specs.declared.slot.Passes.TheVariants.{Links, LinksOfNeed}

abbrev pub slot_as : Slot → dependencies.Slot
slot_as (slots.Register r) = dependencies.Register r
slot_as slots.Cr0 = dependencies.Cr0

-- It is one of the slots.
abbrev pub IsAmong : Slots → dependencies.Slot → Type 0
IsAmong Nothing p = ⊥
IsAmong (One s) p = p ≡ slot_as s
IsAmong (Two s t) p = (p ≡ slot_as s) ⊎ (p ≡ slot_as t)

-- The instruction reads the slot in this way.
abbrev pub IsReadBy : Reads → Instruction → dependencies.Slot → Type 0
IsReadBy Address = IsAddressRegister
IsReadBy Stored = IsStoredRegister
IsReadBy Operand = IsOperand

-- the instructions through which such a chain may run
abbrev pub passes_of : Passes → Instruction → Bool
passes_of Links = is_link
passes_of LinksOfNeed = is_link_of_need

-- the instructions that a run executes; past the end stands one that reads and writes nothing
abbrev pub instructions_as : List Instance → Instructions
instructions_as instances index =
    unwrap_or (option_map (λ i. i.instruction) (slice_get (map instance_as instances) index))
    (texts.Branch [])
