-- The space of a layout, or why it has none; and the space of a test, or why it has none.
use Rattle.std.specs.Prelude.{Vec, ℕ, ◌≡◌, ◌⊎◌, List, map, Option, Result, Ok, Err}
use Rattle.ppc_lowering.specs.declared.fault.EvalRefusal.{EvalRefusal}
use Rattle.ppc_lowering.specs.declared.fault.EvalRefusal.TheVariants.{TooManyCandidates, AddressFault}
use Rattle.std.specs.declared.alloc.Global.{Global}
use Rattle.thread_runs.specs.declared.value.Value.{Value}
use Rattle.candidate_spaces.specs.declared.fault.SpaceFault.{SpaceFault}
use Rattle.candidate_spaces.specs.declared.fault.SpaceFault.TheVariants.{Refused, OutOfMemory}
use Rattle.thread_runs.specs.declared.instruction.Program.{Program}
use Rattle.thread_runs.specs.declared.run.Run.{Run}
use Rattle.ppc_lowering.specs.Domain.{IsDomain}
use Rattle.ppc_lowering.specs.Lowering.{IsProgram, IsTestDomainFault}
use Rattle.ppc_lowering.specs.declared.fault.DomainFault.TheVariants as domain_faults
use Rattle.text_values.specs.declared.test.Test.{Test}
use Rattle.run_combinations.specs.Keys.{IsKeyed}
use Rattle.store_orders.specs.Events.{initial_stores}
use Rattle.run_combinations.specs.Layouts.{AreServedRuns, IsLaidOut}
use Rattle.run_combinations.specs.Search.{all_combinations, location_count}
use Rattle.store_orders.specs.Combinations.{combination_lists}
use Rattle.candidate_spaces.specs.declared.candidate.Space.{Space}
use Rattle.candidates.specs.declared.space_parts.SpaceParts.{SpaceParts}
use Rattle.candidates.specs.Parts.{IsWholeOf, AreCounted}
use Rattle.run_combinations.specs.declared.layout.Layout.{Layout}
use Rattle.run_combinations.specs.Candidates.{AreCandidates, AreTooMany, AreFaulted}

-- the registers at the ends of the runs, and the locations
abbrev pub HasEnds : Layout → Space → Type 0
HasEnds l s =
    (map (λ v. v.items) s.registers.items
    ≡ map (λ t. map (λ p. p.registers) t.parts.items) l.threads.items)
    × (s.locations ≡ l.locations)

-- the space of a layout, or why there is none
abbrev pub IsLayoutSpace : Layout → Space → Type 0
IsLayoutSpace l s =
    AreCandidates (location_count l) (all_combinations l)
    (map combination_lists s.combinations.items) × HasEnds l s

abbrev pub IsRefusedAs : Layout → EvalRefusal → Type 0
IsRefusedAs l TooManyCandidates = AreTooMany (location_count l) (all_combinations l)
IsRefusedAs l AddressFault = AreFaulted (location_count l) (all_combinations l)
IsRefusedAs l _ = ⊥

-- with all orders they are the space of the layout
abbrev pub AreLayoutParts : Layout → SpaceParts → Type 0
AreLayoutParts l p = (s : Space) → IsWholeOf p s → IsLayoutSpace l s

abbrev pub IsAnswerTo : Layout → Result SpaceParts EvalRefusal → Type 0
IsAnswerTo l (Ok p) = AreLayoutParts l p × AreCounted p
IsAnswerTo l (Err r) = IsRefusedAs l r

-- what the candidates of the test are made of: the initial stores of its program, and runs of each
-- of its threads over its domain, but for some with a load of what its location never holds
abbrev pub HasLayout : Test → Layout → Type 0
HasLayout t l =
    (p : Program) × (values : List Value) × (runs : List (Vec Run Global)) × IsProgram t p
    × IsDomain p values × AreServedRuns p values runs × IsLaidOut p runs l

-- with the sets of what its runs read and store
abbrev pub HasKeyedLayout : Test → Layout → Type 0
HasKeyedLayout t l =
    HasLayout t l × (key : ℕ → Value → Option (ℕ × ℕ)) × (initial : List Value) × IsKeyed key l
    × (l.initial.items ≡ initial_stores 0 initial)

-- the space of the test, or why it has none: a refusal of its domain, or one that its candidates
-- call for
abbrev pub IsTestSpace : Test → Space → Type 0
IsTestSpace t s = (l : Layout) × HasLayout t l × IsLayoutSpace l s

abbrev pub IsLayoutFault : Test → SpaceFault → Type 0
IsLayoutFault t (Refused r) = IsTestDomainFault t (domain_faults.Refused r)
IsLayoutFault t (OutOfMemory e) = Unit {0}

abbrev pub IsTestRefusal : Test → SpaceFault → Type 0
IsTestRefusal t (Refused r) =
    IsLayoutFault t (Refused r) ⊎ ((l : Layout) × HasLayout t l × IsRefusedAs l r)
IsTestRefusal t (OutOfMemory e) = Unit {0}
