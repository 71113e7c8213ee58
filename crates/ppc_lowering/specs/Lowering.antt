-- A test by numbers.
use Rattle.std.specs.Prelude.{Vec, vec_len, ℕ, zero, suc, ◌≡◌, ◌<◌, ◌⊎◌, ◌↔◌, List, [], ◌∷◌, ◌++◌, length, map, if◌then◌else◌, slice_index_or, slice_set, replicate, Contains, All}
use Rattle.std.specs.List.{AllPairs, flat_map}
use Rattle.std.specs.Ordering.{nat_cmp, is_eq}
use Rattle.std.specs.Cmp.Lexicographic.{slice_cmp}
use Rattle.std.specs.declared.cmp.Ordering.{Ordering}
use Rattle.std.specs.declared.cmp.Ordering.TheVariants as how
use Rattle.std.specs.Int.{w32, cast_unsigned}
use Rattle.std.specs.declared.alloc.Global.{Global}
use Rattle.text_values.specs.declared.test.Place.{Place}
use Rattle.text_values.specs.declared.test.Place.TheVariants as places
use Rattle.text_values.specs.declared.test.Value as written
use Rattle.text_values.specs.declared.test.Value.TheVariants as values
use Rattle.text_values.specs.declared.test.InitEntry.{InitEntry}
use Rattle.text_values.specs.declared.test.Step.{Step}
use Rattle.text_values.specs.declared.test.Step.TheVariants as steps
use Rattle.text_values.specs.declared.test.Thread.{Thread}
use Rattle.text_values.specs.declared.instruction.Instruction as text
use Rattle.text_values.specs.declared.instruction.Instruction.TheVariants as texts
use Rattle.text_values.specs.TestValue.{Formula, Constant, Holds, Not, Join, formula_of}
use Rattle.text_values.specs.declared.test.Test.{Test}
use Rattle.thread_runs.specs.declared.value.Value.{Value}
use Rattle.thread_runs.specs.declared.value.Value.TheVariants.{Number, Address, NoValue}
use Rattle.thread_runs.specs.declared.instruction.Instruction.{Instruction}
use Rattle.thread_runs.specs.declared.instruction.Instruction.TheVariants.{Immediate, Move, AddImmediate, Operate, Load, LoadIndexed, Store, StoreIndexed, Compare, CompareImmediate, Branch, Jump, Fence}
use Rattle.thread_runs.specs.declared.instruction.Line.{Line}
use Rattle.thread_runs.specs.declared.instruction.Line.TheVariants.{Label, Does}
use Rattle.thread_runs.specs.declared.instruction.Program.{Program}
use Rattle.ppc_lowering.specs.declared.fault.DomainFault.{DomainFault}
use Rattle.ppc_lowering.specs.declared.fault.DomainFault.TheVariants.{Refused, OutOfMemory}
use Rattle.thread_runs.specs.declared.run.Run.{Run}
use Rattle.thread_runs.specs.AllRuns.{ShowsRuns, thread_of}
use Rattle.ppc_lowering.specs.Domain.{IsDomain, IsDomainRefusal}

-- names in the order of their bytes, each once
abbrev pub name_cmp : List ℕ → List ℕ → Ordering
name_cmp = slice_cmp nat_cmp

abbrev pub IsNameBefore : List ℕ → List ℕ → Type 0
IsNameBefore a b = name_cmp a b ≡ how.Less

-- the new names are the old ones and these
pub record Gains (names old new : List (List ℕ)) : Type 0 where
  pub exact : (n : List ℕ) → Contains new n ↔ (Contains old n ⊎ Contains names n)

-- the index of a name, or the count of the names if it is not among them
abbrev pub name_index : List (List ℕ) → List ℕ → ℕ
name_index [] name = zero
name_index (n ∷ names) name = if is_eq (name_cmp n name) then zero else suc (name_index names name)

-- a value of the text
abbrev pub lowered_value : List (List ℕ) → written.Value → Value
lowered_value names (values.Number n) = Number (cast_unsigned w32 n)
lowered_value names (values.Address name) = Address (name_index names name)

-- an instruction of the text
abbrev pub lowered_instruction : List (List ℕ) → text.Instruction → Instruction
lowered_instruction labels (texts.LoadImmediate d n) = Immediate d (cast_unsigned w32 n)
lowered_instruction labels (texts.Move d a) = Move d a
lowered_instruction labels (texts.AddImmediate d a n) = AddImmediate d a (cast_unsigned w32 n)
lowered_instruction labels (texts.Compute o d a b) = Operate o d a b
lowered_instruction labels (texts.Load d a) = Load d a
lowered_instruction labels (texts.LoadIndexed d a b) = LoadIndexed d a b
lowered_instruction labels (texts.Store d a) = Store d a
lowered_instruction labels (texts.StoreIndexed d a b) = StoreIndexed d a b
lowered_instruction labels (texts.Compare a b) = Compare a b
lowered_instruction labels (texts.CompareImmediate a n) = CompareImmediate a (cast_unsigned w32 n)
lowered_instruction labels (texts.BranchIf c l) = Branch c (name_index labels l)
lowered_instruction labels (texts.Branch l) = Jump (name_index labels l)
lowered_instruction labels (texts.Fence f) = Fence f

abbrev pub lowered_line : List (List ℕ) → Step → Line
lowered_line labels (steps.Label l) = Label (name_index labels l)
lowered_line labels (steps.Instruction i) = Does (lowered_instruction labels i)

-- the labels of a thread
abbrev pub labels_in : Step → List (List ℕ)
labels_in (steps.Label l) = l ∷ []
labels_in (steps.Instruction i) = []

-- the names, in order, are just these
pub record AreNamesOf (found names : List (List ℕ)) : Type 0 where
  pub rising : AllPairs IsNameBefore names
  pub exact : (n : List ℕ) → Contains names n ↔ Contains found n

abbrev pub LowersTo : List Step → List Line → Type 0
LowersTo thread lines =
    (labels : List (List ℕ)) × AreNamesOf (flat_map labels_in thread) labels
    × (lines ≡ map (lowered_line labels) thread)

-- the locations that a test names
abbrev pub place_names : Place → List (List ℕ)
place_names (places.Location name) = name ∷ []
place_names (places.Register t r) = []

abbrev pub value_names : written.Value → List (List ℕ)
value_names (values.Address name) = name ∷ []
value_names (values.Number n) = []

abbrev pub entry_names : InitEntry → List (List ℕ)
entry_names e = place_names e.place ++ value_names e.value

abbrev pub formula_names : Formula → List (List ℕ)
formula_names (Constant b) = []
formula_names (Holds p v) = place_names p ++ value_names v
formula_names (Not a) = formula_names a
formula_names (Join op a b) = formula_names a ++ formula_names b

abbrev pub test_names : Test → List (List ℕ)
test_names t =
    (flat_map entry_names t.init.items ++ formula_names (formula_of t.condition.proposition))
    ++ flat_map place_names t.observed.items

-- the entry is the last that names the observable
pub record IsLastEntry (init : List InitEntry) (p : Place) (e : InitEntry) : Type 0 where
  pub before : List InitEntry
  pub behind : List InitEntry
  pub there : init ≡ before ++ e ∷ behind
  pub place : e.place ≡ p
  pub last : All (λ f. f.place ≡ p → ⊥) behind

-- the initial value of an observable: what its entry says, the last if there are more, and 0 if
-- there is none
abbrev pub Starts : List InitEntry → Place → List (List ℕ) → Value → Type 0
Starts init p names v =
    ((e : InitEntry) × IsLastEntry init p e × (v ≡ lowered_value names e.value))
    ⊎ (All (λ e. e.place ≡ p → ⊥) init × (v ≡ Number 0))

-- what the locations hold at the start, in their order
pub record AreInitial (init : List InitEntry) (names : List (List ℕ)) (values : List Value)
    : Type 0 where
  pub each_one : length values ≡ length names
  pub starts : (k : ℕ) → k < length names
      → Starts init (places.Location (slice_index_or names k [])) names
      (slice_index_or values k NoValue)

-- what the registers of a thread hold at the start
pub record AreRegisters (init : List InitEntry) (names : List (List ℕ)) (t : ℕ) (file : List Value)
    : Type 0 where
  pub each_one : length file ≡ 32
  pub starts : (r : ℕ) → r < 32
      → Starts init (places.Register t r) names (slice_index_or file r NoValue)

pub record AreFiles (init : List InitEntry) (names : List (List ℕ)) (threads : ℕ)
    (files : List (List Value)) : Type 0 where
  pub each_one : length files ≡ threads
  pub starts : (t : ℕ) → t < threads → AreRegisters init names t (slice_index_or files t [])

-- the lines of all threads
pub record AreThreadLines (threads : List Thread) (lines : List (Vec Line Global)) : Type 0 where
  pub each_one : length lines ≡ length threads
  pub each : (t : ℕ) (thread : Thread) (made : Vec Line Global) → t < length threads
      → LowersTo (slice_index_or threads t thread).steps.items (slice_index_or lines t made).items

-- the program of a test
pub record IsProgram (t : Test) (p : Program) : Type 0 where
  pub locations : AreNamesOf (test_names t) p.locations.items
  pub initial : AreInitial t.init.items p.locations.items p.initial.items
  pub threads : AreThreadLines t.threads.items p.threads.items
  pub registers : AreFiles t.init.items p.locations.items (vec_len t.threads) p.registers.items

-- the domain of a test, and why it is refused
abbrev pub IsTestDomain : Test → List Value → Type 0
IsTestDomain t V = (p : Program) × IsProgram t p × IsDomain p V

abbrev pub IsTestDomainFault : Test → DomainFault → Type 0
IsTestDomainFault t (Refused r) = (p : Program) × IsProgram t p × IsDomainRefusal p r
IsTestDomainFault t (OutOfMemory e) = Unit {0}

-- the list shows all runs of a thread of a test whose loads take these values, in order
abbrev pub ShowsTestRuns : Test → ℕ → List Value → List Run → Type 0
ShowsTestRuns t n V runs = (p : Program) × IsProgram t p × ShowsRuns (thread_of p n) V runs

-- the registers of a thread that all hold 0
abbrev pub blank : List Value
blank = replicate 32 (Number 0)

-- with a location, or a register, holding a value
abbrev pub put_location : List (List ℕ) → Place → Value → List Value → List Value
put_location names (places.Location name) v values = slice_set values (name_index names name) v
put_location names (places.Register t r) v values = values

abbrev pub put_register : Place → Value → List (List Value) → List (List Value)
put_register (places.Location name) v files = files
put_register (places.Register t r) v files =
    slice_set files t (slice_set (slice_index_or files t []) r v)
