-- The conditions and tests that a text can have.
use Rattle.std.specs.Prelude.{◌≡◌, ℕ, ◌+◌, ◌<◌, ◌≤◌, max, List, [], ◌∷◌, length, slice_index, Bool, true, false, ◌||◌, ◌==◌, Option, Some, None, ℤ, pos, negsuc}
use Rattle.litmus_tokens.specs.declared.stage.Stage.TheVariants.{Magic, Tail}
use Rattle.litmus_tokens.specs.Lexer.{is_word_byte, begins_comment}
use Rattle.litmus_tokens.specs.Words.{is_test_name}
use Rattle.text_values.specs.Letters.{is_letter}
use Rattle.litmus_tokens.specs.Texts.{test_tokens_of, test_lexing}
use Rattle.text_values.specs.declared.test.Place.{Place}
use Rattle.text_values.specs.declared.test.Place.TheVariants as places
use Rattle.text_values.specs.declared.test.Value as declared_value
use Rattle.text_values.specs.declared.test.Value.TheVariants as values
use Rattle.text_values.specs.declared.test.InitEntry.{InitEntry}
use Rattle.text_values.specs.declared.test.Step.{Step}
use Rattle.text_values.specs.declared.test.Step.TheVariants as steps
use Rattle.text_values.specs.declared.test.Quantifier.{Quantifier}
use Rattle.text_values.specs.declared.instruction.Instruction.{Instruction}
use Rattle.text_values.specs.declared.instruction.Instruction.TheVariants as instructions
use Rattle.text_values.specs.TestValue.{Formula, Constant, Holds, Not, Join, Content, level}
use Rattle.litmus_tokens.specs.Conditions.{Limits, condition_limits, IsConditionText, tree_formula}
use Rattle.litmus_table.specs.Late.{is_in}
use Rattle.litmus_grammar.specs.Grammar.{IsTestText, test_meaning}
use Rattle.litmus_grammar.specs.Texts.{late_test}
use Rattle.text_values.specs.Layout.{most_bytes}
use Rattle.litmus_printing.specs.Printing.{is_loose}
use Rattle.text_laws.specs.Counts.{one_where}

abbrev pub begins_word : ℕ → Bool
begins_word b = is_letter b || b == 95

-- a letter or `_`, and then letters, digits and `_`
pub record IsWord (n : List ℕ) : Type 0 where
  pub first : begins_word (slice_index n 0) ≡ true
  pub each : (k : ℕ) → k < length n → is_word_byte (slice_index n k) ≡ true

-- from -2147483648 to 2147483647
abbrev pub IsNumber : ℤ → Type 0
IsNumber (pos n) = n < 2147483648
IsNumber (negsuc n) = n < 2147483648

abbrev pub IsValue : declared_value.Value → Type 0
IsValue (values.Number n) = IsNumber n
IsValue (values.Address x) = IsWord x

-- a location, or one of 32 registers of one of so many threads
abbrev pub IsPlace : ℕ → Place → Type 0
IsPlace threads (places.Location x) = IsWord x
IsPlace threads (places.Register t r) = (t < threads) × (r < 32)

-- its atoms are well formed
abbrev pub IsFormula : ℕ → Formula → Type 0
IsFormula threads (Constant b) = Unit {0}
IsFormula threads (Holds p v) = IsPlace threads p × IsValue v
IsFormula threads (Not a) = IsFormula threads a
IsFormula threads (Join op a b) = IsFormula threads a × IsFormula threads b

-- ---- threads

-- a base is no `r0`
abbrev pub IsBase : ℕ → Type 0
IsBase r = (0 < r) × (r < 32)

abbrev pub IsTestInstruction : Instruction → Type 0
IsTestInstruction (instructions.LoadImmediate d n) = (d < 32) × IsNumber n
IsTestInstruction (instructions.Move d s) = (d < 32) × (s < 32)
IsTestInstruction (instructions.AddImmediate d a n) = (d < 32) × IsBase a × IsNumber n
IsTestInstruction (instructions.Compute op d a b) = (d < 32) × (a < 32) × (b < 32)
IsTestInstruction (instructions.Load d a) = (d < 32) × IsBase a
IsTestInstruction (instructions.LoadIndexed d a b) = (d < 32) × IsBase a × (b < 32)
IsTestInstruction (instructions.Store s a) = (s < 32) × IsBase a
IsTestInstruction (instructions.StoreIndexed s a b) = (s < 32) × IsBase a × (b < 32)
IsTestInstruction (instructions.Compare a b) = (a < 32) × (b < 32)
IsTestInstruction (instructions.CompareImmediate a n) = (a < 32) × IsNumber n
IsTestInstruction (instructions.BranchIf c l) = IsWord l
IsTestInstruction (instructions.Branch l) = IsWord l
IsTestInstruction (instructions.Fence f) = Unit {0}

abbrev pub IsTestStep : Step → Type 0
IsTestStep (steps.Label l) = IsWord l
IsTestStep (steps.Instruction i) = IsTestInstruction i

abbrev pub AreTestSteps : List Step → Type 0
AreTestSteps [] = Unit {0}
AreTestSteps (s ∷ ss) = IsTestStep s × AreTestSteps ss

-- the label that an instruction may go to
abbrev pub step_target : Instruction → Option (List ℕ)
step_target (instructions.BranchIf c l) = Some l
step_target (instructions.Branch l) = Some l
step_target i = None

abbrev pub labels : List Step → List (List ℕ)
labels [] = []
labels (steps.Label l ∷ ss) = l ∷ labels ss
labels (steps.Instruction i ∷ ss) = labels ss

-- a label that one goes to stands below and not above
abbrev pub IsBelow : List (List ℕ) → List (List ℕ) → Option (List ℕ) → Type 0
IsBelow above below None = Unit {0}
IsBelow above below (Some l) = (is_in l above ≡ false) × (is_in l below ≡ true)

-- each label stands once, and each branch goes down; above are the labels so far
abbrev pub HaveLabelsOnce : List (List ℕ) → List Step → Type 0
HaveLabelsOnce above [] = Unit {0}
HaveLabelsOnce above (steps.Label l ∷ ss) = (is_in l above ≡ false) × HaveLabelsOnce (l ∷ above) ss
HaveLabelsOnce above (steps.Instruction i ∷ ss) =
    IsBelow above (labels ss) (step_target i) × HaveLabelsOnce above ss

abbrev pub AreThreads : List (List Step) → Type 0
AreThreads [] = Unit {0}
AreThreads (t ∷ ts) = AreTestSteps t × HaveLabelsOnce [] t × AreThreads ts

-- ---- tests

abbrev pub Lacks : List Place → Place → Type 0
Lacks [] p = Unit {0}
Lacks (q ∷ qs) p = (q ≡ p → ⊥) × Lacks qs p

-- each entry is for a place that no entry before it has
abbrev pub AreEntries : ℕ → List Place → List InitEntry → Type 0
AreEntries threads before [] = Unit {0}
AreEntries threads before (e ∷ es) =
    IsPlace threads e.place × IsValue e.value × Lacks before e.place
    × AreEntries threads (e.place ∷ before) es

abbrev pub ArePlaces : ℕ → List Place → Type 0
ArePlaces threads [] = Unit {0}
ArePlaces threads (p ∷ ps) = IsPlace threads p × ArePlaces threads ps

-- the two bytes that begin a comment stand in it
abbrev pub holds_comment : List ℕ → Bool
holds_comment [] = false
holds_comment (b ∷ bs) = begins_comment (b ∷ bs) || holds_comment bs

-- a name of at most 255 printable bytes, and one to eight threads
pub record IsTest (v : Content) : Type 0 where
  pub name : is_test_name v.name ≡ true
  pub no_comment : holds_comment v.name ≡ false
  pub some : 0 < length v.threads
  pub few : length v.threads ≤ 8
  pub init : AreEntries (length v.threads) [] v.init
  pub threads : AreThreads v.threads
  pub observed : ArePlaces (length v.threads) v.observed
  pub condition : IsFormula (length v.threads) v.condition

-- ---- what bytes are a text of, where limits are wide enough

-- a condition, in a test of so many threads
pub record IsTextOfCondition (threads : ℕ) (bytes : List ℕ) (quantifier : Quantifier) (f : Formula)
    : Type 0 where
  pub most : Limits
  pub text : IsConditionText most threads (test_tokens_of (test_lexing Tail bytes))
  pub asked : text.quantifier ≡ quantifier
  pub meant : tree_formula text.condition ≡ f

-- a test, which the later checks pass
pub record IsTextOfTest (bytes : List ℕ) (v : Content) : Type 0 where
  pub most : Limits
  pub text : IsTestText most (test_tokens_of (test_lexing Magic bytes))
  pub in_time : late_test text.tree ≡ None
  pub meant : test_meaning text.tree ≡ v

-- ---- the limits of the format

-- how many parentheses and `not` are open at once in what is printed
abbrev pub nesting : Formula → ℕ
nesting (Constant b) = 0
nesting (Holds p v) = 0
nesting (Not a) = nesting a + 2
nesting (Join op a b) =
    max (nesting a + one_where (is_loose (level op + 1) a))
    (nesting b + one_where (is_loose (level op) b))

-- how many binary operators
abbrev pub joins : Formula → ℕ
joins (Constant b) = 0
joins (Holds p v) = 0
joins (Not a) = joins a
joins (Join op a b) = joins a + joins b + 1

-- a text with this proposition in parentheses
pub record IsFormulaWithinLimits (bytes : List ℕ) (f : Formula) : Type 0 where
  pub short : length bytes ≤ most_bytes
  pub shallow : nesting f + 1 ≤ condition_limits.nesting
  pub few : joins f ≤ condition_limits.operators

-- What printing can break of the limits that a text kept which was read: its text may be longer,
-- and have more parentheses.
pub record StaysWithin (bytes : List ℕ) (f : Formula) : Type 0 where
  pub short : length bytes ≤ most_bytes
  pub shallow : nesting f + 1 ≤ condition_limits.nesting
