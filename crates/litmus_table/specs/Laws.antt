-- What the reader of tables takes, in terms of the grammar.
use Rattle.std.specs.Prelude.{◌≡◌, ℕ, zero, suc, ◌+◌, List, [], ◌∷◌, ◌++◌, map, length, Bool, true, false, ◌||◌, ◌&&◌, Option, Some, None}
use Rattle.litmus_tokens.specs.declared.stage.Stage.{Stage}
use Rattle.litmus_tokens.specs.declared.stage.Stage.TheVariants.{CellBegins, InCell}
use Rattle.litmus_tokens.specs.declared.token.Token.{Token}
use Rattle.litmus_tokens.specs.Texts as texts
use Rattle.litmus_tokens.specs.Texts.{test_tokens_of, StandsAt, is_end, begins_tail}
use Rattle.litmus_tokens.specs.Faults.{RulingSays, cell_ruling}
use Rattle.text_values.specs.declared.instruction.Instruction.{Instruction}
use Rattle.text_values.specs.declared.instruction.Instruction.TheVariants as instructions
use Rattle.text_values.specs.declared.test.Step.{Step}
use Rattle.text_values.specs.declared.test.Step.TheVariants as steps
use Rattle.litmus_table.specs.Grammar.{RowTree, ThreadTree, spelled_rows, spelled_thread, AreCells, AreRowTrees, columns_meaning, thread_meaning}
use Rattle.litmus_table.specs.Late.{Note, Defines, Branches, thread_notes, columns_notes}
use Rattle.litmus_words.specs.Machine.{ThreadSteps, TableState, table_start, widened, table_step, is_row_start, can_end, table_rule_at}

-- ---- tables and threads on lists of tokens

-- these tokens are the rows of a table, of a first column and so many others
pub record IsTable (others : ℕ) (ts : List Token) : Type 0 where
  pub rows : List RowTree
  pub fine : AreRowTrees others rows
  pub whole : ts ≡ spelled_rows rows []

-- these tokens are the text of a thread alone
pub record IsThread (ts : List Token) : Type 0 where
  pub tree : ThreadTree
  pub fine : AreCells (tree.first ∷ tree.others)
  pub whole : ts ≡ spelled_thread tree []

-- ---- what is taken

abbrev pub then_on : (TableState → Option TableState) → Option TableState → Option TableState
then_on later None = None
then_on later (Some s) = later s

-- where these tokens lead
abbrev pub run_table : TableState → List texts.TokenAt → Option TableState
run_table s [] = Some s
run_table s (p ∷ ps) = then_on (λ u. run_table u ps) (table_step s p.token p.offset)

-- a first column and so many others, before the first row
abbrev pub columns : ℕ → TableState
columns zero = widened table_start
columns (suc n) = widened (columns n)

pub record TakesAll (s : TableState) (ps : List texts.TokenAt) : Type 0 where
  pub after : TableState
  pub by : run_table s ps ≡ Some after

-- some tokens lead to where the table, or the text of a thread, may end
pub record FinishesTable (may_end : TableState → Bool) (s : TableState) : Type 0 where
  pub rest : List texts.TokenAt
  pub after : TableState
  pub by : run_table s rest ≡ Some after
  pub ended : may_end after ≡ true

abbrev pub is_whole_table : TableState → Bool
is_whole_table s = can_end s.expected

-- ---- what is kept

abbrev pub steps_of : List ThreadSteps → List (List Step)
steps_of ts = map (λ t. t.steps) ts

-- a label that a step defines or branches to, and the byte that is kept for it
pub data LabelMark : Type 0 where
  Defined : (label : List ℕ) (offset : ℕ) → LabelMark
  Branched : (label : List ℕ) (offset : ℕ) → LabelMark

abbrev pub instruction_marks : Instruction → ℕ → List LabelMark
instruction_marks (instructions.BranchIf condition label) offset = Branched label offset ∷ []
instruction_marks (instructions.Branch label) offset = Branched label offset ∷ []
instruction_marks i offset = []

abbrev pub step_marks : Step → ℕ → List LabelMark
step_marks (steps.Label label) offset = Defined label offset ∷ []
step_marks (steps.Instruction i) offset = instruction_marks i offset

abbrev pub label_marks : List Step → List ℕ → List LabelMark
label_marks [] offsets = []
label_marks (s ∷ ss) [] = []
label_marks (s ∷ ss) (p ∷ ps) = step_marks s p ++ label_marks ss ps

-- these are the labels of these notes, and each byte is where the label stands in the text
abbrev pub AreMarks : List texts.TokenAt → List Note → List LabelMark → Type 0
AreMarks text [] [] = Unit {0}
AreMarks text (Defines w before ∷ ns) (Defined v offset ∷ ms) =
    (v ≡ w) × StandsAt text before offset × AreMarks text ns ms
AreMarks text (Branches w before ∷ ns) (Branched v offset ∷ ms) =
    (v ≡ w) × StandsAt text before offset × AreMarks text ns ms
AreMarks text ns ms = ⊥

pub record IsNoted (text : List texts.TokenAt) (ns : List Note) (t : ThreadSteps) : Type 0 where
  pub each : length t.steps ≡ length t.offsets
  pub marked : AreMarks text ns (label_marks t.steps t.offsets)

-- so for each thread
abbrev pub AreNoted : List texts.TokenAt → List (List Note) → List ThreadSteps → Type 0
AreNoted text [] [] = Unit {0}
AreNoted text (ns ∷ nss) (t ∷ ts) = IsNoted text ns t × AreNoted text nss ts
AreNoted text nss ts = ⊥

-- In the text qs, ps, rs the tokens ps are these rows: they lead to where the table may end, with
-- what the rows mean.
pub record TakesRows (others : ℕ) (qs ps rs : List texts.TokenAt) (rows : List RowTree)
    : Type 0 where
  pub after : TableState
  pub by : run_table (columns others) ps ≡ Some after
  pub ended : is_row_start after ≡ true
  pub meant : steps_of after.threads ≡ columns_meaning 0 (others + 1) rows
  pub noted : AreNoted (qs ++ ps ++ rs) (columns_notes 0 (others + 1) (test_tokens_of qs) rows)
      after.threads

-- and so for the text of a thread alone
pub record TakesCells (qs ps rs : List texts.TokenAt) (tree : ThreadTree) : Type 0 where
  pub after : TableState
  pub by : run_table (columns 0) ps ≡ Some after
  pub ended : is_whole_table after ≡ true
  pub meant : steps_of after.threads ≡ thread_meaning tree ∷ []
  pub noted : AreNoted (qs ++ ps ++ rs)
      (thread_notes (test_tokens_of qs) (tree.first ∷ tree.others) ∷ []) after.threads

-- ---- what can stand

abbrev pub is_taken : Option TableState → Bool
is_taken None = false
is_taken (Some s) = true

-- whether a token ends the table here, or the text of a thread alone
abbrev pub ends_at : Bool → TableState → Token → Bool
ends_at false s t = is_row_start s && begins_tail t
ends_at true s t = is_whole_table s && is_end t

-- whether a token can stand here
abbrev pub stands : Bool → TableState → Token → Bool
stands alone s t = is_taken (table_step s t 0) || ends_at alone s t

abbrev pub IsInCell : Stage → Type 0
IsInCell CellBegins = Unit {0}
IsInCell InCell = Unit {0}
IsInCell s = ⊥

-- the rule that a token breaks which cannot stand is the one that the definition of faults gives it
abbrev pub GivesRules : Type 0
GivesRules =
    (alone : Bool) (s : TableState) (stage : Stage) (t : Token) → IsInCell stage
    → stands alone s t ≡ false
    → RulingSays (λ u. stands alone s u ≡ true) stage (cell_ruling stage t) (table_rule_at alone s t)
