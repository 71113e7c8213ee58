-- The later checks of a printed table find nothing.
use Rattle.std.proofs.Common.{◌≡◌, ℕ, zero, suc, ◌+◌, ◌≤◌, Bool, true, false, List, [], ◌∷◌, ◌++◌, length, refl, sym, ap, ◌∙◌, subst, arith, append_assoc}
use Rattle.std.specs.Prelude.{if◌then◌else◌, map, Option, Some, None}
use Rattle.std.proofs.lemmas.List.{length-append}
use Rattle.litmus_tokens.specs.declared.rule.LitmusRule.TheVariants as rules
use Rattle.litmus_tokens.specs.declared.token.Token.{Token}
use Rattle.litmus_tokens.specs.declared.token.Token.TheVariants as tokens
use Rattle.litmus_tokens.specs.declared.token.Mark.TheVariants as marks
use Rattle.text_values.specs.declared.instruction.Instruction.{Instruction}
use Rattle.text_values.specs.declared.instruction.Instruction.TheVariants as instructions
use Rattle.text_values.specs.declared.test.Step.{Step}
use Rattle.text_values.specs.declared.test.Step.TheVariants as steps
use Rattle.litmus_words.specs.declared.opcode.Opcode.{Opcode}
use Rattle.litmus_table.specs.Grammar.{spelled_cell, spelled_rows}
use Rattle.litmus_table.specs.Late.{Late, or_else, Note, Defines, Branches, branch_notes, cell_notes, nth_notes, column_notes, columns_notes, is_in, defined, late_notes, first_late, late_columns}
use Rattle.litmus_printing.specs.Printing.{longest}
use Rattle.litmus_laws.specs.Written.{IsTestStep, AreTestSteps, step_target, labels, IsBelow, HaveLabelsOnce}
use Rattle.litmus_laws.proofs.Instructions.{tree_of, opcode, instruction_read}
use Rattle.litmus_laws.proofs.Rows.{step_tree, cell_tree, AreAllSteps, row_tree, rows_of, AreShort, all_short}

-- a label that is defined, or gone to
pub data Mark : Type 0 where
  Put : (label : List ℕ) → Mark
  Go : (label : List ℕ) → Mark

abbrev pub marks_of : List Note → List Mark
marks_of [] = []
marks_of (Defines w before ∷ ns) = Put w ∷ marks_of ns
marks_of (Branches w before ∷ ns) = Go w ∷ marks_of ns

pub marks-append : (ms ns : List Note) → marks_of (ms ++ ns) ≡ marks_of ms ++ marks_of ns
marks-append [] ns = refl
marks-append (Defines w before ∷ ms) ns = ap (λ (l : List Mark). Put w ∷ l) (marks-append ms ns)
marks-append (Branches w before ∷ ms) ns = ap (λ (l : List Mark). Go w ∷ l) (marks-append ms ns)

abbrev pub gone : Option (List ℕ) → List Mark
gone None = []
gone (Some l) = Go l ∷ []

abbrev pub step_marks : Step → List Mark
step_marks (steps.Label l) = Put l ∷ []
step_marks (steps.Instruction i) = gone (step_target i)

abbrev pub all_marks : List Step → List Mark
all_marks [] = []
all_marks (s ∷ ss) = step_marks s ++ all_marks ss

abbrev pub puts : List Mark → List (List ℕ)
puts [] = []
puts (Put l ∷ ms) = l ∷ puts ms
puts (Go l ∷ ms) = puts ms

-- ---- the notes of a column

opcode_marks : (i : Instruction) (before : List Token)
    → marks_of (branch_notes (Some (opcode i)) (tree_of i).operands before) ≡ gone (step_target i)
opcode_marks (instructions.LoadImmediate d n) before = refl
opcode_marks (instructions.Move d s) before = refl
opcode_marks (instructions.AddImmediate d a n) before = refl
opcode_marks (instructions.Compute op d a b) before = refl
opcode_marks (instructions.Load d a) before = refl
opcode_marks (instructions.LoadIndexed d a b) before = refl
opcode_marks (instructions.Store s a) before = refl
opcode_marks (instructions.StoreIndexed s a b) before = refl
opcode_marks (instructions.Compare a b) before = refl
opcode_marks (instructions.CompareImmediate a n) before = refl
opcode_marks (instructions.BranchIf c l) before = refl
opcode_marks (instructions.Branch l) before = refl
opcode_marks (instructions.Fence f) before = refl

step_noted : (s : Step) (before : List Token) → IsTestStep s
    → marks_of (cell_notes (step_tree s) before) ≡ step_marks s
step_noted (steps.Label l) before h = refl
step_noted (steps.Instruction i) before h =
    ap
    (λ (o : Option Opcode). marks_of (branch_notes o (tree_of i).operands
    ((before ++ []) ++ tokens.Word (tree_of i).word ∷ [])))
    (instruction_read i h).known
    ∙ opcode_marks i ((before ++ []) ++ tokens.Word (tree_of i).word ∷ [])

-- the marks of the step of this number
abbrev nth_marks : ℕ → List Step → List Mark
nth_marks k [] = []
nth_marks zero (s ∷ ss) = step_marks s
nth_marks (suc k) (s ∷ ss) = nth_marks k ss

cell_noted : (k : ℕ) (ss : List Step) (before : List Token) → AreTestSteps ss
    → marks_of (cell_notes (cell_tree k ss) before) ≡ nth_marks k ss
cell_noted k [] before h = refl
cell_noted zero (s ∷ ss) before h = step_noted s before h.0
cell_noted (suc k) (s ∷ ss) before h = cell_noted k ss before h.1

nth_noted : (k : ℕ) (left : List (List Step)) (s : List Step) (right : List (List Step))
    (before : List Token) → AreTestSteps s
    → marks_of (nth_notes (length left) before (map (cell_tree k) (left ++ s ∷ right)))
    ≡ nth_marks k s
nth_noted k [] s right before h = cell_noted k s before h
nth_noted k (u ∷ us) s right before h =
    nth_noted k us s right (before ++ spelled_cell (cell_tree k u) (tokens.Mark marks.Bar ∷ [])) h

abbrev column_marks : ℕ → ℕ → List Step → List Mark
column_marks k zero ss = []
column_marks k (suc n) ss = nth_marks k ss ++ column_marks (k + 1) n ss

shifted : (n k : ℕ) (s : Step) (ss : List Step)
    → column_marks (suc k) n (s ∷ ss) ≡ column_marks k n ss
shifted zero k s ss = refl
shifted (suc n) k s ss =
    let next : suc k + 1 ≡ suc (k + 1) = omega arith in
    ap (λ (j : ℕ). nth_marks k ss ++ column_marks j n (s ∷ ss)) next
    ∙ ap (λ (ms : List Mark). nth_marks k ss ++ ms) (shifted n (k + 1) s ss)

nothing : (k n : ℕ) → column_marks k n [] ≡ []
nothing k zero = refl
nothing k (suc n) = nothing (k + 1) n

column_all : (n : ℕ) (ss : List Step) → length ss ≤ n → column_marks 0 n ss ≡ all_marks ss
column_all n [] le = nothing 0 n
column_all zero (s ∷ ss) le = absurd (omega arith)
column_all (suc n) (s ∷ ss) le =
    ap (λ (ms : List Mark). step_marks s ++ ms) (shifted n 0 s ss ∙ column_all n ss (omega arith))

-- ---- what the check makes of them

abbrev pub AreFine : List (List ℕ) → List Mark → Type 0
AreFine above [] = Unit {0}
AreFine above (Put l ∷ ms) = (is_in l above ≡ false) × AreFine (l ∷ above) ms
AreFine above (Go l ∷ ms) = (is_in l above ≡ false) × (is_in l (puts ms) ≡ true) × AreFine above ms

pub defined_puts : (ns : List Note) → defined ns ≡ puts (marks_of ns)
defined_puts [] = refl
defined_puts (Defines w before ∷ ns) = ap (λ (l : List (List ℕ)). w ∷ l) (defined_puts ns)
defined_puts (Branches w before ∷ ns) = defined_puts ns

fine_notes : (above : List (List ℕ)) (ns : List Note) → AreFine above (marks_of ns)
    → late_notes above ns ≡ None
fine_notes above [] h = refl
fine_notes above (Defines w before ∷ ns) h =
    ap
    (λ (b : Bool). if b then Some (record { rule = rules.Label; before = before })
    else late_notes (w ∷ above) ns) h.0 ∙ fine_notes (w ∷ above) ns h.1
fine_notes above (Branches w before ∷ ns) h =
    ap
    (λ (b : Bool). if b then Some (record { rule = rules.BackwardBranch; before = before })
    else (if is_in w (defined ns) then late_notes above ns
    else Some (record { rule = rules.Label; before = before }))) h.0
    ∙ ap
    (λ (b : Bool). if b then late_notes above ns
    else Some (record { rule = rules.Label; before = before }))
    (ap (is_in w) (defined_puts ns) ∙ h.1)
    ∙ fine_notes above ns h.2

pub puts_gone : (o : Option (List ℕ)) (ms : List Mark) → puts (gone o ++ ms) ≡ puts ms
puts_gone None ms = refl
puts_gone (Some l) ms = refl

pub labels_put : (ss : List Step) → labels ss ≡ puts (all_marks ss)
labels_put [] = refl
labels_put (steps.Label l ∷ ss) = ap (λ (x : List (List ℕ)). l ∷ x) (labels_put ss)
labels_put (steps.Instruction i ∷ ss) = labels_put ss ∙ sym (puts_gone (step_target i) (all_marks ss))

fine_gone : (above : List (List ℕ)) (o : Option (List ℕ)) (ss : List Step)
    → IsBelow above (labels ss) o → AreFine above (all_marks ss)
    → AreFine above (gone o ++ all_marks ss)
fine_gone above None ss b h = h
fine_gone above (Some l) ss b h = (b.0, ap (is_in l) (sym (labels_put ss)) ∙ b.1, h)

fine_marks : (above : List (List ℕ)) (ss : List Step) → HaveLabelsOnce above ss
    → AreFine above (all_marks ss)
fine_marks above [] h = tt
fine_marks above (steps.Label l ∷ ss) h = (h.0, fine_marks (l ∷ above) ss h.1)
fine_marks above (steps.Instruction i ∷ ss) h =
    fine_gone above (step_target i) ss h.0 (fine_marks above ss h.1)

-- ---- all columns

abbrev pub AreAllLabelled : List (List Step) → Type 0
AreAllLabelled [] = Unit {0}
AreAllLabelled (t ∷ ts) = HaveLabelsOnce [] t × AreAllLabelled ts

module _ (t : List Step) (ts : List (List Step)) (h : AreAllSteps (t ∷ ts)) where
  column_noted : (left : List (List Step)) (s : List Step) (right : List (List Step))
      → left ++ s ∷ right ≡ t ∷ ts → AreTestSteps s → (k n : ℕ) (before : List Token)
      → marks_of (column_notes (length left) before (rows_of t ts h k n)) ≡ column_marks k n s
  column_noted left s right e a k zero before = refl
  column_noted left s right e a k (suc n) before =
      let behind = before ++ spelled_rows (row_tree t ts h k ∷ []) [] in
      let others = column_notes (length left) behind (rows_of t ts h (k + 1) n) in
      ap
      (λ (l : List (List Step)).
      marks_of (nth_notes (length left) before (map (cell_tree k) l) ++ others))
      (sym e)
      ∙ marks-append (nth_notes (length left) before (map (cell_tree k) (left ++ s ∷ right))) others
      ∙ ap (λ (ms : List Mark). ms ++ marks_of others) (nth_noted k left s right before a)
      ∙ ap (λ (ms : List Mark). nth_marks k s ++ ms)
      (column_noted left s right e a (k + 1) n behind)

  column_in_time : (left : List (List Step)) (s : List Step) (right : List (List Step))
      → left ++ s ∷ right ≡ t ∷ ts → AreTestSteps s → HaveLabelsOnce [] s → (n : ℕ) → length s ≤ n
      → (before : List Token)
      → late_notes [] (column_notes (length left) before (rows_of t ts h 0 n)) ≡ None
  column_in_time left s right e a l n le before =
      fine_notes [] (column_notes (length left) before (rows_of t ts h 0 n))
      (subst (AreFine []) (sym (column_noted left s right e a 0 n before ∙ column_all n s le))
      (fine_marks [] s l))

  columns_in_time : (left right : List (List Step)) (n : ℕ) (before : List Token)
      → left ++ right ≡ t ∷ ts → AreAllSteps right → AreAllLabelled right → AreShort n right
      → first_late (columns_notes (length left) (length right) before (rows_of t ts h 0 n)) ≡ None
  columns_in_time left [] n before e a l short = refl
  columns_in_time left (s ∷ right) n before e a l short =
      let one = length-append left (s ∷ []) in
      let next : length left + 1 ≡ length (left ++ s ∷ []) = omega arith in
      ap
      (λ (o : Option Late). or_else o (first_late (columns_notes (length left + 1)
      (length right) before (rows_of t ts h 0 n))))
      (column_in_time left s right e a.0 l.0 n short.0 before)
      ∙ ap (λ (j : ℕ). first_late (columns_notes j (length right) before (rows_of t ts h 0 n))) next
      ∙ columns_in_time (left ++ s ∷ []) right n before (append_assoc left (s ∷ []) right ∙ e) a.1
      l.1 short.1

  pub table_in_time : (before : List Token) → AreAllLabelled (t ∷ ts)
      → late_columns 0 (length ts + 1) before (rows_of t ts h 0 (longest (t ∷ ts))) ≡ None
  table_in_time before l =
      let count : length ts + 1 ≡ length (t ∷ ts) = omega arith in
      ap (λ (n : ℕ). first_late (columns_notes 0 n before (rows_of t ts h 0 (longest (t ∷ ts)))))
      count
      ∙ columns_in_time [] (t ∷ ts) (longest (t ∷ ts)) before refl h l (all_short (t ∷ ts))
