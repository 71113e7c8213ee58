-- What the rows of a table mean can be printed.
use Rattle.std.proofs.Common.{◌≡◌, ℕ, zero, suc, ◌+◌, ◌<◌, Bool, true, false, List, [], ◌∷◌, ◌++◌, length, get_or, refl, sym, ap, ◌∙◌, subst, arith, append_assoc}
use Rattle.std.specs.Prelude.{if◌then◌else◌, ◌&&◌, ◌||◌, ◌==◌, not, nat_lt, slice_index, codes, Option, Some, None}
use Rattle.std.specs.Str.{bytes_eq}
use Rattle.std.specs.Fmt.{decimal}
use Rattle.std.proofs.lemmas.Bool.{and_parts, not-true, eqb-true, ltb-true, both_ways}
use Rattle.std.proofs.lemmas.List.{append-nil}
use Rattle.std.proofs.lemmas.Fmt.{decimal_digit, decimal-digits_value}
use Rattle.std.proofs.lemmas.Slice.Eq.{bytes_eq-Decides}
use Rattle.litmus_tokens.specs.declared.rule.LitmusRule.TheVariants as rules
use Rattle.litmus_tokens.specs.declared.token.Token.{Token}
use Rattle.litmus_tokens.specs.declared.token.Token.TheVariants as tokens
use Rattle.litmus_tokens.specs.declared.token.Mark.TheVariants as marks
use Rattle.litmus_tokens.specs.Words as numbers
use Rattle.litmus_tokens.specs.Words.{are_digits, is_plain, is_empty, is_register, is_known, register_of, or_zero, signed}
use Rattle.text_values.specs.declared.test.Step.{Step}
use Rattle.text_values.specs.declared.test.Step.TheVariants as steps
use Rattle.text_values.specs.declared.instruction.BranchCondition.{BranchCondition}
use Rattle.litmus_words.specs.declared.opcode.DataOpcode.{DataOpcode}
use Rattle.litmus_words.specs.declared.opcode.DataOpcode.TheVariants as data_opcodes
use Rattle.litmus_words.specs.declared.opcode.Opcode.{Opcode}
use Rattle.litmus_words.specs.declared.opcode.Opcode.TheVariants as opcodes
use Rattle.litmus_words.specs.declared.opcode.Want.{Want}
use Rattle.litmus_words.specs.declared.opcode.Want.TheVariants as wants
use Rattle.litmus_words.specs.Words as words
use Rattle.litmus_words.specs.Words.{data_form, token_fits, all_fit, is_label, takes_operands, registers, immediate, data_meaning, branch_meaning, instruction_meaning}
use Rattle.litmus_table.specs.Grammar as grammar
use Rattle.litmus_table.specs.Grammar.{InstructionTree, CellTree, RowTree, AreCells, AreRowTrees, spelled_label, spelled_instruction, spelled_cell, spelled_cells, spelled_rows, label_steps, operation_steps, instruction_steps, cell_steps, cells_steps, nth_cell, column, columns_meaning}
use Rattle.litmus_table.specs.Late.{Late, or_else, Note, Defines, Branches, branch_notes, instruction_notes, label_notes, nth_notes, column_notes, columns_notes, is_in, defined, late_notes, first_late}
use Rattle.litmus_printing.specs.Printing.{register_text}
use Rattle.litmus_laws.specs.Written.{IsWord, IsNumber, IsBase, IsTestInstruction, AreTestSteps, step_target, labels, IsBelow, HaveLabelsOnce, AreThreads}
use Rattle.litmus_laws.proofs.Numbers.{own}
use Rattle.litmus_laws.proofs.Tokens.{AllFine}
use Rattle.litmus_laws.proofs.Meant.{number_is, register_small}
use Rattle.litmus_laws.proofs.Labels.{Mark, Put, Go, marks_of, marks-append, gone, step_marks, all_marks, AreFine, defined_puts, labels_put}

-- ---- registers

-- digits that no zero leads, or a zero
plain_starts : (ds : List ℕ) → is_plain ds ≡ true
    → (are_digits ds ≡ true) × (0 < length ds) × (get_or ds 0 0 ≡ 48 → length ds ≡ 1)
plain_starts [] h = absurd cc
plain_starts (d ∷ ds) h =
    let both = and_parts (are_digits (d ∷ ds)) (is_empty ds || not (d == 48)) h in
    (both.0, omega arith, λ e. one ds e both.1)
  where
    no_zero : (c : ℕ) → c ≡ 48 → not (c == 48) ≡ true → ⊥
    no_zero c e f = subst (λ (x : ℕ). not (x == 48) ≡ true → ⊥) (sym e) (λ g. absurd cc) f

    one : (es : List ℕ) → d ≡ 48 → (is_empty es || not (d == 48)) ≡ true → length (d ∷ es) ≡ 1
    one [] e f = refl
    one (c ∷ cs) e f = absurd (no_zero d e f)

known_parts : (c : Bool) (n : ℕ) → is_known (if c then Some n else None) ≡ true
    → (c ≡ true) × (or_zero (if c then Some n else None) ≡ n)
known_parts true n h = (refl, refl)
known_parts false n h = absurd cc

-- a register's word is that which its number is printed as
register_again : (w : List ℕ) → is_register w ≡ true → w ≡ register_text (or_zero (register_of w))
register_again [] h = absurd cc
register_again (r ∷ ds) h =
    let known = known_parts (r == 114 && is_plain ds && nat_lt (numbers.decimal ds) 32) (numbers.decimal ds) h in
    let outer = and_parts (r == 114 && is_plain ds) (nat_lt (numbers.decimal ds) 32) known.0 in
    let inner = and_parts (r == 114) (is_plain ds) outer.0 in
    let plain = plain_starts ds inner.1 in
    let small = ltb-true (numbers.decimal ds) 32 outer.1 in
    let again : decimal (numbers.decimal ds) ≡ ds = decimal-digits_value own ds plain.0 plain.1 plain.2 (omega arith) in
    ap (λ (c : ℕ). c ∷ ds) (eqb-true r 114 inner.0) ∙ ap (λ (l : List ℕ). 114 ∷ l) (sym again)
    ∙ ap (λ (n : ℕ). 114 ∷ decimal n) (sym known.1)

base_is : (w : List ℕ) → (is_register w && not (bytes_eq w (codes "r0"))) ≡ true
    → IsBase (or_zero (register_of w))
base_is w h =
    let both = and_parts (is_register w) (not (bytes_eq w (codes "r0"))) h in (
      some (or_zero (register_of w)) refl (register_again w both.0)
          (not-true (bytes_eq w (codes "r0")) both.1),
      register_small w both.0,
    )
  where
    some : (n : ℕ) → or_zero (register_of w) ≡ n → w ≡ register_text (or_zero (register_of w))
        → bytes_eq w (codes "r0") ≡ false → 0 < n
    some zero e same other =
        let is : w ≡ codes "r0" = same ∙ ap (λ (k : ℕ). 114 ∷ decimal k) e ∙ ap (λ (l : List ℕ). 114 ∷ l) (decimal_digit 0 (omega arith)) in
        absurd (both_ways (bytes_eq w (codes "r0")) other ((bytes_eq-Decides w (codes "r0")).1 is))
    some (suc n) e same other = omega arith

-- ---- operands

abbrev IsRegister : Bool → ℕ → Type 0
IsRegister true r = IsBase r
IsRegister false r = r < 32

-- one for one, each a base where one is wanted
abbrev AreRegisters : List Bool → List ℕ → Type 0
AreRegisters [] [] = Unit {0}
AreRegisters (b ∷ bs) (r ∷ rs) = IsRegister b r × AreRegisters bs rs
AreRegisters bs rs = ⊥

abbrev wanted : List Want → List Bool
wanted [] = []
wanted (wants.Register ∷ ws) = false ∷ wanted ws
wanted (wants.Base ∷ ws) = true ∷ wanted ws
wanted (wants.Immediate ∷ ws) = wanted ws
wanted (wants.Zero ∷ ws) = wanted ws
wanted (wants.Comma ∷ ws) = wanted ws
wanted (wants.Open ∷ ws) = wanted ws
wanted (wants.Close ∷ ws) = wanted ws

nought_is : (negative : Bool) (ds : List ℕ) → is_empty ds ≡ true
    → IsNumber (signed negative (numbers.decimal ds))
nought_is true [] e = omega arith
nought_is false [] e = omega arith
nought_is negative (d ∷ ds) e = absurd cc

register_step : (want : Want) (t : Token) (ws : List Want) (ts : List Token) → token_fits want t ≡ true
    → AreRegisters (wanted ws) (registers ts)
    → AreRegisters (wanted (want ∷ ws)) (registers (t ∷ ts))
register_step wants.Register (tokens.Word w) ws ts e h = (register_small w e, h)
register_step wants.Register (tokens.Number negative ds) ws ts e h = absurd cc
register_step wants.Register (tokens.Label l) ws ts e h = absurd cc
register_step wants.Register tokens.Text ws ts e h = absurd cc
register_step wants.Register tokens.Keyline ws ts e h = absurd cc
register_step wants.Register tokens.LineEnd ws ts e h = absurd cc
register_step wants.Register (tokens.Mark m) ws ts e h = absurd cc
register_step wants.Register tokens.End ws ts e h = absurd cc
register_step wants.Register tokens.Bad ws ts e h = absurd cc
register_step wants.Register (tokens.Broken r) ws ts e h = absurd cc
register_step wants.Base (tokens.Word w) ws ts e h = (base_is w e, h)
register_step wants.Base (tokens.Number negative ds) ws ts e h = absurd cc
register_step wants.Base (tokens.Label l) ws ts e h = absurd cc
register_step wants.Base tokens.Text ws ts e h = absurd cc
register_step wants.Base tokens.Keyline ws ts e h = absurd cc
register_step wants.Base tokens.LineEnd ws ts e h = absurd cc
register_step wants.Base (tokens.Mark m) ws ts e h = absurd cc
register_step wants.Base tokens.End ws ts e h = absurd cc
register_step wants.Base tokens.Bad ws ts e h = absurd cc
register_step wants.Base (tokens.Broken r) ws ts e h = absurd cc
register_step wants.Immediate (tokens.Word w) ws ts e h = absurd cc
register_step wants.Immediate (tokens.Number negative ds) ws ts e h = h
register_step wants.Immediate (tokens.Label l) ws ts e h = h
register_step wants.Immediate tokens.Text ws ts e h = h
register_step wants.Immediate tokens.Keyline ws ts e h = h
register_step wants.Immediate tokens.LineEnd ws ts e h = h
register_step wants.Immediate (tokens.Mark m) ws ts e h = h
register_step wants.Immediate tokens.End ws ts e h = h
register_step wants.Immediate tokens.Bad ws ts e h = h
register_step wants.Immediate (tokens.Broken r) ws ts e h = h
register_step wants.Zero (tokens.Word w) ws ts e h = absurd cc
register_step wants.Zero (tokens.Number negative ds) ws ts e h = h
register_step wants.Zero (tokens.Label l) ws ts e h = h
register_step wants.Zero tokens.Text ws ts e h = h
register_step wants.Zero tokens.Keyline ws ts e h = h
register_step wants.Zero tokens.LineEnd ws ts e h = h
register_step wants.Zero (tokens.Mark m) ws ts e h = h
register_step wants.Zero tokens.End ws ts e h = h
register_step wants.Zero tokens.Bad ws ts e h = h
register_step wants.Zero (tokens.Broken r) ws ts e h = h
register_step wants.Comma (tokens.Word w) ws ts e h = absurd cc
register_step wants.Comma (tokens.Number negative ds) ws ts e h = h
register_step wants.Comma (tokens.Label l) ws ts e h = h
register_step wants.Comma tokens.Text ws ts e h = h
register_step wants.Comma tokens.Keyline ws ts e h = h
register_step wants.Comma tokens.LineEnd ws ts e h = h
register_step wants.Comma (tokens.Mark m) ws ts e h = h
register_step wants.Comma tokens.End ws ts e h = h
register_step wants.Comma tokens.Bad ws ts e h = h
register_step wants.Comma (tokens.Broken r) ws ts e h = h
register_step wants.Open (tokens.Word w) ws ts e h = absurd cc
register_step wants.Open (tokens.Number negative ds) ws ts e h = h
register_step wants.Open (tokens.Label l) ws ts e h = h
register_step wants.Open tokens.Text ws ts e h = h
register_step wants.Open tokens.Keyline ws ts e h = h
register_step wants.Open tokens.LineEnd ws ts e h = h
register_step wants.Open (tokens.Mark m) ws ts e h = h
register_step wants.Open tokens.End ws ts e h = h
register_step wants.Open tokens.Bad ws ts e h = h
register_step wants.Open (tokens.Broken r) ws ts e h = h
register_step wants.Close (tokens.Word w) ws ts e h = absurd cc
register_step wants.Close (tokens.Number negative ds) ws ts e h = h
register_step wants.Close (tokens.Label l) ws ts e h = h
register_step wants.Close tokens.Text ws ts e h = h
register_step wants.Close tokens.Keyline ws ts e h = h
register_step wants.Close tokens.LineEnd ws ts e h = h
register_step wants.Close (tokens.Mark m) ws ts e h = h
register_step wants.Close tokens.End ws ts e h = h
register_step wants.Close tokens.Bad ws ts e h = h
register_step wants.Close (tokens.Broken r) ws ts e h = h

number_step : (want : Want) (t : Token) (ts : List Token) → token_fits want t ≡ true
    → IsNumber (immediate ts) → IsNumber (immediate (t ∷ ts))
number_step want (tokens.Word w) ts e h = h
number_step wants.Register (tokens.Number negative ds) ts e h = absurd cc
number_step wants.Base (tokens.Number negative ds) ts e h = absurd cc
number_step wants.Immediate (tokens.Number negative ds) ts e h = number_is negative ds e
number_step wants.Zero (tokens.Number negative ds) ts e h = nought_is negative ds e
number_step wants.Comma (tokens.Number negative ds) ts e h = absurd cc
number_step wants.Open (tokens.Number negative ds) ts e h = absurd cc
number_step wants.Close (tokens.Number negative ds) ts e h = absurd cc
number_step want (tokens.Label l) ts e h = h
number_step want tokens.Text ts e h = h
number_step want tokens.Keyline ts e h = h
number_step want tokens.LineEnd ts e h = h
number_step want (tokens.Mark m) ts e h = h
number_step want tokens.End ts e h = h
number_step want tokens.Bad ts e h = h
number_step want (tokens.Broken r) ts e h = h

label_is : (ts : List Token) → is_label ts ≡ true → AllFine ts → IsWord (words.target_label ts)
label_is [] e a = absurd cc
label_is (tokens.Word w ∷ []) e a = a.0
label_is (tokens.Word w ∷ t ∷ ts) e a = absurd cc
label_is (tokens.Number negative ds ∷ ts) e a = absurd cc
label_is (tokens.Label l ∷ ts) e a = absurd cc
label_is (tokens.Text ∷ ts) e a = absurd cc
label_is (tokens.Keyline ∷ ts) e a = absurd cc
label_is (tokens.LineEnd ∷ ts) e a = absurd cc
label_is (tokens.Mark m ∷ ts) e a = absurd cc
label_is (tokens.End ∷ ts) e a = absurd cc
label_is (tokens.Bad ∷ ts) e a = absurd cc
label_is (tokens.Broken r ∷ ts) e a = absurd cc

registers_fit : (ws : List Want) (ts : List Token) → all_fit ws ts ≡ true
    → AreRegisters (wanted ws) (registers ts)
registers_fit [] [] e = tt
registers_fit [] (t ∷ ts) e = absurd cc
registers_fit (w ∷ ws) [] e = absurd cc
registers_fit (w ∷ ws) (t ∷ ts) e =
    let both = and_parts (token_fits w t) (all_fit ws ts) e in
    register_step w t ws ts both.0 (registers_fit ws ts both.1)

number_fits : (ws : List Want) (ts : List Token) → all_fit ws ts ≡ true → IsNumber (immediate ts)
number_fits [] [] e = omega arith
number_fits [] (t ∷ ts) e = absurd cc
number_fits (w ∷ ws) [] e = absurd cc
number_fits (w ∷ ws) (t ∷ ts) e =
    let both = and_parts (token_fits w t) (all_fit ws ts) e in
    number_step w t ts both.0 (number_fits ws ts both.1)

register_at : (bs : List Bool) (rs : List ℕ) (k : ℕ) → AreRegisters bs rs
    → IsRegister (get_or bs k false) (slice_index rs k)
register_at [] [] k h = omega arith
register_at [] (r ∷ rs) k h = absurd h
register_at (b ∷ bs) [] k h = absurd h
register_at (b ∷ bs) (r ∷ rs) zero h = h.0
register_at (b ∷ bs) (r ∷ rs) (suc k) h = register_at bs rs k h.1

-- ---- instructions

data_meant : (op : DataOpcode) (ts : List Token) → all_fit (data_form op) ts ≡ true
    → IsTestInstruction (data_meaning op (registers ts) (immediate ts))
data_meant data_opcodes.LoadImmediate ts e =
    let r = register_at (wanted (data_form data_opcodes.LoadImmediate)) (registers ts) in
    let h = registers_fit (data_form data_opcodes.LoadImmediate) ts e in
    (r 0 h, number_fits (data_form data_opcodes.LoadImmediate) ts e)
data_meant data_opcodes.Move ts e =
    let r = register_at (wanted (data_form data_opcodes.Move)) (registers ts) in
    let h = registers_fit (data_form data_opcodes.Move) ts e in
    (r 0 h, r 1 h)
data_meant data_opcodes.AddImmediate ts e =
    let r = register_at (wanted (data_form data_opcodes.AddImmediate)) (registers ts) in
    let h = registers_fit (data_form data_opcodes.AddImmediate) ts e in
    (r 0 h, r 1 h, number_fits (data_form data_opcodes.AddImmediate) ts e)
data_meant (data_opcodes.Compute op) ts e =
    let r = register_at (wanted (data_form (data_opcodes.Compute op))) (registers ts) in
    let h = registers_fit (data_form (data_opcodes.Compute op)) ts e in
    (r 0 h, r 1 h, r 2 h)
data_meant data_opcodes.Load ts e =
    let r = register_at (wanted (data_form data_opcodes.Load)) (registers ts) in
    let h = registers_fit (data_form data_opcodes.Load) ts e in
    (r 0 h, r 1 h)
data_meant data_opcodes.LoadIndexed ts e =
    let r = register_at (wanted (data_form data_opcodes.LoadIndexed)) (registers ts) in
    let h = registers_fit (data_form data_opcodes.LoadIndexed) ts e in
    (r 0 h, r 1 h, r 2 h)
data_meant data_opcodes.Store ts e =
    let r = register_at (wanted (data_form data_opcodes.Store)) (registers ts) in
    let h = registers_fit (data_form data_opcodes.Store) ts e in
    (r 0 h, r 1 h)
data_meant data_opcodes.StoreIndexed ts e =
    let r = register_at (wanted (data_form data_opcodes.StoreIndexed)) (registers ts) in
    let h = registers_fit (data_form data_opcodes.StoreIndexed) ts e in
    (r 0 h, r 1 h, r 2 h)
data_meant data_opcodes.Compare ts e =
    let r = register_at (wanted (data_form data_opcodes.Compare)) (registers ts) in
    let h = registers_fit (data_form data_opcodes.Compare) ts e in
    (r 0 h, r 1 h)
data_meant data_opcodes.CompareImmediate ts e =
    let r = register_at (wanted (data_form data_opcodes.CompareImmediate)) (registers ts) in
    let h = registers_fit (data_form data_opcodes.CompareImmediate) ts e in
    (r 0 h, number_fits (data_form data_opcodes.CompareImmediate) ts e)

branch_meant : (c : Option BranchCondition) (l : List ℕ) → IsWord l
    → IsTestInstruction (branch_meaning c l)
branch_meant (Some c) l h = h
branch_meant None l h = h

operation_meant : (op : Opcode) (ts : List Token) → takes_operands op ts ≡ true → AllFine ts
    → IsTestInstruction (instruction_meaning op ts)
operation_meant (opcodes.Data op) ts e a = data_meant op ts e
operation_meant (opcodes.Branch c) ts e a = branch_meant c (words.target_label ts) (label_is ts e a)
operation_meant (opcodes.Fence f) ts e a = tt

fine_parts : (us ts : List Token) → AllFine (us ++ ts) → AllFine us × AllFine ts
fine_parts [] ts a = (tt, a)
fine_parts (u ∷ us) ts a =
    let rest = fine_parts us ts a.1 in
    ((a.0, rest.0), rest.1)

instruction_meant : (i : Option InstructionTree) (rest : List Token) → grammar.IsInstruction i
    → AllFine (spelled_instruction i rest) → AreTestSteps (instruction_steps i) × AllFine rest
instruction_meant None rest h a = (tt, a)
instruction_meant (Some i) rest h a =
    let parts = fine_parts i.operands rest a.1 in (
      subst (λ (o : Option Opcode). AreTestSteps (operation_steps o i.operands)) (sym h.known)
          (operation_meant h.opcode i.operands h.fit parts.0, tt),
      parts.1,
    )

cell_meant : (l : Option (List ℕ)) (i : Option InstructionTree) (rest : List Token)
    → grammar.IsInstruction i → AllFine (spelled_label l (spelled_instruction i rest))
    → AreTestSteps (label_steps l ++ instruction_steps i) × AllFine rest
cell_meant None i rest h a = instruction_meant i rest h a
cell_meant (Some n) i rest h a =
    let one = instruction_meant i rest h a.1 in
    ((a.0, one.0), one.1)

abbrev AreMeant : List CellTree → Type 0
AreMeant [] = Unit {0}
AreMeant (c ∷ cs) = AreTestSteps (cell_steps c) × AreMeant cs

cells_meant : (cs : List CellTree) (rest : List Token) → AreCells cs
    → AllFine (spelled_cells cs rest) → AreMeant cs × AllFine rest
cells_meant [] rest h a = (tt, a.1)
cells_meant (c ∷ cs) rest h a =
    let one = cell_meant c.label c.instruction (spelled_cells cs rest) h.0 a.1 in
    let two = cells_meant cs rest h.1 one.1 in
    ((one.0, two.0), two.1)

abbrev AreAllMeant : List RowTree → Type 0
AreAllMeant [] = Unit {0}
AreAllMeant (r ∷ rs) = AreMeant (r.first ∷ r.others) × AreAllMeant rs

pub rows_meant : (n : ℕ) (rs : List RowTree) (rest : List Token) → AreRowTrees n rs
    → AllFine (spelled_rows rs rest) → AreAllMeant rs × AllFine rest
rows_meant n [] rest h a = (tt, a)
rows_meant n (r ∷ rs) rest h a =
    let one = cell_meant r.first.label r.first.instruction (spelled_cells r.others (spelled_rows rs rest)) h.0 a in
    let two = cells_meant r.others (spelled_rows rs rest) h.1 one.1 in
    let three = rows_meant n rs rest h.3 two.1 in
    (((one.0, two.0), three.0), three.1)

steps-append : (xs ys : List Step) → AreTestSteps xs → AreTestSteps ys → AreTestSteps (xs ++ ys)
steps-append [] ys h g = g
steps-append (x ∷ xs) ys h g = (h.0, steps-append xs ys h.1 g)

nth_meant : (k : ℕ) (cs : List CellTree) → AreMeant cs → AreMeant (nth_cell k cs)
nth_meant k [] h = tt
nth_meant zero (c ∷ cs) h = (h.0, tt)
nth_meant (suc k) (c ∷ cs) h = nth_meant k cs h.1

meant-append : (xs ys : List CellTree) → AreMeant xs → AreMeant ys → AreMeant (xs ++ ys)
meant-append [] ys h g = g
meant-append (x ∷ xs) ys h g = (h.0, meant-append xs ys h.1 g)

column_meant : (k : ℕ) (rs : List RowTree) → AreAllMeant rs → AreMeant (column k rs)
column_meant k [] h = tt
column_meant k (r ∷ rs) h =
    meant-append (nth_cell k (r.first ∷ r.others)) (column k rs)
    (nth_meant k (r.first ∷ r.others) h.0) (column_meant k rs h.1)

cells_are_steps : (cs : List CellTree) → AreMeant cs → AreTestSteps (cells_steps cs)
cells_are_steps [] h = tt
cells_are_steps (c ∷ cs) h =
    steps-append (cell_steps c) (cells_steps cs) h.0 (cells_are_steps cs h.1)

-- ---- labels

all_marks-append : (xs ys : List Step) → all_marks (xs ++ ys) ≡ all_marks xs ++ all_marks ys
all_marks-append [] ys = refl
all_marks-append (x ∷ xs) ys =
    ap (λ (ms : List Mark). step_marks x ++ ms) (all_marks-append xs ys)
    ∙ sym (append_assoc (step_marks x) (all_marks xs) (all_marks ys))

data_marks : (op : DataOpcode) (ts : List Token)
    → gone (step_target (data_meaning op (registers ts) (immediate ts))) ≡ []
data_marks data_opcodes.LoadImmediate ts = refl
data_marks data_opcodes.Move ts = refl
data_marks data_opcodes.AddImmediate ts = refl
data_marks (data_opcodes.Compute op) ts = refl
data_marks data_opcodes.Load ts = refl
data_marks data_opcodes.LoadIndexed ts = refl
data_marks data_opcodes.Store ts = refl
data_marks data_opcodes.StoreIndexed ts = refl
data_marks data_opcodes.Compare ts = refl
data_marks data_opcodes.CompareImmediate ts = refl

branch_marks : (c : Option BranchCondition) (l : List ℕ)
    → gone (step_target (branch_meaning c l)) ≡ Go l ∷ []
branch_marks (Some c) l = refl
branch_marks None l = refl

opcode_noted : (op : Opcode) (ts before : List Token)
    → marks_of (branch_notes (Some op) ts before) ≡ gone (step_target (instruction_meaning op ts))
opcode_noted (opcodes.Data op) ts before = sym (data_marks op ts)
opcode_noted (opcodes.Branch c) ts before = sym (branch_marks c (words.target_label ts))
opcode_noted (opcodes.Fence f) ts before = refl

instruction_noted : (i : Option InstructionTree) (before : List Token) → grammar.IsInstruction i
    → marks_of (instruction_notes i before) ≡ all_marks (instruction_steps i)
instruction_noted None before h = refl
instruction_noted (Some i) before h =
    ap
    (λ (o : Option Opcode).
    marks_of (branch_notes o i.operands (before ++ tokens.Word i.word ∷ []))) h.known
    ∙ opcode_noted h.opcode i.operands (before ++ tokens.Word i.word ∷ [])
    ∙ sym (append-nil (gone (step_target (instruction_meaning h.opcode i.operands))))
    ∙ ap (λ (o : Option Opcode). all_marks (operation_steps o i.operands)) (sym h.known)

cell_noted : (l : Option (List ℕ)) (i : Option InstructionTree) (before : List Token)
    → grammar.IsInstruction i
    → marks_of (label_notes l before ++ instruction_notes i (before ++ spelled_label l []))
    ≡ all_marks (label_steps l ++ instruction_steps i)
cell_noted None i before h = instruction_noted i (before ++ []) h
cell_noted (Some n) i before h =
    ap (λ (ms : List Mark). Put n ∷ ms) (instruction_noted i (before ++ tokens.Label n ∷ []) h)

nth_noted : (k : ℕ) (cs : List CellTree) (before : List Token) → AreCells cs
    → marks_of (nth_notes k before cs) ≡ all_marks (cells_steps (nth_cell k cs))
nth_noted k [] before h = refl
nth_noted zero (c ∷ cs) before h =
    cell_noted c.label c.instruction before h.0 ∙ ap all_marks (sym (append-nil (cell_steps c)))
nth_noted (suc k) (c ∷ cs) before h =
    nth_noted k cs (before ++ spelled_cell c (tokens.Mark marks.Bar ∷ [])) h.1

cells_steps-append : (xs ys : List CellTree)
    → cells_steps (xs ++ ys) ≡ cells_steps xs ++ cells_steps ys
cells_steps-append [] ys = refl
cells_steps-append (x ∷ xs) ys =
    ap (λ (l : List Step). cell_steps x ++ l) (cells_steps-append xs ys)
    ∙ sym (append_assoc (cell_steps x) (cells_steps xs) (cells_steps ys))

column_noted : (k n : ℕ) (rs : List RowTree) (before : List Token) → AreRowTrees n rs
    → marks_of (column_notes k before rs) ≡ all_marks (cells_steps (column k rs))
column_noted k n [] before h = refl
column_noted k n (r ∷ rs) before h =
    let behind = before ++ spelled_rows (r ∷ []) [] in
    marks-append (nth_notes k before (r.first ∷ r.others)) (column_notes k behind rs)
    ∙ ap (λ (ms : List Mark). ms ++ marks_of (column_notes k behind rs))
    (nth_noted k (r.first ∷ r.others) before (h.0, h.1))
    ∙ ap (λ (ms : List Mark). all_marks (cells_steps (nth_cell k (r.first ∷ r.others))) ++ ms)
    (column_noted k n rs behind h.3)
    ∙ sym (ap all_marks (cells_steps-append (nth_cell k (r.first ∷ r.others)) (column k rs))
    ∙ all_marks-append (cells_steps (nth_cell k (r.first ∷ r.others)))
    (cells_steps (column k rs)))

in_first : (c : Bool) (x : Late) (o : Option Late) → (if c then Some x else o) ≡ None
    → (c ≡ false) × (o ≡ None)
in_first true x o e = absurd cc
in_first false x o e = (refl, e)

pub in_second : (c : Bool) (x : Late) (o : Option Late) → (if c then o else Some x) ≡ None
    → (c ≡ true) × (o ≡ None)
in_second true x o e = (refl, e)
in_second false x o e = absurd cc

notes_fine : (above : List (List ℕ)) (ns : List Note) → late_notes above ns ≡ None
    → AreFine above (marks_of ns)
notes_fine above [] h = tt
notes_fine above (Defines w before ∷ ns) h =
    let one = in_first (is_in w above) (record { rule = rules.Label; before = before }) (late_notes (w ∷ above) ns) h in
    (one.0, notes_fine (w ∷ above) ns one.1)
notes_fine above (Branches w before ∷ ns) h =
    let one = in_first (is_in w above) (record { rule = rules.BackwardBranch; before = before }) (if is_in w (defined ns) then late_notes above ns else Some (record { rule = rules.Label; before = before })) h in
    let two = in_second (is_in w (defined ns)) (record { rule = rules.Label; before = before }) (late_notes above ns) one.1 in
    (one.0, ap (is_in w) (sym (defined_puts ns)) ∙ two.0, notes_fine above ns two.1)

gone_below : (above : List (List ℕ)) (o : Option (List ℕ)) (ss : List Step)
    → AreFine above (gone o ++ all_marks ss)
    → IsBelow above (labels ss) o × AreFine above (all_marks ss)
gone_below above None ss h = (tt, h)
gone_below above (Some l) ss h = ((h.0, ap (is_in l) (labels_put ss) ∙ h.1), h.2)

labelled_back : (above : List (List ℕ)) (ss : List Step) → AreFine above (all_marks ss)
    → HaveLabelsOnce above ss
labelled_back above [] h = tt
labelled_back above (steps.Label l ∷ ss) h = (h.0, labelled_back (l ∷ above) ss h.1)
labelled_back above (steps.Instruction i ∷ ss) h =
    let parts = gone_below above (step_target i) ss h in
    (parts.0, labelled_back above ss parts.1)

pub in_both : (a b : Option Late) → or_else a b ≡ None → (a ≡ None) × (b ≡ None)
in_both None b e = (refl, e)
in_both (Some x) b e = absurd cc

-- ---- threads

pub columns_written : (k n others : ℕ) (rs : List RowTree) (before : List Token) → AreRowTrees others rs
    → AreAllMeant rs → first_late (columns_notes k n before rs) ≡ None
    → AreThreads (columns_meaning k n rs)
columns_written k zero others rs before r h e = tt
columns_written k (suc n) others rs before r h e =
    let parts = in_both (late_notes [] (column_notes k before rs)) (first_late (columns_notes (k + 1) n before rs)) e in (
      cells_are_steps (column k rs) (column_meant k rs h),
      labelled_back [] (cells_steps (column k rs)) (subst (AreFine [])
          (column_noted k others rs before r)
          (notes_fine [] (column_notes k before rs) parts.0)),
      columns_written (k + 1) n others rs before r h parts.1,
    )
