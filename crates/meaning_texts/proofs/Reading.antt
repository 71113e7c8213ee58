-- The numbers that a text means have 32 bits.
use Rattle.std.proofs.Common.{ℕ, ℤ, pos, negsuc, zero, suc, ◌≡◌, ◌<◌, ◌≤◌, ◌+◌, ◌^◌, Bool, true, false, ◌&&◌, IsTrue, List, [], ◌∷◌, ◌++◌, map, All, Option, Some, None, FitsSigned, nat_lt, nat_le, slice_index, refl, sym, ap, subst, ◌∙◌, arith, true≢false, ltb-true, leb-true}
use Rattle.std.specs.Int.{w32}
use Rattle.std.specs.List.{AllByRecursion}
use Rattle.std.proofs.lemmas.Bool.{and_parts}
use Rattle.std.proofs.lemmas.List.Elements.{All-from_recursion, All-map, All-nil, All-cons}
use Rattle.text_values.specs.declared.test.Step.{Step}
use Rattle.text_values.specs.declared.test.InitEntry.{InitEntry}
use Rattle.text_values.specs.TestValue.{Content}
use Rattle.litmus_tokens.specs.declared.token.Token.{Token}
use Rattle.litmus_tokens.specs.declared.token.Token.TheVariants as tokens
use Rattle.litmus_tokens.specs.declared.place.WrittenPlace.{WrittenPlace}
use Rattle.litmus_tokens.specs.Words.{decimal, signed, is_int, is_empty}
use Rattle.litmus_tokens.specs.Conditions.{ValueTree, Number, Address, value_meaning, written_place, IsValueTree, FormulaTree, Word, Atom, Prefix, Pair, Group, HasAtoms, tree_formula, Limits, condition_limits}
use Rattle.litmus_words.specs.declared.opcode.DataOpcode.{DataOpcode}
use Rattle.litmus_words.specs.declared.opcode.DataOpcode.TheVariants as data_opcodes
use Rattle.litmus_words.specs.declared.opcode.Opcode.{Opcode}
use Rattle.litmus_words.specs.declared.opcode.Opcode.TheVariants as opcodes
use Rattle.litmus_words.specs.declared.opcode.Want.{Want}
use Rattle.litmus_words.specs.declared.opcode.Want.TheVariants as wants
use Rattle.litmus_words.specs.Words.{opcode_of, takes_operands, token_fits, all_fit, data_form, registers, immediate, data_meaning, branch_meaning, instruction_meaning, target_label}
use Rattle.litmus_table.specs.Grammar.{InstructionTree, CellTree, RowTree, IsOperation, IsInstruction, AreCells, AreRowTrees, label_steps, operation_steps, instruction_steps, cell_steps, cells_steps, nth_cell, column, columns_meaning}
use Rattle.litmus_grammar.specs.Grammar.{EntryTree, entry_meaning, AreEntryTrees, IsTestTree, TestTree, members, test_meaning}
use Rattle.litmus_grammar.specs.Texts.{ReadsTest}
use Rattle.text_values.specs.declared.instruction.BranchCondition.{BranchCondition}
use Rattle.meaning_laws.specs.Words.{IsWrittenWord, HasWordImmediate, IsStepOfWords, IsFormulaOfWords, IsTestOfWords}
use Rattle.meaning_texts.specs.Read.{TextsAreOfWords}

-- ---- numbers

plus : (n : ℕ) → n < 2147483648 → FitsSigned w32 (pos n)
plus n lt = record { sfits = omega (arith, lt) }

minus : (n : ℕ) → n ≤ 2147483648 → FitsSigned w32 (signed true n)
minus zero le = record { sfits = omega arith }
minus (suc n) le = record { sfits = omega (arith, le) }

number_fits : (negative : Bool) (ds : List ℕ) → is_int negative ds ≡ true
    → FitsSigned w32 (signed negative (decimal ds))
number_fits false ds h = plus (decimal ds) (ltb-true (decimal ds) 2147483648 h)
number_fits true ds h = minus (decimal ds) (leb-true (decimal ds) 2147483648 h)

nothing_fits : (negative : Bool) → FitsSigned w32 (signed negative 0)
nothing_fits false = record { sfits = omega arith }
nothing_fits true = record { sfits = omega arith }

value_fits : (v : ValueTree) → IsValueTree v → IsWrittenWord (value_meaning v)
value_fits (Number negative ds) h = number_fits negative ds h
value_fits (Address n) h = tt

-- ---- instructions

no_digits : (negative : Bool) (ds : List ℕ) → is_empty ds ≡ true
    → FitsSigned w32 (signed negative (decimal ds))
no_digits negative [] h = nothing_fits negative
no_digits negative (d ∷ ds) h = absurd (true≢false (sym h))

wanted_number : (w : Want) (negative : Bool) (ds : List ℕ)
    → token_fits w (tokens.Number negative ds) ≡ true → FitsSigned w32 (signed negative (decimal ds))
wanted_number wants.Immediate negative ds h = number_fits negative ds h
wanted_number wants.Zero negative ds h = no_digits negative ds h
wanted_number wants.Register negative ds h = absurd (true≢false (sym h))
wanted_number wants.Base negative ds h = absurd (true≢false (sym h))
wanted_number wants.Comma negative ds h = absurd (true≢false (sym h))
wanted_number wants.Open negative ds h = absurd (true≢false (sym h))
wanted_number wants.Close negative ds h = absurd (true≢false (sym h))

-- a number among tokens that fit has 32 bits
immediate_fits : (ws : List Want) (ts : List Token) → all_fit ws ts ≡ true
    → FitsSigned w32 (immediate ts)
immediate_fits ws [] h = record { sfits = omega arith }
immediate_fits [] (t ∷ ts) h = absurd (true≢false (sym h))
immediate_fits (w ∷ ws) (t ∷ ts) h =
    at t (and_parts (token_fits w t) (all_fit ws ts) h).0
    (immediate_fits ws ts (and_parts (token_fits w t) (all_fit ws ts) h).1)
  where
    at : (u : Token) → token_fits w u ≡ true → FitsSigned w32 (immediate ts)
        → FitsSigned w32 (immediate (u ∷ ts))
    at (tokens.Number negative ds) here rest = wanted_number w negative ds here
    at (tokens.Word n) here rest = rest
    at (tokens.Mark m) here rest = rest
    at (tokens.Label n) here rest = rest
    at tokens.Text here rest = rest
    at tokens.Keyline here rest = rest
    at tokens.LineEnd here rest = rest
    at tokens.End here rest = rest
    at tokens.Bad here rest = rest
    at (tokens.Broken r) here rest = rest

data_fits : (op : DataOpcode) (ts : List Token) → all_fit (data_form op) ts ≡ true
    → HasWordImmediate (data_meaning op (registers ts) (immediate ts))
data_fits data_opcodes.LoadImmediate ts h =
    immediate_fits (data_form data_opcodes.LoadImmediate) ts h
data_fits data_opcodes.Move ts h = tt
data_fits data_opcodes.AddImmediate ts h = tt
data_fits (data_opcodes.Compute op) ts h = tt
data_fits data_opcodes.Load ts h = tt
data_fits data_opcodes.LoadIndexed ts h = tt
data_fits data_opcodes.Store ts h = tt
data_fits data_opcodes.StoreIndexed ts h = tt
data_fits data_opcodes.Compare ts h = tt
data_fits data_opcodes.CompareImmediate ts h = tt

branch_fits : (c : Option BranchCondition) (label : List ℕ)
    → HasWordImmediate (branch_meaning c label)
branch_fits None label = tt
branch_fits (Some condition) label = tt

instruction_fits : (op : Opcode) (ts : List Token) → takes_operands op ts ≡ true
    → HasWordImmediate (instruction_meaning op ts)
instruction_fits (opcodes.Data op) ts h = data_fits op ts h
instruction_fits (opcodes.Branch condition) ts h = branch_fits condition (target_label ts)
instruction_fits (opcodes.Fence f) ts h = tt

-- ---- cells

abbrev pub AreOfWords : List Step → Type 0
AreOfWords xs = AllByRecursion IsStepOfWords xs

joined : (xs ys : List Step) → AreOfWords xs → AreOfWords ys → AreOfWords (xs ++ ys)
joined [] ys all both = both
joined (x ∷ xs) ys all both = (all.0, joined xs ys all.1 both)

labels_fit : (l : Option (List ℕ)) → AreOfWords (label_steps l)
labels_fit None = tt
labels_fit (Some n) = (tt, tt)

operation_fits : (i : InstructionTree) → IsOperation i
    → AreOfWords (operation_steps (opcode_of i.word) i.operands)
operation_fits i fine =
    subst (λ (o : Option Opcode). AreOfWords (operation_steps o i.operands)) (sym fine.known)
    (instruction_fits fine.opcode i.operands fine.fit, tt)

steps_fit : (i : Option InstructionTree) → IsInstruction i → AreOfWords (instruction_steps i)
steps_fit None fine = tt
steps_fit (Some i) fine = operation_fits i fine

pub cells_fit : (cs : List CellTree) → AreCells cs → AreOfWords (cells_steps cs)
cells_fit [] fine = tt
cells_fit (c ∷ cs) fine =
    joined (cell_steps c) (cells_steps cs)
    (joined (label_steps c.label) (instruction_steps c.instruction) (labels_fit c.label)
    (steps_fit c.instruction fine.0))
    (cells_fit cs fine.1)

both_cells : (cs ds : List CellTree) → AreCells cs → AreCells ds → AreCells (cs ++ ds)
both_cells [] ds fine more = more
both_cells (c ∷ cs) ds fine more = (fine.0, both_cells cs ds fine.1 more)

one_cell : (k : ℕ) (cs : List CellTree) → AreCells cs → AreCells (nth_cell k cs)
one_cell k [] fine = tt
one_cell zero (c ∷ cs) fine = (fine.0, tt)
one_cell (suc k) (c ∷ cs) fine = one_cell k cs fine.1

column_fine : (n k : ℕ) (rs : List RowTree) → AreRowTrees n rs → AreCells (column k rs)
column_fine n k [] fine = tt
column_fine n k (r ∷ rs) fine =
    both_cells (nth_cell k (r.first ∷ r.others)) (column k rs)
    (one_cell k (r.first ∷ r.others) (fine.0, fine.1)) (column_fine n k rs fine.3)

columns_fit : (n k m : ℕ) (rs : List RowTree) → AreRowTrees n rs
    → All (λ steps. All IsStepOfWords steps) (columns_meaning k m rs)
columns_fit n k zero rs fine = All-nil (λ (steps : List Step). All IsStepOfWords steps)
columns_fit n k (suc m) rs fine =
    All-cons (λ (steps : List Step). All IsStepOfWords steps) (cells_steps (column k rs))
    (columns_meaning (k + 1) m rs)
    (All-from_recursion IsStepOfWords (cells_steps (column k rs))
    (cells_fit (column k rs) (column_fine n k rs fine)))
    (columns_fit n (k + 1) m rs fine)

-- ---- entries, and the condition

pub entries_fit : (before : List WrittenPlace) (es : List EntryTree) → AreEntryTrees before es
    → All (λ (e : InitEntry). IsWrittenWord e.value) (map entry_meaning es)
entries_fit before [] fine = All-nil (λ (e : InitEntry). IsWrittenWord e.value)
entries_fit before (e ∷ es) fine =
    All-cons (λ (i : InitEntry). IsWrittenWord i.value) (entry_meaning e) (map entry_meaning es)
    (value_fits e.value fine.1) (entries_fit (written_place e.place ∷ before) es fine.3)

pub formula_fits : (threads : ℕ) (f : FormulaTree) → HasAtoms threads f
    → IsFormulaOfWords (tree_formula f)
formula_fits threads (Word b) fine = tt
formula_fits threads (Atom p v) fine = value_fits v fine.2
formula_fits threads (Prefix tilde a) fine = formula_fits threads a fine
formula_fits threads (Pair op a b) fine =
    (formula_fits threads a fine.0, formula_fits threads b fine.1)
formula_fits threads (Group a) fine = formula_fits threads a fine

test_fits : (most : Limits) (t : TestTree) → IsTestTree most t → IsTestOfWords (test_meaning t)
test_fits most t fine = record {
  start = entries_fit [] (members t.init) fine.init;
  lines = columns_fit t.others 0 (t.others + 1) t.rows fine.rows;
  condition = formula_fits (t.others + 1) t.condition fine.condition.atoms;
}

pub all_read : TextsAreOfWords
all_read bytes t read =
    subst IsTestOfWords read.meant (test_fits condition_limits read.text.tree read.text.fine)
