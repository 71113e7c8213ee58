-- From each state that tokens lead to, some tokens end the row.
use Rattle.std.proofs.Common.{◌≡◌, ℕ, zero, suc, ◌+◌, ◌≤◌, Bool, true, false, List, [], ◌∷◌, ◌++◌, length, Option, Some, None, ℤ, refl, sym, ap, ◌∙◌, subst, arith}
use Rattle.std.specs.Prelude.{codes, if◌then◌else◌}
use Rattle.std.proofs.lemmas.Bool.{le-leb}
use Rattle.litmus_tokens.specs.declared.token.Token.{Token}
use Rattle.litmus_tokens.specs.declared.token.Token.TheVariants as tokens
use Rattle.litmus_tokens.specs.declared.token.Mark.TheVariants as marks
use Rattle.litmus_tokens.specs.Texts as texts
use Rattle.text_values.specs.declared.instruction.BranchCondition.{BranchCondition}
use Rattle.text_values.specs.declared.test.Step.TheVariants as steps
use Rattle.litmus_words.specs.declared.opcode.DataOpcode.{DataOpcode}
use Rattle.litmus_words.specs.declared.opcode.DataOpcode.TheVariants as data_opcodes
use Rattle.litmus_words.specs.declared.opcode.Opcode.{Opcode}
use Rattle.litmus_words.specs.declared.opcode.Opcode.TheVariants as opcodes
use Rattle.litmus_words.specs.declared.opcode.Want.{Want}
use Rattle.litmus_words.specs.declared.opcode.Want.TheVariants as wants
use Rattle.litmus_words.specs.Words.{opcode_of, data_form, token_fits, branch_meaning}
use Rattle.litmus_words.specs.Machine.{ThreadSteps, Pending, CellExpectation, Begins, Labelled, InInstruction, WantsLabel, Whole, TableState, first_of, pending_with, pending_after, instruction_of, put_at, at, is_last, table_ended, operation, begin_instruction, cell, goes_on, operand, target_read, expected_step, table_step, is_row_start, can_end}
use Rattle.litmus_table.specs.Laws.{then_on, run_table, columns, FinishesTable, is_whole_table}
use Rattle.litmus_table.proofs.Sound.{columns-expected}

-- ---- an instruction that is not whole wants a token

abbrev pub Wants : List Want → Type 0
Wants [] = ⊥
Wants (w ∷ ws) = Unit {0}

abbrev IsOpen : CellExpectation → Type 0
IsOpen (InInstruction p) = Wants p.wants
IsOpen h = Unit {0}

abbrev IsOpenAt : Option TableState → Type 0
IsOpenAt None = Unit {0}
IsOpenAt (Some s) = IsOpen s.expected

pub form_wants : (op : DataOpcode) → Wants (data_form op)
form_wants data_opcodes.LoadImmediate = tt
form_wants data_opcodes.Move = tt
form_wants data_opcodes.AddImmediate = tt
form_wants (data_opcodes.Compute o) = tt
form_wants data_opcodes.Load = tt
form_wants data_opcodes.LoadIndexed = tt
form_wants data_opcodes.Store = tt
form_wants data_opcodes.StoreIndexed = tt
form_wants data_opcodes.Compare = tt
form_wants data_opcodes.CompareImmediate = tt

module _ (threads : List ThreadSteps) (c offset : ℕ) where
  either_way : (b : Bool) (a z : Option TableState) → IsOpenAt a → IsOpenAt z
      → IsOpenAt (if b then a else z)
  either_way true a z x y = x
  either_way false a z x y = y

  open_end : (t : Token) → IsOpenAt (table_ended threads c t)
  open_end (tokens.Mark marks.Semicolon) =
      either_way (is_last threads c) (at threads 0 Begins) None tt tt
  open_end (tokens.Mark marks.Bar) =
      either_way (is_last threads c) None (at threads (c + 1) Begins) tt tt
  open_end t = tt

  open_word : (o : Option Opcode) → IsOpenAt (operation threads c offset o)
  open_word (Some (opcodes.Data op)) = form_wants op
  open_word (Some (opcodes.Branch condition)) = tt
  open_word (Some (opcodes.Fence f)) = tt
  open_word None = tt

  open_begin : (t : Token) → IsOpenAt (begin_instruction threads c t offset)
  open_begin (tokens.Word w) = open_word (opcode_of w)
  open_begin t = open_end t

  open_cell : (t : Token) → IsOpenAt (cell threads c t offset)
  open_cell (tokens.Label w) = tt
  open_cell t = open_begin t

  open_going : (op : DataOpcode) (ws : List Want) (rs : List ℕ) (v : ℤ) → let q : Pending =
      record { opcode = op; wants = ws; registers = rs; value = v } in IsOpenAt
      (goes_on threads c q (first_of ws) offset)
  open_going op [] rs v = tt
  open_going op (w ∷ ws) rs v = tt

  open_operand : (o : Option Pending) → IsOpenAt (operand threads c o offset)
  open_operand (Some q) = open_going q.opcode q.wants q.registers q.value
  open_operand None = tt

  open_target : (condition : Option BranchCondition) (t : Token)
      → IsOpenAt (target_read threads c condition t offset)
  open_target condition (tokens.Word w) = tt
  open_target condition t = tt

  open_expectation : (h : CellExpectation) (t : Token) → IsOpenAt (expected_step threads c h t offset)
  open_expectation Begins t = open_cell t
  open_expectation Labelled t = open_begin t
  open_expectation (InInstruction q) t = open_operand (pending_after q t)
  open_expectation (WantsLabel condition) t = open_target condition t
  open_expectation Whole t = open_end t

stays_open : (ps : List texts.TokenAt) (s f : TableState) → IsOpen s.expected → run_table s ps ≡ Some f
    → IsOpen f.expected
stays_open [] s f o e = subst (λ (x : TableState). IsOpen x.expected) same o
  where
    same : s ≡ f
    same = cc
stays_open (p ∷ ps) s f o e =
    by_step (table_step s p.token p.offset)
    (open_expectation s.threads s.column p.offset s.expected p.token) e (λ u. stays_open ps u f)
  where
    by_step : (x : Option TableState) → IsOpenAt x → then_on (λ u. run_table u ps) x ≡ Some f
        → ((u : TableState) → IsOpen u.expected → run_table u ps ≡ Some f → IsOpen f.expected)
        → IsOpen f.expected
    by_step None k m later = absurd cc
    by_step (Some u) k m later = later u k m

-- ---- to the end of the cell

abbrev first_token : Token → texts.TokenAt
first_token t = record { token = t; offset = 0 }

abbrev filler : Want → Token
filler wants.Register = tokens.Word (codes "r1")
filler wants.Base = tokens.Word (codes "r1")
filler wants.Immediate = tokens.Number false []
filler wants.Zero = tokens.Number false []
filler wants.Comma = tokens.Mark marks.Comma
filler wants.Open = tokens.Mark marks.Open
filler wants.Close = tokens.Mark marks.Close

filler_fits : (w : Want) → token_fits w (filler w) ≡ true
filler_fits wants.Register = refl
filler_fits wants.Base = refl
filler_fits wants.Immediate = refl
filler_fits wants.Zero = refl
filler_fits wants.Comma = refl
filler_fits wants.Open = refl
filler_fits wants.Close = refl

abbrev stand : List ThreadSteps → ℕ → CellExpectation → TableState
stand threads c h = record { threads = threads; column = c; expected = h }

-- some tokens lead to a cell that may end
record CellEnds (s : TableState) : Type 0 where
  by : List texts.TokenAt
  threads : List ThreadSteps
  expected : CellExpectation
  ended : can_end expected ≡ true
  leads : (rest : List texts.TokenAt)
      → run_table s (by ++ rest) ≡ run_table (stand threads s.column expected) rest

module _ (threads : List ThreadSteps) (c : ℕ) where
  abbrev pending : DataOpcode → List Want → List ℕ → ℤ → Pending
  pending op ws rs v = record { opcode = op; wants = ws; registers = rs; value = v }

  filled : (op : DataOpcode) (w : Want) (ws : List Want) (rs : List ℕ) (v : ℤ)
      → CellEnds (stand threads c (InInstruction (pending op (w ∷ ws) rs v)))
  filled op w [] rs v =
      let t = filler w in
      let q = pending_with (pending op (w ∷ []) rs v) [] t in
      record {
        by = first_token t ∷ [];
        threads = put_at c (steps.Instruction (instruction_of q)) 0 threads;
        expected = Whole;
        ended = refl;
        leads =
            λ rest. ap
            (λ (b : Bool).
            then_on (λ u. run_table u rest) (operand threads c (if b then Some q else None) 0))
            (filler_fits w);
      }
  filled op w (w' ∷ ws) rs v =
      let t = filler w in
      let q = pending_with (pending op (w ∷ w' ∷ ws) rs v) (w' ∷ ws) t in
      let r = filled op w' ws q.registers q.value in
      record {
        by = first_token t ∷ r.by;
        threads = r.threads;
        expected = r.expected;
        ended = r.ended;
        leads =
            λ rest. ap
            (λ (b : Bool). then_on (λ u. run_table u (r.by ++ rest))
            (operand threads c (if b then Some q else None) 0))
            (filler_fits w) ∙ r.leads rest;
      }

  pending_ends : (op : DataOpcode) (ws : List Want) (rs : List ℕ) (v : ℤ) → Wants ws
      → CellEnds (stand threads c (InInstruction (pending op ws rs v)))
  pending_ends op [] rs v o = absurd o
  pending_ends op (w ∷ ws) rs v o = filled op w ws rs v

  at_once : (h : CellExpectation) → can_end h ≡ true → CellEnds (stand threads c h)
  at_once h e = record { by = []; threads = threads; expected = h; ended = e; leads = λ rest. refl }

  cell_ends : (h : CellExpectation) → IsOpen h → CellEnds (stand threads c h)
  cell_ends Begins o = at_once Begins refl
  cell_ends Labelled o = at_once Labelled refl
  cell_ends (InInstruction p) o = pending_ends p.opcode p.wants p.registers p.value o
  cell_ends (WantsLabel condition) o =
      record { by = first_token (tokens.Word (codes "r1")) ∷ []; threads = put_at c (steps.Instruction (branch_meaning condition (codes "r1"))) 0 threads; expected = Whole; ended = refl; leads = λ rest. refl }
  cell_ends Whole o = at_once Whole refl

-- ---- to the end of the row

pub separator : (threads : List ThreadSteps) (c offset : ℕ) (h : CellExpectation) → can_end h ≡ true
    → (expected_step threads c h (tokens.Mark marks.Semicolon) offset
    ≡ table_ended threads c (tokens.Mark marks.Semicolon))
    × (expected_step threads c h (tokens.Mark marks.Bar) offset
    ≡ table_ended threads c (tokens.Mark marks.Bar))
separator threads c offset Begins e = (refl, refl)
separator threads c offset Labelled e = (refl, refl)
separator threads c offset (InInstruction p) e = absurd cc
separator threads c offset (WantsLabel condition) e = absurd cc
separator threads c offset Whole e = (refl, refl)

row_ends : (left : ℕ) (threads : List ThreadSteps) (c : ℕ) (h : CellExpectation) → can_end h ≡ true
    → length threads ≤ c + 1 + left → FinishesTable is_row_start (stand threads c h)
row_ends zero threads c h e le =
    record {
      rest = first_token (tokens.Mark marks.Semicolon) ∷ [];
      after = stand threads 0 Begins;
      by =
          ap (then_on (λ u. run_table u [])) ((separator threads c 0 h e).0)
          ∙ ap (λ (b : Bool). then_on (λ u. run_table u []) (if b then at threads 0 Begins else None))
          (le-leb (length threads) (c + 1) (omega arith));
      ended = refl;
    }
row_ends (suc left) threads c h e le =
    choose (is_last threads c) refl (row_ends left threads (c + 1) Begins refl (omega arith))
  where
    choose : (b : Bool) → is_last threads c ≡ b
        → FinishesTable is_row_start (stand threads (c + 1) Begins)
        → FinishesTable is_row_start (stand threads c h)
    choose true k later = record {
      rest = first_token (tokens.Mark marks.Semicolon) ∷ [];
      after = stand threads 0 Begins;
      by =
          ap (then_on (λ u. run_table u [])) ((separator threads c 0 h e).0)
          ∙ ap (λ (b : Bool). then_on (λ u. run_table u []) (if b then at threads 0 Begins else None)) k;
      ended = refl;
    }
    choose false k later = record {
      rest = first_token (tokens.Mark marks.Bar) ∷ later.rest;
      after = later.after;
      by =
          ap (then_on (λ u. run_table u later.rest)) ((separator threads c 0 h e).1)
          ∙ ap
          (λ (b : Bool).
          then_on (λ u. run_table u later.rest) (if b then None else at threads (c + 1) Begins)) k
          ∙ later.by;
      ended = later.ended;
    }

columns_open : (n : ℕ) → IsOpen (columns n).expected
columns_open n = subst IsOpen (sym (columns-expected n)) tt

pub table_finishes : (n : ℕ) (ps : List texts.TokenAt) (s : TableState) → run_table (columns n) ps ≡ Some s
    → FinishesTable is_row_start s
table_finishes n ps s e =
    let k = cell_ends s.threads s.column s.expected (stays_open ps (columns n) s (columns_open n) e) in
    let r = row_ends (length k.threads) k.threads s.column k.expected k.ended (omega arith) in
    record { rest = k.by ++ r.rest; after = r.after; by = k.leads r.rest ∙ r.by; ended = r.ended }

pub thread_finishes : (ps : List texts.TokenAt) (s : TableState) → run_table (columns 0) ps ≡ Some s
    → FinishesTable is_whole_table s
thread_finishes ps s e =
    let k = cell_ends s.threads s.column s.expected (stays_open ps (columns 0) s tt e) in
    record { rest = k.by ++ []; after = stand k.threads s.column k.expected; by = k.leads []; ended = k.ended }
