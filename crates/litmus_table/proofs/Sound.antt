-- Tokens that lead to where the table may end are spelled by its trees: read from the last token to
-- the first.
use Rattle.std.proofs.Common.{◌≡◌, ℕ, zero, suc, ◌+◌, ◌≤◌, ◌⊎◌, inl, inr, Bool, true, false, List, [], ◌∷◌, ◌++◌, length, Option, Some, None, ℤ, refl, sym, ap, ◌∙◌, subst, arith}
use Rattle.std.specs.Prelude.{◌==◌, ◌&&◌, if◌then◌else◌}
use Rattle.std.proofs.lemmas.Bool.Decides.{nat_tests}
use Rattle.std.proofs.lemmas.Bool.{and_parts, le-leb, leb-true, leb-false}
use Rattle.litmus_tokens.specs.declared.token.Token.{Token}
use Rattle.litmus_tokens.specs.declared.token.Token.TheVariants as tokens
use Rattle.litmus_tokens.specs.declared.token.Mark.TheVariants as marks
use Rattle.litmus_tokens.specs.Texts as texts
use Rattle.litmus_tokens.specs.Texts.{test_tokens_of}
use Rattle.text_values.specs.declared.instruction.BranchCondition.{BranchCondition}
use Rattle.text_values.specs.declared.test.Step.{Step}
use Rattle.litmus_words.specs.declared.opcode.DataOpcode.{DataOpcode}
use Rattle.litmus_words.specs.declared.opcode.Opcode.{Opcode}
use Rattle.litmus_words.specs.declared.opcode.Opcode.TheVariants as opcodes
use Rattle.litmus_words.specs.declared.opcode.Want.{Want}
use Rattle.litmus_words.specs.Words.{opcode_of, token_fits, all_fit}
use Rattle.litmus_table.specs.Grammar.{InstructionTree, CellTree, RowTree, spelled_instruction, spelled_cell, spelled_cells, spelled_rows, spelled_steps, IsInstruction, AreCells, AreRowTrees}
use Rattle.litmus_words.specs.Machine.{ThreadSteps, fresh, first_of, pending_after, Pending, CellExpectation, Begins, Labelled, InInstruction, WantsLabel, Whole, TableState, pending_with, put_at, at, is_last, table_ended, operation, begin_instruction, cell, goes_on, operand, target_read, expected_step, table_step, is_row_start, can_end, is_begin}
use Rattle.litmus_table.specs.Laws.{IsTable, IsThread, then_on, run_table, columns, is_whole_table}

-- ---- what is left of a cell, before its tail

abbrev Left : CellExpectation → List Token → List Token → Type 0
Left Begins ts tail = (c : CellTree) × IsInstruction c.instruction × (ts ≡ spelled_cell c tail)
Left Labelled ts tail =
    (i : Option InstructionTree) × IsInstruction i × (ts ≡ spelled_instruction i tail)
Left (InInstruction p) ts tail =
    (operands : List Token) × (all_fit p.wants operands ≡ true) × (ts ≡ operands ++ tail)
Left (WantsLabel condition) ts tail = (w : List ℕ) × (ts ≡ tokens.Word w ∷ tail)
Left Whole ts tail = ts ≡ tail

-- what stands behind a cell of a column, and what begins there
module _ (Tail Cell : ℕ → List Token → Type 0) where
  abbrev Reads : ℕ → CellExpectation → List Token → Type 0
  Reads c Begins ts = Cell c ts
  Reads c h ts = (tail : List Token) × Tail c tail × Left h ts tail

  abbrev After : List Token → Option TableState → Type 0
  After ts None = ⊥
  After ts (Some s) = Reads s.column s.expected ts

  module _ (n : ℕ)
      (here : (c : ℕ) (ts tail : List Token) → Tail c tail → Left Begins ts tail → Cell c ts)
      (behind : (threads : List ThreadSteps) (c : ℕ) (t : Token) (ts : List Token)
      → length threads ≡ n + 1 → c ≤ n → After ts (table_ended threads c t) → Tail c (t ∷ ts))
    where
      module _ (threads : List ThreadSteps) (c : ℕ) (size : length threads ≡ n + 1) (there : c ≤ n)
          (offset : ℕ) (ts : List Token) where
        after_word : (w : List ℕ) (o : Option Opcode) → opcode_of w ≡ o
            → After ts (operation threads c offset o) → Reads c Labelled (tokens.Word w ∷ ts)
        after_word w (Some (opcodes.Data op)) e r = (
          r.0,
          r.1,
          (
            Some (record { word = w; operands = r.2.0 }),
            record { opcode = opcodes.Data op; known = e; fit = r.2.1 },
            ap (λ (l : List Token). tokens.Word w ∷ l) r.2.2,
          ),
        )
        after_word w (Some (opcodes.Branch condition)) e r = (
          r.0,
          r.1,
          (
            Some (record { word = w; operands = tokens.Word r.2.0 ∷ [] }),
            record { opcode = opcodes.Branch condition; known = e; fit = refl },
            ap (λ (l : List Token). tokens.Word w ∷ l) r.2.1,
          ),
        )
        after_word w (Some (opcodes.Fence f)) e r = (
          r.0,
          r.1,
          (
            Some (record { word = w; operands = [] }),
            record { opcode = opcodes.Fence f; known = e; fit = refl },
            ap (λ (l : List Token). tokens.Word w ∷ l) r.2,
          ),
        )
        after_word w None e r = absurd r

        no_instruction : (t : Token) → After ts (table_ended threads c t) → Reads c Labelled (t ∷ ts)
        no_instruction t r = (t ∷ ts, behind threads c t ts size there r, (None, tt, refl))

        after_begin : (t : Token) → After ts (begin_instruction threads c t offset) → Reads c Labelled (t ∷ ts)
        after_begin (tokens.Word w) r = after_word w (opcode_of w) refl r
        after_begin t r = no_instruction t r

        unlabelled : (us : List Token) → Reads c Labelled us → Cell c us
        unlabelled us r =
            here c us r.0 r.1 (record { label = None; instruction = r.2.0 }, r.2.1, r.2.2)

        after_cell : (t : Token) → After ts (cell threads c t offset) → Cell c (t ∷ ts)
        after_cell (tokens.Label w) r =
            here c (tokens.Label w ∷ ts) r.0 r.1 (
              record { label = Some w; instruction = r.2.0 },
              r.2.1,
              ap (λ (l : List Token). tokens.Label w ∷ l) r.2.2,
            )
        after_cell t r = unlabelled (t ∷ ts) (after_begin t r)

        abbrev pending : DataOpcode → List Want → List ℕ → ℤ → Pending
        pending op ws rs v = record { opcode = op; wants = ws; registers = rs; value = v }

        more_operands : (p : Pending) (w : Want) (ws : List Want) (t : Token) → token_fits w t ≡ true
            → After ts (operand threads c (Some (pending_with p ws t)) offset)
            → (tail : List Token) × Tail c tail × (operands : List Token)
            × (all_fit (w ∷ ws) operands ≡ true) × (t ∷ ts ≡ operands ++ tail)
        more_operands p w [] t e r =
            (r.0, r.1, t ∷ [], ap (λ (b : Bool). b && true) e, ap (λ (l : List Token). t ∷ l) r.2)
        more_operands p w (v ∷ ws) t e r = (
          r.0,
          r.1,
          t ∷ r.2.0,
          ap (λ (b : Bool). b && all_fit (v ∷ ws) r.2.0) e ∙ r.2.1,
          ap (λ (l : List Token). t ∷ l) r.2.2,
        )

        after_operand : (op : DataOpcode) (ws : List Want) (rs : List ℕ) (v : ℤ) (t : Token)
            → After ts (expected_step threads c (InInstruction (pending op ws rs v)) t offset)
            → Reads c (InInstruction (pending op ws rs v)) (t ∷ ts)
        after_operand op [] rs v t r = absurd r
        after_operand op (w ∷ ws) rs v t r = choose (token_fits w t) refl r
          where
            choose : (b : Bool) → token_fits w t ≡ b
                → After ts (operand threads c
                (if b then Some (pending_with (pending op (w ∷ ws) rs v) ws t) else None)
                offset) → Reads c (InInstruction (pending op (w ∷ ws) rs v)) (t ∷ ts)
            choose true e k =
                let m = more_operands (pending op (w ∷ ws) rs v) w ws t e k in
                (m.0, m.1, (m.2, m.3, m.4))
            choose false e k = absurd k

        after_target : (condition : Option BranchCondition) (t : Token)
            → After ts (target_read threads c condition t offset)
            → Reads c (WantsLabel condition) (t ∷ ts)
        after_target condition (tokens.Word w) r =
            (r.0, r.1, (w, ap (λ (l : List Token). tokens.Word w ∷ l) r.2))
        after_target condition t r = absurd r

        pub after_expectation : (h : CellExpectation) (t : Token)
            → After ts (expected_step threads c h t offset) → Reads c h (t ∷ ts)
        after_expectation Begins t r = after_cell t r
        after_expectation Labelled t r = after_begin t r
        after_expectation (InInstruction p) t r = after_operand p.opcode p.wants p.registers p.value t r
        after_expectation (WantsLabel condition) t r = after_target condition t r
        after_expectation Whole t r = (t ∷ ts, behind threads c t ts size there r, refl)

      -- what a run keeps of the table's shape
      abbrev Fits : Option TableState → Type 0
      Fits None = Unit {0}
      Fits (Some s) = (length s.threads ≡ n + 1) × (s.column ≤ n)

      length-put : (k : ℕ) (s : Step) (p : ℕ) (ts : List ThreadSteps)
          → length (put_at k s p ts) ≡ length ts
      length-put k s p [] = refl
      length-put zero s p (t ∷ ts) = refl
      length-put (suc k) s p (t ∷ ts) = let e = length-put k s p ts in omega arith

      module _ (threads : List ThreadSteps) (c : ℕ) (size : length threads ≡ n + 1) (there : c ≤ n)
          (offset : ℕ) where
        fits_put : (s : Step) (h : CellExpectation) → Fits (at (put_at c s offset threads) c h)
        fits_put s h = (length-put c s offset threads ∙ size, there)

        fits_end : (t : Token) → Fits (table_ended threads c t)
        fits_end (tokens.Mark marks.Semicolon) = choose (is_last threads c)
          where
            choose : (b : Bool) → Fits (if b then at threads 0 Begins else None)
            choose true = (size, omega arith)
            choose false = tt
        fits_end (tokens.Mark marks.Bar) = choose (is_last threads c) refl
          where
            choose : (b : Bool) → is_last threads c ≡ b
                → Fits (if b then None else at threads (c + 1) Begins)
            choose true e = tt
            choose false e = let lt = leb-false (length threads) (c + 1) e in (size, omega arith)
        fits_end t = tt

        fits_word : (o : Option Opcode) → Fits (operation threads c offset o)
        fits_word (Some (opcodes.Data op)) = (size, there)
        fits_word (Some (opcodes.Branch condition)) = (size, there)
        fits_word (Some (opcodes.Fence f)) = fits_put _ Whole
        fits_word None = tt

        fits_begin : (t : Token) → Fits (begin_instruction threads c t offset)
        fits_begin (tokens.Word w) = fits_word (opcode_of w)
        fits_begin t = fits_end t

        fits_cell : (t : Token) → Fits (cell threads c t offset)
        fits_cell (tokens.Label w) = fits_put _ Labelled
        fits_cell t = fits_begin t

        fits_going : (q : Pending) (o : Option Want) → Fits (goes_on threads c q o offset)
        fits_going q None = fits_put _ Whole
        fits_going q (Some w) = (size, there)

        fits_operand : (o : Option Pending) → Fits (operand threads c o offset)
        fits_operand (Some q) = fits_going q (first_of q.wants)
        fits_operand None = tt

        fits_target : (condition : Option BranchCondition) (t : Token)
            → Fits (target_read threads c condition t offset)
        fits_target condition (tokens.Word w) = fits_put _ Whole
        fits_target condition t = tt

        fits_expectation : (h : CellExpectation) (t : Token) → Fits (expected_step threads c h t offset)
        fits_expectation Begins t = fits_cell t
        fits_expectation Labelled t = fits_begin t
        fits_expectation (InInstruction q) t = fits_operand (pending_after q t)
        fits_expectation (WantsLabel condition) t = fits_target condition t
        fits_expectation Whole t = fits_end t

      pub reads : (may_end : TableState → Bool)
          → ((s : TableState) → s.column ≤ n → may_end s ≡ true → Reads s.column s.expected [])
          → (ps : List texts.TokenAt) (s f : TableState) → length s.threads ≡ n + 1 → s.column ≤ n
          → run_table s ps ≡ Some f → may_end f ≡ true → Reads s.column s.expected (test_tokens_of ps)
      reads may_end base [] s f size there e m =
          base s there (subst (λ (x : TableState). may_end x ≡ true) (sym same) m)
        where
          same : s ≡ f
          same = cc
      reads may_end base (p ∷ ps) s f size there e m =
          after_expectation s.threads s.column size there p.offset (test_tokens_of ps) s.expected p.token
          (by_step (table_step s p.token p.offset)
          (fits_expectation s.threads s.column size there p.offset s.expected p.token) e
          (λ u. reads may_end base ps u f))
        where
          by_step : (o : Option TableState) → Fits o → then_on (λ u. run_table u ps) o ≡ Some f
              → ((u : TableState) → length u.threads ≡ n + 1 → u.column ≤ n → run_table u ps ≡ Some f
              → may_end f ≡ true → Reads u.column u.expected (test_tokens_of ps))
              → After (test_tokens_of ps) o
          by_step None k x later = absurd cc
          by_step (Some u) k x later = later u k.0 k.1 x m

-- ---- tables

abbrev TableTail : ℕ → ℕ → List Token → Type 0
TableTail n c tail =
    (cells : List CellTree) × (rows : List RowTree) × AreCells cells × (c + length cells ≡ n)
    × AreRowTrees n rows × (tail ≡ spelled_cells cells (spelled_rows rows []))

abbrev TableCell : ℕ → ℕ → List Token → Type 0
TableCell n c ts =
    ((c ≡ 0) × (ts ≡ [])) ⊎ ((tail : List Token) × TableTail n c tail × Left Begins ts tail)

rows_of : (n : ℕ) (ts : List Token) → TableCell n 0 ts → IsTable n ts
rows_of n ts (inl e) = record { rows = []; fine = tt; whole = e.1 }
rows_of n ts (inr r) =
    let t = r.1 in
    let many : length t.0 ≡ n = omega (arith, t.3) in
    record {
      rows = record { first = r.2.0; others = t.0 } ∷ t.1;
      fine = (r.2.1, t.2, many, t.4);
      whole = r.2.2 ∙ ap (spelled_cell r.2.0) t.5;
    }

table_behind : (n : ℕ) (threads : List ThreadSteps) (c : ℕ) (t : Token) (ts : List Token)
    → length threads ≡ n + 1 → c ≤ n → After (TableTail n) (TableCell n) ts (table_ended threads c t)
    → TableTail n c (t ∷ ts)
table_behind n threads c (tokens.Mark marks.Semicolon) ts size there r =
    choose (is_last threads c) refl r
  where
    choose : (b : Bool) → is_last threads c ≡ b
        → After (TableTail n) (TableCell n) ts (if b then at threads 0 Begins else None)
        → TableTail n c (tokens.Mark marks.Semicolon ∷ ts)
    choose true e k =
        let lt = leb-true (length threads) (c + 1) e in
        let t = rows_of n ts k in
        let last : c + 0 ≡ n = omega arith in (
          [],
          t.rows,
          tt,
          last,
          t.fine,
          ap (λ (l : List Token). tokens.Mark marks.Semicolon ∷ l) t.whole,
        )
    choose false e k = absurd k
table_behind n threads c (tokens.Mark marks.Bar) ts size there r = choose (is_last threads c) r
  where
    further : TableCell n (c + 1) ts → TableTail n c (tokens.Mark marks.Bar ∷ ts)
    further (inl e) = absurd (omega (arith, e.0))
    further (inr k) =
        let t = k.1 in
        let many : c + length (k.2.0 ∷ t.0) ≡ n = omega (arith, t.3) in (
          k.2.0 ∷ t.0,
          t.1,
          (k.2.1, t.2),
          many,
          t.4,
          ap (λ (l : List Token). tokens.Mark marks.Bar ∷ l)
              (k.2.2 ∙ ap (spelled_cell k.2.0) t.5),
        )

    choose : (b : Bool)
        → After (TableTail n) (TableCell n) ts (if b then None else at threads (c + 1) Begins)
        → TableTail n c (tokens.Mark marks.Bar ∷ ts)
    choose true k = absurd k
    choose false k = further k
table_behind n threads c t ts size there r = absurd r

is_zero : (c : ℕ) → c == 0 ≡ true → c ≡ 0
is_zero c e = grind (arith, nat_tests)

table_ends : (n c : ℕ) (h : CellExpectation) → is_begin h ≡ true → c ≡ 0
    → Reads (TableTail n) (TableCell n) c h []
table_ends n c Begins e z = inl (z, refl)
table_ends n c Labelled e z = absurd cc
table_ends n c (InInstruction p) e z = absurd cc
table_ends n c (WantsLabel condition) e z = absurd cc
table_ends n c Whole e z = absurd cc

length-widened : (ts : List ThreadSteps) (t : ThreadSteps) → length (ts ++ t ∷ []) ≡ length ts + 1
length-widened [] t = refl
length-widened (u ∷ ts) t = let e = length-widened ts t in omega arith

pub columns-length : (n : ℕ) → length (columns n).threads ≡ n + 1
columns-length zero = refl
columns-length (suc n) =
    let e = columns-length n in let m = length-widened (columns n).threads fresh in omega arith

pub columns-column : (n : ℕ) → (columns n).column ≡ 0
columns-column zero = refl
columns-column (suc n) = columns-column n

pub columns-expected : (n : ℕ) → (columns n).expected ≡ Begins
columns-expected zero = refl
columns-expected (suc n) = columns-expected n

pub table_sound : (n : ℕ) (ps : List texts.TokenAt) (s : TableState) → run_table (columns n) ps ≡ Some s
    → is_row_start s ≡ true → IsTable n (test_tokens_of ps)
table_sound n ps s e m =
    let first = columns-column n in
    let r = reads (TableTail n) (TableCell n) n (λ c ts tail t l. inr (tail, t, l)) (table_behind n) is_row_start
    (λ u there k.
    let b = and_parts (u.column == 0) (is_begin u.expected) k in
    table_ends n u.column u.expected b.1 (is_zero u.column b.0))
    ps (columns n) s (columns-length n) (omega arith) e m in
    rows_of n (test_tokens_of ps) (subst
    (λ (h : CellExpectation). Reads (TableTail n) (TableCell n) 0 h (test_tokens_of ps))
    (columns-expected n) (subst
    (λ (c : ℕ). Reads (TableTail n) (TableCell n) c (columns n).expected (test_tokens_of ps))
    first r))

-- ---- the text of a thread alone

abbrev ThreadTail : ℕ → List Token → Type 0
ThreadTail c tail = (cells : List CellTree) × AreCells cells × (tail ≡ spelled_steps cells [])

abbrev ThreadCell : ℕ → List Token → Type 0
ThreadCell c ts = (tail : List Token) × ThreadTail c tail × Left Begins ts tail

thread_behind : (threads : List ThreadSteps) (c : ℕ) (t : Token) (ts : List Token)
    → length threads ≡ 0 + 1 → c ≤ 0 → After ThreadTail ThreadCell ts (table_ended threads c t)
    → ThreadTail c (t ∷ ts)
thread_behind threads c (tokens.Mark marks.Semicolon) ts size there r = choose (is_last threads c) r
  where
    choose : (b : Bool) → After ThreadTail ThreadCell ts (if b then at threads 0 Begins else None)
        → ThreadTail c (tokens.Mark marks.Semicolon ∷ ts)
    choose true k =
        let t = k.1 in (
          k.2.0 ∷ t.0,
          (k.2.1, t.1),
          ap (λ (l : List Token). tokens.Mark marks.Semicolon ∷ l)
              (k.2.2 ∙ ap (spelled_cell k.2.0) t.2),
        )
    choose false k = absurd k
thread_behind threads c (tokens.Mark marks.Bar) ts size there r =
    absurd (subst
    (λ (b : Bool).
    After ThreadTail ThreadCell ts (if b then None else at threads (c + 1) Begins))
    (le-leb (length threads) (c + 1) (omega arith)) r)
thread_behind threads c t ts size there r = absurd r

thread_ends : (c : ℕ) (h : CellExpectation) → can_end h ≡ true → Reads ThreadTail ThreadCell c h []
thread_ends c Begins e =
    ([], ([], tt, refl), (record { label = None; instruction = None }, tt, refl))
thread_ends c Labelled e = ([], ([], tt, refl), (None, tt, refl))
thread_ends c (InInstruction p) e = absurd cc
thread_ends c (WantsLabel condition) e = absurd cc
thread_ends c Whole e = ([], ([], tt, refl), refl)

pub thread_sound : (ps : List texts.TokenAt) (s : TableState) → run_table (columns 0) ps ≡ Some s
    → is_whole_table s ≡ true → IsThread (test_tokens_of ps)
thread_sound ps s e m =
    let r = reads ThreadTail ThreadCell 0 (λ c ts tail t l. (tail, t, l)) thread_behind is_whole_table (λ u there k. thread_ends u.column u.expected k) ps (columns 0) s refl (omega arith) e m in
    record {
      tree = record { first = r.2.0; others = r.1.0 };
      fine = (r.2.1, r.1.1);
      whole = r.2.2 ∙ ap (spelled_cell r.2.0) r.1.2;
    }
