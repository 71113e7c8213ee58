-- The machine takes what the tree of a cell spells, and keeps what it means and where its labels
-- stand.
use Rattle.std.proofs.Common.{◌≡◌, ℕ, ◌+◌, Bool, true, false, List, [], ◌∷◌, ◌++◌, length, Option, Some, None, ℤ, pos, refl, sym, ap, ◌∙◌, subst, append_assoc, arith}
use Rattle.std.specs.Prelude.{if◌then◌else◌}
use Rattle.std.proofs.lemmas.List.{append-nil, length-append}
use Rattle.std.proofs.lemmas.Bool.{and_parts}
use Rattle.litmus_tokens.specs.declared.token.Token.{Token}
use Rattle.litmus_tokens.specs.declared.token.Token.TheVariants as tokens
use Rattle.litmus_tokens.specs.Texts as texts
use Rattle.litmus_tokens.specs.Texts.{StandsAt}
use Rattle.text_values.specs.declared.instruction.BranchCondition.{BranchCondition}
use Rattle.text_values.specs.declared.instruction.Instruction.{Instruction}
use Rattle.text_values.specs.declared.instruction.Instruction.TheVariants as instructions
use Rattle.text_values.specs.declared.test.Step.{Step}
use Rattle.text_values.specs.declared.test.Step.TheVariants as steps
use Rattle.litmus_words.specs.declared.opcode.DataOpcode.{DataOpcode}
use Rattle.litmus_words.specs.declared.opcode.DataOpcode.TheVariants as data_opcodes
use Rattle.litmus_words.specs.declared.opcode.Opcode.{Opcode}
use Rattle.litmus_words.specs.declared.opcode.Opcode.TheVariants as opcodes
use Rattle.litmus_words.specs.declared.opcode.Want.{Want}
use Rattle.litmus_words.specs.Words.{opcode_of, data_form, token_fits, all_fit, is_label, takes_operands, registers, immediate, data_meaning, branch_meaning}
use Rattle.litmus_table.specs.Grammar.{InstructionTree, CellTree, spelled_label, spelled_instruction, spelled_cell, IsInstruction, label_steps, operation_steps, instruction_steps, cell_steps}
use Rattle.litmus_table.specs.Late.{Note, Defines, Branches, branch_notes, instruction_notes, label_notes, cell_notes}
use Rattle.litmus_words.specs.Machine.{ThreadSteps, noted, Pending, CellExpectation, Begins, Labelled, InInstruction, WantsLabel, Whole, TableState, pending_with, put_at, operation, operand, table_step, can_end}
use Rattle.litmus_table.specs.Laws.{then_on, LabelMark, Defined, Branched, instruction_marks, step_marks, label_marks as marks_of, AreMarks}
use Rattle.litmus_table.proofs.Finishes.{Wants, form_wants}
use Rattle.litmus_table.proofs.Values.{registers-with, value_after, value_of}

abbrev pub stand : List ThreadSteps → ℕ → CellExpectation → TableState
stand threads c h = record { threads = threads; column = c; expected = h }

module _ (text : List texts.TokenAt) (whole : List Token) (byte : List Token → ℕ)
    (stands : (b : List Token) (t : Token) (ts : List Token) → whole ≡ b ++ (t ∷ ts)
    → StandsAt text b (byte b)) where
  -- where tokens lead, behind these before them
  abbrev pub run_from : List Token → TableState → List Token → Option TableState
  run_from b s [] = Some s
  run_from b s (t ∷ ts) = then_on (λ u. run_from (b ++ t ∷ []) u ts) (table_step s t (byte b))

  -- a thread with these steps more
  pub record Adds (t t' : ThreadSteps) (ss : List Step) (ns : List Note) : Type 0 where
    pub offsets : List ℕ
    pub many : length ss ≡ length offsets
    pub steps_are : t'.steps ≡ t.steps ++ ss
    pub offsets_are : t'.offsets ≡ t.offsets ++ offsets
    pub marked : AreMarks text ns (marks_of ss offsets)

  pub adds_none : (t : ThreadSteps) → Adds t t [] []
  adds_none t =
      record {
        offsets = [];
        many = refl;
        steps_are = sym (append-nil t.steps);
        offsets_are = sym (append-nil t.offsets);
        marked = tt;
      }

  marks-append : (ss rs : List Step) (ps qs : List ℕ) → length ss ≡ length ps
      → marks_of (ss ++ rs) (ps ++ qs) ≡ marks_of ss ps ++ marks_of rs qs
  marks-append [] rs [] qs e = refl
  marks-append [] rs (p ∷ ps) qs e = absurd (omega arith)
  marks-append (s ∷ ss) rs [] qs e = absurd (omega arith)
  marks-append (s ∷ ss) rs (p ∷ ps) qs e =
      let less : length ss ≡ length ps = omega arith in
      ap (λ (l : List LabelMark). step_marks s p ++ l) (marks-append ss rs ps qs less)
      ∙ sym (append_assoc (step_marks s p) (marks_of ss ps) (marks_of rs qs))

  are_marks-append : (ns os : List Note) (ms ls : List LabelMark) → AreMarks text ns ms
      → AreMarks text os ls → AreMarks text (ns ++ os) (ms ++ ls)
  are_marks-append [] os [] ls a z = z
  are_marks-append (Defines w before ∷ ns) os (Defined v offset ∷ ms) ls a z =
      (a.0, a.1, are_marks-append ns os ms ls a.2 z)
  are_marks-append (Branches w before ∷ ns) os (Branched v offset ∷ ms) ls a z =
      (a.0, a.1, are_marks-append ns os ms ls a.2 z)
  are_marks-append [] os (m ∷ ms) ls a z = absurd a
  are_marks-append (Defines w before ∷ ns) os [] ls a z = absurd a
  are_marks-append (Branches w before ∷ ns) os [] ls a z = absurd a
  are_marks-append (Defines w before ∷ ns) os (Branched v offset ∷ ms) ls a z = absurd a
  are_marks-append (Branches w before ∷ ns) os (Defined v offset ∷ ms) ls a z = absurd a

  pub adds_both : (t u v : ThreadSteps) (ss rs : List Step) (ns os : List Note) → Adds t u ss ns
      → Adds u v rs os → Adds t v (ss ++ rs) (ns ++ os)
  adds_both t u v ss rs ns os a z =
      let m = a.many in
      let k = z.many in
      record {
        offsets = a.offsets ++ z.offsets;
        many =
            length-append ss rs
            ∙ (let e : length ss + length rs ≡ length a.offsets + length z.offsets = omega arith in
            e) ∙ sym (length-append a.offsets z.offsets);
        steps_are =
            z.steps_are ∙ ap (λ (l : List Step). l ++ rs) a.steps_are ∙ append_assoc t.steps ss rs;
        offsets_are =
            z.offsets_are ∙ ap (λ (l : List ℕ). l ++ z.offsets) a.offsets_are
            ∙ append_assoc t.offsets a.offsets z.offsets;
        marked =
            subst (AreMarks text (ns ++ os)) (sym (marks-append ss rs a.offsets z.offsets a.many))
            (are_marks-append ns os (marks_of ss a.offsets) (marks_of rs z.offsets) a.marked
            z.marked);
      }

  -- ---- the thread of a column

  put-there : (done : List ThreadSteps) (s : Step) (offset : ℕ) (t : ThreadSteps)
      (todo : List ThreadSteps)
      → put_at (length done) s offset (done ++ t ∷ todo) ≡ done ++ noted s offset t ∷ todo
  put-there [] s offset t todo = refl
  put-there (d ∷ done) s offset t todo =
      ap (λ (l : List ThreadSteps). d ∷ l) (put-there done s offset t todo)

  -- ---- operands

  module _ (threads : List ThreadSteps) (c : ℕ) where
    abbrev pending : DataOpcode → List Want → List ℕ → ℤ → Pending
    pending op ws rs v = record { opcode = op; wants = ws; registers = rs; value = v }

    abbrev with_data : DataOpcode → List ℕ → ℤ → ℕ → TableState
    with_data op rs v offset =
        stand (put_at c (steps.Instruction (data_meaning op rs v)) offset threads) c Whole

    operands_run : (op : DataOpcode) (w : Want) (ws : List Want) (rs : List ℕ) (v : ℤ)
        (b ops rest : List Token) → all_fit (w ∷ ws) ops ≡ true
        → (offset : ℕ)
        × (run_from b (stand threads c (InInstruction (pending op (w ∷ ws) rs v))) (ops ++ rest)
        ≡ run_from (b ++ ops)
        (with_data op (rs ++ registers ops) (value_after v ops) offset) rest)
    operands_run op w ws rs v b [] rest f = absurd cc
    operands_run op w [] rs v b (t ∷ []) rest f =
        let fit = (and_parts (token_fits w t) true f).0 in
        let q = pending_with (pending op (w ∷ []) rs v) [] t in
        let regs : q.registers ≡ rs ++ registers (t ∷ []) = sym (append-nil q.registers) ∙ registers-with t [] rs in (
          byte b,
          ap
              (λ (x : Bool). then_on (λ u. run_from (b ++ t ∷ []) u rest)
              (operand threads c (if x then Some q else None) (byte b))) fit
              ∙ ap (λ (l : List ℕ). run_from (b ++ t ∷ []) (with_data op l q.value (byte b)) rest)
              regs,
        )
    operands_run op w [] rs v b (t ∷ u ∷ ops) rest f =
        absurd (let e = (and_parts (token_fits w t) false f).1 in cc)
    operands_run op w (w' ∷ ws) rs v b (t ∷ ops) rest f =
        let k = and_parts (token_fits w t) (all_fit (w' ∷ ws) ops) f in
        let q = pending_with (pending op (w ∷ w' ∷ ws) rs v) (w' ∷ ws) t in
        let r = operands_run op w' ws q.registers q.value (b ++ t ∷ []) ops rest k.1 in (
          r.0,
          ap
              (λ (x : Bool). then_on (λ u. run_from (b ++ t ∷ []) u (ops ++ rest))
              (operand threads c (if x then Some q else None) (byte b))) k.0
              ∙ r.1
              ∙ ap
              (λ (l : List ℕ). run_from ((b ++ t ∷ []) ++ ops)
              (with_data op l (value_after q.value ops) r.0) rest)
              (registers-with t ops rs)
              ∙ ap
              (λ (l : List Token). run_from l
              (with_data op (rs ++ registers (t ∷ ops)) (value_after q.value ops) r.0) rest)
              (append_assoc b (t ∷ []) ops),
        )

    form_run : (op : DataOpcode) (ws : List Want) (b ops rest : List Token) → data_form op ≡ ws
        → all_fit ws ops ≡ true
        → (offset : ℕ)
        × (run_from b (stand threads c (InInstruction (pending op ws [] (pos 0)))) (ops ++ rest)
        ≡ run_from (b ++ ops) (with_data op (registers ops) (immediate ops) offset)
        rest)
    form_run op [] b ops rest e f = absurd (subst Wants e (form_wants op))
    form_run op (w ∷ ws) b ops rest e f =
        let r = operands_run op w ws [] (pos 0) b ops rest f in
        let v = value_of op ops (subst (λ (l : List Want). all_fit l ops ≡ true) (sym e) f) in
        (r.0, r.1 ∙ ap (λ (x : ℤ). run_from (b ++ ops) (with_data op (registers ops) x r.0) rest) v)

  -- ---- cells

  abbrev starts : CellExpectation → Type 0
  starts Begins = Unit {0}
  starts Labelled = Unit {0}
  starts h = ⊥

  -- the cell of a column was read: these tokens led to where it may end
  pub record CellRun (done : List ThreadSteps) (t : ThreadSteps) (todo : List ThreadSteps)
      (h : CellExpectation) (b ts by rest : List Token) (ss : List Step) (ns : List Note) : Type 0 where
    pub after : ThreadSteps
    pub expected : CellExpectation
    pub ended : can_end expected ≡ true
    pub adds : Adds t after ss ns
    pub leads : run_from b (stand (done ++ t ∷ todo) (length done) h) ts
        ≡ run_from (b ++ by) (stand (done ++ after ∷ todo) (length done) expected) rest

  module _ (done : List ThreadSteps) (t : ThreadSteps) (todo : List ThreadSteps) where
    abbrev here : CellExpectation → TableState
    here h = stand (done ++ t ∷ todo) (length done) h

    abbrev with_step : Step → ℕ → CellExpectation → TableState
    with_step s offset h = stand (done ++ noted s offset t ∷ todo) (length done) h

    adds_step : (s : Step) (offset : ℕ) (ns : List Note)
        → AreMarks text ns (step_marks s offset ++ []) → Adds t (noted s offset t) (s ∷ []) ns
    adds_step s offset ns m =
        record {
          offsets = offset ∷ [];
          many = refl;
          steps_are = refl;
          offsets_are = refl;
          marked = m;
        }

    put_run : (s : Step) (offset : ℕ) (h : CellExpectation) (b rest : List Token)
        → run_from b (stand (put_at (length done) s offset (done ++ t ∷ todo)) (length done) h) rest
        ≡ run_from b (with_step s offset h) rest
    put_run s offset h b rest =
        ap (λ (l : List ThreadSteps). run_from b (stand l (length done) h) rest)
        (put-there done s offset t todo)

    word_first : (h : CellExpectation) (w : List ℕ) (b ts : List Token) → starts h
        → run_from b (here h) (tokens.Word w ∷ ts)
        ≡ then_on (λ u. run_from (b ++ tokens.Word w ∷ []) u ts) (operation (done ++ t ∷ todo)
        (length done) (byte b) (opcode_of w))
    word_first Begins w b ts o = refl
    word_first Labelled w b ts o = refl
    word_first (InInstruction p) w b ts o = absurd o
    word_first (WantsLabel condition) w b ts o = absurd o
    word_first Whole w b ts o = absurd o

    abbrev Operated : CellExpectation → Opcode → List ℕ → List Token → List Token → List Token → Type 0
    Operated h op w ops b rest =
        CellRun done t todo h b (tokens.Word w ∷ (ops ++ rest)) (tokens.Word w ∷ ops) rest
        (operation_steps (Some op) ops) (branch_notes (Some op) ops (b ++ tokens.Word w ∷ []))

    no_marks : (d : DataOpcode) (rs : List ℕ) (v : ℤ) (offset : ℕ)
        → AreMarks text [] (instruction_marks (data_meaning d rs v) offset ++ [])
    no_marks data_opcodes.LoadImmediate rs v offset = tt
    no_marks data_opcodes.Move rs v offset = tt
    no_marks data_opcodes.AddImmediate rs v offset = tt
    no_marks (data_opcodes.Compute o) rs v offset = tt
    no_marks data_opcodes.Load rs v offset = tt
    no_marks data_opcodes.LoadIndexed rs v offset = tt
    no_marks data_opcodes.Store rs v offset = tt
    no_marks data_opcodes.StoreIndexed rs v offset = tt
    no_marks data_opcodes.Compare rs v offset = tt
    no_marks data_opcodes.CompareImmediate rs v offset = tt

    data_run : (h : CellExpectation) (op : DataOpcode) (w : List ℕ) (ops b rest : List Token) → starts h
        → opcode_of w ≡ Some (opcodes.Data op) → all_fit (data_form op) ops ≡ true
        → Operated h (opcodes.Data op) w ops b rest
    data_run h op w ops b rest o e f =
        let b' = b ++ tokens.Word w ∷ [] in
        let r = form_run (done ++ t ∷ todo) (length done) op (data_form op) b' ops rest refl f in
        let i = data_meaning op (registers ops) (immediate ops) in
        record {
          after = noted (steps.Instruction i) r.0 t;
          expected = Whole;
          ended = refl;
          adds =
              adds_step (steps.Instruction i) r.0 []
              (no_marks op (registers ops) (immediate ops) r.0);
          leads =
              word_first h w b (ops ++ rest) o
              ∙ ap
              (λ (x : Option Opcode). then_on (λ u. run_from b' u (ops ++ rest))
              (operation (done ++ t ∷ todo) (length done) (byte b) x)) e
              ∙ r.1
              ∙ put_run (steps.Instruction i) r.0 Whole (b' ++ ops) rest
              ∙ ap (λ (l : List Token). run_from l (with_step (steps.Instruction i) r.0 Whole) rest)
              (append_assoc b (tokens.Word w ∷ []) ops);
        }

    branch_marks : (condition : Option BranchCondition) (l : List ℕ) (b : List Token)
        → StandsAt text b (byte b)
        → AreMarks text (Branches l b ∷ []) (instruction_marks (branch_meaning condition l) (byte b)
        ++ [])
    branch_marks (Some condition) l b e = (refl, e, tt)
    branch_marks None l b e = (refl, e, tt)

    branch_run : (h : CellExpectation) (condition : Option BranchCondition) (w : List ℕ)
        (ops b rest : List Token) → starts h → opcode_of w ≡ Some (opcodes.Branch condition)
        → is_label ops ≡ true → whole ≡ b ++ (tokens.Word w ∷ (ops ++ rest))
        → Operated h (opcodes.Branch condition) w ops b rest
    branch_run h condition w (tokens.Word l ∷ []) b rest o e f all =
        let b' = b ++ tokens.Word w ∷ [] in
        let i = branch_meaning condition l in
        record {
          after = noted (steps.Instruction i) (byte b') t;
          expected = Whole;
          ended = refl;
          adds =
              adds_step (steps.Instruction i) (byte b') (Branches l b' ∷ []) (branch_marks condition
              l b' (
              stands b' (tokens.Word l) rest (all
              ∙ sym (append_assoc b (tokens.Word w ∷ []) (tokens.Word l ∷ rest)))));
          leads =
              word_first h w b (tokens.Word l ∷ rest) o
              ∙ ap
              (λ (x : Option Opcode). then_on (λ u. run_from b' u (tokens.Word l ∷ rest))
              (operation (done ++ t ∷ todo) (length done) (byte b) x)) e
              ∙ put_run (steps.Instruction i) (byte b') Whole (b' ++ tokens.Word l ∷ []) rest
              ∙ ap
              (λ (z : List Token).
              run_from z (with_step (steps.Instruction i) (byte b') Whole) rest)
              (append_assoc b (tokens.Word w ∷ []) (tokens.Word l ∷ []));
        }
    branch_run h condition w [] b rest o e f all = absurd cc
    branch_run h condition w (tokens.Word l ∷ u ∷ us) b rest o e f all = absurd cc
    branch_run h condition w (u ∷ us) b rest o e f all = absurd cc

    fence_run : (h : CellExpectation) (op : Opcode) (i : Instruction) (w : List ℕ) (b rest : List Token)
        → starts h
        → ((offset : ℕ)
        → operation (done ++ t ∷ todo) (length done) offset (opcode_of w)
        ≡ Some (stand
        (put_at (length done) (steps.Instruction i) offset (done ++ t ∷ todo))
        (length done) Whole))
        → operation_steps (Some op) [] ≡ steps.Instruction i ∷ []
        → branch_notes (Some op) [] (b ++ tokens.Word w ∷ []) ≡ []
        → instruction_marks i (byte b) ≡ [] → Operated h op w [] b rest
    fence_run h op i w b rest o e meant none unmarked =
        let b' = b ++ tokens.Word w ∷ [] in
        record {
          after = noted (steps.Instruction i) (byte b) t;
          expected = Whole;
          ended = refl;
          adds =
              subst
              (λ (ss : List Step). Adds t (noted (steps.Instruction i) (byte b) t) ss
              (branch_notes (Some op) [] b'))
              (sym meant) (
              adds_step (steps.Instruction i) (byte b) (branch_notes (Some op) [] b') (subst
              (λ (ns : List Note). AreMarks text ns (instruction_marks i (byte b) ++ []))
              (sym none) (
              subst (λ (ms : List LabelMark). AreMarks text [] (ms ++ [])) (sym unmarked) tt)));
          leads =
              word_first h w b rest o ∙ ap (then_on (λ u. run_from b' u rest)) (e (byte b))
              ∙ put_run (steps.Instruction i) (byte b) Whole b' rest;
        }

    operated : (h : CellExpectation) (op : Opcode) (w : List ℕ) (ops b rest : List Token) → starts h
        → opcode_of w ≡ Some op → takes_operands op ops ≡ true → whole ≡ b ++ (tokens.Word w ∷ (ops ++ rest))
        → Operated h op w ops b rest
    operated h (opcodes.Data op) w ops b rest o e f all = data_run h op w ops b rest o e f
    operated h (opcodes.Branch condition) w ops b rest o e f all =
        branch_run h condition w ops b rest o e f all
    operated h (opcodes.Fence g) w [] b rest o e f all =
        fence_run h (opcodes.Fence g) (instructions.Fence g) w b rest o
        (λ offset. ap (operation (done ++ t ∷ todo) (length done) offset) e) refl refl refl
    operated h (opcodes.Fence g) w (u ∷ us) b rest o e f all = absurd cc

    started : (h : CellExpectation) → starts h → can_end h ≡ true
    started Begins o = refl
    started Labelled o = refl
    started (InInstruction p) o = absurd o
    started (WantsLabel condition) o = absurd o
    started Whole o = absurd o

    instruction_run : (h : CellExpectation) (i : Option InstructionTree) (b rest : List Token)
        → starts h → IsInstruction i → whole ≡ b ++ spelled_instruction i rest
        → CellRun done t todo h b (spelled_instruction i rest) (spelled_instruction i []) rest
        (instruction_steps i) (instruction_notes i b)
    instruction_run h None b rest o fine all =
        record { after = t; expected = h; ended = started h o; adds = adds_none t; leads = ap (λ (l : List Token). run_from l (here h) rest) (sym (append-nil b)) }
    instruction_run h (Some i) b rest o fine all =
        let b' = b ++ tokens.Word i.word ∷ [] in
        let r = operated h fine.opcode i.word i.operands b rest o fine.known fine.fit all in
        subst
        (λ (x : Option Opcode). CellRun done t todo h b
        (tokens.Word i.word ∷ (i.operands ++ rest))
        (tokens.Word i.word ∷ (i.operands ++ [])) rest (operation_steps x i.operands)
        (branch_notes x i.operands b'))
        (sym fine.known) (
        subst
        (λ (l : List Token). CellRun done t todo h b (tokens.Word i.word ∷ (i.operands ++ rest))
        (tokens.Word i.word ∷ l) rest (operation_steps (Some fine.opcode) i.operands)
        (branch_notes (Some fine.opcode) i.operands b'))
        (sym (append-nil i.operands)) r)

  pub cell_run : (done : List ThreadSteps) (t : ThreadSteps) (todo : List ThreadSteps)
      (c : CellTree) (b rest : List Token) → IsInstruction c.instruction
      → whole ≡ b ++ spelled_cell c rest
      → CellRun done t todo Begins b (spelled_cell c rest) (spelled_cell c []) rest (cell_steps c)
      (cell_notes c b)
  cell_run done t todo c b rest fine all = by_label c.label all
    where
      by_label : (l : Option (List ℕ))
          → whole ≡ b ++ spelled_label l (spelled_instruction c.instruction rest)
          → CellRun done t todo Begins b (spelled_label l (spelled_instruction c.instruction rest))
          (spelled_label l (spelled_instruction c.instruction [])) rest
          (label_steps l ++ instruction_steps c.instruction) (label_notes l b
          ++ instruction_notes c.instruction (b ++ spelled_label l []))
      by_label None e =
          subst
          (λ (l : List Token). CellRun done t todo Begins b
          (spelled_instruction c.instruction rest) (spelled_instruction c.instruction [])
          rest (instruction_steps c.instruction) (instruction_notes c.instruction l))
          (sym (append-nil b))
          (instruction_run done t todo Begins c.instruction b rest tt fine e)
      by_label (Some l) e =
          let b1 = b ++ tokens.Label l ∷ [] in
          let s = steps.Label l in
          let u = noted s (byte b) t in
          let r = instruction_run done u todo Labelled c.instruction b1 rest tt fine (e ∙ sym (append_assoc b (tokens.Label l ∷ []) (spelled_instruction c.instruction rest))) in
          record {
            after = r.after;
            expected = r.expected;
            ended = r.ended;
            adds =
                adds_both t u r.after (s ∷ []) (instruction_steps c.instruction) (Defines l b ∷ [])
                (instruction_notes c.instruction b1)
                (adds_step done t todo s (byte b) (Defines l b ∷ []) (
                  refl,
                  stands b (tokens.Label l) (spelled_instruction c.instruction rest) e,
                  tt,
                )) r.adds;
            leads =
                put_run done t todo s (byte b) Labelled b1 (spelled_instruction c.instruction rest)
                ∙ r.leads
                ∙ ap
                (λ (z : List Token).
                run_from z (stand (done ++ r.after ∷ todo) (length done) r.expected) rest)
                (append_assoc b (tokens.Label l ∷ []) (spelled_instruction c.instruction []));
          }
