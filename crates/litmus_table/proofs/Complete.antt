-- The machine takes what the trees spell, and keeps what they mean and where their labels stand.
use Rattle.std.proofs.Common.{◌≡◌, ℕ, zero, suc, ◌+◌, Bool, true, false, List, [], ◌∷◌, ◌++◌, length, Option, Some, None, refl, sym, ap, ◌∙◌, subst, append_assoc, arith}
use Rattle.std.specs.Prelude.{if◌then◌else◌}
use Rattle.std.proofs.lemmas.List.{append-nil, length-append}
use Rattle.std.proofs.lemmas.Bool.{le-leb, lt-leb}
use Rattle.litmus_tokens.specs.declared.token.Token.{Token}
use Rattle.litmus_tokens.specs.declared.token.Token.TheVariants as tokens
use Rattle.litmus_tokens.specs.declared.token.Mark as declared_mark
use Rattle.litmus_tokens.specs.declared.token.Mark.TheVariants as marks
use Rattle.litmus_tokens.specs.Texts as texts
use Rattle.litmus_tokens.specs.Texts.{test_tokens_of, StandsAt}
use Rattle.text_values.specs.declared.test.Step.{Step}
use Rattle.litmus_table.specs.Grammar.{InstructionTree, CellTree, RowTree, spelled_label, spelled_instruction, spelled_cell, spelled_cells, spelled_rows, spelled_steps, AreCells, AreRowTrees, cell_steps, cells_steps, nth_cell, column, columns_meaning}
use Rattle.litmus_table.specs.Late.{Note, cell_notes, nth_notes, column_notes, thread_notes, columns_notes}
use Rattle.litmus_words.specs.Machine.{ThreadSteps, fresh, CellExpectation, Begins, TableState, at, is_last, expected_step, table_step, can_end}
use Rattle.litmus_table.specs.Laws.{then_on, run_table, steps_of, AreMarks, IsNoted, AreNoted, label_marks as marks_of}
use Rattle.litmus_table.proofs.Cells.{stand, run_from, Adds, adds_none, adds_both, cell_run}
use Rattle.litmus_table.proofs.Finishes.{separator}

pub label-append : (l : Option (List ℕ)) (xs ys : List Token)
    → spelled_label l xs ++ ys ≡ spelled_label l (xs ++ ys)
label-append None xs ys = refl
label-append (Some l) xs ys = refl

pub cell-append : (c : CellTree) (xs ys : List Token)
    → spelled_cell c xs ++ ys ≡ spelled_cell c (xs ++ ys)
cell-append c xs ys =
    label-append c.label (spelled_instruction c.instruction xs) ys
    ∙ ap (spelled_label c.label) (by_instruction c.instruction)
  where
    by_instruction : (i : Option InstructionTree)
        → spelled_instruction i xs ++ ys ≡ spelled_instruction i (xs ++ ys)
    by_instruction None = refl
    by_instruction (Some i) =
        ap (λ (l : List Token). tokens.Word i.word ∷ l) (append_assoc i.operands xs ys)

pub cells-append : (cs : List CellTree) (xs ys : List Token)
    → spelled_cells cs xs ++ ys ≡ spelled_cells cs (xs ++ ys)
cells-append [] xs ys = refl
cells-append (c ∷ cs) xs ys =
    ap (λ (l : List Token). tokens.Mark marks.Bar ∷ l) (cell-append c (spelled_cells cs xs) ys
    ∙ ap (spelled_cell c) (cells-append cs xs ys))

-- a separator behind a cell
pub passes : (b : List Token) (c : CellTree) (t : Token) (ts : List Token)
    → (b ++ spelled_cell c (t ∷ [])) ++ ts ≡ b ++ spelled_cell c (t ∷ ts)
passes b c t ts =
    append_assoc b (spelled_cell c (t ∷ [])) ts
    ∙ ap (λ (l : List Token). b ++ l) (cell-append c (t ∷ []) ts)

closes : (b : List Token) (c : CellTree) (t : Token)
    → (b ++ spelled_cell c []) ++ t ∷ [] ≡ b ++ spelled_cell c (t ∷ [])
closes b c t =
    append_assoc b (spelled_cell c []) (t ∷ [])
    ∙ ap (λ (l : List Token). b ++ l) (cell-append c [] (t ∷ []))

row-append : (b : List Token) (r : RowTree) (ts : List Token)
    → (b ++ spelled_cell r.first (spelled_cells r.others [])) ++ ts
    ≡ b ++ spelled_cell r.first (spelled_cells r.others ts)
row-append b r ts =
    append_assoc b (spelled_cell r.first (spelled_cells r.others [])) ts
    ∙ ap (λ (l : List Token). b ++ l) (cell-append r.first (spelled_cells r.others []) ts
    ∙ ap (spelled_cell r.first) (cells-append r.others [] ts))

module _ (text : List texts.TokenAt) (whole : List Token) (byte : List Token → ℕ)
    (stands : (b : List Token) (t : Token) (ts : List Token) → whole ≡ b ++ (t ∷ ts)
    → StandsAt text b (byte b)) where
  abbrev pub runs : List Token → TableState → List Token → Option TableState
  runs b s ts = run_from text whole byte stands b s ts

  abbrev Grows : ThreadSteps → ThreadSteps → List Step → List Note → Type 0
  Grows t u ss ns = Adds text whole byte stands t u ss ns

  -- each thread with these steps more
  abbrev AllAdd : (ℕ → List Step) → (ℕ → List Note) → List ThreadSteps → List ThreadSteps → Type 0
  AllAdd f g [] [] = Unit {0}
  AllAdd f g (t ∷ ts) (u ∷ us) =
      Grows t u (f zero) (g zero) × AllAdd (λ k. f (suc k)) (λ k. g (suc k)) ts us
  AllAdd f g ts us = ⊥

  all_none : (ts : List ThreadSteps) → AllAdd (λ k. []) (λ k. []) ts ts
  all_none [] = tt
  all_none (t ∷ ts) = (adds_none text whole byte stands t, all_none ts)

  all_both : (f f' : ℕ → List Step) (g g' : ℕ → List Note) (ts us vs : List ThreadSteps)
      → AllAdd f g ts us → AllAdd f' g' us vs → AllAdd (λ k. f k ++ f' k) (λ k. g k ++ g' k) ts vs
  all_both f f' g g' [] [] [] a z = tt
  all_both f f' g g' (t ∷ ts) (u ∷ us) (v ∷ vs) a z = (
    adds_both text whole byte stands t u v (f zero) (f' zero) (g zero) (g' zero) a.0 z.0,
    all_both (λ k. f (suc k)) (λ k. f' (suc k)) (λ k. g (suc k)) (λ k. g' (suc k)) ts us
        vs a.1 z.1,
  )
  all_both f f' g g' [] [] (v ∷ vs) a z = absurd z
  all_both f f' g g' [] (u ∷ us) vs a z = absurd a
  all_both f f' g g' (t ∷ ts) [] vs a z = absurd a
  all_both f f' g g' (t ∷ ts) (u ∷ us) [] a z = absurd z

  all_length : (f : ℕ → List Step) (g : ℕ → List Note) (ts us : List ThreadSteps) → AllAdd f g ts us
      → length us ≡ length ts
  all_length f g [] [] a = refl
  all_length f g (t ∷ ts) (u ∷ us) a =
      let e = all_length (λ k. f (suc k)) (λ k. g (suc k)) ts us a.1 in omega arith
  all_length f g [] (u ∷ us) a = absurd a
  all_length f g (t ∷ ts) [] a = absurd a

  -- a separator leads from the cell to where it leads from any that may end
  separated : (threads : List ThreadSteps) (c : ℕ) (h : CellExpectation) (b : List Token)
      (m : declared_mark.Mark) (after : TableState) (ts : List Token)
      → expected_step threads c h (tokens.Mark m) (byte b) ≡ Some after
      → runs b (stand threads c h) (tokens.Mark m ∷ ts) ≡ runs (b ++ tokens.Mark m ∷ []) after ts
  separated threads c h b m after ts e = ap (then_on (λ u. runs (b ++ tokens.Mark m ∷ []) u ts)) e

  -- ---- rows

  record RowRun (done todo : List ThreadSteps) (cells : List CellTree) (b ts by rest : List Token)
      : Type 0 where
    after : List ThreadSteps
    adds : AllAdd (λ k. cells_steps (nth_cell k cells)) (λ k. nth_notes k b cells) todo after
    leads : runs b (stand (done ++ todo) (length done) Begins) ts
        ≡ runs (b ++ by) (stand (done ++ after) 0 Begins) rest

  row_run : (c : CellTree) (cs : List CellTree) (done : List ThreadSteps) (t : ThreadSteps)
      (todo : List ThreadSteps) (b rest : List Token) → AreCells (c ∷ cs)
      → length todo ≡ length cs → whole ≡ b ++ spelled_cell c (spelled_cells cs rest)
      → RowRun done (t ∷ todo) (c ∷ cs) b (spelled_cell c (spelled_cells cs rest))
      (spelled_cell c (spelled_cells cs [])) rest
  row_run c [] done t [] b rest fine size all =
      let r = cell_run text whole byte stands done t [] c b (tokens.Mark marks.Semicolon ∷ rest) fine.0 all in
      let threads = done ++ r.after ∷ [] in
      let last : is_last threads (length done) ≡ true = le-leb (length threads) (length done + 1) (omega (arith, length-append done (r.after ∷ []))) in
      record {
        after = r.after ∷ [];
        adds = (
          subst (λ (ss : List Step). Grows t r.after ss (cell_notes c b))
              (sym (append-nil (cell_steps c))) r.adds,
          tt,
        );
        leads =
            r.leads
            ∙ separated threads (length done) r.expected (b ++ spelled_cell c []) marks.Semicolon
            (stand threads 0 Begins) rest
            ((separator threads (length done) (byte (b ++ spelled_cell c [])) r.expected r.ended).0
            ∙ ap (λ (x : Bool). if x then at threads 0 Begins else None) last)
            ∙ ap (λ (l : List Token). runs l (stand threads 0 Begins) rest)
            (closes b c (tokens.Mark marks.Semicolon));
      }
  row_run c (d ∷ cs) done t (u ∷ todo) b rest fine size all =
      let bar = tokens.Mark marks.Bar in
      let more = spelled_cell d (spelled_cells cs rest) in
      let r = cell_run text whole byte stands done t (u ∷ todo) c b (bar ∷ more) fine.0 all in
      let threads = done ++ r.after ∷ u ∷ todo in
      let done' = done ++ r.after ∷ [] in
      let b' = b ++ spelled_cell c (bar ∷ []) in
      let further : is_last threads (length done) ≡ false = lt-leb (length threads) (length done + 1) (omega (arith, length-append done (r.after ∷ u ∷ todo))) in
      let next : length done + 1 ≡ length done' = omega (arith, length-append done (r.after ∷ [])) in
      let split : threads ≡ done' ++ u ∷ todo = sym (append_assoc done (r.after ∷ []) (u ∷ todo)) in
      let fewer : length todo ≡ length cs = omega arith in
      let q = row_run d cs done' u todo b' rest fine.1 fewer (all ∙ sym (passes b c bar more)) in
      record {
        after = r.after ∷ q.after;
        adds = (
          subst (λ (ss : List Step). Grows t r.after ss (cell_notes c b))
              (sym (append-nil (cell_steps c))) r.adds,
          q.adds,
        );
        leads =
            r.leads
            ∙ separated threads (length done) r.expected (b ++ spelled_cell c []) marks.Bar
            (stand threads (length done + 1) Begins) more
            ((separator threads (length done) (byte (b ++ spelled_cell c [])) r.expected r.ended).1
            ∙ ap (λ (x : Bool). if x then None else at threads (length done + 1) Begins)
            further)
            ∙ ap (λ (l : List Token). runs l (stand threads (length done + 1) Begins) more)
            (closes b c bar)
            ∙ ap (λ (k : ℕ). runs b' (stand threads k Begins) more) next
            ∙ ap (λ (l : List ThreadSteps). runs b' (stand l (length done') Begins) more) split
            ∙ q.leads
            ∙ ap
            (λ (l : List ThreadSteps).
            runs (b' ++ spelled_cell d (spelled_cells cs [])) (stand l 0 Begins) rest)
            (append_assoc done (r.after ∷ []) q.after)
            ∙ ap (λ (l : List Token). runs l (stand (done ++ r.after ∷ q.after) 0 Begins) rest)
            (passes b c bar (spelled_cell d (spelled_cells cs [])));
      }
  row_run c [] done t (u ∷ todo) b rest fine size all = absurd (omega arith)
  row_run c (d ∷ cs) done t [] b rest fine size all = absurd (omega arith)

  -- what a thread has of each row
  abbrev pub rows_steps : List RowTree → ℕ → List Step
  rows_steps [] k = []
  rows_steps (r ∷ rs) k = cells_steps (nth_cell k (r.first ∷ r.others)) ++ rows_steps rs k

  pub record TableRun (threads : List ThreadSteps) (rows : List RowTree) (b : List Token)
      : Type 0 where
    pub after : List ThreadSteps
    pub adds : AllAdd (rows_steps rows) (λ k. column_notes k b rows) threads after
    pub leads : runs b (stand threads 0 Begins) (spelled_rows rows []) ≡ Some (stand after 0 Begins)

  pub table_run : (n : ℕ) (rows : List RowTree) (threads : List ThreadSteps) (b : List Token)
      → AreRowTrees n rows → length threads ≡ n + 1 → whole ≡ b ++ spelled_rows rows []
      → TableRun threads rows b
  table_run n [] threads b fine size all =
      record { after = threads; adds = all_none threads; leads = refl }
  table_run n (r ∷ rs) [] b fine size all = absurd (omega arith)
  table_run n (r ∷ rs) (t ∷ todo) b fine size all =
      let many : length todo ≡ length r.others = omega (arith, fine.2) in
      let rest = spelled_rows rs [] in
      let q = row_run r.first r.others [] t todo b rest (fine.0, fine.1) many all in
      let b' = b ++ spelled_cell r.first (spelled_cells r.others []) in
      let same : b' ++ rest ≡ b ++ spelled_cell r.first (spelled_cells r.others rest) = row-append b r rest in
      let pending_with : length q.after ≡ n + 1 = all_length (λ k. cells_steps (nth_cell k (r.first ∷ r.others))) (λ k. nth_notes k b (r.first ∷ r.others)) (t ∷ todo) q.after q.adds ∙ size in
      let z = table_run n rs q.after b' fine.3 pending_with (all ∙ sym same) in
      record {
        after = z.after;
        adds =
            all_both (λ k. cells_steps (nth_cell k (r.first ∷ r.others))) (rows_steps rs)
            (λ k. nth_notes k b (r.first ∷ r.others)) (λ k. column_notes k b' rs) (t ∷ todo)
            q.after z.after q.adds z.adds;
        leads = q.leads ∙ z.leads;
      }

  cells_steps-append : (cs ds : List CellTree)
      → cells_steps (cs ++ ds) ≡ cells_steps cs ++ cells_steps ds
  cells_steps-append [] ds = refl
  cells_steps-append (c ∷ cs) ds =
      ap (λ (l : List Step). cell_steps c ++ l) (cells_steps-append cs ds)
      ∙ sym (append_assoc (cell_steps c) (cells_steps cs) (cells_steps ds))

  pub rows_steps-column : (rs : List RowTree) (k : ℕ) → rows_steps rs k ≡ cells_steps (column k rs)
  rows_steps-column [] k = refl
  rows_steps-column (r ∷ rs) k =
      ap (λ (l : List Step). cells_steps (nth_cell k (r.first ∷ r.others)) ++ l)
      (rows_steps-column rs k)
      ∙ sym (cells_steps-append (nth_cell k (r.first ∷ r.others)) (column k rs))

  -- what a thread has that had nothing
  pub fresh_steps : (u : ThreadSteps) (ss : List Step) (ns : List Note) → Grows fresh u ss ns
      → (u.steps ≡ ss) × IsNoted text ns u
  fresh_steps u ss ns a = (
    a.steps_are,
    record {
      each = ap length a.steps_are ∙ a.many ∙ ap length (sym a.offsets_are);
      marked =
          subst (λ (l : List Step). AreMarks text ns (marks_of l u.offsets)) (sym a.steps_are)
          (subst (λ (l : List ℕ). AreMarks text ns (marks_of ss l)) (sym a.offsets_are) a.marked);
    },
  )

  abbrev pub freshes : ℕ → List ThreadSteps
  freshes zero = []
  freshes (suc n) = fresh ∷ freshes n

  pub gathered : (n k : ℕ) (rs : List RowTree) (b : List Token) (f : ℕ → List Step)
      (g : ℕ → List Note) (us : List ThreadSteps)
      → ((j : ℕ) → f j ≡ cells_steps (column (k + j) rs))
      → ((j : ℕ) → g j ≡ column_notes (k + j) b rs) → AllAdd f g (freshes n) us
      → (steps_of us ≡ columns_meaning k n rs) × AreNoted text (columns_notes k n b rs) us
  gathered zero k rs b f g [] ef eg a = (refl, tt)
  gathered (suc n) k rs b f g (u ∷ us) ef eg a =
      let here : k + 0 ≡ k = omega arith in
      let h = fresh_steps u (f zero) (g zero) a.0 in
      let next : (j : ℕ) → k + suc j ≡ (k + 1) + j = λ j. omega arith in
      let r = gathered n (k + 1) rs b (λ j. f (suc j)) (λ j. g (suc j)) us (λ j. ef (suc j) ∙ ap (λ (i : ℕ). cells_steps (column i rs)) (next j)) (λ j. eg (suc j) ∙ ap (λ (i : ℕ). column_notes i b rs) (next j)) a.1 in
      let first : u.steps ≡ cells_steps (column k rs) = h.0 ∙ ef zero ∙ ap (λ (i : ℕ). cells_steps (column i rs)) here in
      let notes : g zero ≡ column_notes k b rs = eg zero ∙ ap (λ (i : ℕ). column_notes i b rs) here in (
        ap (λ (l : List Step). l ∷ steps_of us) first
            ∙ ap (λ (l : List (List Step)). cells_steps (column k rs) ∷ l) r.0,
        (subst (λ (ns : List Note). IsNoted text ns u) notes h.1, r.1),
      )
  gathered zero k rs b f g (u ∷ us) ef eg a = absurd a
  gathered (suc n) k rs b f g [] ef eg a = absurd a

  -- ---- the text of a thread alone

  pub record ThreadRun (t : ThreadSteps) (cells : List CellTree) (b ts : List Token) : Type 0 where
    pub after : ThreadSteps
    pub expected : CellExpectation
    pub ended : can_end expected ≡ true
    pub adds : Grows t after (cells_steps cells) (thread_notes b cells)
    pub leads : runs b (stand (t ∷ []) 0 Begins) ts ≡ Some (stand (after ∷ []) 0 expected)

  pub thread_run : (c : CellTree) (cs : List CellTree) (t : ThreadSteps) (b : List Token)
      → AreCells (c ∷ cs) → whole ≡ b ++ spelled_cell c (spelled_steps cs [])
      → ThreadRun t (c ∷ cs) b (spelled_cell c (spelled_steps cs []))
  thread_run c [] t b fine all =
      let r = cell_run text whole byte stands [] t [] c b [] fine.0 all in
      record {
        after = r.after;
        expected = r.expected;
        ended = r.ended;
        adds =
            adds_both text whole byte stands t r.after r.after (cell_steps c) [] (cell_notes c b) []
            r.adds (adds_none text whole byte stands r.after);
        leads = r.leads;
      }
  thread_run c (d ∷ cs) t b fine all =
      let semicolon = tokens.Mark marks.Semicolon in
      let more = spelled_cell d (spelled_steps cs []) in
      let r = cell_run text whole byte stands [] t [] c b (semicolon ∷ more) fine.0 all in
      let b' = b ++ spelled_cell c (semicolon ∷ []) in
      let q = thread_run d cs r.after b' fine.1 (all ∙ sym (passes b c semicolon more)) in
      record {
        after = q.after;
        expected = q.expected;
        ended = q.ended;
        adds =
            adds_both text whole byte stands t r.after q.after (cell_steps c) (cells_steps (d ∷ cs))
            (cell_notes c b) (thread_notes b' (d ∷ cs)) r.adds q.adds;
        leads =
            r.leads
            ∙ separated (r.after ∷ []) 0 r.expected (b ++ spelled_cell c []) marks.Semicolon
            (stand (r.after ∷ []) 0 Begins) more ((separator (r.after ∷ []) 0
            (byte (b ++ spelled_cell c [])) r.expected r.ended).0)
            ∙ ap (λ (l : List Token). runs l (stand (r.after ∷ []) 0 Begins) more)
            (closes b c semicolon)
            ∙ q.leads;
      }

  -- ---- tokens with their bytes

  abbrev pub Bytes : List Token → List texts.TokenAt → Type 0
  Bytes b [] = Unit {0}
  Bytes b (p ∷ ps) = (byte b ≡ p.offset) × Bytes (b ++ p.token ∷ []) ps

  pub run_is : (ps : List texts.TokenAt) (b : List Token) (s : TableState) → Bytes b ps
      → run_table s ps ≡ runs b s (test_tokens_of ps)
  run_is [] b s h = refl
  run_is (p ∷ ps) b s h =
      ap (λ (k : ℕ). then_on (λ u. run_table u ps) (table_step s p.token k)) (sym h.0)
      ∙ by_step (table_step s p.token (byte b)) (λ u. run_is ps (b ++ p.token ∷ []) u h.1)
    where
      by_step : (o : Option TableState)
          → ((u : TableState) → run_table u ps ≡ runs (b ++ p.token ∷ []) u (test_tokens_of ps))
          → then_on (λ u. run_table u ps) o ≡ then_on (λ u. runs (b ++ p.token ∷ []) u (test_tokens_of ps)) o
      by_step None later = refl
      by_step (Some u) later = later u

-- the byte of the token behind these
abbrev pub byte_at : List texts.TokenAt → List Token → ℕ
byte_at [] b = 0
byte_at (p ∷ ps) [] = p.offset
byte_at (p ∷ ps) (t ∷ b) = byte_at ps b

pub tokens-append : (ps qs : List texts.TokenAt)
    → test_tokens_of (ps ++ qs) ≡ test_tokens_of ps ++ test_tokens_of qs
tokens-append [] qs = refl
tokens-append (p ∷ ps) qs = ap (λ (l : List Token). p.token ∷ l) (tokens-append ps qs)

pub stands_at : (ps rs : List texts.TokenAt) (b : List Token) (t : Token) (ts : List Token)
    → test_tokens_of ps ≡ b ++ (t ∷ ts) → StandsAt (ps ++ rs) b (byte_at (ps ++ rs) b)
stands_at [] rs [] t ts e = absurd cc
stands_at [] rs (u ∷ b) t ts e = absurd cc
stands_at (p ∷ ps) rs [] t ts e =
    record { before = []; here = p; behind = ps ++ rs; split = refl; same = refl; at_place = refl }
stands_at (p ∷ ps) rs (u ∷ b) t ts e =
    let first : p.token ≡ u = cc in
    let others : test_tokens_of ps ≡ b ++ (t ∷ ts) = cc in
    let r = stands_at ps rs b t ts others in
    record {
      before = p ∷ r.before;
      here = r.here;
      behind = r.behind;
      split = ap (λ (l : List texts.TokenAt). p ∷ l) r.split;
      same =
          ap (λ (x : Token). x ∷ test_tokens_of r.before) first ∙ ap (λ (l : List Token). u ∷ l) r.same;
      at_place = r.at_place;
    }

pub byte_there : (qs : List texts.TokenAt) (p : texts.TokenAt) (zs : List texts.TokenAt)
    → byte_at (qs ++ p ∷ zs) (test_tokens_of qs) ≡ p.offset
byte_there [] p zs = refl
byte_there (q ∷ qs) p zs = byte_there qs p zs
