-- The laws of tables and of threads alone.
use Rattle.std.proofs.Common.{◌≡◌, ℕ, zero, suc, ◌+◌, List, [], ◌∷◌, ◌++◌, length, Option, Some, None, refl, sym, ap, ◌∙◌, subst, append_assoc, arith}
use Rattle.std.proofs.Math.Numerals.{add-one}
use Rattle.litmus_tokens.specs.declared.token.Token.{Token}
use Rattle.litmus_tokens.specs.Texts as texts
use Rattle.litmus_tokens.specs.Texts.{test_tokens_of, StandsAt}
use Rattle.litmus_tokens.specs.Faults.{Begins}
use Rattle.text_values.specs.declared.test.Step.{Step}
use Rattle.litmus_table.specs.Grammar.{spelled_rows, spelled_thread, columns_meaning, cells_steps, column}
use Rattle.litmus_table.specs.Late.{column_notes, columns_notes}
use Rattle.litmus_words.specs.Machine.{ThreadSteps, fresh, TableState, widened, table_step}
use Rattle.litmus_words.specs.Machine as machine
use Rattle.litmus_table.specs.Laws.{IsTable, IsThread, then_on, run_table, columns, TakesAll, TakesRows, TakesCells, AreNoted}
use Rattle.litmus_table.proofs.Cells.{stand}
use Rattle.litmus_table.proofs.Complete.{runs, freshes, rows_steps, rows_steps-column, gathered, fresh_steps, table_run, thread_run, Bytes, run_is, byte_at, tokens-append, stands_at, byte_there}
use Rattle.litmus_table.proofs.Finishes.{table_finishes, thread_finishes}
use Rattle.litmus_table.proofs.Sound.{table_sound, thread_sound}

bytes : (text : List texts.TokenAt) (whole : List Token)
    (stands : (b : List Token) (t : Token) (ts : List Token) → whole ≡ b ++ (t ∷ ts)
    → StandsAt text b (byte_at text b))
    (qs ps rs : List texts.TokenAt)
    → text ≡ qs ++ (ps ++ rs) → Bytes text whole (byte_at text) stands (test_tokens_of qs) ps
bytes text whole stands qs [] rs e = tt
bytes text whole stands qs (p ∷ ps) rs e = (
  ap (λ (l : List texts.TokenAt). byte_at l (test_tokens_of qs)) e ∙ byte_there qs p (ps ++ rs),
  subst (λ (l : List Token). Bytes text whole (byte_at text) stands l ps)
      (tokens-append qs (p ∷ [])) (bytes text whole stands (qs ++ p ∷ []) ps rs
      (e ∙ sym (append_assoc qs (p ∷ []) (ps ++ rs)))),
)

module _ (qs ps rs : List texts.TokenAt) where
  abbrev text : List texts.TokenAt
  text = qs ++ ps ++ rs

  abbrev whole : List Token
  whole = test_tokens_of (qs ++ ps)

  abbrev byte : List Token → ℕ
  byte b = byte_at text b

  abbrev stands : (b : List Token) (t : Token) (ts : List Token) → whole ≡ b ++ (t ∷ ts)
      → StandsAt text b (byte b)
  stands = stands_at (qs ++ ps) rs

  freshes_more : (n : ℕ)
      → freshes text whole byte stands n ++ fresh ∷ [] ≡ fresh ∷ freshes text whole byte stands n
  freshes_more zero = refl
  freshes_more (suc n) = ap (λ (l : List ThreadSteps). fresh ∷ l) (freshes_more n)

  columns_are : (n : ℕ)
      → columns n ≡ stand (freshes text whole byte stands (suc n)) 0 machine.Begins
  columns_are zero = refl
  columns_are (suc n) =
      ap widened (columns_are n)
      ∙ ap (λ (l : List ThreadSteps). stand (fresh ∷ l) 0 machine.Begins) (freshes_more n)

  length-freshes : (n : ℕ) → length (freshes text whole byte stands n) ≡ n
  length-freshes zero = refl
  length-freshes (suc n) = let e = length-freshes n in omega arith

  run_text : (s : TableState) (ts : List Token) → test_tokens_of ps ≡ ts
      → run_table s ps ≡ runs text whole byte stands (test_tokens_of qs) s ts
  run_text s ts e =
      run_is text whole byte stands ps (test_tokens_of qs) s
      (bytes text whole stands qs ps rs (append_assoc qs ps rs))
      ∙ ap (λ (l : List Token). runs text whole byte stands (test_tokens_of qs) s l) e

  pub table_complete : (n : ℕ) (t : IsTable n (test_tokens_of ps)) → TakesRows n qs ps rs t.rows
  table_complete n t =
      let b = test_tokens_of qs in
      let threads = freshes text whole byte stands (suc n) in
      let many : length threads ≡ n + 1 = length-freshes (suc n) ∙ sym (add-one n) in
      let r = table_run text whole byte stands n t.rows threads b t.fine many (tokens-append qs ps ∙ ap (λ (l : List Token). b ++ l) t.whole) in
      let from_zero : (j : ℕ) → j ≡ 0 + j = λ j. omega arith in
      let g =
      gathered text whole byte stands (suc n) 0 t.rows b (rows_steps text whole byte stands t.rows)
      (λ k. column_notes k b t.rows) r.after
      (λ j. rows_steps-column text whole byte stands t.rows j
      ∙ ap (λ (k : ℕ). cells_steps (column k t.rows)) (from_zero j))
      (λ j. ap (λ (k : ℕ). column_notes k b t.rows) (from_zero j)) r.adds in
      let more : suc n ≡ n + 1 = sym (add-one n) in
      record {
        after = stand r.after 0 machine.Begins;
        by =
            ap (λ (s : TableState). run_table s ps) (columns_are n)
            ∙ run_text (stand threads 0 machine.Begins) (spelled_rows t.rows []) t.whole ∙ r.leads;
        ended = refl;
        meant = g.0 ∙ ap (λ (k : ℕ). columns_meaning 0 k t.rows) more;
        noted = subst (λ (k : ℕ). AreNoted text (columns_notes 0 k b t.rows) r.after) more g.1;
      }

  pub thread_complete : (t : IsThread (test_tokens_of ps)) → TakesCells qs ps rs t.tree
  thread_complete t =
      let b = test_tokens_of qs in
      let r = thread_run text whole byte stands t.tree.first t.tree.others fresh b t.fine (tokens-append qs ps ∙ ap (λ (l : List Token). b ++ l) t.whole) in
      let h = fresh_steps text whole byte stands r.after _ _ r.adds in
      record {
        after = stand (r.after ∷ []) 0 r.expected;
        by = run_text (columns 0) (spelled_thread t.tree []) t.whole ∙ r.leads;
        ended = r.ended;
        meant = ap (λ (l : List Step). l ∷ []) h.0;
        noted = (h.1, tt);
      }

-- ---- beginnings

run-append : (ps qs : List texts.TokenAt) (s : TableState)
    → run_table s (ps ++ qs) ≡ then_on (λ u. run_table u qs) (run_table s ps)
run-append [] qs s = refl
run-append (p ∷ ps) qs s = by_step (table_step s p.token p.offset) (run-append ps qs)
  where
    by_step : (o : Option TableState)
        → ((u : TableState) → run_table u (ps ++ qs) ≡ then_on (λ v. run_table v qs) (run_table u ps))
        → then_on (λ u. run_table u (ps ++ qs)) o ≡ then_on (λ u. run_table u qs) (then_on (λ u. run_table u ps) o)
    by_step None later = refl
    by_step (Some u) later = later u

taken_first : (s f : TableState) (ps qs : List texts.TokenAt) → run_table s (ps ++ qs) ≡ Some f → TakesAll s ps
taken_first s f ps qs e = choose (run_table s ps) refl (sym (run-append ps qs s) ∙ e)
  where
    choose : (o : Option TableState) → run_table s ps ≡ o → then_on (λ u. run_table u qs) o ≡ Some f → TakesAll s ps
    choose None k m = absurd cc
    choose (Some u) k m = record { after = u; by = k }

taken_on : (s u f : TableState) (ps qs : List texts.TokenAt) → run_table s ps ≡ Some u → run_table u qs ≡ Some f
    → run_table s (ps ++ qs) ≡ Some f
taken_on s u f ps qs e m = run-append ps qs s ∙ ap (then_on (λ v. run_table v qs)) e ∙ m

abbrev unplaced : List Token → List texts.TokenAt
unplaced [] = []
unplaced (t ∷ ts) = record { token = t; offset = 0 } ∷ unplaced ts

tokens-unplaced : (ts : List Token) → test_tokens_of (unplaced ts) ≡ ts
tokens-unplaced [] = refl
tokens-unplaced (t ∷ ts) = ap (λ (l : List Token). t ∷ l) (tokens-unplaced ts)

tokens-behind : (ps : List texts.TokenAt) (ts : List Token)
    → test_tokens_of (ps ++ unplaced ts) ≡ test_tokens_of ps ++ ts
tokens-behind ps ts =
    tokens-append ps (unplaced ts) ∙ ap (λ (l : List Token). test_tokens_of ps ++ l) (tokens-unplaced ts)

pub table_begins : (n : ℕ) (ps : List texts.TokenAt) → TakesAll (columns n) ps
    → Begins (IsTable n) (test_tokens_of ps)
table_begins n ps t =
    let f = table_finishes n ps t.after t.by in
    record { rest = test_tokens_of f.rest; text = subst (IsTable n) (tokens-append ps f.rest) (table_sound n (ps ++ f.rest) f.after (taken_on (columns n) t.after f.after ps f.rest t.by f.by) f.ended) }

pub table_taken : (n : ℕ) (ps : List texts.TokenAt) → Begins (IsTable n) (test_tokens_of ps)
    → TakesAll (columns n) ps
table_taken n ps b =
    let r = table_complete [] (ps ++ unplaced b.rest) [] n (subst (IsTable n) (sym (tokens-behind ps b.rest)) b.text) in
    taken_first (columns n) r.after ps (unplaced b.rest) r.by

pub thread_begins : (ps : List texts.TokenAt) → TakesAll (columns 0) ps
    → Begins IsThread (test_tokens_of ps)
thread_begins ps t =
    let f = thread_finishes ps t.after t.by in
    record { rest = test_tokens_of f.rest; text = subst IsThread (tokens-append ps f.rest) (thread_sound (ps ++ f.rest) f.after (taken_on (columns 0) t.after f.after ps f.rest t.by f.by) f.ended) }

pub thread_taken : (ps : List texts.TokenAt) → Begins IsThread (test_tokens_of ps) → TakesAll (columns 0) ps
thread_taken ps b =
    let r = thread_complete [] (ps ++ unplaced b.rest) [] (subst IsThread (sym (tokens-behind ps b.rest)) b.text) in
    taken_first (columns 0) r.after ps (unplaced b.rest) r.by
