-- The table of a test, with its header, and what stands behind it.
use Rattle.std.proofs.Common.{◌≡◌, ℕ, zero, suc, ◌+◌, ◌<◌, ◌⊎◌, inl, inr, Bool, true, false, List, [], ◌∷◌, ◌++◌, map, length, append_assoc, Option, Some, None, Ok, refl, sym, ap, ◌∙◌, subst, arith}
use Rattle.std.specs.Prelude.{◌&&◌, if◌then◌else◌}
use Rattle.std.proofs.Math.Numerals.{add-one}
use Rattle.std.proofs.lemmas.Slice.Eq.{bytes_eq-Decides}
use Rattle.std.proofs.lemmas.Bool.{and_parts}
use Rattle.std.proofs.lemmas.Option.{none-some, same_Some}
use Rattle.litmus_tokens.specs.declared.stage.Stage.{Stage}
use Rattle.litmus_tokens.specs.declared.token.Token.{Token}
use Rattle.litmus_tokens.specs.declared.token.Token.TheVariants as tokens
use Rattle.litmus_tokens.specs.declared.token.Mark.TheVariants as marks
use Rattle.litmus_tokens.specs.Stage.{next_stage}
use Rattle.litmus_tokens.specs.Texts.{TokenAt, test_tokens_of, stage_after, begins_tail}
use Rattle.litmus_tokens.specs.Words.{column_name, names_column}
use Rattle.litmus_tokens.specs.Faults.{Begins}
use Rattle.text_values.specs.declared.test.Step.{Step}
use Rattle.litmus_tokens.specs.Conditions.{condition_limits, place_meaning, tree_formula, IsFormulaTree}
use Rattle.litmus_table.specs.Grammar.{RowTree, spelled_rows, spelled_names, AreRowTrees, columns_meaning}
use Rattle.litmus_table.specs.Late.{columns_notes}
use Rattle.litmus_words.specs.Machine as table
use Rattle.litmus_table.specs.Laws as laws
use Rattle.litmus_table.specs.Laws.{IsTable, columns, then_on, steps_of, AreNoted}
use Rattle.litmus_table.proofs.Rules.{apart}
use Rattle.litmus_table.proofs.Sound.{table_sound, columns-length}
use Rattle.litmus_table.proofs.Tables.{table_complete, table_begins}
use Rattle.litmus_grammar.specs.Grammar.{members, ArePlaceTrees}
use Rattle.litmus_grammar.specs.InitMachine as init
use Rattle.litmus_grammar.specs.TextMachine as text
use Rattle.litmus_grammar.specs.TextMachine.{Draft, Next, TextState, TextResult, with_offset, and_then, stepped, run_parts}
use Rattle.litmus_grammar.proofs.Equations.{no_first, same_first, same_others}
use Rattle.litmus_grammar.proofs.Outcomes.{not_both}
use Rattle.litmus_grammar.proofs.Passing.{test_at}
use Rattle.litmus_grammar.proofs.Runs.{tokens_of-append, run-append, same_state}
use Rattle.litmus_grammar.proofs.Spelled.{rows-append}
use Rattle.litmus_grammar.proofs.Splits.{split}
use Rattle.litmus_grammar.proofs.Tails.{early, with_all, IsTail, any_tail, tail_begins, tail_led}

-- the rows of a table of so many columns beside the first, and what stands behind them
pub record IsRows (others : ℕ) (ts : List Token) : Type 0 where
  pub few : others + 1 < 18446744073709551616
  pub rows : List RowTree
  pub fine : AreRowTrees others rows
  pub behind : List Token
  pub tail : IsTail (others + 1) behind
  pub whole : ts ≡ spelled_rows rows behind

pub length-meaning : (k n : ℕ) (rs : List RowTree) → length (columns_meaning k n rs) ≡ n
length-meaning k zero rs = refl
length-meaning k (suc n) rs = let e = length-meaning (k + 1) n rs in omega arith

pub length-steps : (ts : List table.ThreadSteps) → length (steps_of ts) ≡ length ts
length-steps [] = refl
length-steps (t ∷ ts) = let e = length-steps ts in omega arith

abbrev ran_to : table.TableState → Option table.TableState
ran_to u = Some u

same_table : (a b : table.TableState) → ran_to a ≡ ran_to b → a ≡ b
same_table a b e = cc

-- a table keeps its columns
kept : (n : ℕ) (ps : List TokenAt) (v : table.TableState) → laws.run_table (columns n) ps ≡ Some v
    → table.is_row_start v ≡ true → length v.threads ≡ n + 1
kept n ps v e row =
    let r = table_complete [] ps [] n (table_sound n ps v e row) in
    let same = same_table r.after v (sym r.by ∙ e) in
    ap (λ (u : table.TableState). length u.threads) (sym same) ∙ sym (length-steps r.after.threads)
    ∙ ap (λ (l : List (List Step)). length l) r.meant
    ∙ length-meaning 0 (n + 1) (table_sound n ps v e row).rows

-- ---- the header

-- behind some names, and the one that was read last
pub record IsNames (k : ℕ) (ts : List Token) : Type 0 where
  pub more : ℕ
  pub behind : List Token
  pub rows : IsRows (k + more) behind
  pub whole : ts ≡ spelled_names (k + 1) more behind

-- before another name
pub record IsName (k : ℕ) (ts : List Token) : Type 0 where
  pub more : ℕ
  pub behind : List Token
  pub rows : IsRows (k + more) behind
  pub whole : ts ≡ tokens.Word (column_name k) ∷ spelled_names (k + 1) more behind

last_name : (k : ℕ) (ts : List Token) → IsRows k ts → IsNames k (tokens.Mark marks.Semicolon ∷ ts)
last_name k ts x =
    let z : k ≡ k + 0 = omega arith in
    record { more = 0; behind = ts; rows = subst (λ (n : ℕ). IsRows n ts) z x; whole = refl }

next_name : (k : ℕ) (ts : List Token) → IsName (suc k) ts → IsNames k (tokens.Mark marks.Bar ∷ ts)
next_name k ts x =
    let z : suc k + x.more ≡ k + suc x.more = omega arith in
    record {
      more = suc x.more;
      behind = x.behind;
      rows = subst (λ (n : ℕ). IsRows n x.behind) z x.rows;
      whole =
          ap (λ (l : List Token). tokens.Mark marks.Bar ∷ l) (x.whole
          ∙ ap (λ (j : ℕ). tokens.Word (column_name j) ∷ spelled_names (j + 1) x.more x.behind)
          (sym (add-one k)));
    }

one_name : (k : ℕ) (ts : List Token) → IsNames k ts → IsName k (tokens.Word (column_name k) ∷ ts)
one_name k ts x =
    record {
      more = x.more;
      behind = x.behind;
      rows = x.rows;
      whole = ap (λ (l : List Token). tokens.Word (column_name k) ∷ l) x.whole;
    }

abbrev pub IsHeader : Bool → ℕ → List Token → Type 0
IsHeader false k ts = IsName k ts
IsHeader true k ts = IsNames k ts

-- ---- the rows

module _ (name : List ℕ) (block : init.Block) where
  abbrev pub draft_at : table.TableState → Draft
  draft_at u = early name block u []

  abbrev pub rows_at : Stage → table.TableState → TextState
  rows_at g u = test_at g text.Rows (draft_at u)

  abbrev row_step : Stage → table.TableState → TokenAt → List TokenAt → Option Next → TextResult
  row_step g u p ps o =
      and_then (with_offset p.offset (stepped (rows_at g u) p.token o)) (λ x. run_parts x ps)

  -- the test is still within the table
  record Within (g : Stage) (u : table.TableState) (ps : List TokenAt) (s : TextState) : Type 0 where
    reached : table.TableState
    by : laws.run_table u ps ≡ Some reached
    same : s ≡ rows_at (stage_after g (test_tokens_of ps)) reached

  -- the table has ended before some token
  record Behind (g : Stage) (u : table.TableState) (ps : List TokenAt) (s : TextState) : Type 0 where
    before : List TokenAt
    token : TokenAt
    behind : List TokenAt
    reached : table.TableState
    whole : ps ≡ before ++ token ∷ behind
    by : laws.run_table u before ≡ Some reached
    row : table.is_row_start reached ≡ true
    on : row_step (stage_after g (test_tokens_of before)) reached token behind
        (text.next_at (draft_at reached) (text.tail_start token.token)) ≡ Ok s

  within_on : (g : Stage) (u v : table.TableState) (p : TokenAt) (ps : List TokenAt) (s : TextState)
      → table.table_step u p.token p.offset ≡ Some v
      → Within (next_stage g p.token) v ps s ⊎ Behind (next_stage g p.token) v ps s
      → Within g u (p ∷ ps) s ⊎ Behind g u (p ∷ ps) s
  within_on g u v p ps s e (inl r) =
      inl (record {
        reached = r.reached;
        by = ap (then_on (λ x. laws.run_table x ps)) e ∙ r.by;
        same = r.same;
      })
  within_on g u v p ps s e (inr r) =
      inr (record {
        before = p ∷ r.before;
        token = r.token;
        behind = r.behind;
        reached = r.reached;
        whole = ap (λ (l : List TokenAt). p ∷ l) r.whole;
        by = ap (then_on (λ x. laws.run_table x r.before)) e ∙ r.by;
        row = r.row;
        on = r.on;
      })

  rows_pass : (ps : List TokenAt) (u : table.TableState) (g : Stage) (s : TextState)
      → run_parts (rows_at g u) ps ≡ Ok s → Within g u ps s ⊎ Behind g u ps s
  rows_pass [] u g s e =
      let same : rows_at g u ≡ s = same_state _ _ e in
      inl (record { reached = u; by = refl; same = sym same })
  rows_pass (p ∷ ps) u g s e =
      by_tail (table.is_row_start u && begins_tail p.token) refl e
      (λ v k. rows_pass ps v (next_stage g p.token) s k)
    where
      by_step : (o : Option table.TableState) → table.table_step u p.token p.offset ≡ o
          → row_step g u p ps (text.table_result (draft_at u) text.Rows o) ≡ Ok s
          → ((v : table.TableState) → run_parts (rows_at (next_stage g p.token) v) ps ≡ Ok s
          → Within (next_stage g p.token) v ps s ⊎ Behind (next_stage g p.token) v ps s)
          → Within g u (p ∷ ps) s ⊎ Behind g u (p ∷ ps) s
      by_step None c k later = absurd (not_both _ _ k)
      by_step (Some v) c k later = within_on g u v p ps s c (later v k)

      by_tail : (b : Bool) → (table.is_row_start u && begins_tail p.token) ≡ b
          → row_step g u p ps (if b then text.next_at (draft_at u) (text.tail_start p.token)
          else text.table_result (draft_at u) text.Rows (table.table_step u p.token p.offset))
          ≡ Ok s
          → ((v : table.TableState) → run_parts (rows_at (next_stage g p.token) v) ps ≡ Ok s
          → Within (next_stage g p.token) v ps s ⊎ Behind (next_stage g p.token) v ps s)
          → Within g u (p ∷ ps) s ⊎ Behind g u (p ∷ ps) s
      by_tail true c k later =
          inr (record {
            before = [];
            token = p;
            behind = ps;
            reached = u;
            whole = refl;
            by = refl;
            row = (and_parts (table.is_row_start u) (begins_tail p.token) c).0;
            on = k;
          })
      by_tail false c k later = by_step (table.table_step u p.token p.offset) refl k later

  -- a token that the table takes ends no table
  row_goes : (u v : table.TableState) (t : Token) (offset : ℕ) → table.table_step u t offset ≡ Some v
      → text.row_read (draft_at u) t offset ≡ Some (record { part = text.Rows; draft = draft_at v })
  row_goes u v t offset e = choose (table.is_row_start u && begins_tail t) refl
    where
      choose : (b : Bool) → (table.is_row_start u && begins_tail t) ≡ b
          → (if b then text.next_at (draft_at u) (text.tail_start t)
          else text.table_result (draft_at u) text.Rows (table.table_step u t offset))
          ≡ Some (record { part = text.Rows; draft = draft_at v })
      choose true c =
          let b = and_parts (table.is_row_start u) (begins_tail t) c in
          let none = apart u t offset b.0 b.1 in
          absurd (none-some v (sym none ∙ e))
      choose false c = ap (text.table_result (draft_at u) text.Rows) e

  rows_run : (ps : List TokenAt) (u v : table.TableState) (g : Stage) → laws.run_table u ps ≡ Some v
      → run_parts (rows_at g u) ps ≡ Ok (rows_at (stage_after g (test_tokens_of ps)) v)
  rows_run [] u v g e =
      let same : u ≡ v = same_Some u v e in
      ap (λ (x : table.TableState). Ok (rows_at g x)) same
  rows_run (p ∷ ps) u v g e =
      by_step (table.table_step u p.token p.offset) refl e (λ w k. rows_run ps w v (next_stage g p.token) k)
    where
      by_step : (o : Option table.TableState) → table.table_step u p.token p.offset ≡ o
          → then_on (λ x. laws.run_table x ps) o ≡ Some v
          → ((w : table.TableState) → laws.run_table w ps ≡ Some v
          → run_parts (rows_at (next_stage g p.token) w) ps
          ≡ Ok (rows_at (stage_after (next_stage g p.token) (test_tokens_of ps)) v))
          → run_parts (rows_at g u) (p ∷ ps) ≡ Ok (rows_at (stage_after g (test_tokens_of (p ∷ ps))) v)
      by_step None c k later = absurd (none-some v k)
      by_step (Some w) c k later =
          ap (row_step g u p ps) (row_goes u w p.token p.offset c) ∙ later w k

  -- ---- what is taken begins some rows

  any_of : (n : ℕ) → n + 1 < 18446744073709551616 → Begins (IsTail (n + 1)) []
  any_of n few =
      let e = columns-length n in
      subst (λ (k : ℕ). Begins (IsTail k) []) e (any_tail name block (columns n)
      (subst (λ (k : ℕ). k < 18446744073709551616) (sym e) few))

  any_rows : (n : ℕ) → n + 1 < 18446744073709551616 → Begins (IsRows n) []
  any_rows n few =
      let a = any_of n few in
      record { rest = a.rest; text = record { few = few; rows = []; fine = tt; behind = a.rest; tail = a.text; whole = refl } }

  rows_with : (n : ℕ) → n + 1 < 18446744073709551616 → (ts us : List Token) → IsTable n ts
      → IsTail (n + 1) us → IsRows n (ts ++ us)
  rows_with n few ts us x t =
      record {
        few = few;
        rows = x.rows;
        fine = x.fine;
        behind = us;
        tail = t;
        whole = ap (λ (l : List Token). l ++ us) x.whole ∙ rows-append x.rows [] us;
      }

  rows_begin : (n : ℕ) → n + 1 < 18446744073709551616 → (ps : List TokenAt) (g : Stage) (s : TextState)
      → run_parts (rows_at g (columns n)) ps ≡ Ok s → Begins (IsRows n) (test_tokens_of ps)
  rows_begin n few ps g s e = by_pass (rows_pass ps (columns n) g s e)
    where
      by_pass : Within g (columns n) ps s ⊎ Behind g (columns n) ps s
          → Begins (IsRows n) (test_tokens_of ps)
      by_pass (inl r) =
          let b = table_begins n ps (record { after = r.reached; by = r.by }) in
          let a = any_of n few in
          record { rest = b.rest ++ a.rest; text = subst (IsRows n) (append_assoc (test_tokens_of ps) b.rest a.rest) (rows_with n few (test_tokens_of ps ++ b.rest) a.rest b.text a.text) }
      by_pass (inr r) =
          let k = kept n r.before r.reached r.by r.row in
          let b = tail_begins name block r.reached (subst (λ (m : ℕ). m < 18446744073709551616) (sym k) few) r.token r.behind (stage_after g (test_tokens_of r.before)) s r.on in
          let x = table_sound n r.before r.reached r.by r.row in
          let us = test_tokens_of (r.token ∷ r.behind) in
          let same : test_tokens_of ps ≡ test_tokens_of r.before ++ us = ap test_tokens_of r.whole ∙ tokens_of-append r.before (r.token ∷ r.behind) in
          record {
            rest = b.rest;
            text =
                subst (IsRows n)
                (sym (append_assoc (test_tokens_of r.before) us b.rest)
                ∙ ap (λ (l : List Token). l ++ b.rest) (sym same))
                (rows_with n few (test_tokens_of r.before) (us ++ b.rest) x
                (subst (λ (m : ℕ). IsTail m (us ++ b.rest)) k b.text));
          }

  -- ---- all rows are taken

  -- behind some tokens
  pub record TakesBody (n : ℕ) (pre ps : List TokenAt) (x : IsRows n (test_tokens_of ps)) (g : Stage)
      : Type 0 where
    pub stage : Stage
    pub reached : table.TableState
    pub by : run_parts (rows_at g (columns n)) ps
        ≡ Ok (test_at stage text.Done (with_all name block reached
        (map place_meaning (members x.tail.observed)) x.tail.quantifier
        (tree_formula x.tail.condition)))
    pub meant : steps_of reached.threads ≡ columns_meaning 0 (n + 1) x.rows
    pub noted : AreNoted (pre ++ ps) (columns_notes 0 (n + 1) (test_tokens_of pre) x.rows)
        reached.threads

  pub rows_led : (n : ℕ) → n + 1 < 18446744073709551616
      → (pre ps : List TokenAt) (x : IsRows n (test_tokens_of ps)) (g : Stage) → TakesBody n pre ps x g
  rows_led n few pre ps x g =
      let cut = split ps (spelled_rows x.rows []) x.behind (x.whole ∙ sym (rows-append x.rows [] x.behind)) in
      let r = table_complete pre cut.before cut.behind n (record { rows = x.rows; fine = x.fine; whole = cut.are_before }) in
      let k = kept n cut.before r.after r.by r.ended in
      let few_there = subst (λ (m : ℕ). m < 18446744073709551616) (sym k) few in
      let g' = stage_after g (test_tokens_of cut.before) in
      let o = x.tail.observed in
      let l = tail_led name block r.after few_there r.ended cut.behind g' o x.tail.quantifier x.tail.condition
      (subst (λ (m : ℕ). ArePlaceTrees m (members o)) (sym k) x.tail.are_items)
      (subst (λ (m : ℕ). IsFormulaTree condition_limits m x.tail.condition) (sym k) x.tail.fine)
      (cut.are_behind ∙ x.tail.whole) in
      record {
        stage = l.stage;
        reached = r.after;
        by =
            ap (run_parts (rows_at g (columns n))) cut.whole
            ∙ run-append (rows_at g (columns n)) (rows_at g' r.after) cut.before cut.behind
            (rows_run cut.before (columns n) r.after g r.by) ∙ l.by;
        meant = r.meant;
        noted =
            subst
            (λ (l : List TokenAt). AreNoted (pre ++ l)
            (columns_notes 0 (n + 1) (test_tokens_of pre) x.rows) r.after.threads)
            (sym cut.whole)
            (subst
            (λ (l : List TokenAt).
            AreNoted l (columns_notes 0 (n + 1) (test_tokens_of pre) x.rows) r.after.threads)
            (append_assoc pre cut.before cut.behind) r.noted);
      }

  -- ---- the header

  abbrev pub names : ℕ → table.TableState
  names zero = table.table_start
  names (suc k) = table.widened (names k)

  names_are : (n : ℕ) → columns n ≡ names (suc n)
  names_are zero = refl
  names_are (suc n) = ap table.widened (names_are n)

  length-names : (k : ℕ) → length (names k).threads ≡ k
  length-names zero = refl
  length-names (suc n) =
      ap (λ (u : table.TableState). length u.threads) (sym (names_are n)) ∙ columns-length n ∙ add-one n

  abbrev pub header_at : Bool → Stage → ℕ → TextState
  header_at false g k = test_at g text.WantsColumn (draft_at (names k))
  header_at true g k = test_at g text.HasColumn (draft_at (names (suc k)))

  few_names : (k : ℕ) → k + 1 < 18446744073709551616 → Begins (IsNames k) []
  few_names k few =
      let a = any_rows k few in
      record { rest = tokens.Mark marks.Semicolon ∷ a.rest; text = last_name k a.rest a.text }

  pub any_header : (has : Bool) (k : ℕ) → k + 1 < 18446744073709551616 → Begins (IsHeader has k) []
  any_header true k few = few_names k few
  any_header false k few =
      let a = few_names k few in
      record { rest = tokens.Word (column_name k) ∷ a.rest; text = one_name k a.rest a.text }

  pub header_begins : (ps : List TokenAt) (has : Bool) (k : ℕ) (g : Stage) (s : TextState)
      → k + length ps + 1 < 18446744073709551616 → run_parts (header_at has g k) ps ≡ Ok s
      → Begins (IsHeader has k) (test_tokens_of ps)
  header_begins [] has k g s few e =
      any_header has k (let h : k + 1 < 18446744073709551616 = omega (arith, few) in h)
  header_begins (p ∷ ps) has k g s few e =
      by_part has p.token p.offset e (λ more j f h l. header_begins ps more j f s h l)
    where
      by_word : (w : List ℕ) (n : ℕ) (b : Bool) → names_column (length (names k).threads) w ≡ b
          → and_then
          (with_offset n (stepped (header_at false g k) (tokens.Word w)
          (text.table_result (draft_at (names k)) text.HasColumn
          (if b then Some (table.widened (names k)) else None))))
          (λ x. run_parts x ps) ≡ Ok s
          → ((more : Bool) (j : ℕ) (f : Stage) → j + length ps + 1 < 18446744073709551616
          → run_parts (header_at more f j) ps ≡ Ok s
          → Begins (IsHeader more j) (test_tokens_of ps))
          → Begins (IsName k) (tokens.Word w ∷ test_tokens_of ps)
      by_word w n true c l later =
          let b = later true k (next_stage g (tokens.Word w)) (let h : k + length ps + 1 < 18446744073709551616 = omega (arith, few) in h) l in
          let same : w ≡ column_name k = (bytes_eq-Decides w (column_name (length (names k).threads))).0 c ∙ ap column_name (length-names k) in
          record { rest = b.rest; text = subst (λ (v : List ℕ). IsName k (tokens.Word v ∷ (test_tokens_of ps ++ b.rest))) (sym same) (one_name k (test_tokens_of ps ++ b.rest) b.text) }
      by_word w n false c l later = absurd (not_both _ _ l)

      by_part : (b : Bool) (t : Token) (n : ℕ)
          → run_parts (header_at b g k) (record { token = t; offset = n } ∷ ps) ≡ Ok s
          → ((more : Bool) (j : ℕ) (f : Stage) → j + length ps + 1 < 18446744073709551616
          → run_parts (header_at more f j) ps ≡ Ok s
          → Begins (IsHeader more j) (test_tokens_of ps))
          → Begins (IsHeader b k) (t ∷ test_tokens_of ps)
      by_part false (tokens.Word w) n l later =
          by_word w n (names_column (length (names k).threads) w) refl l later
      by_part false t n l later = absurd (not_both _ _ l)
      by_part true (tokens.Mark marks.Bar) n l later =
          let b = later false (suc k) (next_stage g (tokens.Mark marks.Bar)) (let h : suc k + length ps + 1 < 18446744073709551616 = omega (arith, few) in h) l in
          record { rest = b.rest; text = next_name k (test_tokens_of ps ++ b.rest) b.text }
      by_part true (tokens.Mark marks.Semicolon) n l later =
          let g' = next_stage g (tokens.Mark marks.Semicolon) in
          let b = rows_begin k (let h : k + 1 < 18446744073709551616 = omega (arith, few) in h) ps g' s (ap (λ (u : table.TableState). run_parts (rows_at g' u) ps) (names_are k) ∙ l) in
          record { rest = b.rest; text = last_name k (test_tokens_of ps ++ b.rest) b.text }
      by_part true t n l later = absurd (not_both _ _ l)

  -- ---- all headers are taken

  pub record TakesNames (k m : ℕ) (ps : List TokenAt) (behind : List Token) (g : Stage)
      : Type 0 where
    pub before : List TokenAt
    pub left : List TokenAt
    pub stage : Stage
    pub whole : ps ≡ before ++ left
    pub are_before : test_tokens_of before ≡ spelled_names (k + 1) m []
    pub are_left : test_tokens_of left ≡ behind
    pub by : run_parts (header_at true g k) before ≡ Ok (rows_at stage (columns (k + m)))

  is_named : (k : ℕ) → names_column (length (names k).threads) (column_name k) ≡ true
  is_named k =
      ap (λ (j : ℕ). names_column j (column_name k)) (length-names k)
      ∙ (bytes_eq-Decides (column_name k) (column_name k)).1 refl

  pub name_step : (k : ℕ) (n : ℕ) (ps : List TokenAt) (g : Stage)
      → run_parts (header_at false g k) (record { token = tokens.Word (column_name k); offset = n } ∷ ps)
      ≡ run_parts (header_at true (next_stage g (tokens.Word (column_name k))) k) ps
  name_step k n ps g =
      ap
      (λ (b : Bool). and_then
      (with_offset n (stepped (header_at false g k) (tokens.Word (column_name k))
      (text.table_result (draft_at (names k)) text.HasColumn
      (if b then Some (table.widened (names k)) else None))))
      (λ x. run_parts x ps))
      (is_named k)

  pub names_led : (m k : ℕ) (ps : List TokenAt) (behind : List Token) (g : Stage)
      → test_tokens_of ps ≡ spelled_names (k + 1) m behind → TakesNames k m ps behind g
  names_led zero k [] behind g e = absurd (no_first e)
  names_led zero k (p ∷ ps) behind g e =
      let t : p.token ≡ tokens.Mark marks.Semicolon = same_first e in
      let others : test_tokens_of ps ≡ behind = same_others e in
      let z : k ≡ k + 0 = omega arith in
      let g' = next_stage g (tokens.Mark marks.Semicolon) in
      record {
        before = p ∷ [];
        left = ps;
        stage = g';
        whole = refl;
        are_before = ap (λ (x : Token). x ∷ []) t;
        are_left = others;
        by =
            ap
            (λ (x : Token).
            run_parts (header_at true g k) (record { token = x; offset = p.offset } ∷ [])) t
            ∙ ap (λ (u : table.TableState). Ok (rows_at g' u)) (sym (names_are k))
            ∙ ap (λ (j : ℕ). Ok (rows_at g' (columns j))) z;
      }
  names_led (suc m) k [] behind g e = absurd (no_first e)
  names_led (suc m) k (p ∷ []) behind g e = absurd (no_first (same_others e))
  names_led (suc m) k (p ∷ q ∷ ps) behind g e =
      let t : p.token ≡ tokens.Mark marks.Bar = same_first e in
      let from_name = same_others e in
      let w : q.token ≡ tokens.Word (column_name (k + 1)) = same_first from_name in
      let others : test_tokens_of ps ≡ spelled_names (k + 1 + 1) m behind = same_others from_name in
      let next : tokens.Word (column_name (k + 1)) ≡ tokens.Word (column_name (suc k)) = ap (λ (j : ℕ). tokens.Word (column_name j)) (add-one k) in
      let g1 = next_stage g (tokens.Mark marks.Bar) in
      let g2 = next_stage g1 (tokens.Word (column_name (suc k))) in
      let r = names_led m (suc k) ps behind g2 (others ∙ ap (λ (j : ℕ). spelled_names (j + 1) m behind) (add-one k)) in
      let z : suc k + m ≡ k + suc m = omega arith in
      record {
        before = p ∷ q ∷ r.before;
        left = r.left;
        stage = r.stage;
        whole = ap (λ (l : List TokenAt). p ∷ q ∷ l) r.whole;
        are_before =
            ap (λ (x : Token). x ∷ q.token ∷ test_tokens_of r.before) t
            ∙ ap (λ (x : Token). tokens.Mark marks.Bar ∷ x ∷ test_tokens_of r.before) w
            ∙ ap (λ (l : List Token). tokens.Mark marks.Bar ∷ tokens.Word (column_name (k + 1)) ∷ l)
            (r.are_before ∙ ap (λ (j : ℕ). spelled_names (j + 1) m []) (sym (add-one k)));
        are_left = r.are_left;
        by =
            ap
            (λ (x : Token). run_parts (header_at true g k)
            (record { token = x; offset = p.offset } ∷ q ∷ r.before)) t
            ∙ ap
            (λ (x : Token). run_parts (header_at false g1 (suc k))
            (record { token = x; offset = q.offset } ∷ r.before))
            (w ∙ next)
            ∙ name_step (suc k) q.offset r.before g1
            ∙ r.by
            ∙ ap (λ (j : ℕ). Ok (rows_at r.stage (columns j))) z;
      }
