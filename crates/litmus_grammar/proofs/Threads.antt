-- The machine takes the texts of threads and nothing else.
use Rattle.std.proofs.Common.{◌≡◌, ℕ, ◌+◌, inl, inr, Bool, true, false, List, [], ◌∷◌, ◌++◌, append_assoc, append-nil, Option, Some, None, Ok, refl, sym, ap, ◌∙◌, subst}
use Rattle.std.specs.Prelude.{◌&&◌, ◌||◌, if◌then◌else◌}
use Rattle.std.proofs.lemmas.Bool.{and_parts, false≢true}
use Rattle.litmus_tokens.specs.declared.rule.LitmusRule.{LitmusRule}
use Rattle.litmus_tokens.specs.declared.stage.Stage.{Stage}
use Rattle.litmus_tokens.specs.declared.stage.Stage.TheVariants as stages
use Rattle.litmus_tokens.specs.declared.token.Token.{Token}
use Rattle.litmus_tokens.specs.declared.token.Token.TheVariants as tokens
use Rattle.litmus_tokens.specs.declared.token.Mark.TheVariants as marks
use Rattle.litmus_tokens.specs.Stage.{next_stage}
use Rattle.litmus_tokens.specs.Texts.{TokenAt, test_tokens_of, stage_after, is_end}
use Rattle.litmus_tokens.specs.Words.{ends_table}
use Rattle.litmus_tokens.specs.Faults.{Begins, CanFollow, Ruling, Always, Where, cell_ruling, ruling, RulingSays}
use Rattle.litmus_words.specs.declared.opcode.Opcode.{Opcode}
use Rattle.litmus_words.specs.declared.opcode.Opcode.TheVariants as opcodes
use Rattle.litmus_words.specs.declared.opcode.Want.{Want}
use Rattle.litmus_words.specs.declared.opcode.Want.TheVariants as wants
use Rattle.litmus_words.specs.Words.{opcode_of}
use Rattle.litmus_table.specs.Grammar.{spelled_thread, thread_meaning}
use Rattle.litmus_table.specs.Late.{thread_notes}
use Rattle.litmus_words.specs.Machine as table
use Rattle.litmus_table.specs.Laws as laws
use Rattle.litmus_table.specs.Laws.{IsThread, then_on, steps_of, AreNoted, is_whole_table, is_taken, stands, IsInCell}
use Rattle.litmus_table.proofs.Rules.{apart, rules_given}
use Rattle.litmus_table.proofs.Sound.{thread_sound}
use Rattle.litmus_table.proofs.Tables.{thread_complete, thread_begins}
use Rattle.litmus_grammar.specs.declared.parts.TextKind.TheVariants as kinds
use Rattle.litmus_grammar.specs.Grammar.{IsThreadText}
use Rattle.litmus_grammar.specs.TextMachine as text
use Rattle.litmus_grammar.specs.TextMachine.{Part, Draft, Next, TextState, with_table, with_offset, and_then, stepped, part_step, nothing, text_start, run_parts, text_rule_at}
use Rattle.litmus_grammar.proofs.Ends.{no_cell}
use Rattle.litmus_grammar.proofs.Inner.{AreInner}
use Rattle.litmus_grammar.proofs.Outcomes.{ReadingWhere, refused, not_both}
use Rattle.litmus_grammar.proofs.Runs.{tokens_of-append, run-append, same_state}
use Rattle.litmus_grammar.proofs.Spelled.{thread-append}
use Rattle.litmus_grammar.proofs.Splits.{split, single}
use Rattle.std.proofs.Math.Bool.{and-false}
use Rattle.std.proofs.lemmas.Option.{none-some, same_Some}

-- ---- a cell begins in the text where one begins in the table

abbrev pub Matches : Stage → table.CellExpectation → Type 0
Matches stages.CellBegins table.Begins = Unit {0}
Matches stages.InCell table.Labelled = Unit {0}
Matches stages.InCell (table.InInstruction p) = Unit {0}
Matches stages.InCell (table.WantsLabel condition) = Unit {0}
Matches stages.InCell table.Whole = Unit {0}
Matches g h = ⊥

abbrev pub IsMatched : Stage → Option table.TableState → Type 0
IsMatched g None = Unit {0}
IsMatched g (Some u) = Matches g u.expected

pub in_cell : (g : Stage) (h : table.CellExpectation) → Matches g h → IsInCell g
in_cell stages.CellBegins h m = tt
in_cell stages.InCell h m = tt
in_cell g h m = absurd m

module _ (threads : List table.ThreadSteps) (c offset : ℕ) where
  operation_matches : (o : Option Opcode)
      → IsMatched stages.InCell (table.operation threads c offset o)
  operation_matches (Some (opcodes.Data op)) = tt
  operation_matches (Some (opcodes.Branch condition)) = tt
  operation_matches (Some (opcodes.Fence f)) = tt
  operation_matches None = tt

  none_of : (o : Option Opcode) → table.operation [] 0 0 o ≡ None → o ≡ None
  none_of (Some (opcodes.Data op)) e = absurd (none-some _ (sym e))
  none_of (Some (opcodes.Branch condition)) e = absurd (none-some _ (sym e))
  none_of (Some (opcodes.Fence f)) e = absurd (none-some _ (sym e))
  none_of None e = refl

  no_opcode : (w : List ℕ) → ends_table w ≡ true → opcode_of w ≡ None
  no_opcode w e =
      none_of (opcode_of w) (apart (record { threads = []; column = 0; expected = table.Begins })
      (tokens.Word w) 0 refl e)

  word_matches : (w : List ℕ)
      → IsMatched (if ends_table w then stages.Tail else stages.InCell)
      (table.operation threads c offset (opcode_of w))
  word_matches w = choose (ends_table w) refl
    where
      choose : (b : Bool) → ends_table w ≡ b
          → IsMatched (if b then stages.Tail else stages.InCell)
          (table.operation threads c offset (opcode_of w))
      choose true e =
          subst (λ (o : Option Opcode). IsMatched stages.Tail (table.operation threads c offset o))
          (sym (no_opcode w e)) tt
      choose false e = operation_matches (opcode_of w)

  semicolon_matches : (b : Bool)
      → IsMatched stages.CellBegins (if b then table.at threads 0 table.Begins else None)
  semicolon_matches true = tt
  semicolon_matches false = tt

  bar_matches : (b : Bool)
      → IsMatched stages.CellBegins (if b then None else table.at threads (c + 1) table.Begins)
  bar_matches true = tt
  bar_matches false = tt

  wanted_matches : (p : table.Pending) (o : Option Want)
      → IsMatched stages.InCell (table.goes_on threads c p o offset)
  wanted_matches p None = tt
  wanted_matches p (Some w) = tt

  operand_matches : (o : Option table.Pending)
      → IsMatched stages.InCell (table.operand threads c o offset)
  operand_matches None = tt
  operand_matches (Some p) = wanted_matches p (table.first_of p.wants)

  no_separator : (p : table.Pending) (o : Option Want)
      → (table.pending_as p o (tokens.Mark marks.Semicolon) ≡ None)
      × (table.pending_as p o (tokens.Mark marks.Bar) ≡ None)
  no_separator p None = (refl, refl)
  no_separator p (Some wants.Register) = (refl, refl)
  no_separator p (Some wants.Base) = (refl, refl)
  no_separator p (Some wants.Immediate) = (refl, refl)
  no_separator p (Some wants.Zero) = (refl, refl)
  no_separator p (Some wants.Comma) = (refl, refl)
  no_separator p (Some wants.Open) = (refl, refl)
  no_separator p (Some wants.Close) = (refl, refl)

  within_matches : (p : table.Pending) (t : Token)
      → IsMatched (next_stage stages.InCell t) (table.operand threads c (table.pending_after p t) offset)
  within_matches p (tokens.Mark marks.Semicolon) =
      subst
      (λ (o : Option table.Pending). IsMatched stages.CellBegins (table.operand threads c o offset))
      (sym (no_separator p (table.first_of p.wants)).0) tt
  within_matches p (tokens.Mark marks.Bar) =
      subst
      (λ (o : Option table.Pending). IsMatched stages.CellBegins (table.operand threads c o offset))
      (sym (no_separator p (table.first_of p.wants)).1) tt
  within_matches p t = operand_matches (table.pending_after p t)

  labelled_matches : (t : Token)
      → IsMatched (next_stage stages.InCell t) (table.begin_instruction threads c t offset)
  labelled_matches (tokens.Word w) = operation_matches (opcode_of w)
  labelled_matches (tokens.Mark marks.Semicolon) = semicolon_matches (table.is_last threads c)
  labelled_matches (tokens.Mark marks.Bar) = bar_matches (table.is_last threads c)
  labelled_matches t = tt

  target_matches : (condition : _) (t : Token)
      → IsMatched (next_stage stages.InCell t) (table.target_read threads c condition t offset)
  target_matches condition (tokens.Word w) = tt
  target_matches condition t = tt

  whole_matches : (t : Token) → IsMatched (next_stage stages.InCell t) (table.table_ended threads c t)
  whole_matches (tokens.Mark marks.Semicolon) = semicolon_matches (table.is_last threads c)
  whole_matches (tokens.Mark marks.Bar) = bar_matches (table.is_last threads c)
  whole_matches t = tt

  start_matches : (t : Token)
      → IsMatched (next_stage stages.CellBegins t) (table.cell threads c t offset)
  start_matches (tokens.Label w) = tt
  start_matches (tokens.Word w) = word_matches w
  start_matches (tokens.Mark marks.Semicolon) = semicolon_matches (table.is_last threads c)
  start_matches (tokens.Mark marks.Bar) = bar_matches (table.is_last threads c)
  start_matches t = tt

  pub step_matches : (g : Stage) (h : table.CellExpectation) (t : Token) → Matches g h
      → IsMatched (next_stage g t) (table.expected_step threads c h t offset)
  step_matches stages.CellBegins table.Begins t m = start_matches t
  step_matches stages.InCell table.Labelled t m = labelled_matches t
  step_matches stages.InCell (table.InInstruction p) t m = within_matches p t
  step_matches stages.InCell (table.WantsLabel condition) t m = target_matches condition t
  step_matches stages.InCell table.Whole t m = whole_matches t
  step_matches g h t m = absurd m

-- ---- tables on lists of tokens

table_append : (ps qs : List TokenAt) (s : table.TableState)
    → laws.run_table s (ps ++ qs) ≡ then_on (λ u. laws.run_table u qs) (laws.run_table s ps)
table_append [] qs s = refl
table_append (p ∷ ps) qs s = by_step (table.table_step s p.token p.offset) (table_append ps qs)
  where
    by_step : (o : Option table.TableState)
        → ((u : table.TableState) → laws.run_table u (ps ++ qs) ≡ then_on (λ v. laws.run_table v qs) (laws.run_table u ps))
        → then_on (λ u. laws.run_table u (ps ++ qs)) o
        ≡ then_on (λ u. laws.run_table u qs) (then_on (λ u. laws.run_table u ps) o)
    by_step None later = refl
    by_step (Some u) later = later u

-- a token more
pub table_one : (ps : List TokenAt) (s u v : table.TableState) (p : TokenAt) → laws.run_table s ps ≡ Some u
    → table.table_step u p.token p.offset ≡ Some v → laws.run_table s (ps ++ p ∷ []) ≡ Some v
table_one ps s u v p e m =
    table_append ps (p ∷ []) s ∙ ap (then_on (λ x. laws.run_table x (p ∷ []))) e
    ∙ ap (then_on (λ x. Some x)) m

-- ---- what can stand, as tables know it and as texts do

pub says_so : (C D : Token → Type 0) (g : Stage) (r : Ruling) (k : LitmusRule)
    → ((t : Token) → C t → D t) → ((t : Token) → D t → C t) → RulingSays C g r k → RulingSays D g r k
says_so C D g (Always n) k to from e = e
says_so C D g (Where other n) k to from (inl x) = inl (to other x.0, x.1)
says_so C D g (Where other n) k to from (inr x) = inr (λ d. x.0 (from other d), x.1)

token_end : (t : Token) → is_end t ≡ true → t ≡ tokens.End
token_end tokens.End e = refl
token_end t e = absurd (false≢true e)

end_placed : (p : TokenAt) → is_end p.token ≡ true
    → p ≡ record { token = tokens.End; offset = p.offset }
end_placed p e = ap (λ (t : Token). record { token = t; offset = p.offset }) (token_end p.token e)

-- a token that the table takes ends no text
pub cell_goes : (h : Draft) (t : Token) (offset : ℕ) (v : table.TableState)
    → table.table_step h.table t offset ≡ Some v
    → text.cell_read h t offset ≡ Some (record { part = text.Cells; draft = with_table h v })
cell_goes h t offset v e = choose (is_end t) refl
  where
    choose : (b : Bool) → is_end t ≡ b
        → text.cell_read h t offset ≡ Some (record { part = text.Cells; draft = with_table h v })
    choose true k =
        let none : table.table_step h.table t offset ≡ None = ap (λ (x : Token). table.table_step h.table x offset) (token_end t k) ∙ no_cell h.table.threads h.table.column h.table.expected offset in
        absurd (none-some v (sym none ∙ e))
    choose false k =
        ap
        (λ (b : Bool). if table.can_end h.table.expected && b then text.at h text.Done
        else text.table_result h text.Cells (table.table_step h.table t offset)) k
        ∙ ap
        (λ (b : Bool). if b then text.at h text.Done
        else text.table_result h text.Cells (table.table_step h.table t offset))
        (and-false (table.can_end h.table.expected))
        ∙ ap (text.table_result h text.Cells) e

-- ---- texts of threads

to_text : (ts : List Token) → IsThread ts → IsThreadText (ts ++ tokens.End ∷ [])
to_text ts x =
    record {
      tree = x.tree;
      fine = x.fine;
      whole =
          ap (λ (l : List Token). l ++ tokens.End ∷ []) x.whole
          ∙ thread-append x.tree [] (tokens.End ∷ []);
    }

inner_no_end : (qs : List TokenAt) (n : ℕ)
    → AreInner (test_tokens_of (qs ++ record { token = tokens.End; offset = n } ∷ [])) → ⊥
inner_no_end [] n i = i.0
inner_no_end (q ∷ qs) n i = inner_no_end qs n i.1

module _ (threads : ℕ) where
  abbrev pub standing : Stage → Part → Draft → TextState
  standing g p h = record { kind = kinds.Thread; threads = threads; stage = g; part = p; draft = h }

  -- where a text that is taken so far stands
  data Standing (g : Stage) (h : Draft) (ps : List TokenAt) (s : TextState) : Type 0 where
    Inside : (u : table.TableState) → laws.run_table h.table ps ≡ Some u
        → s ≡ standing (stage_after g (test_tokens_of ps)) text.Cells (with_table h u)
        → Matches (stage_after g (test_tokens_of ps)) u.expected → Standing g h ps s
    Ended : (u : table.TableState) (qs : List TokenAt) (n : ℕ)
        → ps ≡ qs ++ record { token = tokens.End; offset = n } ∷ [] → laws.run_table h.table qs ≡ Some u
        → is_whole_table u ≡ true → s.draft ≡ with_table h u → Standing g h ps s

  prepend : (g : Stage) (h : Draft) (p : TokenAt) (ps : List TokenAt) (s : TextState) (u : table.TableState)
      → table.table_step h.table p.token p.offset ≡ Some u
      → Standing (next_stage g p.token) (with_table h u) ps s → Standing g h (p ∷ ps) s
  prepend g h p ps s u q (Inside v r e m) = Inside v (ap (then_on (λ x. laws.run_table x ps)) q ∙ r) e m
  prepend g h p ps s u q (Ended v qs n whole r ended draft) =
      Ended v (p ∷ qs) n (ap (λ (l : List TokenAt). p ∷ l) whole)
      (ap (then_on (λ x. laws.run_table x qs)) q ∙ r) ended draft

  last : (g : Stage) (h : Draft) (p : TokenAt) (ps : List TokenAt) (s : TextState)
      → (table.can_end h.table.expected && is_end p.token) ≡ true
      → run_parts (standing (next_stage g p.token) text.Done h) ps ≡ Ok s → Standing g h (p ∷ ps) s
  last g h p [] s q e =
      let b = and_parts (table.can_end h.table.expected) (is_end p.token) q in
      let same : standing (next_stage g p.token) text.Done h ≡ s = same_state _ _ e in
      Ended h.table [] p.offset (ap (λ (x : TokenAt). x ∷ []) (end_placed p b.1)) refl b.0
      (ap (λ (x : TextState). x.draft) (sym same))
  last g h p (r ∷ ps) s q e = absurd (not_both _ _ e)

  stands_there : (ps : List TokenAt) (g : Stage) (h : Draft) (s : TextState)
      → Matches g h.table.expected → run_parts (standing g text.Cells h) ps ≡ Ok s → Standing g h ps s
  stands_there [] g h s m e =
      let same : standing g text.Cells h ≡ s = same_state _ _ e in
      Inside h.table refl (sym same) m
  stands_there (p ∷ ps) g h s m e =
      by_end (table.can_end h.table.expected && is_end p.token) refl e
      (λ u k x. stands_there ps (next_stage g p.token) (with_table h u) s k x)
    where
      by_step : (o : Option table.TableState) → table.table_step h.table p.token p.offset ≡ o
          → and_then
          (with_offset p.offset (stepped (standing g text.Cells h) p.token
          (text.table_result h text.Cells o)))
          (λ x. run_parts x ps) ≡ Ok s
          → ((u : table.TableState) → Matches (next_stage g p.token) u.expected
          → run_parts (standing (next_stage g p.token) text.Cells (with_table h u)) ps ≡ Ok s
          → Standing (next_stage g p.token) (with_table h u) ps s) → Standing g h (p ∷ ps) s
      by_step None q k later = absurd (not_both _ _ k)
      by_step (Some u) q k later =
          prepend g h p ps s u q (later u
          (subst (IsMatched (next_stage g p.token)) q (step_matches h.table.threads h.table.column
          p.offset g h.table.expected p.token m)) k)

      by_end : (b : Bool) → (table.can_end h.table.expected && is_end p.token) ≡ b
          → and_then
          (with_offset p.offset (stepped (standing g text.Cells h) p.token
          (if b then text.at h text.Done
          else text.table_result h text.Cells
          (table.table_step h.table p.token p.offset))))
          (λ x. run_parts x ps) ≡ Ok s
          → ((u : table.TableState) → Matches (next_stage g p.token) u.expected
          → run_parts (standing (next_stage g p.token) text.Cells (with_table h u)) ps ≡ Ok s
          → Standing (next_stage g p.token) (with_table h u) ps s) → Standing g h (p ∷ ps) s
      by_end true q k later = last g h p ps s q k
      by_end false q k later = by_step (table.table_step h.table p.token p.offset) refl k later

  -- ---- each text is taken

  cells_run : (ps : List TokenAt) (g : Stage) (h : Draft) (u : table.TableState)
      → laws.run_table h.table ps ≡ Some u
      → run_parts (standing g text.Cells h) ps
      ≡ Ok (standing (stage_after g (test_tokens_of ps)) text.Cells (with_table h u))
  cells_run [] g h u e =
      let same : h.table ≡ u = same_Some h.table u e in
      ap (λ (x : table.TableState). Ok (standing g text.Cells (with_table h x))) same
  cells_run (p ∷ ps) g h u e =
      by_step (table.table_step h.table p.token p.offset) refl e
      (λ v k. cells_run ps (next_stage g p.token) (with_table h v) u k)
    where
      by_step : (o : Option table.TableState) → table.table_step h.table p.token p.offset ≡ o
          → then_on (λ x. laws.run_table x ps) o ≡ Some u
          → ((v : table.TableState) → laws.run_table v ps ≡ Some u
          → run_parts (standing (next_stage g p.token) text.Cells (with_table h v)) ps
          ≡ Ok (standing (stage_after (next_stage g p.token) (test_tokens_of ps)) text.Cells
          (with_table h u)))
          → run_parts (standing g text.Cells h) (p ∷ ps)
          ≡ Ok (standing (stage_after g (test_tokens_of (p ∷ ps))) text.Cells (with_table h u))
      by_step None q k later = absurd (none-some u k)
      by_step (Some v) q k later =
          ap
          (λ (o : Option Next). and_then
          (with_offset p.offset (stepped (standing g text.Cells h) p.token o))
          (λ x. run_parts x ps))
          (cell_goes h p.token p.offset v q) ∙ later v k

  abbrev first_draft : Draft
  first_draft = nothing kinds.Thread

  -- the machine behind a text, with what it keeps
  pub record TakesThread (ps : List TokenAt) (x : IsThreadText (test_tokens_of ps)) : Type 0 where
    pub after : table.TableState
    pub stage : Stage
    pub by : run_parts (text_start kinds.Thread threads) ps
        ≡ Ok (standing stage text.Done (with_table first_draft after))
    pub meant : steps_of after.threads ≡ thread_meaning x.tree ∷ []
    pub noted : AreNoted ps (thread_notes [] (x.tree.first ∷ x.tree.others) ∷ []) after.threads

  pub thread_taken : (ps : List TokenAt) (x : IsThreadText (test_tokens_of ps)) → TakesThread ps x
  thread_taken ps x =
      let cut = split ps (spelled_thread x.tree []) (tokens.End ∷ []) (x.whole ∙ sym (thread-append x.tree [] (tokens.End ∷ []))) in
      let end = single cut.behind tokens.End cut.are_behind in
      let r = thread_complete [] cut.before cut.behind (record { tree = x.tree; fine = x.fine; whole = cut.are_before }) in
      let g = stage_after stages.CellBegins (test_tokens_of cut.before) in
      let there = standing g text.Cells (with_table first_draft r.after) in
      record {
        after = r.after;
        stage = next_stage g tokens.End;
        by =
            ap (run_parts (text_start kinds.Thread threads)) (cut.whole
            ∙ ap (λ (l : List TokenAt). cut.before ++ l) end.1)
            ∙ run-append (text_start kinds.Thread threads) there cut.before
            (record { token = tokens.End; offset = end.0 } ∷ []) (cells_run cut.before
            stages.CellBegins first_draft r.after r.by)
            ∙ ap
            (λ (b : Bool). and_then
            (with_offset end.0 (stepped there tokens.End (if b && true then text.at
            there.draft text.Done
            else text.table_result there.draft text.Cells
            (table.table_step r.after tokens.End end.0))))
            (λ s. Ok s)) r.ended;
        meant = r.meant;
        noted =
            subst
            (λ (l : List TokenAt).
            AreNoted l (thread_notes [] (x.tree.first ∷ x.tree.others) ∷ []) r.after.threads)
            (sym cut.whole) r.noted;
      }

  takes : (ps : List TokenAt) → IsThreadText (test_tokens_of ps)
      → (s : TextState) × (run_parts (text_start kinds.Thread threads) ps ≡ Ok s)
  takes ps x =
      let r = thread_taken ps x in
      (standing r.stage text.Done (with_table first_draft r.after), r.by)

  -- ---- what is taken begins a text

  ended_text : (ps qs : List TokenAt) (n : ℕ) (u : table.TableState)
      → ps ≡ qs ++ record { token = tokens.End; offset = n } ∷ []
      → laws.run_table (laws.columns 0) qs ≡ Some u → is_whole_table u ≡ true → IsThreadText (test_tokens_of ps)
  ended_text ps qs n u whole r ended =
      subst IsThreadText
      (sym (ap test_tokens_of whole
      ∙ tokens_of-append qs (record { token = tokens.End; offset = n } ∷ [])))
      (to_text (test_tokens_of qs) (thread_sound qs u r ended))

  begins_more : (ts : List Token) → Begins IsThread ts → Begins IsThreadText ts
  begins_more ts b =
      record {
        rest = b.rest ++ tokens.End ∷ [];
        text =
            subst IsThreadText (append_assoc ts b.rest (tokens.End ∷ []))
            (to_text (ts ++ b.rest) b.text);
      }

  begins_by : (ps : List TokenAt) (s : TextState) → Standing stages.CellBegins first_draft ps s
      → Begins IsThreadText (test_tokens_of ps)
  begins_by ps s (Inside u r e m) =
      begins_more (test_tokens_of ps) (thread_begins ps (record { after = u; by = r }))
  begins_by ps s (Ended u qs n whole r ended draft) =
      record {
        rest = [];
        text =
            subst IsThreadText (sym (append-nil (test_tokens_of ps)))
            (ended_text ps qs n u whole r ended);
      }

  abbrev is_done : Part → Bool
  is_done text.Done = true
  is_done p = false

  whole_by : (ps : List TokenAt) (s : TextState) → Standing stages.CellBegins first_draft ps s
      → s.part ≡ text.Done → IsThreadText (test_tokens_of ps)
  whole_by ps s (Inside u r e m) d =
      absurd (false≢true (ap (λ (x : TextState). is_done x.part) (sym e) ∙ ap is_done d))
  whole_by ps s (Ended u qs n whole r ended draft) d = ended_text ps qs n u whole r ended

  pub thread_whole : (ps : List TokenAt) (s : TextState) → run_parts (text_start kinds.Thread threads) ps ≡ Ok s
      → s.part ≡ text.Done → IsThreadText (test_tokens_of ps)
  thread_whole ps s e d = whole_by ps s (stands_there ps stages.CellBegins first_draft s tt e) d

  -- ---- the rule that another token breaks

  module _ (ps : List TokenAt) (u : table.TableState) (by : laws.run_table (laws.columns 0) ps ≡ Some u)
      (g : Stage)
      (reached : run_parts (text_start kinds.Thread threads) ps
      ≡ Ok (standing g text.Cells (with_table first_draft u))) where
    abbrev Can : Token → Type 0
    Can t = CanFollow IsThreadText (test_tokens_of ps) t

    one_more : (t : Token) (v : table.TableState) → table.table_step u t 0 ≡ Some v → Can t
    one_more t v e =
        let p : TokenAt = record { token = t; offset = 0 } in
        subst (Begins IsThreadText) (tokens_of-append ps (p ∷ [])) (begins_more
        (test_tokens_of (ps ++ p ∷ [])) (thread_begins (ps ++ p ∷ [])
        (record { after = v; by = table_one ps (laws.columns 0) u v p by e })))

    ends_here : (t : Token) → is_whole_table u ≡ true → is_end t ≡ true → Can t
    ends_here tokens.End w e =
        record {
          rest = [];
          text =
              subst IsThreadText (sym (append-nil (test_tokens_of ps ++ tokens.End ∷ [])))
              (to_text (test_tokens_of ps) (thread_sound ps u by w));
        }
    ends_here t w e = absurd (false≢true e)

    can_by : (t : Token) → stands true u t ≡ true → Can t
    can_by t e = choose (table.table_step u t 0) refl e
      where
        choose : (o : Option table.TableState) → table.table_step u t 0 ≡ o
            → (is_taken o || (is_whole_table u && is_end t)) ≡ true → Can t
        choose (Some v) q k = one_more t v q
        choose None q k = let b = and_parts (is_whole_table u) (is_end t) k in ends_here t b.0 b.1

    stuck : (t : Token) → stands true u t ≡ false
        → text.cell_read (with_table first_draft u) t 0 ≡ None
    stuck t e = choose (table.table_step u t 0) refl e
      where
        choose : (o : Option table.TableState) → table.table_step u t 0 ≡ o
            → (is_taken o || (is_whole_table u && is_end t)) ≡ false
            → text.cell_read (with_table first_draft u) t 0 ≡ None
        choose (Some v) q k = absurd (false≢true (sym k))
        choose None q k =
            ap
            (λ (b : Bool). if b then text.at (with_table first_draft u) text.Done
            else text.table_result (with_table first_draft u) text.Cells (table.table_step u t 0))
            k
            ∙ ap (text.table_result (with_table first_draft u) text.Cells) q

    can_not : (t : Token) (offset : ℕ) → text.cell_read (with_table first_draft u) t offset ≡ None
        → Can t → ⊥
    can_not t offset none c =
        refused IsThreadText kinds.Thread threads takes ps
        (standing g text.Cells (with_table first_draft u)) (record { token = t; offset = offset })
        reached none c

    by_can : (t : Token) → Can t → stands true u t ≡ true
    by_can t c = choose (stands true u t) refl
      where
        choose : (b : Bool) → stands true u t ≡ b → stands true u t ≡ true
        choose true e = e
        choose false e = absurd (can_not t 0 (stuck t e) c)

    out : (t : Token) (offset : ℕ) → text.cell_read (with_table first_draft u) t offset ≡ None
        → stands true u t ≡ false
    out t offset none = choose (stands true u t) refl
      where
        choose : (b : Bool) → stands true u t ≡ b → stands true u t ≡ false
        choose true e = absurd (can_not t offset none (can_by t e))
        choose false e = e

    cell_says : (t : Token) (offset : ℕ) (there : IsInCell g)
        → text.cell_read (with_table first_draft u) t offset ≡ None
        → RulingSays Can g (cell_ruling g t) (table.table_rule_at true u t)
    cell_says t offset there none =
        says_so (λ x. stands true u x ≡ true) Can g (cell_ruling g t) (table.table_rule_at true u t)
        can_by by_can (rules_given true u g t there (out t offset none))

  by_stage : (C : Token → Type 0) (u : table.TableState) (g : Stage) (t : Token) → IsInCell g
      → RulingSays C g (cell_ruling g t) (table.table_rule_at true u t)
      → RulingSays C g (ruling g t) (text_rule_at kinds.Thread u g t)
  by_stage C u stages.CellBegins (tokens.Broken rule) i x = refl
  by_stage C u stages.CellBegins t i x = x
  by_stage C u stages.InCell (tokens.Broken rule) i x = refl
  by_stage C u stages.InCell t i x = x
  by_stage C u g t i x = absurd i

  says_by : (ps : List TokenAt) (s : TextState) (t : Token) (offset : ℕ) → AreInner (test_tokens_of ps)
      → run_parts (text_start kinds.Thread threads) ps ≡ Ok s
      → part_step s.kind s.threads s.draft s.part t offset ≡ None
      → Standing stages.CellBegins first_draft ps s
      → RulingSays (CanFollow IsThreadText (test_tokens_of ps)) (stage_after stages.CellBegins (test_tokens_of ps))
      (ruling (stage_after stages.CellBegins (test_tokens_of ps)) t)
      (text_rule_at s.kind s.draft.table s.stage t)
  says_by ps s t offset fine e none (Inside u r same m) =
      let g = stage_after stages.CellBegins (test_tokens_of ps) in
      let there = in_cell g u.expected m in
      let still : text.cell_read (with_table first_draft u) t offset ≡ None = ap (λ (x : TextState). part_step x.kind x.threads x.draft x.part t offset) (sym same) ∙ none in
      subst
      (λ (x : TextState). RulingSays (CanFollow IsThreadText (test_tokens_of ps)) g (ruling g t)
      (text_rule_at x.kind x.draft.table x.stage t))
      (sym same)
      (by_stage (CanFollow IsThreadText (test_tokens_of ps)) u g t there (cell_says ps u r g
      (e ∙ ap (λ (x : TextState). Ok x) same) t offset there still))
  says_by ps s t offset fine e none (Ended u qs n whole r ended draft) =
      absurd (inner_no_end qs n (subst (λ (l : List TokenAt). AreInner (test_tokens_of l)) whole fine))

  pub thread_reading : ReadingWhere AreInner IsThreadText kinds.Thread threads
  thread_reading = record {
    begins = λ ps s e. begins_by ps s (stands_there ps stages.CellBegins first_draft s tt e);
    takes = takes;
    says =
        λ ps s t offset fine e none.
        says_by ps s t offset fine e none (stands_there ps stages.CellBegins first_draft s tt e);
  }
