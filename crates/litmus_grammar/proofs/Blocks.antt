-- The init block of a test, and what stands behind it.
use Rattle.std.proofs.Common.{◌≡◌, ℕ, ◌+◌, ◌<◌, ◌⊎◌, inl, inr, Bool, true, false, List, [], ◌∷◌, ◌++◌, map, length, append_assoc, Option, Some, None, Ok, refl, sym, ap, ◌∙◌, subst, arith}
use Rattle.std.proofs.lemmas.List.{length-append}
use Rattle.std.proofs.lemmas.Bool.{false≢true}
use Rattle.litmus_tokens.specs.declared.stage.Stage.{Stage}
use Rattle.litmus_tokens.specs.declared.stage.Stage.TheVariants as stages
use Rattle.litmus_tokens.specs.declared.token.Token.{Token}
use Rattle.litmus_tokens.specs.declared.token.Token.TheVariants as tokens
use Rattle.litmus_tokens.specs.declared.token.Mark.TheVariants as marks
use Rattle.litmus_tokens.specs.Stage.{next_stage}
use Rattle.litmus_tokens.specs.Texts.{TokenAt, test_tokens_of, stage_after, StandsAt}
use Rattle.litmus_tokens.specs.Words.{column_name}
use Rattle.litmus_tokens.specs.Faults.{Begins}
use Rattle.litmus_tokens.specs.Conditions.{PlaceTree, Location, Register, place_meaning, tree_formula}
use Rattle.litmus_table.specs.Grammar.{spelled_header, spelled_names, columns_meaning}
use Rattle.litmus_table.specs.Late.{columns_notes}
use Rattle.litmus_words.specs.Machine as table
use Rattle.litmus_table.specs.Laws.{columns, steps_of, AreNoted}
use Rattle.litmus_grammar.specs.declared.parts.InitExpectation.TheVariants as expectations
use Rattle.litmus_grammar.specs.declared.parts.InitStep.{InitStep}
use Rattle.litmus_grammar.specs.declared.parts.InitStep.TheVariants as init_steps
use Rattle.litmus_grammar.specs.declared.parts.TextKind.TheVariants as kinds
use Rattle.litmus_grammar.specs.Grammar.{Listed, EntryTree, spelled_entry, spelled_end, spelled_others, spelled_init, members, AreEntryTrees, IsInitText}
use Rattle.litmus_grammar.specs.InitMachine as init
use Rattle.litmus_grammar.specs.TextMachine as text
use Rattle.litmus_grammar.specs.TextMachine.{Part, Draft, Next, TextState, part_step, nothing, text_start, run_parts}
use Rattle.litmus_grammar.specs.Texts.{IsStart, IsWhole, BreaksOff, IsBrokenOff}
use Rattle.litmus_grammar.proofs.Bodies.{IsRows, IsName, header_at, header_begins, any_header, rows_at, name_step, names_led, rows_led}
use Rattle.litmus_grammar.proofs.Ends.{ends_done}
use Rattle.litmus_grammar.proofs.InitLeft.{init_whole}
use Rattle.litmus_grammar.proofs.InitStarts.{init_reading}
use Rattle.litmus_grammar.specs.Laws.{AreEntryStarts, entry_kept}
use Rattle.litmus_grammar.proofs.InitAcceptance.{init_taken, semicolon}
use Rattle.litmus_grammar.proofs.Passing.{test_at, text_at, Alike, Stays, Leaves, passes, ends}
use Rattle.litmus_grammar.proofs.Runs.{tokens_of-append, run-append}
use Rattle.litmus_grammar.proofs.Spelled.{init-append, entry-append}
use Rattle.litmus_grammar.proofs.Splits.{split, single, unsnoc, Rest, Nothing, More, rest_of, unsnoc_placed}
use Rattle.litmus_grammar.proofs.Tails.{last_at, early, with_all, end_behind}

-- ---- where entries begin, in a longer text

-- with another rest
move : (q r1 r2 : List TokenAt) (b : List Token) (t : Token) (ts : List Token) (n : ℕ)
    → test_tokens_of q ≡ b ++ (t ∷ ts) → StandsAt (q ++ r1) b n → StandsAt (q ++ r2) b n
move [] r1 r2 [] t ts n e x = absurd cc
move [] r1 r2 (u ∷ b) t ts n e x = absurd cc
move (p ∷ q) r1 r2 [] t ts n e x = by_before x.before x.here x.behind x.split x.same x.at_place
  where
    by_before : (before : List TokenAt) (here : TokenAt) (behind : List TokenAt)
        → (p ∷ q) ++ r1 ≡ before ++ here ∷ behind → test_tokens_of before ≡ [] → here.offset ≡ n
        → StandsAt ((p ∷ q) ++ r2) [] n
    by_before [] here behind k same at_place =
        let first : p ≡ here = cc in
        record { before = []; here = p; behind = q ++ r2; split = refl; same = refl; at_place = ap (λ (y : TokenAt). y.offset) first ∙ at_place }
    by_before (y ∷ before) here behind k same at_place = absurd cc
move (p ∷ q) r1 r2 (u ∷ b) t ts n e x =
    let left : test_tokens_of q ≡ b ++ (t ∷ ts) = cc in
    by_before x.before x.here x.behind x.split x.same x.at_place (λ y. move q r1 r2 b t ts n left y)
  where
    by_before : (before : List TokenAt) (here : TokenAt) (behind : List TokenAt)
        → (p ∷ q) ++ r1 ≡ before ++ here ∷ behind → test_tokens_of before ≡ u ∷ b → here.offset ≡ n
        → (StandsAt (q ++ r1) b n → StandsAt (q ++ r2) b n) → StandsAt ((p ∷ q) ++ r2) (u ∷ b) n
    by_before [] here behind k same at_place later = absurd cc
    by_before (y ∷ before) here behind k same at_place later =
        let first : p.token ≡ u = cc in
        let others : q ++ r1 ≡ before ++ here ∷ behind = cc in
        let same_others : test_tokens_of before ≡ b = cc in
        let r = later (record { before = before; here = here; behind = behind; split = others; same = same_others; at_place = at_place }) in
        record {
          before = p ∷ r.before;
          here = r.here;
          behind = r.behind;
          split = ap (λ (l : List TokenAt). p ∷ l) r.split;
          same =
              ap (λ (z : Token). z ∷ test_tokens_of r.before) first
              ∙ ap (λ (l : List Token). u ∷ l) r.same;
          at_place = r.at_place;
        }

-- with more before
further : (pre ps : List TokenAt) (b : List Token) (n : ℕ) → StandsAt ps b n
    → StandsAt (pre ++ ps) (test_tokens_of pre ++ b) n
further pre ps b n x =
    record {
      before = pre ++ x.before;
      here = x.here;
      behind = x.behind;
      split =
          ap (λ (l : List TokenAt). pre ++ l) x.split
          ∙ sym (append_assoc pre x.before (x.here ∷ x.behind));
      same = tokens_of-append pre x.before ∙ ap (λ (l : List Token). test_tokens_of pre ++ l) x.same;
      at_place = x.at_place;
    }

abbrev closing : List Token
closing = tokens.Mark marks.CloseBrace ∷ []

-- an entry has a first token
first_of : (e : EntryTree) (xs : List Token)
    → (t : Token) × (ts : List Token) × (spelled_entry e xs ≡ t ∷ ts)
first_of e xs = by_place e.place
  where
    by_place : (p : PlaceTree)
        → (t : Token) × (ts : List Token)
        × (spelled_entry (record { place = p; value = e.value }) xs ≡ t ∷ ts)
    by_place (Location false n) = (_, _, refl)
    by_place (Location true n) = (_, _, refl)
    by_place (Register t r) = (_, _, refl)

module _ (pre q r1 r2 : List TokenAt) (closed : Bool) where
  stands_move : (e : EntryTree) (xs : List Token) (b : List Token) (n : ℕ)
      → test_tokens_of q ≡ b ++ spelled_entry e xs → StandsAt (q ++ r1) b n
      → StandsAt (pre ++ (q ++ r2)) (test_tokens_of pre ++ b) n
  stands_move e xs b n k h =
      let f = first_of e xs in
      further pre (q ++ r2) b n (move q r1 r2 b f.0 f.1 n (k ∙ ap (λ (l : List Token). b ++ l) f.2)
      h)

  pub starts_move : (es : List EntryTree) (e : EntryTree) (b : List Token) (ss : List ℕ)
      → test_tokens_of q ≡ b ++ spelled_entry e (spelled_others spelled_entry closed es closing)
      → AreEntryStarts (q ++ r1) b (e ∷ es) ss
      → AreEntryStarts (pre ++ (q ++ r2)) (test_tokens_of pre ++ b) (e ∷ es) ss
  starts_move es e b [] k h = absurd h
  starts_move [] e b (s ∷ []) k h = (stands_move e (spelled_end closed closing) b s k h.0, tt)
  starts_move [] e b (s ∷ r ∷ ss) k h = absurd h.1
  starts_move (o ∷ es) e b (s ∷ ss) k h =
      let left = spelled_entry o (spelled_others spelled_entry closed es closing) in
      let next = b ++ spelled_entry e semicolon in
      let k' : test_tokens_of q ≡ next ++ left = k ∙ ap (λ (l : List Token). b ++ l) (sym (entry-append e semicolon left)) ∙ sym (append_assoc b (spelled_entry e semicolon) left) in (
        stands_move e (tokens.Mark marks.Semicolon ∷ left) b s k h.0,
        subst (λ (l : List Token). AreEntryStarts (pre ++ (q ++ r2)) l (o ∷ es) ss)
            (sym (append_assoc (test_tokens_of pre) b (spelled_entry e semicolon)))
            (starts_move es o next ss k' h.1),
      )

-- ---- from the brace on

-- the init block, and what stands behind it
pub record IsBody (ts : List Token) : Type 0 where
  pub entries : Option (Listed EntryTree)
  pub are_entries : AreEntryTrees [] (members entries)
  pub others : ℕ
  pub behind : List Token
  pub rows : IsRows others behind
  pub whole : ts ≡ spelled_init entries (spelled_header others behind)

abbrev pub brace_at : ℕ → TokenAt
brace_at n = record { token = tokens.Mark marks.OpenBrace; offset = n }

abbrev pub in_block : Part → Bool
in_block (text.Init expected) = true
in_block p = false

module _ (name : List ℕ) where
  abbrev with_block : Draft → Draft
  with_block h = early name h.init table.table_start []

  abbrev AlikeBlock : Option Next → Option Next → Type 0
  AlikeBlock a b = Alike with_block text.WantsEnd text.WantsColumn in_block a b

  did_alike : (h : Draft) (x : InitStep) (b : init.Block)
      → AlikeBlock (text.init_result kinds.Init h (Some (record { step = x; block = b })))
      (text.init_result kinds.Test (with_block h) (Some (record { step = x; block = b })))
  did_alike h (init_steps.Goes expected) b = (refl, inl (refl, refl))
  did_alike h init_steps.Ends b = (refl, inr (refl, refl))

  init_result_alike : (h : Draft) (o : Option init.Did)
      → AlikeBlock (text.init_result kinds.Init h o) (text.init_result kinds.Test (with_block h) o)
  init_result_alike h None = tt
  init_result_alike h (Some d) = did_alike h d.step d.block

  block_alike : (p : Part) (h : Draft) (x : Token) (offset : ℕ) → in_block p ≡ true
      → AlikeBlock (part_step kinds.Init 0 h p x offset)
      (part_step kinds.Test 0 (with_block h) p x offset)
  block_alike (text.Init expected) h x offset i =
      init_result_alike h (init.init_step h.init expected x offset)
  block_alike p h x offset i = absurd (false≢true i)

  abbrev first_draft : Draft
  first_draft = nothing kinds.Init

  abbrev first : Stage
  first = next_stage (stages.Init true false) (tokens.Mark marks.OpenBrace)

  abbrev pub block_at : Stage → TextState
  block_at g = test_at g (text.Init expectations.WantsEntry) (early name init.init_start table.table_start [])

  -- what the test may still begin
  pub data Opened (ps : List TokenAt) (n : ℕ) (s : TextState) : Type 0 where
    IsOne : Begins IsBody (test_tokens_of (brace_at n ∷ ps)) → Opened ps n s
    IsBroken : in_block s.part ≡ true → (rest : List Token)
        → IsBrokenOff IsInitText (stages.Init true false) (test_tokens_of (brace_at n ∷ ps) ++ rest)
        → Opened ps n s

  pub body_of : (ts us : List Token) (es : Option (Listed EntryTree)) → AreEntryTrees [] (members es)
      → ts ≡ spelled_init es [] → IsName 0 us → IsBody (ts ++ us)
  body_of ts us es fine e x =
      let z : 0 + x.more ≡ x.more = omega arith in
      record {
        entries = es;
        are_entries = fine;
        others = x.more;
        behind = x.behind;
        rows = subst (λ (n : ℕ). IsRows n x.behind) z x.rows;
        whole =
            ap (λ (l : List Token). l ++ us) e ∙ init-append es [] us
            ∙ ap (spelled_init es) x.whole;
      }

  -- a block that is read to its end
  block_text : (ps : List TokenAt) (n : ℕ) (f : Stage) (h : Draft)
      → run_parts (text_at kinds.Init 0 first (text.Init expectations.WantsEntry) first_draft) ps
      ≡ Ok (text_at kinds.Init 0 f text.WantsEnd h)
      → (es : Option (Listed EntryTree)) × AreEntryTrees [] (members es)
      × (test_tokens_of (brace_at n ∷ ps) ≡ spelled_init es [])
  block_text ps n f h e =
      let all = brace_at n ∷ (ps ++ last_at 0 ∷ []) in
      let done : run_parts (text_start kinds.Init 0) all ≡ Ok (text_at kinds.Init 0 (next_stage f tokens.End) text.Done h) = run-append (text_at kinds.Init 0 first (text.Init expectations.WantsEntry) first_draft) (text_at kinds.Init 0 f text.WantsEnd h) ps (last_at 0 ∷ []) e in
      let x = init_whole 0 all _ done refl in (
        x.entries,
        x.fine,
        unsnoc (test_tokens_of (brace_at n ∷ ps)) (spelled_init x.entries []) tokens.End tokens.End
            (sym (ap (λ (l : List Token). tokens.Mark marks.OpenBrace ∷ l)
            (tokens_of-append ps (last_at 0 ∷ []))) ∙ x.whole
            ∙ sym (init-append x.entries [] (tokens.End ∷ []))),
      )

  pub block_begins : (ps : List TokenAt) (n : ℕ) (g : Stage) (s : TextState)
      → length ps + 1 < 18446744073709551616 → run_parts (block_at g) ps ≡ Ok s → Opened ps n s
  block_begins ps n g s few e =
      by_pass (passes kinds.Init 0 with_block text.WantsEnd text.WantsColumn in_block block_alike ps
      first g (text.Init expectations.WantsEntry) first_draft s refl e)
    where
      ts : List Token
      ts = test_tokens_of (brace_at n ∷ ps)

      any : Begins (IsName 0) []
      any = any_header name init.init_start false 0 (omega arith)

      by_rest : (h : Draft) (p : Part) (f : Stage) → in_block p ≡ true
          → run_parts (text_start kinds.Init 0) (brace_at n ∷ ps) ≡ Ok (text_at kinds.Init 0 f p h)
          → (es : Option (Listed EntryTree)) → AreEntryTrees [] (members es) → (rest : List Token)
          → Rest ts rest (spelled_init es []) tokens.End → Opened ps n s
      by_rest h p f i r es fine rest (Nothing k) =
          let cut = split (brace_at n ∷ ps) (spelled_init es []) (tokens.End ∷ []) k in
          let end = single cut.behind tokens.End cut.are_behind in
          let d = ends_done (text_start kinds.Init 0) (text_at kinds.Init 0 f p h) cut.before end.0 (ap (run_parts (text_start kinds.Init 0)) (sym (cut.whole ∙ ap (λ (l : List TokenAt). cut.before ++ l) end.1)) ∙ r) in
          absurd (false≢true (sym (ap in_block d) ∙ i))
      by_rest h p f i r es fine rest (More more k m) =
          IsOne (record {
            rest = more ++ any.rest;
            text =
                subst IsBody (append_assoc ts more any.rest)
                (body_of (ts ++ more) any.rest es fine m any.text);
          })

      by_start : (h : Draft) (p : Part) (f : Stage) → in_block p ≡ true → s.part ≡ p
          → run_parts (text_start kinds.Init 0) (brace_at n ∷ ps) ≡ Ok (text_at kinds.Init 0 f p h)
          → (rest : List Token) → IsStart IsInitText (stages.Init true false) (ts ++ rest)
          → Opened ps n s
      by_start h p f i q r rest (IsWhole x) =
          by_rest h p f i r x.entries x.fine rest (rest_of ts rest (spelled_init x.entries [])
          tokens.End (x.whole ∙ sym (init-append x.entries [] (tokens.End ∷ []))))
      by_start h p f i q r rest (BreaksOff x) = IsBroken (ap in_block q ∙ i) rest x

      by_pass : Stays kinds.Init 0 with_block text.WantsEnd text.WantsColumn in_block block_alike
          first g (text.Init expectations.WantsEntry) first_draft ps s
          ⊎ Leaves kinds.Init 0 with_block text.WantsEnd text.WantsColumn in_block block_alike
          first g (text.Init expectations.WantsEntry) first_draft ps s → Opened ps n s
      by_pass (inl r) =
          let b = (init_reading 0).begins (brace_at n ∷ ps) _ r.by in
          by_start r.draft r.part _ r.inside (ap (λ (x : TextState). x.part) r.same) r.by b.rest b.text
      by_pass (inr r) =
          let x = block_text r.before n _ r.draft r.by in
          let many : length ps ≡ length r.before + length r.behind = ap (λ (l : List TokenAt). length l) r.whole ∙ length-append r.before r.behind in
          let b = header_begins name r.draft.init r.behind false 0 (stage_after g (test_tokens_of r.before)) s (let h : 0 + length r.behind + 1 < 18446744073709551616 = omega (arith, few, many) in h) r.on in
          let us = test_tokens_of (brace_at n ∷ r.before) in
          let same : ts ≡ us ++ test_tokens_of r.behind = ap (λ (y : List TokenAt). test_tokens_of (brace_at n ∷ y)) r.whole ∙ ap (λ (y : List Token). tokens.Mark marks.OpenBrace ∷ y) (tokens_of-append r.before r.behind) in
          IsOne (record {
            rest = b.rest;
            text =
                subst IsBody
                (sym (append_assoc us (test_tokens_of r.behind) b.rest)
                ∙ ap (λ (y : List Token). y ++ b.rest) (sym same))
                (body_of us (test_tokens_of r.behind ++ b.rest) x.0 x.1 x.2 b.text);
          })

  -- ---- each block is taken, with what stands behind it

  pub record TakesBlock (pre ps : List TokenAt) (n : ℕ) (x : IsBody (test_tokens_of (brace_at n ∷ ps)))
      (g : Stage) : Type 0 where
    pub stage : Stage
    pub block : init.Block
    pub reached : table.TableState
    pub by : run_parts (block_at g) ps
        ≡ Ok (test_at stage text.Done (with_all name block reached
        (map place_meaning (members x.rows.tail.observed)) x.rows.tail.quantifier
        (tree_formula x.rows.tail.condition)))
    pub entries : block.entries ≡ map entry_kept (members x.entries)
    pub stand : AreEntryStarts (pre ++ brace_at n ∷ ps)
        (test_tokens_of pre ++ tokens.Mark marks.OpenBrace ∷ []) (members x.entries) block.starts
    pub meant : steps_of reached.threads ≡ columns_meaning 0 (x.others + 1) x.rows.rows
    pub noted : AreNoted (pre ++ brace_at n ∷ ps)
        (columns_notes 0 (x.others + 1)
        (test_tokens_of pre ++ spelled_init x.entries (spelled_header x.others [])) x.rows.rows)
        reached.threads

  -- the entries, led to the header
  pub record TakesEntries (es : Option (Listed EntryTree)) (q : List TokenAt) (n : ℕ) (g : Stage)
      : Type 0 where
    pub stage : Stage
    pub block : init.Block
    pub by : run_parts (block_at g) q ≡ Ok (header_at name block false stage 0)
    pub entries : block.entries ≡ map entry_kept (members es)
    pub stand : AreEntryStarts ((brace_at n ∷ q) ++ last_at 0 ∷ []) (tokens.Mark marks.OpenBrace ∷ [])
        (members es) block.starts

  pub entries_led : (es : Option (Listed EntryTree)) (q : List TokenAt) (n : ℕ) (g : Stage)
      → AreEntryTrees [] (members es) → test_tokens_of (brace_at n ∷ q) ≡ spelled_init es []
      → TakesEntries es q n g
  entries_led es q n g fine e =
      let all = brace_at n ∷ (q ++ last_at 0 ∷ []) in
      let whole : test_tokens_of all ≡ spelled_init es (tokens.End ∷ []) =
      ap (λ (y : List Token). tokens.Mark marks.OpenBrace ∷ y) (tokens_of-append q (last_at 0 ∷ []))
      ∙ ap (λ (y : List Token). y ++ tokens.End ∷ []) e ∙ init-append es [] (tokens.End ∷ []) in
      let t = init_taken 0 es all fine whole in
      let d = ends_done (text_start kinds.Init 0) t.state (brace_at n ∷ q) 0 t.by in
      let m = ends kinds.Init 0 with_block text.WantsEnd text.WantsColumn in_block block_alike (q ++ last_at 0 ∷ []) first (text.Init expectations.WantsEntry) first_draft t.state refl t.by (ap in_block d) in
      let b = end_behind kinds.Init 0 (stage_after first (test_tokens_of m.before)) m.draft m.behind t.state m.by d in
      let same : q ≡ m.before = unsnoc_placed q m.before (last_at 0) (last_at b.0) (m.whole ∙ ap (λ (y : List TokenAt). m.before ++ y) b.1) in
      record {
        stage = stage_after g (test_tokens_of m.before);
        block = m.draft.init;
        by = ap (run_parts (block_at g)) same ∙ m.led g;
        entries = ap (λ (h : Draft). h.init.entries) (sym b.2) ∙ t.entries;
        stand =
            subst
            (λ (h : Draft).
            AreEntryStarts all (tokens.Mark marks.OpenBrace ∷ []) (members es) h.init.starts) b.2
            t.stand;
      }

  -- where the entries begin in the whole text
  stand_there : (pre q r : List TokenAt) (n : ℕ) (es : Option (Listed EntryTree)) (ss : List ℕ)
      → test_tokens_of (brace_at n ∷ q) ≡ spelled_init es []
      → AreEntryStarts ((brace_at n ∷ q) ++ last_at 0 ∷ []) (tokens.Mark marks.OpenBrace ∷ [])
      (members es) ss
      → AreEntryStarts (pre ++ ((brace_at n ∷ q) ++ r))
      (test_tokens_of pre ++ tokens.Mark marks.OpenBrace ∷ []) (members es) ss
  stand_there pre q r n None [] e h = tt
  stand_there pre q r n None (s ∷ ss) e h = absurd h
  stand_there pre q r n (Some l) ss e h =
      starts_move pre (brace_at n ∷ q) (last_at 0 ∷ []) r l.closed l.others l.first
      (tokens.Mark marks.OpenBrace ∷ []) ss e h

  pub body_led : (pre q b : List TokenAt) (w : TokenAt) (n : ℕ) (es : Option (Listed EntryTree))
      (others : ℕ) (behind : List Token) (x : IsRows others behind) (g : Stage)
      → others + 1 < 18446744073709551616 → AreEntryTrees [] (members es)
      → test_tokens_of (brace_at n ∷ q) ≡ spelled_init es [] → w.token ≡ tokens.Word (column_name 0)
      → test_tokens_of b ≡ spelled_names 1 others behind
      →
      (whole : test_tokens_of (brace_at n ∷ (q ++ w ∷ b))
      ≡ spelled_init es (spelled_header others behind))
      (are : AreEntryTrees [] (members es))
      → TakesBlock pre (q ++ w ∷ b) n
      (record {
        entries = es;
        are_entries = are;
        others = others;
        behind = behind;
        rows = x;
        whole = whole;
      }) g
  body_led pre q b w n es others behind x g few fine e first_name k whole are =
      let t = entries_led es q n g fine e in
      let g2 = next_stage t.stage (tokens.Word (column_name 0)) in
      let l = names_led name t.block others 0 b behind g2 k in
      let z : 0 + others ≡ others = omega arith in
      let y : IsRows others (test_tokens_of l.left) = record { few = x.few; rows = x.rows; fine = x.fine; behind = x.behind; tail = x.tail; whole = l.are_left ∙ x.whole } in
      let pre2 = pre ++ ((brace_at n ∷ q) ++ w ∷ l.before) in
      let r = rows_led name t.block others few pre2 l.left y l.stage in
      let inner : ((brace_at n ∷ q) ++ w ∷ l.before) ++ l.left ≡ brace_at n ∷ (q ++ w ∷ b) = append_assoc (brace_at n ∷ q) (w ∷ l.before) l.left ∙ ap (λ (y : List TokenAt). brace_at n ∷ (q ++ w ∷ y)) (sym l.whole) in
      let all : pre2 ++ l.left ≡ pre ++ brace_at n ∷ (q ++ w ∷ b) = append_assoc pre ((brace_at n ∷ q) ++ w ∷ l.before) l.left ∙ ap (λ (y : List TokenAt). pre ++ y) inner in
      let words : test_tokens_of pre2 ≡ test_tokens_of pre ++ spelled_init es (spelled_header others []) =
      tokens_of-append pre ((brace_at n ∷ q) ++ w ∷ l.before)
      ∙ ap (λ (y : List Token). test_tokens_of pre ++ y) (tokens_of-append (brace_at n ∷ q)
      (w ∷ l.before) ∙ ap (λ (y : List Token). y ++ w.token ∷ test_tokens_of l.before) e
      ∙ ap (λ (y : List Token). spelled_init es [] ++ y) (ap (λ (y : Token). y ∷ test_tokens_of l.before)
      first_name
      ∙ ap (λ (y : List Token). tokens.Word (column_name 0) ∷ y) l.are_before)
      ∙ init-append es [] (spelled_header others [])) in
      record {
        stage = r.stage;
        block = t.block;
        reached = r.reached;
        by =
            run-append (block_at g) (header_at name t.block false t.stage 0) q (w ∷ b) t.by
            ∙ ap
            (λ (y : Token). run_parts (header_at name t.block false t.stage 0)
            (record { token = y; offset = w.offset } ∷ b)) first_name
            ∙ name_step name t.block 0 w.offset b t.stage
            ∙ ap (run_parts (header_at name t.block true g2 0)) l.whole
            ∙ run-append (header_at name t.block true g2 0)
            (rows_at name t.block l.stage (columns (0 + others))) l.before l.left l.by
            ∙ ap (λ (j : ℕ). run_parts (rows_at name t.block l.stage (columns j)) l.left) z
            ∙ r.by;
        entries = t.entries;
        stand = stand_there pre q (w ∷ b) n es t.block.starts e t.stand;
        meant = r.meant;
        noted =
            subst
            (λ (y : List TokenAt). AreNoted y
            (columns_notes 0 (others + 1)
            (test_tokens_of pre ++ spelled_init es (spelled_header others [])) x.rows)
            r.reached.threads) all
            (subst
            (λ (y : List Token). AreNoted (pre2 ++ l.left)
            (columns_notes 0 (others + 1) y x.rows) r.reached.threads) words r.noted);
      }
