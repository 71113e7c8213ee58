-- What is kept for the later checks, and each token that is refused, stands within the text.
use Rattle.std.proofs.Common.{◌≡◌, ℕ, zero, suc, ◌+◌, ◌<◌, ◌≤◌, Bool, true, false, List, [], ◌∷◌, ◌++◌, length, Option, Some, None, Ok, refl, subst, arith, inl, inr, ◌⊎◌}
use Rattle.std.specs.Prelude.{◌&&◌, if◌then◌else◌}
use Rattle.std.proofs.lemmas.Bool.{cases_lt}
use Rattle.litmus_tokens.specs.declared.stage.Stage.{Stage}
use Rattle.litmus_tokens.specs.declared.token.Token.{Token}
use Rattle.litmus_tokens.specs.declared.token.Token.TheVariants as tokens
use Rattle.litmus_tokens.specs.declared.token.Mark.TheVariants as marks
use Rattle.litmus_tokens.specs.declared.lexer.NextLexeme.{NextLexeme}
use Rattle.litmus_tokens.specs.declared.lexer.NextLexeme.TheVariants.{Layout, Lexeme}
use Rattle.litmus_tokens.specs.Lexer.{first_lexeme}
use Rattle.litmus_tokens.specs.Texts.{TokenAt, after_lexeme, tokens_from, test_lexing, is_end, begins_tail}
use Rattle.litmus_tokens.specs.Words.{is_test_name, names_column}
use Rattle.text_values.specs.declared.test.InitEntry.{InitEntry}
use Rattle.text_values.specs.declared.test.Place.{Place}
use Rattle.text_values.specs.declared.test.Value as declared_value
use Rattle.text_values.specs.declared.test.Quantifier.{Quantifier}
use Rattle.litmus_tokens.specs.declared.place.PlaceExpectation.{PlaceExpectation}
use Rattle.litmus_tokens.specs.declared.place.PlaceExpectation.TheVariants as places
use Rattle.litmus_tokens.specs.declared.place.PlaceStep.{PlaceStep}
use Rattle.litmus_tokens.specs.declared.place.PlaceStep.TheVariants as place_steps
use Rattle.litmus_tokens.specs.Conditions.{condition_limits}
use Rattle.litmus_tokens.specs.PlaceMachine.{place_step, value_read, has_thread}
use Rattle.litmus_tokens.specs.ConditionMachine as condition
use Rattle.litmus_words.specs.Machine as table
use Rattle.litmus_table.specs.Bounds.{AreThreadsUpTo}
use Rattle.litmus_table.proofs.Places.{expectation_within, widened_within}
use Rattle.litmus_grammar.specs.declared.parts.TextKind.{TextKind}
use Rattle.litmus_grammar.specs.declared.parts.TextKind.TheVariants as kinds
use Rattle.litmus_grammar.specs.declared.parts.ItemExpectation.{ItemExpectation}
use Rattle.litmus_grammar.specs.declared.parts.ItemExpectation.TheVariants as items
use Rattle.litmus_grammar.specs.declared.parts.InitExpectation.{InitExpectation}
use Rattle.litmus_grammar.specs.declared.parts.InitExpectation.TheVariants as expectations
use Rattle.litmus_grammar.specs.InitMachine as init
use Rattle.litmus_grammar.specs.InitMachine.{Block, Did, missing, lacks_thread}
use Rattle.litmus_grammar.specs.TextMachine as text
use Rattle.litmus_grammar.specs.TextMachine.{Part, Draft, Next, TextState, with_name, at, next_at, stepped, and_then, run_parts, text_start, nothing, first_stage}
use Rattle.litmus_grammar.specs.Kept.{AreAtMost, AreDraftUpTo, StandsUpTo}

pushed : (n p : ℕ) (ps : List ℕ) → p ≤ n → AreAtMost n ps → AreAtMost n (ps ++ p ∷ [])
pushed n p [] le h = (le, tt)
pushed n p (q ∷ ps) le h = (h.0, pushed n p ps le h.1)

-- ---- the init block

abbrev InBlock : ℕ → Option Block → Type 0
InBlock n None = Unit {0}
InBlock n (Some b) = AreAtMost n b.starts

abbrev InDid : ℕ → Option Did → Type 0
InDid n None = Unit {0}
InDid n (Some d) = AreAtMost n d.block.starts

module _ (n p : ℕ) (le : p ≤ n) where
  added_within : (b : Block) (k : List ℕ) → AreAtMost n b.starts → InBlock n (init.added b k)
  added_within b k h = choose (init.has_key b.named k)
    where
      choose : (there : Bool) → InBlock n (if there then None else Some (init.with_key b k))
      choose true = tt
      choose false = h

  noted_within : (b : Block) (k : Option (List ℕ)) → AreAtMost n b.starts
      → InBlock n (init.added_if b k)
  noted_within b None h = h
  noted_within b (Some k) h = added_within b k h

  result_within : (b : Block) (o : Option PlaceStep) → AreAtMost n b.starts
      → InDid n (init.place_result b o)
  result_within b (Some (place_steps.Goes expected)) h = h
  result_within b (Some (place_steps.Ends w)) h = h
  result_within b None h = tt

  both_within : (o : Option Block) (s : Option PlaceStep) → InBlock n o
      → InDid n (init.and_place o s)
  both_within (Some b) s h = result_within b s h
  both_within None s h = tt

  place_within : (b : Block) (expected : PlaceExpectation) (t : Token) → AreAtMost n b.starts
      → InDid n (init.place_read b expected t)
  place_within b expected t h =
      both_within (init.added_if b (init.token_key expected t)) (place_step expected t)
      (noted_within b (init.token_key expected t) h)

  entry_within : (b : Block) (t : Token) → AreAtMost n b.starts → InDid n (init.entry_read b t p)
  entry_within b (tokens.Mark marks.CloseBrace) h = h
  entry_within b t h = place_within (init.with_start b p) places.Begins t (pushed n p b.starts le h)

  open_within : (b : Block) (t : Token) → AreAtMost n b.starts → InDid n (init.open_read b t)
  open_within b (tokens.Mark marks.OpenBrace) h = h
  open_within b t h = tt

  equals_within : (b : Block) (q : Place) (t : Token) → AreAtMost n b.starts
      → InDid n (init.equals_read b q t)
  equals_within b q (tokens.Mark marks.Equals) h = h
  equals_within b q t h = tt

  valued_within : (b : Block) (q : Place) (v : Option declared_value.Value) → AreAtMost n b.starts
      → InDid n (init.valued b q v)
  valued_within b q (Some v) h = h
  valued_within b q None h = tt

  behind_within : (b : Block) (t : Token) → AreAtMost n b.starts → InDid n (init.entry_behind b t)
  behind_within b (tokens.Mark marks.Semicolon) h = h
  behind_within b (tokens.Mark marks.CloseBrace) h = h
  behind_within b t h = tt

  init_within : (b : Block) (expected : InitExpectation) (t : Token) → AreAtMost n b.starts
      → InDid n (init.init_step b expected t p)
  init_within b expectations.WantsOpen t h = open_within b t h
  init_within b expectations.WantsEntry t h = entry_within b t h
  init_within b (expectations.InPlace within) t h = place_within b within t h
  init_within b (expectations.WantsEquals q) t h = equals_within b q t h
  init_within b (expectations.WantsValue q) t h = valued_within b q (value_read t) h
  init_within b expectations.HasEntry t h = behind_within b t h

-- the entry of a thread that is not there
missing_within : (n threads : ℕ) (es : List InitEntry) (ss : List ℕ) (p : ℕ) → AreAtMost n ss
    → missing threads es ss ≡ Some p → p ≤ n
missing_within n threads [] ss p h e = absurd cc
missing_within n threads (x ∷ es) [] p h e = absurd cc
missing_within n threads (x ∷ es) (s ∷ ss) p h e =
    choose (lacks_thread threads x.place) e (missing_within n threads es ss p h.1)
  where
    choose : (b : Bool) → (if b then Some s else missing threads es ss) ≡ Some p
        → (missing threads es ss ≡ Some p → p ≤ n) → p ≤ n
    choose true e f = let same : s ≡ p = cc in subst (λ k. k ≤ n) same h.0
    choose false e f = f e

-- ---- parts

abbrev InNext : ℕ → Option Next → Type 0
InNext n None = Unit {0}
InNext n (Some x) = AreDraftUpTo n x.draft

module _ (n p : ℕ) (le : p ≤ n) (kind : TextKind) (h : Draft) (k : AreDraftUpTo n h) where
  led : (o : Option Part) → InNext n (next_at h o)
  led (Some q) = k
  led None = tt

  either_way : (b : Bool) (x y : Option Next) → InNext n x → InNext n y
      → InNext n (if b then x else y)
  either_way true x y f g = f
  either_way false x y f g = g

  title_kept : (t : Token) → InNext n (text.title_read h t)
  title_kept (tokens.Word w) =
      either_way (is_test_name w) (at (with_name h w) text.TitleEnd) None k tt
  title_kept t = tt

  init_kept : (o : Option Did) → InDid n o → InNext n (text.init_result kind h o)
  init_kept (Some d) w = (w, k.1)
  init_kept None w = tt

  table_kept : (q : Part) (o : Option table.TableState)
      → ((s : table.TableState) → o ≡ Some s → AreThreadsUpTo n s.threads)
      → InNext n (text.table_result h q o)
  table_kept q (Some s) f = (k.0, f s refl)
  table_kept q None f = tt

  rows_kept : (q : Part) (t : Token) → InNext n (text.table_result h q (table.table_step h.table t p))
  rows_kept q t =
      table_kept q (table.table_step h.table t p) (λ s e.
      expectation_within n p le h.table.threads h.table.column k.1 h.table.expected t s e)

  named_kept : (t : Token) → InNext n (text.table_result h text.HasColumn (table.name_thread h.table t))
  named_kept (tokens.Word w) = choose (names_column (length h.table.threads) w)
    where
      choose : (b : Bool)
          → InNext n (text.table_result h text.HasColumn
          (if b then Some (table.widened h.table) else None))
      choose true = (k.0, widened_within n h.table.threads k.1)
      choose false = tt
  named_kept t = tt

  item_result_kept : (o : Option PlaceStep) → InNext n (text.item_result h o)
  item_result_kept (Some (place_steps.Goes expected)) = k
  item_result_kept (Some (place_steps.Ends w)) = k
  item_result_kept None = tt

  starts_kept : (threads : ℕ) (t : Token) → InNext n (text.item_start threads h t)
  starts_kept threads t =
      either_way (has_thread threads t) (text.item_result h (place_step places.Begins t)) None
      (item_result_kept (place_step places.Begins t)) tt

  next_kept : (threads : ℕ) (t : Token) → InNext n (text.next_item kind threads h t)
  next_kept threads (tokens.Mark marks.CloseBracket) = k
  next_kept threads t = starts_kept threads t

  item_kept : (threads : ℕ) (expected : ItemExpectation) (t : Token)
      → InNext n (text.item_read kind threads h expected t)
  item_kept threads items.WantsFirst t = starts_kept threads t
  item_kept threads items.WantsNext t = next_kept threads t
  item_kept threads (items.InItem expected) t = item_result_kept (place_step expected t)
  item_kept threads items.HasItem t = led (text.item_ended kind t)

  proposition_kept : (q : Quantifier) (f : condition.ConditionStepResult)
      → InNext n (text.proposition_result h q f)
  proposition_kept q (condition.Goes fs used expected) = k
  proposition_kept q (condition.Ends a) = k
  proposition_kept q condition.Refuses = tt

  row_kept : (t : Token) → InNext n (text.row_read h t p)
  row_kept t =
      either_way (table.is_row_start h.table && begins_tail t) (next_at h (text.tail_start t))
      (text.table_result h text.Rows (table.table_step h.table t p)) (led (text.tail_start t))
      (rows_kept text.Rows t)

  cell_kept : (t : Token) → InNext n (text.cell_read h t p)
  cell_kept t =
      either_way (table.can_end h.table.expected && is_end t) (at h text.Done)
      (text.table_result h text.Cells (table.table_step h.table t p)) k (rows_kept text.Cells t)

  part_kept : (given : ℕ) (q : Part) (t : Token) → InNext n (text.part_step kind given h q t p)
  part_kept given text.Magic t = led (text.magic_read t)
  part_kept given text.Title t = title_kept t
  part_kept given text.TitleEnd t = led (text.title_ended t)
  part_kept given (text.Head b) t = led (text.head_read b t)
  part_kept given (text.Init expected) t =
      init_kept (init.init_step h.init expected t p) (init_within n p le h.init expected t k.0)
  part_kept given text.WantsColumn t = named_kept t
  part_kept given text.HasColumn t = led (text.column_ended t)
  part_kept given text.Rows t = row_kept t
  part_kept given text.Cells t = cell_kept t
  part_kept given text.WantsList t = led (text.list_opened t)
  part_kept given (text.Item expected) t = item_kept (text.threads_in kind given h) expected t
  part_kept given text.WantsQuantifier t = led (text.quantifier_read t)
  part_kept given text.AfterTilde t = led (text.exists_read t)
  part_kept given (text.Proposition q fs used expected) t =
      proposition_kept q (condition.proposition_step condition_limits (text.threads_in kind given h) fs used
      expected t)
  part_kept given text.ListOrEnd t = led (text.list_start t)
  part_kept given text.WantsEnd t = led (text.end_read t)
  part_kept given text.Done t = tt

-- ---- a whole text

abbrev AreBefore : ℕ → List TokenAt → Type 0
AreBefore n [] = Unit {0}
AreBefore n (q ∷ qs) = (q.offset ≤ n) × AreBefore n qs

run_kept : (n : ℕ) (s : TextState) (ps : List TokenAt) → AreBefore n ps → AreDraftUpTo n s.draft
    → StandsUpTo n (run_parts s ps)
run_kept n s [] h k = k
run_kept n s (q ∷ ps) h k =
    by_next (text.part_step s.kind s.threads s.draft s.part q.token q.offset)
    (part_kept n q.offset h.0 s.kind s.draft k s.threads s.part q.token)
    (λ x j. run_kept n x ps h.1 j)
  where
    by_next : (o : Option Next) → InNext n o
        → ((x : TextState) → AreDraftUpTo n x.draft → StandsUpTo n (run_parts x ps))
        → StandsUpTo n (and_then (text.with_offset q.offset (stepped s q.token o)) (λ x. run_parts x ps))
    by_next (Some x) j f = f _ j
    by_next None j f = h.0

tokens_before : (n : ℕ) (s : Stage) (fresh : Bool) (skip offset : ℕ) (bs : List ℕ)
    → offset + length bs ≤ n → AreBefore n (tokens_from s fresh skip offset bs)
unfolding tokens_from
tokens_before n s fresh skip offset [] le = (omega arith, tt)
tokens_before n s fresh (suc skip) offset (b ∷ bs) le =
    tokens_before n s fresh skip (offset + 1) bs (omega arith)
tokens_before n s fresh zero offset (b ∷ bs) le =
    by_lexeme (first_lexeme s fresh (b ∷ bs)) (λ g f skip.
    tokens_before n g f skip (offset + 1) bs (omega arith))
  where
    by_lexeme : (f : NextLexeme)
        → ((g : Stage) (f : Bool) (skip : ℕ) → AreBefore n (tokens_from g f skip (offset + 1) bs))
        → AreBefore n (after_lexeme s fresh offset b f
        (λ g f skip. tokens_from g f skip (offset + 1) bs))
    by_lexeme (Layout k) r = r _ _ _
    by_lexeme (Lexeme t k) r = (omega arith, r _ _ _)

start_kept : (n : ℕ) (kind : TextKind) → AreDraftUpTo n (nothing kind)
start_kept n kinds.Test = (tt, tt)
start_kept n kinds.Thread = (tt, widened_within n [] tt)
start_kept n kinds.Init = (tt, tt)
start_kept n kinds.Condition = (tt, tt)
start_kept n kinds.Locations = (tt, tt)

module _ (kind : TextKind) (threads : ℕ) (bytes : List ℕ) where
  pub all_kept : StandsUpTo (length bytes) (run_parts (text_start kind threads) (test_lexing (first_stage kind) bytes))
  all_kept =
      run_kept (length bytes) (text_start kind threads) (test_lexing (first_stage kind) bytes)
      (tokens_before (length bytes) (first_stage kind) false 0 0 bytes (omega arith))
      (start_kept (length bytes) kind)

  kept : (s : TextState) → run_parts (text_start kind threads) (test_lexing (first_stage kind) bytes) ≡ Ok s
      → AreDraftUpTo (length bytes) s.draft
  kept s h = subst (StandsUpTo (length bytes)) h all_kept

pub missing_kept : (n threads p : ℕ) (h : Draft) → AreDraftUpTo n h
    → missing threads h.init.entries h.init.starts ≡ Some p → p ≤ n
missing_kept n threads p h k e = missing_within n threads h.init.entries h.init.starts p k.0 e

pub is_short : (bytes : List ℕ) → (65536 < length bytes → ⊥) → length bytes ≤ 65536
is_short bytes bounded = choose (cases_lt 65536 (length bytes))
  where
    choose : (65536 < length bytes) ⊎ (length bytes ≤ 65536) → length bytes ≤ 65536
    choose (inl lt) = absurd (bounded lt)
    choose (inr le) = le

pub kept_short : (kind : TextKind) (threads : ℕ) (bytes : List ℕ) (s : TextState)
    → (length bytes ≤ 65536 → run_parts (text_start kind threads) (test_lexing (first_stage kind) bytes) ≡ Ok s)
    → (65536 < length bytes → ⊥) → AreDraftUpTo (length bytes) s.draft
kept_short kind threads bytes s h bounded = kept kind threads bytes s (h (is_short bytes bounded))
