-- Where the reader of a test stands, and the part of the text that the tokens so far lead to.
use Rattle.std.proofs.Common.{◌≡◌, ℕ, Bool, true, false, List, [], ◌∷◌, Option, Some, None, Ok, refl, sym, ap, ◌∙◌, subst}
use Rattle.std.specs.Prelude.{◌&&◌, ◌==◌, codes, length, if◌then◌else◌}
use Rattle.std.specs.Str.{bytes_eq}
use Rattle.std.proofs.lemmas.Bool.{and_parts, false≢true}
use Rattle.litmus_tokens.specs.declared.stage.Stage.{Stage}
use Rattle.litmus_tokens.specs.declared.stage.Stage.TheVariants as stages
use Rattle.litmus_tokens.specs.declared.token.Token.{Token}
use Rattle.litmus_tokens.specs.declared.token.Token.TheVariants as tokens
use Rattle.litmus_tokens.specs.declared.token.Mark.TheVariants as marks
use Rattle.litmus_tokens.specs.Stage.{next_stage}
use Rattle.litmus_tokens.specs.Texts.{TokenAt, test_tokens_of, stage_after, begins_tail}
use Rattle.litmus_tokens.specs.Words.{is_test_name, names_column}
use Rattle.text_values.specs.declared.test.Place.{Place}
use Rattle.text_values.specs.declared.test.Quantifier.{Quantifier}
use Rattle.text_values.specs.declared.test.Quantifier.TheVariants.{Exists, NotExists, Forall}
use Rattle.litmus_tokens.specs.declared.place.PlaceExpectation.{PlaceExpectation}
use Rattle.litmus_tokens.specs.declared.place.PlaceExpectation.TheVariants as places
use Rattle.litmus_tokens.specs.declared.place.PlaceStep.{PlaceStep}
use Rattle.litmus_tokens.specs.declared.place.PlaceStep.TheVariants as place_steps
use Rattle.litmus_tokens.specs.PlaceMachine.{place_step, has_thread, value_read}
use Rattle.litmus_tokens.specs.ConditionMachine as condition
use Rattle.litmus_tokens.specs.Conditions.{condition_limits}
use Rattle.text_values.specs.declared.test.Value as declared_value
use Rattle.litmus_words.specs.Machine as table
use Rattle.litmus_grammar.specs.declared.parts.InitExpectation.{InitExpectation}
use Rattle.litmus_grammar.specs.declared.parts.InitExpectation.TheVariants as expectations
use Rattle.litmus_grammar.specs.declared.parts.ItemExpectation.{ItemExpectation}
use Rattle.litmus_grammar.specs.declared.parts.ItemExpectation.TheVariants as items
use Rattle.litmus_grammar.specs.declared.parts.TextKind.TheVariants as kinds
use Rattle.litmus_grammar.specs.InitMachine as init
use Rattle.litmus_grammar.specs.InitMachine.{Block}
use Rattle.litmus_grammar.specs.TextMachine as text
use Rattle.litmus_grammar.specs.TextMachine.{Part, Draft, Next, TextState, with_offset, and_then, stepped, part_step, run_parts}
use Rattle.litmus_grammar.proofs.Outcomes.{not_both}
use Rattle.litmus_grammar.proofs.Passing.{test_at}
use Rattle.litmus_grammar.proofs.Runs.{same_state}
use Rattle.litmus_grammar.proofs.Threads.{Matches, IsMatched, step_matches}

abbrev pub in_tail : Part → Bool
in_tail text.WantsList = true
in_tail (text.Item expected) = true
in_tail text.WantsQuantifier = true
in_tail text.AfterTilde = true
in_tail (text.Proposition q fs used expected) = true
in_tail text.Done = true
in_tail p = false

-- what stands in the rows of a table
abbrev pub AgreesRows : Stage → Part → table.CellExpectation → Type 0
AgreesRows g text.Rows h = Matches g h
AgreesRows g p h = ⊥

-- the part where the reader stands, and that of the tokens, with where the table stands
abbrev pub Agrees : Stage → Part → table.CellExpectation → Type 0
Agrees stages.Magic text.Magic h = h ≡ table.Begins
Agrees stages.Title text.Title h = h ≡ table.Begins
Agrees stages.TitleEnd text.TitleEnd h = h ≡ table.Begins
Agrees stages.Head (text.Head b) h = h ≡ table.Begins
Agrees (stages.Init false x) (text.Init expected) h = h ≡ table.Begins
Agrees (stages.Header k) text.WantsColumn h = h ≡ table.Begins
Agrees (stages.Header k) text.HasColumn h = h ≡ table.Begins
Agrees stages.CellBegins p h = AgreesRows stages.CellBegins p h
Agrees stages.InCell p h = AgreesRows stages.InCell p h
Agrees stages.Tail p h = in_tail p ≡ true
Agrees g p h = ⊥

abbrev pub NextAgrees : Stage → Option Next → Type 0
NextAgrees g None = Unit {0}
NextAgrees g (Some n) = Agrees g n.part n.draft.table.expected

-- ---- before the init block

module _ (h : Draft) (m : h.table.expected ≡ table.Begins) where
  magic_agrees : (t : Token) → NextAgrees stages.Title (text.next_at h (text.magic_read t))
  magic_agrees (tokens.Word w) = choose (bytes_eq w (codes "PPC"))
    where
      choose : (b : Bool)
          → NextAgrees stages.Title (text.next_at h (if b then Some text.Title else None))
      choose true = m
      choose false = tt
  magic_agrees t = tt

  title_agrees : (t : Token) → NextAgrees stages.TitleEnd (text.title_read h t)
  title_agrees (tokens.Word w) = choose (is_test_name w)
    where
      choose : (b : Bool)
          → NextAgrees stages.TitleEnd (if b then text.at (text.with_name h w) text.TitleEnd
          else None)
      choose true = m
      choose false = tt
  title_agrees t = tt

  title_end_agrees : (t : Token) → NextAgrees stages.Head (text.next_at h (text.title_ended t))
  title_end_agrees tokens.LineEnd = m
  title_end_agrees t = tt

  head_agrees : (b : Bool) (t : Token)
      → NextAgrees (next_stage stages.Head t) (text.next_at h (text.head_read b t))
  head_agrees true tokens.Text = m
  head_agrees false tokens.Text = tt
  head_agrees b tokens.Keyline = m
  head_agrees b (tokens.Mark marks.OpenBrace) = m
  head_agrees b t = tt

  -- ---- the init block

  goes_agrees : (x : Bool) (b : Option Block) (s : Option PlaceStep)
      → NextAgrees (stages.Init false x) (text.init_result kinds.Test h (init.and_place b s))
  goes_agrees x None s = tt
  goes_agrees x (Some b) None = tt
  goes_agrees x (Some b) (Some (place_steps.Goes expected)) = m
  goes_agrees x (Some b) (Some (place_steps.Ends w)) = m

  stops_agrees : (g : Stage) (b : Option Block)
      → NextAgrees g (text.init_result kinds.Test h (init.and_place b None))
  stops_agrees g None = tt
  stops_agrees g (Some b) = tt

  no_close : (expected : PlaceExpectation)
      → place_step expected (tokens.Mark marks.CloseBrace) ≡ None
  no_close places.Begins = refl
  no_close places.WantsName = refl
  no_close (places.WantsBracket n) = refl
  no_close (places.WantsColon n) = refl
  no_close (places.WantsRegister n) = refl

  within_agrees : (b : Block) (x : Bool) (expected : PlaceExpectation) (t : Token)
      → NextAgrees (next_stage (stages.Init false x) t) (text.init_result kinds.Test h
      (init.place_read b expected t))
  within_agrees b x expected (tokens.Mark marks.CloseBrace) =
      let c = init.added_if b (init.token_key expected (tokens.Mark marks.CloseBrace)) in
      subst
      (λ (o : Option PlaceStep).
      NextAgrees (stages.Header 8) (text.init_result kinds.Test h (init.and_place c o)))
      (sym (no_close expected))
      (stops_agrees (stages.Header 8) c)
  within_agrees b x expected (tokens.Word w) =
      goes_agrees true (init.added_if b (init.token_key expected (tokens.Word w)))
      (place_step expected (tokens.Word w))
  within_agrees b x expected t =
      goes_agrees false (init.added_if b (init.token_key expected t)) (place_step expected t)

  entry_agrees : (b : Block) (x : Bool) (t : Token) (offset : ℕ)
      → NextAgrees (next_stage (stages.Init false x) t)
      (text.init_result kinds.Test h (init.entry_read b t offset))
  entry_agrees b x (tokens.Mark marks.CloseBrace) offset = m
  entry_agrees b x t offset = within_agrees (init.with_start b offset) x places.Begins t

  open_agrees : (b : Block) (x : Bool) (t : Token)
      → NextAgrees (next_stage (stages.Init false x) t)
      (text.init_result kinds.Test h (init.open_read b t))
  open_agrees b x (tokens.Mark marks.OpenBrace) = m
  open_agrees b x t = tt

  equals_agrees : (b : Block) (x : Bool) (p : Place) (t : Token)
      → NextAgrees (next_stage (stages.Init false x) t)
      (text.init_result kinds.Test h (init.equals_read b p t))
  equals_agrees b x p (tokens.Mark marks.Equals) = m
  equals_agrees b x p t = tt

  valued_agrees : (b : Block) (x : Bool) (p : Place) (o : Option declared_value.Value)
      → NextAgrees (stages.Init false x) (text.init_result kinds.Test h (init.valued b p o))
  valued_agrees b x p (Some v) = m
  valued_agrees b x p None = tt

  value_agrees : (b : Block) (x : Bool) (p : Place) (t : Token)
      → NextAgrees (next_stage (stages.Init false x) t) (text.init_result kinds.Test h
      (init.valued b p (value_read t)))
  value_agrees b x p (tokens.Word w) = m
  value_agrees b x p (tokens.Number negative ds) =
      valued_agrees b false p (value_read (tokens.Number negative ds))
  value_agrees b x p t = tt

  behind_agrees : (b : Block) (x : Bool) (t : Token)
      → NextAgrees (next_stage (stages.Init false x) t) (text.init_result kinds.Test h (init.entry_behind b t))
  behind_agrees b x (tokens.Mark marks.Semicolon) = m
  behind_agrees b x (tokens.Mark marks.CloseBrace) = m
  behind_agrees b x t = tt

  init_agrees : (x : Bool) (expected : InitExpectation) (t : Token) (offset : ℕ)
      → NextAgrees (next_stage (stages.Init false x) t) (text.init_result kinds.Test h
      (init.init_step h.init expected t offset))
  init_agrees x expectations.WantsOpen t offset = open_agrees h.init x t
  init_agrees x expectations.WantsEntry t offset = entry_agrees h.init x t offset
  init_agrees x (expectations.InPlace expected) t offset = within_agrees h.init x expected t
  init_agrees x (expectations.WantsEquals p) t offset = equals_agrees h.init x p t
  init_agrees x (expectations.WantsValue p) t offset = value_agrees h.init x p t
  init_agrees x expectations.HasEntry t offset = behind_agrees h.init x t

  -- ---- the header

  column_agrees : (k : ℕ) (t : Token)
      → NextAgrees (next_stage (stages.Header k) t)
      (text.table_result h text.HasColumn (table.name_thread h.table t))
  column_agrees k (tokens.Word w) = choose (names_column (length h.table.threads) w)
    where
      choose : (b : Bool)
          → NextAgrees (stages.Header k) (text.table_result h text.HasColumn
          (if b then Some (table.widened h.table) else None))
      choose true = m
      choose false = tt
  column_agrees k t = tt

  rows_begin_so : Matches stages.CellBegins h.table.expected
  rows_begin_so = subst (Matches stages.CellBegins) (sym m) tt

  ended_agrees : (k : ℕ) (t : Token)
      → NextAgrees (next_stage (stages.Header k) t) (text.next_at h (text.column_ended t))
  ended_agrees k (tokens.Mark marks.Bar) = m
  ended_agrees k (tokens.Mark marks.Semicolon) = rows_begin_so
  ended_agrees k t = tt

-- ---- behind the table

abbrev AllTail : Option Part → Type 0
AllTail None = Unit {0}
AllTail (Some p) = in_tail p ≡ true

module _ (h : Draft) where
  leads_tail : (o : Option Part) → AllTail o → NextAgrees stages.Tail (text.next_at h o)
  leads_tail None i = tt
  leads_tail (Some p) i = i

  word_tail : (w : List ℕ) → AllTail (text.word_quantifier w)
  word_tail w = choose (bytes_eq w (codes "exists")) (bytes_eq w (codes "forall"))
    where
      choose : (a b : Bool)
          → AllTail (if a then Some (text.proposition_part Exists)
          else (if b then Some (text.proposition_part Forall) else None))
      choose true b = refl
      choose false true = refl
      choose false false = tt

  quantifier_tail : (t : Token) → AllTail (text.quantifier_read t)
  quantifier_tail (tokens.Mark marks.Tilde) = refl
  quantifier_tail (tokens.Word w) = word_tail w
  quantifier_tail t = tt

  exists_tail : (t : Token) → AllTail (text.exists_read t)
  exists_tail (tokens.Word w) = choose (bytes_eq w (codes "exists"))
    where
      choose : (a : Bool) → AllTail (if a then Some (text.proposition_part NotExists) else None)
      choose true = refl
      choose false = tt
  exists_tail t = tt

  start_tail : (t : Token) → AllTail (text.tail_start t)
  start_tail t = choose (text.is_list_word t)
    where
      choose : (a : Bool) → AllTail (if a then Some text.WantsList else text.quantifier_read t)
      choose true = refl
      choose false = quantifier_tail t

  opened_tail : (t : Token) → AllTail (text.list_opened t)
  opened_tail (tokens.Mark marks.OpenBracket) = refl
  opened_tail t = tt

  item_result_tail : (o : Option PlaceStep) → NextAgrees stages.Tail (text.item_result h o)
  item_result_tail (Some (place_steps.Goes expected)) = refl
  item_result_tail (Some (place_steps.Ends w)) = refl
  item_result_tail None = tt

  item_start_tail : (n : ℕ) (t : Token) → NextAgrees stages.Tail (text.item_start n h t)
  item_start_tail n t = choose (has_thread n t)
    where
      choose : (b : Bool)
          → NextAgrees stages.Tail (if b then text.item_result h (place_step places.Begins t)
          else None)
      choose true = item_result_tail (place_step places.Begins t)
      choose false = tt

  next_item_tail : (n : ℕ) (t : Token) → NextAgrees stages.Tail (text.next_item kinds.Test n h t)
  next_item_tail n (tokens.Mark marks.CloseBracket) = refl
  next_item_tail n t = item_start_tail n t

  item_ended_tail : (t : Token) → AllTail (text.item_ended kinds.Test t)
  item_ended_tail (tokens.Mark marks.Semicolon) = refl
  item_ended_tail (tokens.Mark marks.CloseBracket) = refl
  item_ended_tail t = tt

  item_tail : (n : ℕ) (expected : ItemExpectation) (t : Token)
      → NextAgrees stages.Tail (text.item_read kinds.Test n h expected t)
  item_tail n items.WantsFirst t = item_start_tail n t
  item_tail n items.WantsNext t = next_item_tail n t
  item_tail n (items.InItem expected) t = item_result_tail (place_step expected t)
  item_tail n items.HasItem t = leads_tail (text.item_ended kinds.Test t) (item_ended_tail t)

  proposition_tail : (q : Quantifier) (f : condition.ConditionStepResult)
      → NextAgrees stages.Tail (text.proposition_result h q f)
  proposition_tail q (condition.Goes fs used expected) = refl
  proposition_tail q (condition.Ends a) = refl
  proposition_tail q condition.Refuses = tt

  tail_agrees : (p : Part) (t : Token) (offset : ℕ) → in_tail p ≡ true
      → NextAgrees stages.Tail (part_step kinds.Test 0 h p t offset)
  tail_agrees text.WantsList t offset i = leads_tail (text.list_opened t) (opened_tail t)
  tail_agrees (text.Item expected) t offset i =
      item_tail (text.threads_in kinds.Test 0 h) expected t
  tail_agrees text.WantsQuantifier t offset i =
      leads_tail (text.quantifier_read t) (quantifier_tail t)
  tail_agrees text.AfterTilde t offset i = leads_tail (text.exists_read t) (exists_tail t)
  tail_agrees (text.Proposition q fs used expected) t offset i =
      proposition_tail q (condition.proposition_step condition_limits (text.threads_in kinds.Test 0 h) fs used
      expected t)
  tail_agrees text.Done t offset i = tt
  tail_agrees p t offset i = absurd (false≢true i)

  -- ---- the rows

  taken_agrees : (g : Stage) (o : Option table.TableState) → IsMatched g o
      → NextAgrees g (text.table_result h text.Rows o)
  taken_agrees g None m = tt
  taken_agrees stages.CellBegins (Some u) m = m
  taken_agrees stages.InCell (Some u) m = m
  taken_agrees g (Some u) m = absurd m

  begins_at : (x : table.CellExpectation) → table.is_begin x ≡ true → x ≡ table.Begins
  begins_at table.Begins e = refl
  begins_at x e = absurd (false≢true e)

  only_begins : (g : Stage) (x : table.CellExpectation) → Matches g x → x ≡ table.Begins
      → g ≡ stages.CellBegins
  only_begins stages.CellBegins table.Begins m e = refl
  only_begins stages.InCell table.Labelled m e = absurd (false≢true (ap table.is_begin e))
  only_begins stages.InCell (table.InInstruction p) m e = absurd (false≢true (ap table.is_begin e))
  only_begins stages.InCell (table.WantsLabel c) m e = absurd (false≢true (ap table.is_begin e))
  only_begins stages.InCell table.Whole m e = absurd (false≢true (ap table.is_begin e))
  only_begins g x m e = absurd m

  to_tail : (t : Token) → begins_tail t ≡ true → next_stage stages.CellBegins t ≡ stages.Tail
  to_tail (tokens.Word w) e = ap (λ (b : Bool). if b then stages.Tail else stages.InCell) e
  to_tail (tokens.Mark marks.Tilde) e = refl
  to_tail t e = absurd (false≢true e)

  row_agrees : (g : Stage) (t : Token) (offset : ℕ) → Matches g h.table.expected
      → NextAgrees (next_stage g t) (text.row_read h t offset)
  row_agrees g t offset m = choose (table.is_row_start h.table && begins_tail t) refl
    where
      choose : (b : Bool) → (table.is_row_start h.table && begins_tail t) ≡ b
          → NextAgrees (next_stage g t) (if b then text.next_at h (text.tail_start t)
          else text.table_result h text.Rows (table.table_step h.table t offset))
      choose true e =
          let x = and_parts (table.is_row_start h.table) (begins_tail t) e in
          let y = and_parts (h.table.column == 0) (table.is_begin h.table.expected) x.0 in
          let first : g ≡ stages.CellBegins = only_begins g h.table.expected m (begins_at h.table.expected y.1) in
          subst (λ (f : Stage). NextAgrees f (text.next_at h (text.tail_start t)))
          (sym (ap (λ (f : Stage). next_stage f t) first ∙ to_tail t x.1))
          (leads_tail (text.tail_start t) (start_tail t))
      choose false e =
          taken_agrees (next_stage g t) (table.table_step h.table t offset) (step_matches h.table.threads
          h.table.column offset g h.table.expected t m)

-- ---- each token keeps it so

rows_agree : (g : Stage) (h : Draft) (p : Part) (t : Token) (offset : ℕ)
    → AgreesRows g p h.table.expected → NextAgrees (next_stage g t) (part_step kinds.Test 0 h p t offset)
rows_agree g h text.Rows t offset a = row_agrees h g t offset a
rows_agree g h p t offset a = absurd a

pub step_agrees : (g : Stage) (p : Part) (h : Draft) (t : Token) (offset : ℕ)
    → Agrees g p h.table.expected → NextAgrees (next_stage g t) (part_step kinds.Test 0 h p t offset)
step_agrees stages.Magic text.Magic h t offset a = magic_agrees h a t
step_agrees stages.Title text.Title h t offset a = title_agrees h a t
step_agrees stages.TitleEnd text.TitleEnd h t offset a = title_end_agrees h a t
step_agrees stages.Head (text.Head b) h t offset a = head_agrees h a b t
step_agrees (stages.Init false x) (text.Init expected) h t offset a =
    init_agrees h a x expected t offset
step_agrees (stages.Header k) text.WantsColumn h t offset a = column_agrees h a k t
step_agrees (stages.Header k) text.HasColumn h t offset a = ended_agrees h a k t
step_agrees stages.CellBegins p h t offset a = rows_agree stages.CellBegins h p t offset a
step_agrees stages.InCell p h t offset a = rows_agree stages.InCell h p t offset a
step_agrees stages.Tail p h t offset a = tail_agrees h p t offset a
step_agrees g p h t offset a = absurd a

-- where the reader of a test stands behind some tokens
pub record Stood (g : Stage) (s : TextState) : Type 0 where
  pub part : Part
  pub draft : Draft
  pub same : s ≡ test_at g part draft
  pub agrees : Agrees g part draft.table.expected

stood_on : (ps : List TokenAt) (g : Stage) (p : Part) (h : Draft) (s : TextState)
    → Agrees g p h.table.expected → run_parts (test_at g p h) ps ≡ Ok s
    → Stood (stage_after g (test_tokens_of ps)) s
stood_on [] g p h s a e =
    let same : test_at g p h ≡ s = same_state _ _ e in
    record { part = p; draft = h; same = sym same; agrees = a }
stood_on (q ∷ ps) g p h s a e =
    by_next (part_step kinds.Test 0 h p q.token q.offset) (step_agrees g p h q.token q.offset a) e
    (λ n x k. stood_on ps (next_stage g q.token) n.part n.draft s x k)
  where
    by_next : (o : Option Next) → NextAgrees (next_stage g q.token) o
        → and_then (with_offset q.offset (stepped (test_at g p h) q.token o)) (λ x. run_parts x ps) ≡ Ok s
        → ((n : Next) → Agrees (next_stage g q.token) n.part n.draft.table.expected
        → run_parts (test_at (next_stage g q.token) n.part n.draft) ps ≡ Ok s
        → Stood (stage_after (next_stage g q.token) (test_tokens_of ps)) s)
        → Stood (stage_after g (test_tokens_of (q ∷ ps))) s
    by_next None x k later = absurd (not_both _ _ k)
    by_next (Some n) x k later = later n x k

pub stood : (ps : List TokenAt) (s : TextState) → run_parts (text.text_start kinds.Test 0) ps ≡ Ok s
    → Stood (stage_after stages.Magic (test_tokens_of ps)) s
stood ps s e = stood_on ps stages.Magic text.Magic (text.nothing kinds.Test) s refl e
