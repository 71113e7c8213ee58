-- Where the reader of a test stops, there is the fault.
use Rattle.std.proofs.Common.{◌≡◌, ℕ, zero, suc, ◌+◌, ◌<◌, ◌⊎◌, inl, inr, Bool, true, false, List, [], ◌∷◌, ◌++◌, length, append_assoc, Option, Some, None, Ok, Err, refl, sym, ap, ◌∙◌, subst, arith}
use Rattle.std.specs.Prelude.{◌&&◌, ◌||◌, codes, if◌then◌else◌}
use Rattle.std.specs.Str.{bytes_eq}
use Rattle.std.proofs.lemmas.List.{length-append}
use Rattle.std.proofs.lemmas.Bool.{and_parts, or_from, or_parts, false≢true}
use Rattle.std.proofs.lemmas.Option.{none-some}
use Rattle.litmus_tokens.specs.declared.rule.LitmusRule.{LitmusRule}
use Rattle.litmus_tokens.specs.declared.stage.Stage.{Stage}
use Rattle.litmus_tokens.specs.declared.stage.Stage.TheVariants as stages
use Rattle.litmus_tokens.specs.declared.token.Token.{Token}
use Rattle.litmus_tokens.specs.declared.token.Token.TheVariants as tokens
use Rattle.litmus_tokens.specs.declared.token.Mark.TheVariants as marks
use Rattle.litmus_tokens.specs.Faults.{Begins, CanFollow, cell_ruling, ruling, RulingSays, IsFault}
use Rattle.litmus_tokens.specs.Stage.{next_stage}
use Rattle.litmus_tokens.specs.Texts.{TokenAt, test_tokens_of, stage_after, begins_tail}
use Rattle.litmus_tokens.specs.Words.{is_test_name}
use Rattle.text_values.specs.declared.test.Quantifier.TheVariants.{Exists, Forall}
use Rattle.litmus_tokens.specs.Conditions.{PlaceTree, Location, Register, ValueTree, Number, Address, spelled_place, spelled_value}
use Rattle.litmus_table.specs.Laws.{IsInCell, stands, is_taken}
use Rattle.litmus_words.specs.Machine as table
use Rattle.litmus_table.proofs.Rules.{rules_given}
use Rattle.litmus_grammar.specs.declared.parts.TextKind.TheVariants as kinds
use Rattle.litmus_grammar.specs.Grammar.{Listed, EntryTree, spelled_entry, spelled_others, spelled_listed, spelled_init, members, AreEntryTrees, IsInitText, spelled_text, spelled_keylines}
use Rattle.litmus_grammar.specs.InitMachine as init
use Rattle.litmus_grammar.specs.TextMachine as text
use Rattle.litmus_grammar.specs.TextMachine.{Part, Draft, Next, TextState, with_offset, and_then, stepped, part_step, text_start, run_parts, text_rule_at}
use Rattle.litmus_grammar.specs.Texts.{is_init, spelled_colon, IsBrokenOff, IsWhole, BreaksOff}
use Rattle.litmus_grammar.proofs.Blocks.{IsBody, Opened, IsOne, IsBroken, brace_at, block_at, block_begins, body_of}
use Rattle.litmus_grammar.proofs.Bodies.{any_header}
use Rattle.litmus_grammar.proofs.Conditions.{tail_says}
use Rattle.litmus_grammar.proofs.Equations.{no_first, same_first, same_others}
use Rattle.litmus_grammar.proofs.Heads.{magic, IsHeaded, any_body, test_of, keylines-append}
use Rattle.litmus_grammar.proofs.Outcomes.{not_both, stopped_is}
use Rattle.litmus_grammar.proofs.Passing.{test_at}
use Rattle.litmus_grammar.proofs.Runs.{tokens_of-append, went, run_one}
use Rattle.litmus_grammar.proofs.Spelled.{init-append}
use Rattle.litmus_grammar.proofs.Splits.{Rest, Nothing, More, rest_of}
use Rattle.litmus_grammar.proofs.TestParts.{Agrees, AgreesRows, stood}
use Rattle.litmus_grammar.proofs.TestAcceptance.{IsText, IsBegun, test_refused, first_draft}
use Rattle.litmus_grammar.proofs.Threads.{says_so}
use Rattle.litmus_grammar.proofs.InitStarts.{bracket}

-- ---- within the entries no token leads out of the init block

-- before each of these tokens the part is the init block
abbrev Holds : Stage → List Token → Type 0
Holds g [] = Unit {0}
Holds g (t ∷ ts) = (is_init g ≡ true) × Holds (next_stage g t) ts

abbrev within : Bool → Stage
within x = stages.Init false x

before_one : (b : List Token) (g : Stage) (ts : List Token) (t : Token) (r : List Token)
    → Holds g ts → b ++ t ∷ r ≡ ts → is_init (stage_after g b) ≡ true
before_one [] g [] t r h e = absurd (no_first (sym e))
before_one [] g (u ∷ ts) t r h e = h.0
before_one (c ∷ b) g [] t r h e = absurd (no_first (sym e))
before_one (c ∷ b) g (u ∷ ts) t r h e =
    let first : c ≡ u = same_first e in
    let others : b ++ t ∷ r ≡ ts = same_others e in
    subst (λ (x : Token). is_init (stage_after (next_stage g x) b) ≡ true) (sym first)
    (before_one b (next_stage g u) ts t r h.1 others)

value_holds : (v : ValueTree) (rest : List Token) → ((y : Bool) → Holds (within y) rest)
    → (x : Bool) → Holds (within x) (spelled_value v rest)
value_holds (Number negative ds) rest k x = (refl, k false)
value_holds (Address n) rest k x = (refl, k true)

place_holds : (p : PlaceTree) (rest : List Token) → ((y : Bool) → Holds (within y) rest)
    → (x : Bool) → Holds (within x) (spelled_place p rest)
place_holds (Location false n) rest k x = (refl, k true)
place_holds (Location true n) rest k x = (refl, (refl, (refl, k false)))
place_holds (Register t r) rest k x = (refl, (refl, (refl, k true)))

entry_holds : (e : EntryTree) (rest : List Token) → ((y : Bool) → Holds (within y) rest)
    → (x : Bool) → Holds (within x) (spelled_entry e rest)
entry_holds e rest k x =
    place_holds e.place (tokens.Mark marks.Equals ∷ spelled_value e.value rest)
    (λ y. (refl, value_holds e.value rest k false)) x

others_hold : (closed : Bool) (es : List EntryTree) (rest : List Token)
    → ((y : Bool) → Holds (within y) rest) → (x : Bool)
    → Holds (within x) (spelled_others spelled_entry closed es rest)
others_hold true [] rest k x = (refl, k false)
others_hold false [] rest k x = k x
others_hold closed (e ∷ es) rest k x = (
  refl,
  entry_holds e (spelled_others spelled_entry closed es rest) (others_hold closed es rest k)
      false,
)

closing_holds : (x : Bool) → Holds (within x) (tokens.Mark marks.CloseBrace ∷ [])
closing_holds x = (refl, tt)

listed_hold : (o : Option (Listed EntryTree)) (x : Bool)
    → Holds (within x) (spelled_listed spelled_entry o (tokens.Mark marks.CloseBrace ∷ []))
listed_hold None x = closing_holds x
listed_hold (Some l) x =
    entry_holds l.first
    (spelled_others spelled_entry l.closed l.others (tokens.Mark marks.CloseBrace ∷ []))
    (others_hold l.closed l.others (tokens.Mark marks.CloseBrace ∷ []) closing_holds) x

-- ---- a text that is broken off within its init block

-- a bracket opens no block
no_brace : bracket ≡ tokens.Mark marks.OpenBrace → ⊥
no_brace e = absurd cc

not_last : (xs ys : List Token) → xs ++ bracket ∷ [] ≡ ys ++ tokens.End ∷ [] → ⊥
not_last [] [] e = absurd cc
not_last [] (y ∷ []) e = absurd (no_first (same_others e))
not_last [] (y ∷ z ∷ ys) e = absurd (no_first (same_others e))
not_last (x ∷ []) [] e = absurd (no_first (sym (same_others e)))
not_last (x ∷ w ∷ xs) [] e = absurd (no_first (sym (same_others e)))
not_last (x ∷ xs) (y ∷ ys) e =
    let others : xs ++ bracket ∷ [] ≡ ys ++ tokens.End ∷ [] = same_others e in
    not_last xs ys others

abbrev IsBrokenInit : List Token → Type 0
IsBrokenInit = IsBrokenOff IsInitText (stages.Init true false)

abbrev IsBodyStart : List Token → Type 0
IsBodyStart ts = IsBody ts ⊎ IsBrokenInit ts

abbrev AnyState : TextState → Type 0
AnyState s = Unit {0}

any_start : Begins IsBodyStart []
any_start = record { rest = any_body.rest; text = inl any_body.text }

start_from : (name : List ℕ) (ps : List TokenAt) (n : ℕ) (g : Stage) (s : TextState)
    → length ps + 1 < 18446744073709551616 → run_parts (block_at name g) ps ≡ Ok s → AnyState s
    → Begins IsBodyStart (test_tokens_of (brace_at n ∷ ps))
start_from name ps n g s few e q = by_opened (block_begins name ps n g s few e)
  where
    by_opened : Opened name ps n s → Begins IsBodyStart (test_tokens_of (brace_at n ∷ ps))
    by_opened (IsOne b) = record { rest = b.rest; text = inl b.text }
    by_opened (IsBroken i rest x) = record { rest = rest; text = inr x }

abbrev head_of : List ℕ → Bool → ℕ → List Token → List Token
head_of name t k rest =
    tokens.Word (codes "PPC") ∷ tokens.Word name ∷ tokens.LineEnd
    ∷ spelled_text t (spelled_keylines k rest)

text-append : (t : Bool) (k : ℕ) (xs ys : List Token)
    → spelled_text t (spelled_keylines k xs) ++ ys ≡ spelled_text t (spelled_keylines k (xs ++ ys))
text-append true k xs ys = ap (λ (l : List Token). tokens.Text ∷ l) (keylines-append k xs ys)
text-append false k xs ys = keylines-append k xs ys

head-append : (name : List ℕ) (t : Bool) (k : ℕ) (xs ys : List Token)
    → head_of name t k xs ++ ys ≡ head_of name t k (xs ++ ys)
head-append name t k xs ys =
    ap (λ (l : List Token). tokens.Word (codes "PPC") ∷ tokens.Word name ∷ tokens.LineEnd ∷ l)
    (text-append t k xs ys)

keylines_stage : (k : ℕ) (xs : List Token)
    → stage_after stages.Head (spelled_keylines k xs) ≡ stage_after stages.Head xs
keylines_stage zero xs = refl
keylines_stage (suc k) xs = keylines_stage k xs

head_stage : (name : List ℕ) (t : Bool) (k : ℕ) (xs : List Token)
    → stage_after stages.Magic (head_of name t k xs) ≡ stage_after stages.Head xs
head_stage name true k xs = keylines_stage k xs
head_stage name false k xs = keylines_stage k xs

whole_of : (name : List ℕ) → is_test_name name ≡ true → (t : Bool) (k : ℕ) (body : List Token)
    → IsBody body → IsText (head_of name t k body)
whole_of name i t k body b =
    let x = test_of (head_of name t k body) (record { name = name; is_name = i; lines = spelled_text t (spelled_keylines k body); head = (t, k, body, b, refl); whole = refl }) in
    record { tree = x.tree; fine = x.fine; whole = x.whole }

module _ (name : List ℕ) (i : is_test_name name ≡ true) (t : Bool) (k : ℕ) (behind : List Token)
    (x : IsBrokenInit behind) where
  in_init_by : (before us : List Token) (es : Option (Listed EntryTree))
      → (before ++ bracket ∷ []) ++ us ≡ spelled_init es []
      → is_init (stage_after stages.Head before) ≡ true
  in_init_by [] us es e = absurd (no_brace (same_first e))
  in_init_by (b ∷ before) us es e =
      let first : b ≡ tokens.Mark marks.OpenBrace = same_first e in
      let others : (before ++ bracket ∷ []) ++ us ≡ spelled_listed spelled_entry es (tokens.Mark marks.CloseBrace ∷ []) = same_others e in
      subst (λ (y : Token). is_init (stage_after (next_stage stages.Head y) before) ≡ true) (sym first)
      (before_one before (within false)
      (spelled_listed spelled_entry es (tokens.Mark marks.CloseBrace ∷ [])) bracket us
      (listed_hold es false) (sym (append_assoc before (bracket ∷ []) us) ∙ others))

  broken_by : (es : Option (Listed EntryTree)) → AreEntryTrees [] (members es)
      → Rest (x.before ++ bracket ∷ []) x.entry.rest (spelled_init es []) tokens.End
      → IsBrokenOff IsText stages.Magic (head_of name t k behind)
  broken_by es fine (Nothing e) = absurd (not_last x.before (spelled_init es []) e)
  broken_by es fine (More more e m) =
      let any = any_header [] init.init_start false 0 (omega arith) in
      let ts = x.before ++ bracket ∷ [] in
      let body = body_of [] (ts ++ more) any.rest es fine m any.text in
      let whole = whole_of name i t k ((ts ++ more) ++ any.rest) body in
      let same : head_of name t k ((ts ++ more) ++ any.rest) ≡ (head_of name t k x.before ++ bracket ∷ []) ++ (more ++ any.rest) =
      ap (head_of name t k) (append_assoc ts more any.rest)
      ∙ sym (head-append name t k ts (more ++ any.rest))
      ∙ ap (λ (l : List Token). l ++ (more ++ any.rest))
      (sym (head-append name t k x.before (bracket ∷ []))) in
      record {
        before = head_of name t k x.before;
        in_init = ap is_init (head_stage name t k x.before) ∙ in_init_by x.before more es m;
        entry = record { rest = more ++ any.rest; text = subst IsText same whole };
        thread = x.thread;
        colon = x.colon;
        whole =
            ap (head_of name t k) x.whole
            ∙ sym (head-append name t k x.before
            (tokens.Number false x.thread ∷ spelled_colon x.colon));
      }

  broken_of : IsBrokenOff IsText stages.Magic (head_of name t k behind)
  broken_of =
      let e = x.entry.text in
      broken_by e.entries e.fine (rest_of (x.before ++ bracket ∷ []) x.entry.rest
      (spelled_init e.entries []) tokens.End
      (e.whole ∙ sym (init-append e.entries [] (tokens.End ∷ []))))

start_of : (ts : List Token) → IsHeaded IsBodyStart AnyState any_start start_from ts → IsBegun ts
start_of ts x = by_body x.head.3
  where
    same : ts ≡ head_of x.name x.head.0 x.head.1 x.head.2
    same =
        x.whole
        ∙ ap
        (λ (l : List Token). tokens.Word (codes "PPC") ∷ tokens.Word x.name ∷ tokens.LineEnd
        ∷ l) x.head.4

    by_body : IsBodyStart x.head.2 → IsBegun ts
    by_body (inl b) =
        subst IsBegun (sym same) (IsWhole (whole_of x.name x.is_name x.head.0 x.head.1 x.head.2 b))
    by_body (inr b) =
        subst IsBegun (sym same) (BreaksOff
        (broken_of x.name x.is_name x.head.0 x.head.1 x.head.2 b))

-- what is taken begins a test, or a text that is broken off
pub test_begins : (ps : List TokenAt) (s : TextState) → length ps < 18446744073709551616
    → run_parts first_draft ps ≡ Ok s → Begins IsBegun (test_tokens_of ps)
test_begins ps s few e =
    let b = magic IsBodyStart AnyState any_start start_from ps stages.Magic s few e tt in
    record { rest = b.rest; text = start_of (test_tokens_of ps ++ b.rest) b.text }

-- ---- the rule that a refused token breaks

-- a token of the table goes on, or ends it
begins_goes : (t : Token) → begins_tail t ≡ true → text.tail_start t ≡ None → ⊥
begins_goes (tokens.Word w) e n =
    choose (bytes_eq w (codes "locations")) (bytes_eq w (codes "exists"))
    (bytes_eq w (codes "forall")) e n
  where
    choose : (a b c : Bool) → (a || b || c) ≡ true
        → (if a then Some text.WantsList
        else (if b then Some (text.proposition_part Exists)
        else (if c then Some (text.proposition_part Forall) else None))) ≡ None → ⊥
    choose true b c e n = absurd (none-some _ (sym n))
    choose false true c e n = absurd (none-some _ (sym n))
    choose false false true e n = absurd (none-some _ (sym n))
    choose false false false e n = absurd (false≢true e)
begins_goes (tokens.Mark marks.Tilde) e n = absurd (none-some _ (sym n))
begins_goes t e n = absurd (false≢true e)

none_led : (h : Draft) (o : Option Part) → text.next_at h o ≡ None → o ≡ None
none_led h None e = refl
none_led h (Some p) e = absurd (none-some _ (sym e))

none_result : (h : Draft) (o : Option table.TableState) → text.table_result h text.Rows o ≡ None
    → is_taken o ≡ false
none_result h None e = refl
none_result h (Some u) e = absurd (none-some _ (sym e))

not_taken : (o : Option table.TableState) → is_taken o ≡ false → o ≡ None
not_taken None e = refl
not_taken (Some u) e = absurd (false≢true (sym e))

module _ (h : Draft) (t : Token) where
  abbrev ends_row : Bool
  ends_row = table.is_row_start h.table && begins_tail t

  stops_where : text.row_read h t 0 ≡ None → stands false h.table t ≡ false
  stops_where none = choose ends_row refl none
    where
      choose : (b : Bool) → ends_row ≡ b
          → (if b then text.next_at h (text.tail_start t)
          else text.table_result h text.Rows (table.table_step h.table t 0)) ≡ None
          → stands false h.table t ≡ false
      choose true e k =
          absurd (begins_goes t (and_parts (table.is_row_start h.table) (begins_tail t) e).1
          (none_led h (text.tail_start t) k))
      choose false e k =
          or_from (is_taken (table.table_step h.table t 0)) (table.is_row_start h.table && begins_tail t)
          (none_result h (table.table_step h.table t 0) k) e

  stuck : stands false h.table t ≡ false → text.row_read h t 0 ≡ None
  stuck e =
      let x = or_parts (is_taken (table.table_step h.table t 0)) (table.is_row_start h.table && begins_tail t) e in
      ap
      (λ (b : Bool). if b then text.next_at h (text.tail_start t)
      else text.table_result h text.Rows (table.table_step h.table t 0)) x.1
      ∙ ap (text.table_result h text.Rows) (not_taken (table.table_step h.table t 0) x.0)

module _ (ps : List TokenAt) (few : length ps + 1 < 18446744073709551616) (g : Stage) (h : Draft)
    (reached : run_parts first_draft ps ≡ Ok (test_at g text.Rows h)) where
  abbrev Can : Token → Type 0
  Can t = CanFollow IsBegun (test_tokens_of ps) t

  abbrev there : TextState
  there = test_at g text.Rows h

  goes : (t : Token) (n : Next) → text.row_read h t 0 ≡ Some n → Can t
  goes t n e =
      let p : TokenAt = record { token = t; offset = 0 } in
      let many : length (ps ++ p ∷ []) ≡ length ps + 1 = length-append ps (p ∷ []) in
      subst (Begins IsBegun) (tokens_of-append ps (p ∷ [])) (test_begins (ps ++ p ∷ [])
      (went there t n)
      (let l : length (ps ++ p ∷ []) < 18446744073709551616 = omega (arith, many, few) in l)
      (run_one first_draft there ps p n reached e))

  can_by : (t : Token) → stands false h.table t ≡ true → Can t
  can_by t e = choose (text.row_read h t 0) refl
    where
      choose : (o : Option Next) → text.row_read h t 0 ≡ o → Can t
      choose (Some n) q = goes t n q
      choose None q = absurd (false≢true (sym (stops_where h t q) ∙ e))

  can_not : (t : Token) (offset : ℕ) → text.row_read h t offset ≡ None → Can t → ⊥
  can_not t offset none c =
      test_refused ps there (record { token = t; offset = offset }) few reached none c

  by_can : (t : Token) → Can t → stands false h.table t ≡ true
  by_can t c = choose (stands false h.table t) refl
    where
      choose : (b : Bool) → stands false h.table t ≡ b → stands false h.table t ≡ true
      choose true e = e
      choose false e = absurd (can_not t 0 (stuck h t e) c)

  out : (t : Token) (offset : ℕ) → text.row_read h t offset ≡ None → stands false h.table t ≡ false
  out t offset none = choose (stands false h.table t) refl
    where
      choose : (b : Bool) → stands false h.table t ≡ b → stands false h.table t ≡ false
      choose true e = absurd (can_not t offset none (can_by t e))
      choose false e = e

  cell_says : (f : Stage) (t : Token) (offset : ℕ) → IsInCell f → text.row_read h t offset ≡ None
      → RulingSays Can f (cell_ruling f t) (table.table_rule_at false h.table t)
  cell_says f t offset i none =
      says_so (λ x. stands false h.table x ≡ true) Can f (cell_ruling f t)
      (table.table_rule_at false h.table t) can_by by_can
      (rules_given false h.table f t i (out t offset none))

by_stage : (C : Token → Type 0) (u : table.TableState) (g : Stage) (t : Token) → IsInCell g
    → RulingSays C g (cell_ruling g t) (table.table_rule_at false u t)
    → RulingSays C g (ruling g t) (text_rule_at kinds.Test u g t)
by_stage C u stages.CellBegins (tokens.Broken rule) i x = refl
by_stage C u stages.CellBegins t i x = x
by_stage C u stages.InCell (tokens.Broken rule) i x = refl
by_stage C u stages.InCell t i x = x
by_stage C u g t i x = absurd i

module _ (C : Token → Type 0) (u : table.TableState) where
  magic_says : (t : Token)
      → RulingSays C stages.Magic (ruling stages.Magic t) (text_rule_at kinds.Test u stages.Magic t)
  magic_says (tokens.Broken rule) = refl
  magic_says (tokens.Word w) = refl
  magic_says t = refl

  title_says : (t : Token)
      → RulingSays C stages.Title (ruling stages.Title t) (text_rule_at kinds.Test u stages.Title t)
  title_says (tokens.Broken rule) = refl
  title_says (tokens.Word w) = refl
  title_says t = refl

  title_end_says : (t : Token)
      → RulingSays C stages.TitleEnd (ruling stages.TitleEnd t) (text_rule_at kinds.Test u stages.TitleEnd t)
  title_end_says (tokens.Broken rule) = refl
  title_end_says (tokens.Word w) = refl
  title_end_says t = refl

  head_says : (t : Token)
      → RulingSays C stages.Head (ruling stages.Head t) (text_rule_at kinds.Test u stages.Head t)
  head_says (tokens.Broken rule) = refl
  head_says (tokens.Word w) = refl
  head_says t = refl

  init_says : (a x : Bool) (t : Token)
      → RulingSays C (stages.Init a x) (ruling (stages.Init a x) t)
      (text_rule_at kinds.Test u (stages.Init a x) t)
  init_says a x (tokens.Broken rule) = refl
  init_says a true (tokens.Word w) = refl
  init_says a false (tokens.Word w) = refl
  init_says a true t = refl
  init_says a false t = refl

  header_says : (k : ℕ) (t : Token)
      → RulingSays C (stages.Header k) (ruling (stages.Header k) t)
      (text_rule_at kinds.Test u (stages.Header k) t)
  header_says k (tokens.Broken rule) = refl
  header_says k (tokens.Word w) = refl
  header_says k t = refl

module _ (ps : List TokenAt) (few : length ps + 1 < 18446744073709551616) (g : Stage) (p : Part)
    (h : Draft) (reached : run_parts first_draft ps ≡ Ok (test_at g p h)) (t : Token) (offset : ℕ) where
  abbrev Follows : Token → Type 0
  Follows x = CanFollow IsBegun (test_tokens_of ps) x

  rows_say : (f : Stage) → IsInCell f → AgreesRows f p h.table.expected
      → part_step kinds.Test 0 h p t offset ≡ None
      → RulingSays Follows f (ruling f t) (text_rule_at kinds.Test h.table f t)
  rows_say f i a none = by_part p reached a none
    where
      by_part : (q : Part) → run_parts first_draft ps ≡ Ok (test_at g q h)
          → AgreesRows f q h.table.expected → part_step kinds.Test 0 h q t offset ≡ None
          → RulingSays Follows f (ruling f t) (text_rule_at kinds.Test h.table f t)
      by_part text.Rows r b n =
          by_stage Follows h.table f t i (cell_says ps few g h r f t offset i n)
      by_part q r b n = absurd b

  all_say : (f : Stage) → Agrees f p h.table.expected → part_step kinds.Test 0 h p t offset ≡ None
      → RulingSays Follows f (ruling f t) (text_rule_at kinds.Test h.table f t)
  all_say stages.Magic a none = magic_says Follows h.table t
  all_say stages.Title a none = title_says Follows h.table t
  all_say stages.TitleEnd a none = title_end_says Follows h.table t
  all_say stages.Head a none = head_says Follows h.table t
  all_say (stages.Init b x) a none = init_says Follows h.table b x t
  all_say (stages.Header k) a none = header_says Follows h.table k t
  all_say stages.CellBegins a none = rows_say stages.CellBegins tt a none
  all_say stages.InCell a none = rows_say stages.InCell tt a none
  all_say stages.Tail a none = tail_says Follows kinds.Test h.table t

pub test_says : (ps : List TokenAt) (s : TextState) (t : Token) (offset : ℕ)
    → length ps + 1 < 18446744073709551616 → run_parts first_draft ps ≡ Ok s
    → part_step s.kind s.threads s.draft s.part t offset ≡ None
    → RulingSays (CanFollow IsBegun (test_tokens_of ps)) (stage_after stages.Magic (test_tokens_of ps))
    (ruling (stage_after stages.Magic (test_tokens_of ps)) t)
    (text_rule_at s.kind s.draft.table s.stage t)
test_says ps s t offset few e none =
    let y = stood ps s e in
    let g = stage_after stages.Magic (test_tokens_of ps) in
    let still : part_step kinds.Test 0 y.draft y.part t offset ≡ None = ap (λ (x : TextState). part_step x.kind x.threads x.draft x.part t offset) (sym y.same) ∙ none in
    subst
    (λ (x : TextState). RulingSays (CanFollow IsBegun (test_tokens_of ps)) g (ruling g t)
    (text_rule_at x.kind x.draft.table x.stage t))
    (sym y.same)
    (all_say ps few g y.part y.draft (e ∙ ap (λ (x : TextState). Ok x) y.same) t offset g y.agrees
    still)

-- ---- the fault

go : (before : List TokenAt) (s : TextState) (rest : List TokenAt) (r : LitmusRule) (n : ℕ)
    → length (before ++ rest) < 18446744073709551616 → run_parts first_draft before ≡ Ok s
    → run_parts s rest ≡ Err (r, n) → IsFault IsBegun stages.Magic (before ++ rest) r n
go before s [] r n few reached e = absurd (not_both (r, n) s (sym e))
go before s (p ∷ rest) r n few reached e =
    by_next (part_step s.kind s.threads s.draft s.part p.token p.offset) refl e
    (λ x q h. rw (← append_assoc before (p ∷ []) rest) (go (before ++ p ∷ []) x rest r n
    (subst (λ (l : List TokenAt). length l < 18446744073709551616)
    (sym (append_assoc before (p ∷ []) rest)) few) q h))
  where
    short : length before + 1 < 18446744073709551616
    short =
        let many : length (before ++ p ∷ rest) ≡ length before + (length rest + 1) =
        (
        let a : length (before ++ p ∷ rest) ≡ length before + length (p ∷ rest) =
        length-append before (p ∷ rest) in
        omega (arith, a)) in
        omega (arith, many, few)

    fits : length before < 18446744073709551616
    fits = omega (arith, short)

    by_next : (o : Option Next) → part_step s.kind s.threads s.draft s.part p.token p.offset ≡ o
        → and_then (with_offset p.offset (stepped s p.token o)) (λ x. run_parts x rest) ≡ Err (r, n)
        → ((x : TextState) → run_parts first_draft (before ++ p ∷ []) ≡ Ok x → run_parts x rest ≡ Err (r, n)
        → IsFault IsBegun stages.Magic (before ++ p ∷ rest) r n)
        → IsFault IsBegun stages.Magic (before ++ p ∷ rest) r n
    by_next (Some x) q h f = f (went s p.token x) (run_one first_draft s before p x reached q) h
    by_next None q h f =
        let same : (text_rule_at s.kind s.draft.table s.stage p.token, p.offset) ≡ (r, n) = stopped_is (text_rule_at s.kind s.draft.table s.stage p.token, p.offset) (r, n) h in
        let stage = stage_after stages.Magic (test_tokens_of before) in
        record {
          before = before;
          here = p;
          behind = rest;
          split = refl;
          begins = test_begins before s fits reached;
          ends = test_refused before s p short reached q;
          at_place = ap (λ (x : LitmusRule × ℕ). x.1) same;
          number =
              subst (RulingSays (CanFollow IsBegun (test_tokens_of before)) stage (ruling stage p.token))
              (ap (λ (x : LitmusRule × ℕ). x.0) same)
              (test_says before s p.token p.offset short reached q);
        }

pub test_fault_where : (ps : List TokenAt) (r : LitmusRule) (n : ℕ)
    → length ps < 18446744073709551616 → run_parts first_draft ps ≡ Err (r, n)
    → IsFault IsBegun stages.Magic ps r n
test_fault_where ps r n few e = go [] first_draft ps r n few refl e
