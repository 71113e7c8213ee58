-- What the reader of a test takes, however many columns the test has.
use Rattle.std.proofs.Common.{◌≡◌, ℕ, ◌+◌, ◌<◌, ◌≤◌, ◌⊎◌, inl, inr, Bool, true, false, List, [], ◌∷◌, ◌++◌, length, append_assoc, Option, None, Ok, Err, refl, sym, ap, ◌∙◌, subst, arith}
use Rattle.std.proofs.lemmas.Bool.{cases_lt, false≢true}
use Rattle.std.proofs.lemmas.List.{length-append}
use Rattle.litmus_tokens.specs.declared.stage.Stage.{Stage}
use Rattle.litmus_tokens.specs.declared.stage.Stage.TheVariants as stages
use Rattle.litmus_tokens.specs.declared.token.Token.{Token}
use Rattle.litmus_tokens.specs.declared.token.Token.TheVariants as tokens
use Rattle.litmus_tokens.specs.declared.token.Mark.TheVariants as marks
use Rattle.litmus_tokens.specs.Stage.{next_stage}
use Rattle.litmus_tokens.specs.Texts.{TokenAt, test_tokens_of, stage_after}
use Rattle.litmus_tokens.specs.Words.{column_name, is_test_name}
use Rattle.litmus_tokens.specs.Faults.{CanFollow}
use Rattle.litmus_tokens.specs.Conditions.{condition_limits}
use Rattle.litmus_tokens.specs.declared.place.PlaceExpectation.{PlaceExpectation}
use Rattle.litmus_tokens.specs.declared.place.PlaceExpectation.TheVariants as places
use Rattle.litmus_table.specs.Grammar.{spelled_header, spelled_names, spelled_rows}
use Rattle.litmus_table.specs.Laws.{columns}
use Rattle.litmus_words.specs.Machine as table
use Rattle.litmus_grammar.specs.declared.parts.InitExpectation.{InitExpectation}
use Rattle.litmus_grammar.specs.declared.parts.InitExpectation.TheVariants as expectations
use Rattle.litmus_grammar.specs.declared.parts.TextKind.TheVariants as kinds
use Rattle.litmus_grammar.specs.Grammar.{spelled_init, members, AreEntryTrees, TestTree, spelled_head, spelled_observed, spelled_condition, spelled_test, IsTestTree, IsTestText}
use Rattle.litmus_grammar.specs.InitMachine as init
use Rattle.litmus_grammar.specs.TextMachine as text
use Rattle.litmus_grammar.specs.TextMachine.{Part, Draft, Next, TextState, TextResult, with_offset, and_then, stepped, part_step, text_start, run_parts, text_rule_at}
use Rattle.litmus_grammar.specs.Texts.{spelled_colon, is_init, IsBrokenOff, IsStart, IsWhole, BreaksOff}
use Rattle.litmus_grammar.proofs.Blocks.{brace_at, block_at, entries_led}
use Rattle.litmus_grammar.proofs.Bodies.{header_at, rows_at, name_step, names_led}
use Rattle.litmus_grammar.proofs.Equations.{no_first, same_first, same_others}
use Rattle.litmus_grammar.proofs.Heads.{in_head, head_led, head-append, test_led, length-tokens, names_count}
use Rattle.litmus_grammar.proofs.Outcomes.{not_both}
use Rattle.litmus_grammar.proofs.Passing.{test_at}
use Rattle.litmus_grammar.proofs.Runs.{tokens_of-append, anywhere, tokens_of-anywhere, run-split, run-append}
use Rattle.litmus_grammar.proofs.Spelled.{init-append, names-append}
use Rattle.litmus_grammar.proofs.Splits.{split}
use Rattle.litmus_grammar.proofs.TestParts.{Agrees, stood}
use Rattle.litmus_grammar.proofs.InitStarts.{bracket}

abbrev pub first_draft : TextState
first_draft = text_start kinds.Test 0

-- ---- lists

none_left : (ps : List TokenAt) → test_tokens_of ps ≡ [] → ps ≡ []
none_left [] e = refl
none_left (p ∷ ps) e = absurd (no_first (sym e))

-- the shorter of two beginnings of a list begins the other
shorter : (xs rest us vs : List Token) → xs ++ rest ≡ us ++ vs → length xs ≤ length us
    → (more : List Token) × (xs ++ more ≡ us)
shorter [] rest us vs e le = (us, refl)
shorter (x ∷ xs) rest [] vs e le = absurd (omega (arith, le))
shorter (x ∷ xs) rest (u ∷ us) vs e le =
    let first : x ≡ u = same_first e in
    let others : xs ++ rest ≡ us ++ vs = same_others e in
    let r = shorter xs rest us vs others (omega (arith, le)) in
    (r.0, ap (λ (t : Token). t ∷ (xs ++ r.0)) first ∙ ap (λ (l : List Token). u ∷ l) r.1)

drop_same : (xs ys zs : List Token) → xs ++ ys ≡ xs ++ zs → ys ≡ zs
drop_same [] ys zs e = e
drop_same (x ∷ xs) ys zs e =
    let others : xs ++ ys ≡ xs ++ zs = same_others e in
    drop_same xs ys zs others

-- what leads to the end of some tokens leads through the first of them
part_run : (s : TextState) (prefix rest : List TokenAt) (z : TextState) → run_parts s (prefix ++ rest) ≡ Ok z
    → (x : TextState) × (run_parts s prefix ≡ Ok x) × (run_parts x rest ≡ Ok z)
part_run s prefix rest z e = by_run (run_parts s prefix) refl (sym (run-split s prefix rest) ∙ e)
  where
    by_run : (r : TextResult) → run_parts s prefix ≡ r → and_then r (λ x. run_parts x rest) ≡ Ok z
        → (x : TextState) × (run_parts s prefix ≡ Ok x) × (run_parts x rest ≡ Ok z)
    by_run (Ok x) k h = (x, k, h)
    by_run (Err d) k h = absurd (not_both _ _ h)

with_rest : (ps : List TokenAt) (rest : List Token)
    → test_tokens_of (ps ++ anywhere rest) ≡ test_tokens_of ps ++ rest
with_rest ps rest =
    tokens_of-append ps (anywhere rest)
    ∙ ap (λ (l : List Token). test_tokens_of ps ++ l) (tokens_of-anywhere rest)

-- ---- the header is taken

abbrev header_of : TestTree → List Token
header_of t = spelled_header t.others []

abbrev prefix_of : TestTree → List Token
prefix_of t = spelled_head t (spelled_init t.init (header_of t))

body_prefix : (t : TestTree) (g : Stage) (may : Bool) (before behind : List TokenAt)
    → AreEntryTrees [] (members t.init) → test_tokens_of before ≡ spelled_init t.init []
    → test_tokens_of behind ≡ header_of t
    → (s : TextState) × (run_parts (in_head t.name g (text.Head may)) (before ++ behind) ≡ Ok s)
body_prefix t g may [] behind fine e k = absurd (no_first e)
body_prefix t g may (p ∷ q) [] fine e k = absurd (no_first k)
body_prefix t g may (p ∷ q) (w ∷ b) fine e k =
    let n = p.offset in
    let brace : p.token ≡ tokens.Mark marks.OpenBrace = same_first e in
    let is_brace : p ≡ brace_at n = ap (λ (x : Token). record { token = x; offset = p.offset }) brace in
    let same : test_tokens_of (brace_at n ∷ q) ≡ spelled_init t.init [] = ap (λ (x : TokenAt). test_tokens_of (x ∷ q)) (sym is_brace) ∙ e in
    let first : w.token ≡ tokens.Word (column_name 0) = same_first k in
    let others : test_tokens_of b ≡ spelled_names 1 t.others [] = same_others k in
    let g1 = next_stage g (tokens.Mark marks.OpenBrace) in
    let x = entries_led t.name t.init q n g1 fine same in
    let g2 = next_stage x.stage (tokens.Word (column_name 0)) in
    let l = names_led t.name x.block t.others 0 b [] g2 others in
    let there = rows_at t.name x.block l.stage (columns (0 + t.others)) in (
      there,
      ap (λ (y : TokenAt). run_parts (in_head t.name g (text.Head may)) (y ∷ (q ++ w ∷ b))) is_brace
          ∙ run-append (block_at t.name g1) (header_at t.name x.block false x.stage 0) q (w ∷ b)
          x.by
          ∙ ap
          (λ (y : Token). run_parts (header_at t.name x.block false x.stage 0)
          (record { token = y; offset = w.offset } ∷ b)) first
          ∙ name_step t.name x.block 0 w.offset b x.stage
          ∙ ap (run_parts (header_at t.name x.block true g2 0)) l.whole
          ∙ run-append (header_at t.name x.block true g2 0) there l.before l.left l.by
          ∙ ap (run_parts there) (none_left l.left l.are_left),
    )

prefix_led : (t : TestTree) (ps : List TokenAt) → is_test_name t.name ≡ true
    → AreEntryTrees [] (members t.init) → test_tokens_of ps ≡ prefix_of t
    → (s : TextState) × (run_parts first_draft ps ≡ Ok s)
prefix_led t ps i fine e =
    let h = head_led t.name t.text t.keylines ps (spelled_init t.init (header_of t)) i e in
    let cut = split h.left (spelled_init t.init []) (header_of t) (h.are_left ∙ sym (init-append t.init [] (header_of t))) in
    let r = body_prefix t h.stage h.may cut.before cut.behind fine cut.are_before cut.are_behind in (
      r.0,
      ap (run_parts first_draft) h.whole
          ∙ run-append first_draft (in_head t.name h.stage (text.Head h.may)) h.before h.left h.by
          ∙ ap (run_parts (in_head t.name h.stage (text.Head h.may))) cut.whole ∙ r.1,
    )

-- ---- what begins a test is taken

abbrev rows_of : TestTree → List Token
rows_of t =
    spelled_rows t.rows (spelled_observed t.observed (spelled_condition t.quantifier t.condition))

prefix-append : (t : TestTree) → prefix_of t ++ rows_of t ≡ spelled_test t
prefix-append t =
    ap (λ (l : List Token). l ++ rows_of t)
    (sym (head-append t (spelled_init t.init (header_of t))))
    ∙ append_assoc (spelled_head t []) (spelled_init t.init (header_of t)) (rows_of t)
    ∙ head-append t (spelled_init t.init (header_of t) ++ rows_of t)
    ∙ ap (spelled_head t) (init-append t.init (header_of t) (rows_of t)
    ∙ ap (λ (l : List Token). spelled_init t.init (tokens.Word (column_name 0) ∷ l))
    (names-append 1 t.others [] (rows_of t)))

prefix_length : (t : TestTree) → t.others + 1 ≤ length (prefix_of t)
prefix_length t =
    let many : t.others + 1 ≤ length (header_of t) = (let h = names_count 1 t.others [] in omega (arith, h)) in
    let a : length (spelled_init t.init (header_of t)) ≡ length (spelled_init t.init []) + length (header_of t) = ap (λ (l : List Token). length l) (sym (init-append t.init [] (header_of t))) ∙ length-append (spelled_init t.init []) (header_of t) in
    let b : length (prefix_of t) ≡ length (spelled_head t []) + length (spelled_init t.init (header_of t)) =
    ap (λ (l : List Token). length l) (sym (head-append t (spelled_init t.init (header_of t))))
    ∙ length-append (spelled_head t []) (spelled_init t.init (header_of t)) in
    omega (arith, many, a, b)

pub prefix_taken : (t : TestTree) → IsTestTree condition_limits t → (ps : List TokenAt) (rest : List Token)
    → length ps < 18446744073709551616 → test_tokens_of ps ++ rest ≡ spelled_test t
    → (s : TextState) × (run_parts first_draft ps ≡ Ok s)
prefix_taken t fine ps rest few e = choose (cases_lt (t.others + 1) 18446744073709551616)
  where
    through : (more : List Token) (z : TextState) → run_parts first_draft (ps ++ anywhere more) ≡ Ok z
        → (s : TextState) × (run_parts first_draft ps ≡ Ok s)
    through more z k = let r = part_run first_draft ps (anywhere more) z k in (r.0, r.1)

    choose : (t.others + 1 < 18446744073709551616) ⊎ (18446744073709551616 ≤ t.others + 1)
        → (s : TextState) × (run_parts first_draft ps ≡ Ok s)
    choose (inl lt) =
        let r = test_led t fine lt (ps ++ anywhere rest) (with_rest ps rest ∙ e) in
        through rest _ r.by
    choose (inr ge) =
        let long = prefix_length t in
        let same = length-tokens ps in
        let le : length (test_tokens_of ps) ≤ length (prefix_of t) = omega (arith, long, same, few, ge) in
        let c = shorter (test_tokens_of ps) rest (prefix_of t) (rows_of t) (e ∙ sym (prefix-append t)) le in
        let r = prefix_led t (ps ++ anywhere c.0) fine.name fine.init (with_rest ps c.0 ∙ c.1) in
        through c.0 r.0 r.1

abbrev pub IsText : List Token → Type 0
IsText = IsTestText condition_limits

abbrev pub IsBegun : List Token → Type 0
IsBegun = IsStart IsText stages.Magic

text_taken : (ps : List TokenAt) (rest : List Token) → length ps < 18446744073709551616
    → IsText (test_tokens_of ps ++ rest) → (s : TextState) × (run_parts first_draft ps ≡ Ok s)
text_taken ps rest few x = prefix_taken x.tree x.fine ps rest few x.whole

-- ---- a register's beginning, where an entry may begin

in_init_part : (g : Stage) (p : Part) (x : table.CellExpectation) → is_init g ≡ true → Agrees g p x
    → (expected : InitExpectation) × (p ≡ text.Init expected)
in_init_part (stages.Init false y) (text.Init expected) x i a = (expected, refl)
in_init_part (stages.Init b y) p x i a = absurd a
in_init_part g p x i a = absurd (false≢true i)

abbrev in_init_at : Stage → InitExpectation → Draft → TextState
in_init_at g expected h = test_at g (text.Init expected) h

colon_taken : (g : Stage) (d : List ℕ) (h : Draft) (colon : Bool) (qs : List TokenAt)
    (rest : List Token) → test_tokens_of qs ++ rest ≡ spelled_colon colon
    → (s : TextState) × (run_parts (in_init_at g (expectations.InPlace (places.WantsColon d)) h) qs ≡ Ok s)
colon_taken g d h colon [] rest e =
    (in_init_at g (expectations.InPlace (places.WantsColon d)) h, refl)
colon_taken g d h false (q ∷ qs) rest e = absurd (no_first (sym e))
colon_taken g d h true (q ∷ []) rest e =
    let same : q.token ≡ tokens.Mark marks.Colon = same_first e in (
      _,
      ap
          (λ (x : Token). run_parts (in_init_at g (expectations.InPlace (places.WantsColon d)) h)
          (record { token = x; offset = q.offset } ∷ [])) same,
    )
colon_taken g d h true (q ∷ r ∷ qs) rest e = absurd (no_first (sym (same_others e)))

entry_taken : (g : Stage) (d : List ℕ) (h : Draft) (colon : Bool) (qs : List TokenAt)
    (rest : List Token) → test_tokens_of qs ++ rest ≡ tokens.Number false d ∷ spelled_colon colon
    → (s : TextState) × (run_parts (in_init_at g expectations.WantsEntry h) qs ≡ Ok s)
entry_taken g d h colon [] rest e = (in_init_at g expectations.WantsEntry h, refl)
entry_taken g d h colon (q ∷ qs) rest e =
    let same : q.token ≡ tokens.Number false d = same_first e in
    let others : test_tokens_of qs ++ rest ≡ spelled_colon colon = same_others e in
    let r = colon_taken (next_stage g (tokens.Number false d)) d (text.with_init h (init.with_start h.init q.offset)) colon qs rest others in (
      r.0,
      ap
          (λ (x : Token). run_parts (in_init_at g expectations.WantsEntry h)
          (record { token = x; offset = q.offset } ∷ qs)) same ∙ r.1,
    )

place_taken : (g : Stage) (d : List ℕ) (h : Draft) (colon : Bool) (qs : List TokenAt)
    (rest : List Token) → test_tokens_of qs ++ rest ≡ tokens.Number false d ∷ spelled_colon colon
    → (s : TextState) × (run_parts (in_init_at g (expectations.InPlace places.Begins) h) qs ≡ Ok s)
place_taken g d h colon [] rest e = (in_init_at g (expectations.InPlace places.Begins) h, refl)
place_taken g d h colon (q ∷ qs) rest e =
    let same : q.token ≡ tokens.Number false d = same_first e in
    let others : test_tokens_of qs ++ rest ≡ spelled_colon colon = same_others e in
    let r = colon_taken (next_stage g (tokens.Number false d)) d (text.with_init h h.init) colon qs rest others in (
      r.0,
      ap
          (λ (x : Token). run_parts (in_init_at g (expectations.InPlace places.Begins) h)
          (record { token = x; offset = q.offset } ∷ qs)) same ∙ r.1,
    )

number_taken : (g : Stage) (expected : InitExpectation) (h : Draft) (z : TextState)
    → run_parts (in_init_at g expected h) (record { token = bracket; offset = 0 } ∷ []) ≡ Ok z
    → (d : List ℕ) (colon : Bool) (qs : List TokenAt) (rest : List Token)
    → test_tokens_of qs ++ rest ≡ tokens.Number false d ∷ spelled_colon colon
    → (s : TextState) × (run_parts (in_init_at g expected h) qs ≡ Ok s)
number_taken g expectations.WantsOpen h z k d colon qs rest e = absurd (not_both _ _ k)
number_taken g expectations.WantsEntry h z k d colon qs rest e = entry_taken g d h colon qs rest e
number_taken g (expectations.InPlace expected) h z k d colon qs rest e = by_place expected k
  where
    by_place : (expected : PlaceExpectation)
        → run_parts (in_init_at g (expectations.InPlace expected) h)
        (record { token = bracket; offset = 0 } ∷ []) ≡ Ok z
        → (s : TextState) × (run_parts (in_init_at g (expectations.InPlace expected) h) qs ≡ Ok s)
    by_place places.Begins j = place_taken g d h colon qs rest e
    by_place places.WantsName j = absurd (not_both _ _ j)
    by_place (places.WantsBracket n) j = absurd (not_both _ _ j)
    by_place (places.WantsColon n) j = absurd (not_both _ _ j)
    by_place (places.WantsRegister n) j = absurd (not_both _ _ j)
number_taken g (expectations.WantsEquals p) h z k d colon qs rest e = absurd (not_both _ _ k)
number_taken g (expectations.WantsValue p) h z k d colon qs rest e = absurd (not_both _ _ k)
number_taken g expectations.HasEntry h z k d colon qs rest e = absurd (not_both _ _ k)

-- ---- what begins a text that is broken off is taken

broken_taken : (ps : List TokenAt) (rest : List Token) → length ps < 18446744073709551616
    → IsBrokenOff IsText stages.Magic (test_tokens_of ps ++ rest)
    → (s : TextState) × (run_parts first_draft ps ≡ Ok s)
broken_taken ps rest few x = choose (cases_lt (length x.before) (length (test_tokens_of ps)))
  where
    number : List Token
    number = tokens.Number false x.thread ∷ spelled_colon x.colon

    within : (more : List Token) → test_tokens_of ps ++ more ≡ x.before
        → (s : TextState) × (run_parts first_draft ps ≡ Ok s)
    within more e =
        let us = more ++ (bracket ∷ x.entry.rest) in
        let same : (x.before ++ bracket ∷ []) ++ x.entry.rest ≡ test_tokens_of ps ++ us =
        append_assoc x.before (bracket ∷ []) x.entry.rest
        ∙ ap (λ (l : List Token). l ++ (bracket ∷ x.entry.rest)) (sym e)
        ∙ append_assoc (test_tokens_of ps) more (bracket ∷ x.entry.rest) in
        text_taken ps us few (subst IsText same x.entry.text)

    behind : (prefix back : List TokenAt) → ps ≡ prefix ++ back → test_tokens_of prefix ≡ x.before
        → test_tokens_of back ++ rest ≡ number → length prefix + 1 < 18446744073709551616
        → (s : TextState) × (run_parts first_draft ps ≡ Ok s)
    behind prefix back whole are_prefix are_back short =
        let one : List TokenAt = record { token = bracket; offset = 0 } ∷ [] in
        let same : (x.before ++ bracket ∷ []) ++ x.entry.rest ≡ test_tokens_of (prefix ++ one) ++ x.entry.rest =
        ap (λ (l : List Token). (l ++ bracket ∷ []) ++ x.entry.rest) (sym are_prefix)
        ∙ ap (λ (l : List Token). l ++ x.entry.rest) (sym (tokens_of-append prefix one)) in
        let many : length (prefix ++ one) ≡ length prefix + length one = length-append prefix one in
        let r = text_taken (prefix ++ one) x.entry.rest (let h : length (prefix ++ one) < 18446744073709551616 = omega (arith, many, short) in h) (subst IsText same x.entry.text) in
        let p = part_run first_draft prefix one r.0 r.1 in
        let y = stood prefix p.0 p.1 in
        let i : is_init (stage_after stages.Magic (test_tokens_of prefix)) ≡ true = ap (λ (l : List Token). is_init (stage_after stages.Magic l)) are_prefix ∙ x.in_init in
        let q = in_init_part _ y.part y.draft.table.expected i y.agrees in
        let there : p.0 ≡ in_init_at (stage_after stages.Magic (test_tokens_of prefix)) q.0 y.draft = y.same ∙ ap (λ (z : Part). test_at (stage_after stages.Magic (test_tokens_of prefix)) z y.draft) q.1 in
        let n = number_taken (stage_after stages.Magic (test_tokens_of prefix)) q.0 y.draft r.0 (ap (λ (z : TextState). run_parts z one) (sym there) ∙ p.2) x.thread x.colon back rest are_back in (
          n.0,
          ap (run_parts first_draft) whole ∙ run-append first_draft p.0 prefix back p.1
              ∙ ap (λ (z : TextState). run_parts z back) there ∙ n.1,
        )

    choose : (length x.before < length (test_tokens_of ps)) ⊎ (length (test_tokens_of ps) ≤ length x.before)
        → (s : TextState) × (run_parts first_draft ps ≡ Ok s)
    choose (inr le) =
        let c = shorter (test_tokens_of ps) rest x.before number x.whole le in within c.0 c.1
    choose (inl lt) =
        let same = length-tokens ps in
        let c = shorter x.before number (test_tokens_of ps) rest (sym x.whole) (let h : length x.before ≤ length (test_tokens_of ps) = omega (arith, lt) in h) in
        let cut = split ps x.before c.0 (sym c.1) in
        let left : c.0 ++ rest ≡ number = drop_same x.before (c.0 ++ rest) number (sym (append_assoc x.before c.0 rest) ∙ ap (λ (l : List Token). l ++ rest) c.1 ∙ x.whole) in
        let prefix : length cut.before ≡ length x.before = sym (length-tokens cut.before) ∙ ap (λ (l : List Token). length l) cut.are_before in
        behind cut.before cut.behind cut.whole cut.are_before
        (ap (λ (l : List Token). l ++ rest) cut.are_behind ∙ left) (
        let h : length cut.before + 1 < 18446744073709551616 =
        omega (arith, prefix, lt, same, few) in
        h)

start_taken : (ps : List TokenAt) (rest : List Token) → length ps < 18446744073709551616
    → IsBegun (test_tokens_of ps ++ rest) → (s : TextState) × (run_parts first_draft ps ≡ Ok s)
start_taken ps rest few (IsWhole x) = text_taken ps rest few x
start_taken ps rest few (BreaksOff x) = broken_taken ps rest few x

-- a token that is refused cannot follow
pub test_refused : (before : List TokenAt) (s : TextState) (p : TokenAt)
    → length before + 1 < 18446744073709551616 → run_parts first_draft before ≡ Ok s
    → part_step s.kind s.threads s.draft s.part p.token p.offset ≡ None
    → CanFollow IsBegun (test_tokens_of before) p.token → ⊥
test_refused before s p few reached none c =
    let qs = before ++ p ∷ [] in
    let many : length qs ≡ length before + 1 = length-append before (p ∷ []) in
    let same : test_tokens_of before ++ p.token ∷ [] ≡ test_tokens_of qs = sym (tokens_of-append before (p ∷ [])) in
    let r = start_taken qs c.rest (let h : length qs < 18446744073709551616 = omega (arith, many, few) in h) (subst (λ (l : List Token). IsBegun (l ++ c.rest)) same c.text) in
    let stops : run_parts s (p ∷ []) ≡ Err (text_rule_at s.kind s.draft.table s.stage p.token, p.offset) = ap (λ (o : Option Next). and_then (with_offset p.offset (stepped s p.token o)) (λ x. run_parts x [])) none in
    not_both (text_rule_at s.kind s.draft.table s.stage p.token, p.offset) r.0
    (sym stops ∙ sym (run-append first_draft s before (p ∷ []) reached) ∙ r.1)
