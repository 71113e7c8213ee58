-- What stands before the init block of a test, and whole tests.
use Rattle.std.proofs.Common.{◌≡◌, ℕ, zero, suc, ◌+◌, ◌<◌, ◌≤◌, Bool, true, false, List, [], ◌∷◌, ◌++◌, map, length, append-nil, Some, None, Ok, refl, sym, ap, ◌∙◌, subst, arith}
use Rattle.std.specs.Prelude.{codes, if◌then◌else◌}
use Rattle.std.specs.Str.{bytes_eq}
use Rattle.std.proofs.lemmas.Bool.{false≢true}
use Rattle.std.proofs.lemmas.List.{length-append}
use Rattle.std.proofs.lemmas.Slice.Eq.{bytes_eq-Decides}
use Rattle.litmus_tokens.specs.declared.stage.Stage.{Stage}
use Rattle.litmus_tokens.specs.declared.stage.Stage.TheVariants as stages
use Rattle.litmus_tokens.specs.declared.token.Token.{Token}
use Rattle.litmus_tokens.specs.declared.token.Token.TheVariants as tokens
use Rattle.litmus_tokens.specs.declared.token.Mark.TheVariants as marks
use Rattle.litmus_tokens.specs.Stage.{next_stage}
use Rattle.litmus_tokens.specs.Texts.{TokenAt, test_tokens_of}
use Rattle.litmus_tokens.specs.Words.{column_name, is_test_name}
use Rattle.litmus_tokens.specs.Faults.{Begins}
use Rattle.litmus_tokens.specs.Conditions.{condition_limits, place_meaning, tree_formula}
use Rattle.litmus_table.specs.Grammar.{spelled_header, spelled_names, spelled_rows, columns_meaning}
use Rattle.litmus_table.specs.Late.{columns_notes}
use Rattle.litmus_words.specs.Machine as table
use Rattle.litmus_table.specs.Laws.{steps_of, AreNoted}
use Rattle.litmus_grammar.specs.declared.parts.TextKind.TheVariants as kinds
use Rattle.litmus_grammar.specs.Grammar.{spelled_init, members, TestTree, spelled_text, spelled_keylines, spelled_head, spelled_observed, spelled_condition, spelled_test, IsTestTree}
use Rattle.litmus_grammar.specs.InitMachine as init
use Rattle.litmus_grammar.specs.TextMachine as text
use Rattle.litmus_grammar.specs.TextMachine.{Part, TextState, with_offset, and_then, stepped, text_start, run_parts}
use Rattle.litmus_grammar.specs.Texts.{before_entries, before_rows}
use Rattle.litmus_grammar.proofs.Bodies.{IsRows, any_header}
use Rattle.litmus_grammar.proofs.Blocks.{IsBody, Opened, IsOne, IsBroken, brace_at, block_at, in_block, block_begins, body_led}
use Rattle.litmus_grammar.specs.Laws.{AreEntryStarts, entry_kept}
use Rattle.litmus_grammar.proofs.Equations.{no_first, same_first, same_others}
use Rattle.litmus_grammar.proofs.Outcomes.{not_both}
use Rattle.litmus_grammar.proofs.Passing.{test_at, text_at}
use Rattle.litmus_grammar.proofs.Runs.{tokens_of-append, anywhere, tokens_of-anywhere, run-append}
use Rattle.litmus_grammar.proofs.Spelled.{init-append}
use Rattle.litmus_grammar.proofs.Splits.{split}
use Rattle.litmus_grammar.proofs.Tails.{early, with_all, done_behind}
use Rattle.litmus_grammar.proofs.InitLeft.{more}

abbrev pub in_head : List ℕ → Stage → Part → TextState
in_head name g p = test_at g p (early name init.init_start table.table_start [])

-- ---- what is taken, where it is known behind the brace

module _ (X : List Token → Type 0) (Q : TextState → Type 0) (any : Begins X [])
    (from : (name : List ℕ) (ps : List TokenAt) (n : ℕ) (g : Stage) (s : TextState)
    → length ps + 1 < 18446744073709551616 → run_parts (block_at name g) ps ≡ Ok s → Q s
    → Begins X (test_tokens_of (brace_at n ∷ ps))) where
  abbrev pub Keys : List Token → Type 0
  Keys ts = (k : ℕ) × (behind : List Token) × X behind × (ts ≡ spelled_keylines k behind)

  abbrev pub Lines : List Token → Type 0
  Lines ts =
      (t : Bool) × (k : ℕ) × (behind : List Token) × X behind
      × (ts ≡ spelled_text t (spelled_keylines k behind))

  abbrev HeadOf : Bool → List Token → Type 0
  HeadOf true ts = Lines ts
  HeadOf false ts = Keys ts

  any_head : (b : Bool) → Begins (HeadOf b) []
  any_head true = record { rest = any.rest; text = (false, 0, any.rest, any.text, refl) }
  any_head false = record { rest = any.rest; text = (0, any.rest, any.text, refl) }

  head_begins : (ps : List TokenAt) (b : Bool) (name : List ℕ) (g : Stage) (s : TextState)
      → length ps < 18446744073709551616 → run_parts (in_head name g (text.Head b)) ps ≡ Ok s → Q s
      → Begins (HeadOf b) (test_tokens_of ps)
  head_begins [] b name g s few e q = any_head b
  head_begins (p ∷ ps) b name g s few e q =
      by_token b p.token p.offset e (λ f k. head_begins ps false name f s
      (let h : length ps < 18446744073709551616 = omega (arith, few) in h) k q)
    where
      by_token : (b : Bool) (t : Token) (n : ℕ)
          → run_parts (in_head name g (text.Head b)) (record { token = t; offset = n } ∷ ps) ≡ Ok s
          → ((f : Stage) → run_parts (in_head name f (text.Head false)) ps ≡ Ok s
          → Begins Keys (test_tokens_of ps)) → Begins (HeadOf b) (t ∷ test_tokens_of ps)
      by_token true tokens.Text n k later =
          let r = later (next_stage g tokens.Text) k in
          let x = r.text in
          record { rest = r.rest; text = (true, x.0, x.1, x.2, more tokens.Text (test_tokens_of ps ++ r.rest) _ x.3) }
      by_token false tokens.Text n k later = absurd (not_both _ _ k)
      by_token true tokens.Keyline n k later =
          let r = later (next_stage g tokens.Keyline) k in
          let x = r.text in
          record { rest = r.rest; text = (false, suc x.0, x.1, x.2, more tokens.Keyline (test_tokens_of ps ++ r.rest) _ x.3) }
      by_token false tokens.Keyline n k later =
          let r = later (next_stage g tokens.Keyline) k in
          let x = r.text in
          record { rest = r.rest; text = (suc x.0, x.1, x.2, more tokens.Keyline (test_tokens_of ps ++ r.rest) _ x.3) }
      by_token true (tokens.Mark marks.OpenBrace) n k later =
          let r = from name ps n (next_stage g (tokens.Mark marks.OpenBrace)) s (let h : length ps + 1 < 18446744073709551616 = omega (arith, few) in h) k q in
          record { rest = r.rest; text = (false, 0, _, r.text, refl) }
      by_token false (tokens.Mark marks.OpenBrace) n k later =
          let r = from name ps n (next_stage g (tokens.Mark marks.OpenBrace)) s (let h : length ps + 1 < 18446744073709551616 = omega (arith, few) in h) k q in
          record { rest = r.rest; text = (0, _, r.text, refl) }
      by_token true t n k later = absurd (not_both _ _ k)
      by_token false t n k later = absurd (not_both _ _ k)

  -- the head of a test, and what stands behind it
  pub record IsHeaded (ts : List Token) : Type 0 where
    pub name : List ℕ
    pub is_name : is_test_name name ≡ true
    pub lines : List Token
    pub head : Lines lines
    pub whole : ts ≡ tokens.Word (codes "PPC") ∷ tokens.Word name ∷ tokens.LineEnd ∷ lines

  headed : (name : List ℕ) → is_test_name name ≡ true → (ts : List Token) → Begins Lines ts
      → Begins IsHeaded (tokens.Word (codes "PPC") ∷ tokens.Word name ∷ tokens.LineEnd ∷ ts)
  headed name i ts b =
      record {
        rest = b.rest;
        text =
            record {
              name = name;
              is_name = i;
              lines = ts ++ b.rest;
              head = b.text;
              whole = refl;
            };
      }

  any_lines : Begins Lines []
  any_lines = any_head true

  line_end : (name : List ℕ) → is_test_name name ≡ true
      → (ps : List TokenAt) (g : Stage) (s : TextState) → length ps < 18446744073709551616
      → run_parts (in_head name g text.TitleEnd) ps ≡ Ok s → Q s
      → Begins IsHeaded (tokens.Word (codes "PPC") ∷ tokens.Word name ∷ test_tokens_of ps)
  line_end name i [] g s few e q =
      let r = any_lines in
      record {
        rest = tokens.LineEnd ∷ r.rest;
        text = record { name = name; is_name = i; lines = r.rest; head = r.text; whole = refl };
      }
  line_end name i (p ∷ ps) g s few e q = by_token p.token p.offset e
    where
      by_token : (t : Token) (n : ℕ)
          → run_parts (in_head name g text.TitleEnd) (record { token = t; offset = n } ∷ ps) ≡ Ok s
          → Begins IsHeaded (tokens.Word (codes "PPC") ∷ tokens.Word name ∷ t ∷ test_tokens_of ps)
      by_token tokens.LineEnd n k =
          headed name i (test_tokens_of ps) (head_begins ps true name (next_stage g tokens.LineEnd) s
          (let h : length ps < 18446744073709551616 = omega (arith, few) in h) k q)
      by_token t n k = absurd (not_both _ _ k)

  title : (ps : List TokenAt) (g : Stage) (s : TextState) → length ps < 18446744073709551616
      → run_parts (in_head [] g text.Title) ps ≡ Ok s → Q s
      → Begins IsHeaded (tokens.Word (codes "PPC") ∷ test_tokens_of ps)
  title [] g s few e q =
      let r = any_lines in
      record {
        rest = tokens.Word (65 ∷ []) ∷ tokens.LineEnd ∷ r.rest;
        text =
            record {
              name = 65 ∷ [];
              is_name = refl;
              lines = r.rest;
              head = r.text;
              whole = refl;
            };
      }
  title (p ∷ ps) g s few e q = by_token p.token p.offset e
    where
      by_word : (w : List ℕ) (n : ℕ) (b : Bool) → is_test_name w ≡ b
          → and_then
          (with_offset n (stepped (in_head [] g text.Title) (tokens.Word w)
          (if b then text.at (early w init.init_start table.table_start []) text.TitleEnd
          else None)))
          (λ x. run_parts x ps) ≡ Ok s
          → Begins IsHeaded (tokens.Word (codes "PPC") ∷ tokens.Word w ∷ test_tokens_of ps)
      by_word w n true i k =
          line_end w i ps (next_stage g (tokens.Word w)) s
          (let h : length ps < 18446744073709551616 = omega (arith, few) in h) k q
      by_word w n false i k = absurd (not_both _ _ k)

      by_token : (t : Token) (n : ℕ)
          → run_parts (in_head [] g text.Title) (record { token = t; offset = n } ∷ ps) ≡ Ok s
          → Begins IsHeaded (tokens.Word (codes "PPC") ∷ t ∷ test_tokens_of ps)
      by_token (tokens.Word w) n k = by_word w n (is_test_name w) refl k
      by_token t n k = absurd (not_both _ _ k)

  pub magic : (ps : List TokenAt) (g : Stage) (s : TextState) → length ps < 18446744073709551616
      → run_parts (in_head [] g text.Magic) ps ≡ Ok s → Q s → Begins IsHeaded (test_tokens_of ps)
  magic [] g s few e q =
      let r = any_lines in
      record {
        rest = tokens.Word (codes "PPC") ∷ tokens.Word (65 ∷ []) ∷ tokens.LineEnd ∷ r.rest;
        text =
            record {
              name = 65 ∷ [];
              is_name = refl;
              lines = r.rest;
              head = r.text;
              whole = refl;
            };
      }
  magic (p ∷ ps) g s few e q = by_token p.token p.offset e
    where
      by_word : (w : List ℕ) (n : ℕ) (b : Bool) → bytes_eq w (codes "PPC") ≡ b
          → and_then
          (with_offset n (stepped (in_head [] g text.Magic) (tokens.Word w)
          (text.next_at (early [] init.init_start table.table_start [])
          (if b then Some text.Title else None))))
          (λ x. run_parts x ps) ≡ Ok s → Begins IsHeaded (tokens.Word w ∷ test_tokens_of ps)
      by_word w n true i k =
          let same : codes "PPC" ≡ w = sym ((bytes_eq-Decides w (codes "PPC")).0 i) in
          subst (λ (v : List ℕ). Begins IsHeaded (tokens.Word v ∷ test_tokens_of ps)) same
          (title ps (next_stage g (tokens.Word w)) s
          (let h : length ps < 18446744073709551616 = omega (arith, few) in h) k q)
      by_word w n false i k = absurd (not_both _ _ k)

      by_token : (t : Token) (n : ℕ)
          → run_parts (in_head [] g text.Magic) (record { token = t; offset = n } ∷ ps) ≡ Ok s
          → Begins IsHeaded (t ∷ test_tokens_of ps)
      by_token (tokens.Word w) n k = by_word w n (bytes_eq w (codes "PPC")) refl k
      by_token t n k = absurd (not_both _ _ k)

-- ---- each head is taken

record TakesLines (name : List ℕ) (b : Bool) (t : Bool) (k : ℕ) (ps : List TokenAt)
    (behind : List Token) (g : Stage) : Type 0 where
  before : List TokenAt
  left : List TokenAt
  stage : Stage
  may : Bool
  whole : ps ≡ before ++ left
  are_before : test_tokens_of before ≡ spelled_text t (spelled_keylines k [])
  are_left : test_tokens_of left ≡ behind
  by : run_parts (in_head name g (text.Head b)) before ≡ Ok (in_head name stage (text.Head may))

keys_led : (name : List ℕ) (k : ℕ) (b : Bool) (ps : List TokenAt) (behind : List Token) (g : Stage)
    → test_tokens_of ps ≡ spelled_keylines k behind → TakesLines name b false k ps behind g
keys_led name zero b ps behind g e =
    record {
      before = [];
      left = ps;
      stage = g;
      may = b;
      whole = refl;
      are_before = refl;
      are_left = e;
      by = refl;
    }
keys_led name (suc k) b [] behind g e = absurd (no_first e)
keys_led name (suc k) b (p ∷ ps) behind g e =
    let t : p.token ≡ tokens.Keyline = same_first e in
    let others : test_tokens_of ps ≡ spelled_keylines k behind = same_others e in
    let g' = next_stage g tokens.Keyline in
    let r = keys_led name k false ps behind g' others in
    record {
      before = p ∷ r.before;
      left = r.left;
      stage = r.stage;
      may = r.may;
      whole = ap (λ (l : List TokenAt). p ∷ l) r.whole;
      are_before =
          ap (λ (x : Token). x ∷ test_tokens_of r.before) t
          ∙ ap (λ (l : List Token). tokens.Keyline ∷ l) r.are_before;
      are_left = r.are_left;
      by =
          ap
          (λ (x : Token). run_parts (in_head name g (text.Head b))
          (record { token = x; offset = p.offset } ∷ r.before)) t ∙ r.by;
    }

lines_led : (name : List ℕ) (t : Bool) (k : ℕ) (ps : List TokenAt) (behind : List Token) (g : Stage)
    → test_tokens_of ps ≡ spelled_text t (spelled_keylines k behind)
    → TakesLines name true t k ps behind g
lines_led name false k ps behind g e = keys_led name k true ps behind g e
lines_led name true k [] behind g e = absurd (no_first e)
lines_led name true k (p ∷ ps) behind g e =
    let t : p.token ≡ tokens.Text = same_first e in
    let others : test_tokens_of ps ≡ spelled_keylines k behind = same_others e in
    let g' = next_stage g tokens.Text in
    let r = keys_led name k false ps behind g' others in
    record {
      before = p ∷ r.before;
      left = r.left;
      stage = r.stage;
      may = r.may;
      whole = ap (λ (l : List TokenAt). p ∷ l) r.whole;
      are_before =
          ap (λ (x : Token). x ∷ test_tokens_of r.before) t
          ∙ ap (λ (l : List Token). tokens.Text ∷ l) r.are_before;
      are_left = r.are_left;
      by =
          ap
          (λ (x : Token). run_parts (in_head name g (text.Head true))
          (record { token = x; offset = p.offset } ∷ r.before)) t ∙ r.by;
    }

-- the head was read, and this is left
pub record TakesHead (name : List ℕ) (t : Bool) (k : ℕ) (ps : List TokenAt) (behind : List Token)
    : Type 0 where
  pub before : List TokenAt
  pub left : List TokenAt
  pub stage : Stage
  pub may : Bool
  pub whole : ps ≡ before ++ left
  pub are_before : test_tokens_of before
      ≡ tokens.Word (codes "PPC") ∷ tokens.Word name ∷ tokens.LineEnd
      ∷ spelled_text t (spelled_keylines k [])
  pub are_left : test_tokens_of left ≡ behind
  pub by : run_parts (text_start kinds.Test 0) before ≡ Ok (in_head name stage (text.Head may))

pub head_led : (name : List ℕ) (t : Bool) (k : ℕ) (ps : List TokenAt) (behind : List Token)
    → is_test_name name ≡ true
    → test_tokens_of ps
    ≡ tokens.Word (codes "PPC") ∷ tokens.Word name ∷ tokens.LineEnd
    ∷ spelled_text t (spelled_keylines k behind) → TakesHead name t k ps behind
head_led name t k [] behind i e = absurd (no_first e)
head_led name t k (a ∷ []) behind i e = absurd (no_first (same_others e))
head_led name t k (a ∷ b ∷ []) behind i e = absurd (no_first (same_others (same_others e)))
head_led name t k (a ∷ b ∷ c ∷ ps) behind i e =
    let ta : a.token ≡ tokens.Word (codes "PPC") = same_first e in
    let from_name = same_others e in
    let tb : b.token ≡ tokens.Word name = same_first from_name in
    let from_end = same_others from_name in
    let tc : c.token ≡ tokens.LineEnd = same_first from_end in
    let others : test_tokens_of ps ≡ spelled_text t (spelled_keylines k behind) = same_others from_end in
    let r = lines_led name t k ps behind stages.Head others in
    record {
      before = a ∷ b ∷ c ∷ r.before;
      left = r.left;
      stage = r.stage;
      may = r.may;
      whole = ap (λ (l : List TokenAt). a ∷ b ∷ c ∷ l) r.whole;
      are_before =
          ap (λ (x : Token). x ∷ b.token ∷ c.token ∷ test_tokens_of r.before) ta
          ∙ ap (λ (x : Token). tokens.Word (codes "PPC") ∷ x ∷ c.token ∷ test_tokens_of r.before) tb
          ∙ ap
          (λ (x : Token). tokens.Word (codes "PPC") ∷ tokens.Word name ∷ x
          ∷ test_tokens_of r.before) tc
          ∙ ap
          (λ (l : List Token). tokens.Word (codes "PPC") ∷ tokens.Word name ∷ tokens.LineEnd
          ∷ l) r.are_before;
      are_left = r.are_left;
      by =
          ap
          (λ (x : Token). run_parts (text_start kinds.Test 0)
          (record { token = x; offset = a.offset } ∷ b ∷ c ∷ r.before)) ta
          ∙ ap
          (λ (x : Token). run_parts (in_head [] stages.Title text.Title)
          (record { token = x; offset = b.offset } ∷ c ∷ r.before)) tb
          ∙ ap
          (λ (y : Bool). and_then
          (with_offset b.offset (stepped (in_head [] stages.Title text.Title)
          (tokens.Word name) (if y then text.at
          (early name init.init_start table.table_start []) text.TitleEnd
          else None)))
          (λ x. run_parts x (c ∷ r.before))) i
          ∙ ap
          (λ (x : Token). run_parts (in_head name stages.TitleEnd text.TitleEnd)
          (record { token = x; offset = c.offset } ∷ r.before)) tc
          ∙ r.by;
    }

-- ---- whole tests are taken

pub record TakesTest (ps : List TokenAt) (t : TestTree) : Type 0 where
  pub stage : Stage
  pub block : init.Block
  pub reached : table.TableState
  pub by : run_parts (text_start kinds.Test 0) ps
      ≡ Ok (test_at stage text.Done (with_all t.name block reached
      (map place_meaning (members t.observed)) t.quantifier (tree_formula t.condition)))
  pub entries : block.entries ≡ map entry_kept (members t.init)
  pub stand : AreEntryStarts ps (before_entries t) (members t.init) block.starts
  pub meant : steps_of reached.threads ≡ columns_meaning 0 (t.others + 1) t.rows
  pub noted : AreNoted ps (columns_notes 0 (t.others + 1) (before_rows t) t.rows) reached.threads

pub keylines-append : (k : ℕ) (xs ys : List Token)
    → spelled_keylines k xs ++ ys ≡ spelled_keylines k (xs ++ ys)
keylines-append zero xs ys = refl
keylines-append (suc k) xs ys = more tokens.Keyline _ _ (keylines-append k xs ys)

text-append : (t : Bool) (k : ℕ) (ys : List Token)
    → spelled_text t (spelled_keylines k []) ++ ys ≡ spelled_text t (spelled_keylines k ys)
text-append true k ys = more tokens.Text _ _ (keylines-append k [] ys)
text-append false k ys = keylines-append k [] ys

pub head-append : (t : TestTree) (ys : List Token) → spelled_head t [] ++ ys ≡ spelled_head t ys
head-append t ys =
    ap (λ (l : List Token). tokens.Word (codes "PPC") ∷ tokens.Word t.name ∷ tokens.LineEnd ∷ l)
    (text-append t.text t.keylines ys)

module _ (t : TestTree) (fine : IsTestTree condition_limits t) (few : t.others + 1 < 18446744073709551616) where
  abbrev behind_header : List Token
  behind_header =
      spelled_rows t.rows (spelled_observed t.observed (spelled_condition t.quantifier t.condition))

  abbrev rows : IsRows t.others behind_header
  rows = record {
    few = few;
    rows = t.rows;
    fine = fine.rows;
    behind = spelled_observed t.observed (spelled_condition t.quantifier t.condition);
    tail =
        record {
          observed = t.observed;
          quantifier = t.quantifier;
          condition = t.condition;
          are_items = fine.observed;
          fine = fine.condition;
          whole = refl;
        };
    whole = refl;
  }

  body_taken : (ps : List TokenAt)
      (h : TakesHead t.name t.text t.keylines ps (spelled_init t.init
      (spelled_header t.others behind_header)))
      (before behind : List TokenAt) → h.left ≡ before ++ behind
      → test_tokens_of before ≡ spelled_init t.init []
      → test_tokens_of behind ≡ spelled_header t.others behind_header → TakesTest ps t
  body_taken ps h [] behind l e k = absurd (no_first e)
  body_taken ps h (p ∷ q) [] l e k = absurd (no_first k)
  body_taken ps h (p ∷ q) (w ∷ b) l e k =
      let n = p.offset in
      let brace : p.token ≡ tokens.Mark marks.OpenBrace = same_first e in
      let is_brace : p ≡ brace_at n = ap (λ (x : Token). record { token = x; offset = p.offset }) brace in
      let e' : test_tokens_of (brace_at n ∷ q) ≡ spelled_init t.init [] = ap (λ (x : TokenAt). test_tokens_of (x ∷ q)) (sym is_brace) ∙ e in
      let first : w.token ≡ tokens.Word (column_name 0) = same_first k in
      let others : test_tokens_of b ≡ spelled_names 1 t.others behind_header = same_others k in
      let left : h.left ≡ brace_at n ∷ (q ++ w ∷ b) = l ∙ ap (λ (x : TokenAt). x ∷ (q ++ w ∷ b)) is_brace in
      let whole : test_tokens_of (brace_at n ∷ (q ++ w ∷ b)) ≡ spelled_init t.init (spelled_header t.others behind_header) = ap test_tokens_of (sym left) ∙ h.are_left in
      let g = next_stage h.stage (tokens.Mark marks.OpenBrace) in
      let r = body_led t.name h.before q b w n t.init t.others behind_header rows g few fine.init e' first others whole fine.init in
      let all : h.before ++ brace_at n ∷ (q ++ w ∷ b) ≡ ps = ap (λ (x : List TokenAt). h.before ++ x) (sym left) ∙ sym h.whole in
      record {
        stage = r.stage;
        block = r.block;
        reached = r.reached;
        by =
            ap (run_parts (text_start kinds.Test 0)) (sym all)
            ∙ run-append (text_start kinds.Test 0) (in_head t.name h.stage (text.Head h.may)) h.before
            (brace_at n ∷ (q ++ w ∷ b)) h.by
            ∙ r.by;
        entries = r.entries;
        stand =
            subst
            (λ (y : List TokenAt).
            AreEntryStarts y (before_entries t) (members t.init) r.block.starts) all
            (subst
            (λ (y : List Token). AreEntryStarts (h.before ++ brace_at n ∷ (q ++ w ∷ b)) y
            (members t.init) r.block.starts)
            (ap (λ (y : List Token). y ++ tokens.Mark marks.OpenBrace ∷ []) h.are_before
            ∙ head-append t (tokens.Mark marks.OpenBrace ∷ [])) r.stand);
        meant = r.meant;
        noted =
            subst
            (λ (y : List TokenAt). AreNoted y
            (columns_notes 0 (t.others + 1) (before_rows t) t.rows) r.reached.threads) all
            (subst
            (λ (y : List Token). AreNoted (h.before ++ brace_at n ∷ (q ++ w ∷ b))
            (columns_notes 0 (t.others + 1) y t.rows) r.reached.threads)
            (ap (λ (y : List Token). y ++ spelled_init t.init (spelled_header t.others []))
            h.are_before
            ∙ head-append t (spelled_init t.init (spelled_header t.others [])))
            r.noted);
      }

  pub test_led : (ps : List TokenAt) → test_tokens_of ps ≡ spelled_test t → TakesTest ps t
  test_led ps e =
      let body = spelled_init t.init (spelled_header t.others behind_header) in
      let h = head_led t.name t.text t.keylines ps body fine.name e in
      let cut = split h.left (spelled_init t.init []) (spelled_header t.others behind_header) (h.are_left ∙ sym (init-append t.init [] (spelled_header t.others behind_header))) in
      body_taken ps h cut.before cut.behind cut.whole cut.are_before cut.are_behind

-- ---- what is taken to its end is a test

abbrev pub IsEnded : TextState → Type 0
IsEnded s = s.part ≡ text.Done

pub body_from : (name : List ℕ) (ps : List TokenAt) (n : ℕ) (g : Stage) (s : TextState)
    → length ps + 1 < 18446744073709551616 → run_parts (block_at name g) ps ≡ Ok s → IsEnded s
    → Begins IsBody (test_tokens_of (brace_at n ∷ ps))
body_from name ps n g s few e d = by_opened (block_begins name ps n g s few e)
  where
    by_opened : Opened name ps n s → Begins IsBody (test_tokens_of (brace_at n ∷ ps))
    by_opened (IsOne b) = b
    by_opened (IsBroken i rest x) = absurd (false≢true (ap in_block (sym d) ∙ i))

pub any_body : Begins IsBody []
any_body =
    let a = any_header [] init.init_start false 0 (omega arith) in
    let z : 0 + a.text.more ≡ a.text.more = omega arith in
    record {
      rest = tokens.Mark marks.OpenBrace ∷ tokens.Mark marks.CloseBrace ∷ a.rest;
      text =
          record {
            entries = None;
            are_entries = tt;
            others = a.text.more;
            behind = a.text.behind;
            rows = subst (λ (n : ℕ). IsRows n a.text.behind) z a.text.rows;
            whole =
                ap
                (λ (l : List Token). tokens.Mark marks.OpenBrace ∷ tokens.Mark marks.CloseBrace
                ∷ l) a.text.whole;
          };
    }

-- a test of as many threads as can be told apart
pub record IsFewTest (ts : List Token) : Type 0 where
  pub tree : TestTree
  pub fine : IsTestTree condition_limits tree
  pub few : tree.others + 1 < 18446744073709551616
  pub whole : ts ≡ spelled_test tree

pub test_of : (ts : List Token) → IsHeaded IsBody IsEnded any_body body_from ts → IsFewTest ts
test_of ts x =
    let h = x.head in
    let b = h.3 in
    let r = b.rows in
    let c = r.tail in
    record {
      tree =
          record {
            name = x.name;
            text = h.0;
            keylines = h.1;
            init = b.entries;
            others = b.others;
            rows = r.rows;
            observed = c.observed;
            quantifier = c.quantifier;
            condition = c.condition;
          };
      fine =
          record {
            name = x.is_name;
            init = b.are_entries;
            rows = r.fine;
            observed = c.are_items;
            condition = c.fine;
          };
      few = r.few;
      whole =
          x.whole
          ∙ ap (λ (l : List Token). tokens.Word (codes "PPC") ∷ tokens.Word x.name
          ∷ tokens.LineEnd ∷ l)
          (h.4
          ∙ ap (λ (l : List Token). spelled_text h.0 (spelled_keylines h.1 l))
          (b.whole
          ∙ ap
          (λ (l : List Token).
          spelled_init b.entries (spelled_header b.others l))
          (r.whole ∙ ap (spelled_rows r.rows) c.whole)));
    }

nothing_more : (ts : List Token) → anywhere ts ≡ [] → ts ≡ []
nothing_more [] e = refl
nothing_more (t ∷ ts) e = absurd (no_first (sym e))

pub test_whole : (ps : List TokenAt) (s : TextState) → length ps < 18446744073709551616
    → run_parts (text_start kinds.Test 0) ps ≡ Ok s → s.part ≡ text.Done → IsFewTest (test_tokens_of ps)
test_whole ps s few e d =
    let b = magic IsBody IsEnded any_body body_from ps stages.Magic s few e d in
    let x = test_of (test_tokens_of ps ++ b.rest) b.text in
    let all = ps ++ anywhere b.rest in
    let words : test_tokens_of all ≡ test_tokens_of ps ++ b.rest = tokens_of-append ps (anywhere b.rest) ∙ ap (λ (l : List Token). test_tokens_of ps ++ l) (tokens_of-anywhere b.rest) in
    let r = test_led x.tree x.fine x.few all (words ∙ x.whole) in
    let on : run_parts s (anywhere b.rest) ≡ Ok _ = sym (run-append (text_start kinds.Test 0) s ps (anywhere b.rest) e) ∙ r.by in
    let at_end : s ≡ text_at s.kind s.threads s.stage text.Done s.draft = ap (λ (p : Part). text_at s.kind s.threads s.stage p s.draft) d in
    let none = nothing_more b.rest (done_behind s.kind s.threads s.stage s.draft (anywhere b.rest) _ (ap (λ (y : TextState). run_parts y (anywhere b.rest)) (sym at_end) ∙ on)).0 in
    subst IsFewTest (ap (λ (l : List Token). test_tokens_of ps ++ l) none ∙ append-nil (test_tokens_of ps)) x

-- ---- no more columns than tokens

pub length-tokens : (ps : List TokenAt) → length (test_tokens_of ps) ≡ length ps
length-tokens [] = refl
length-tokens (p ∷ ps) = let e = length-tokens ps in omega arith

pub names_count : (k n : ℕ) (ts : List Token) → n ≤ length (spelled_names k n ts)
names_count k zero ts = omega arith
names_count k (suc n) ts = let h = names_count (k + 1) n ts in omega (arith, h)

pub few_of : (t : TestTree) (ps : List TokenAt) → test_tokens_of ps ≡ spelled_test t
    → length ps < 18446744073709551616 → t.others + 1 < 18446744073709551616
few_of t ps e few =
    let rows = spelled_rows t.rows (spelled_observed t.observed (spelled_condition t.quantifier t.condition)) in
    let header = spelled_header t.others rows in
    let body = spelled_init t.init header in
    let many : t.others + 1 ≤ length header = (let h = names_count 1 t.others rows in omega (arith, h)) in
    let a : length body ≡ length (spelled_init t.init []) + length header = ap (λ (l : List Token). length l) (sym (init-append t.init [] header)) ∙ length-append (spelled_init t.init []) header in
    let b : length (spelled_test t) ≡ length (spelled_head t []) + length body = ap (λ (l : List Token). length l) (sym (head-append t body)) ∙ length-append (spelled_head t []) body in
    let c : length ps ≡ length (spelled_test t) = sym (length-tokens ps) ∙ ap (λ (l : List Token). length l) e in
    omega (arith, many, a, b, c, few)
