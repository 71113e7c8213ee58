-- Each part of a test leads to the next, and all that stands in it has its rule.
use Rattle.std.proofs.Common.{◌≡◌, ℕ, zero, suc, ◌+◌, ◌-◌, ◌⊎◌, inl, inr, Bool, true, false, List, [], ◌∷◌, ◌++◌, take, drop, refl, sym, ap, ◌∙◌, subst, append_assoc}
use Rattle.std.specs.Prelude.{Option, Some, None, codes, ◌||◌, if◌then◌else◌}
use Rattle.std.specs.Str.{bytes_eq}
use Rattle.std.proofs.lemmas.Bool.{and_parts}
use Rattle.std.proofs.lemmas.List.{append-nil}
use Rattle.std.proofs.lemmas.Slice.Eq.{bytes_eq-Decides}
use Rattle.litmus_tokens.specs.declared.rule.LitmusRule.{LitmusRule}
use Rattle.litmus_tokens.specs.declared.rule.LitmusRule.TheVariants as rules
use Rattle.litmus_tokens.specs.declared.stage.Stage.{Stage}
use Rattle.litmus_tokens.specs.declared.stage.Stage.TheVariants as stages
use Rattle.litmus_tokens.specs.declared.token.Token.{Token}
use Rattle.litmus_tokens.specs.declared.token.Token.TheVariants as tokens
use Rattle.litmus_tokens.specs.declared.token.Mark.TheVariants as marks
use Rattle.litmus_tokens.specs.Faults.{IsFault, Ruling, Always, Where, RulingSays, ruling, part_ruling, cell_ruling, word_ruling}
use Rattle.litmus_tokens.specs.Stage.{part_rule, next_stage}
use Rattle.litmus_tokens.specs.Texts.{TokenAt, test_tokens_of, stage_after, are_none}
use Rattle.litmus_tokens.specs.Words.{ends_table, is_filter, is_int, column_name}
use Rattle.text_values.specs.declared.test.Quantifier.{Quantifier}
use Rattle.text_values.specs.declared.test.Quantifier.TheVariants.{Exists, NotExists, Forall}
use Rattle.litmus_tokens.specs.Conditions.{PlaceTree, Location, Register, ValueTree, Number, Address, spelled_place, spelled_value, spelled_quantifier, Limits, condition_limits, IsConditionText}
use Rattle.litmus_words.specs.declared.opcode.Opcode.{Opcode}
use Rattle.litmus_words.specs.declared.opcode.Opcode.TheVariants as opcodes
use Rattle.litmus_words.specs.declared.opcode.Want.{Want}
use Rattle.litmus_words.specs.declared.opcode.Want.TheVariants as wants
use Rattle.litmus_words.specs.Words.{opcode_of, token_fits, all_fit, data_form, is_label, takes_operands}
use Rattle.litmus_table.specs.Grammar.{InstructionTree, CellTree, RowTree, ThreadTree, spelled_steps, spelled_thread, spelled_label, spelled_instruction, spelled_cells, spelled_rows, spelled_names, spelled_header, IsInstruction, AreCells, AreRowTrees}
use Rattle.litmus_grammar.specs.Grammar.{Listed, EntryTree, TestTree, spelled_entry, spelled_end, spelled_others, spelled_listed, spelled_init, spelled_observed, spelled_text, spelled_keylines, spelled_test, IsTestTree, IsInitText, IsThreadText, IsLocationsText}
use Rattle.litmus_grammar.specs.Texts.{IsStart}
use Rattle.litmus_grammar.proofs.Spelled.{init-append, names-append, rows-append}
use Rattle.litmus_laws.specs.Parts.{RulePart, tokens_in, tail_of, test_parts, StandsIn, is_named, IsRuleOfToken, OfToken, Named, OfPart, IsTestTokenFault, IsOfItsPart, IsOfPart}
use Rattle.litmus_grammar.proofs.Heads.{keylines-append}
use Rattle.litmus_table.proofs.Rules.{no_opcode_exists, no_opcode_forall, no_opcode_locations}

-- ---- walks

-- these tokens lead from one part to another, and all of them stand where this rule holds
abbrev Walks : Stage → LitmusRule → Stage → List Token → Type 0
Walks s r s' [] = s ≡ s'
Walks s r s' (t ∷ ts) = (part_rule s ≡ r) × Walks (next_stage s t) r s' ts

walk_on : (s : Stage) (r : LitmusRule) (s' : Stage) (ts rest : List Token) → Walks s r s' ts
    → stage_after s (ts ++ rest) ≡ stage_after s' rest
walk_on s r s' [] rest w = ap (λ (x : Stage). stage_after x rest) w
walk_on s r s' (t ∷ ts) rest w = walk_on (next_stage s t) r s' ts rest w.1

walk_at : (s : Stage) (r : LitmusRule) (s' : Stage) (inner : List Token) (here : Token)
    (others : List Token) → Walks s r s' (inner ++ here ∷ others)
    → part_rule (stage_after s inner) ≡ r
walk_at s r s' [] here others w = w.0
walk_at s r s' (t ∷ ts) here others w = walk_at (next_stage s t) r s' ts here others w.1

-- each part leads to the next
abbrev AreWalked : Stage → List RulePart → Type 0
AreWalked s [] = Unit {0}
AreWalked s (p ∷ ps) = (s' : Stage) × Walks s p.rule s' p.tokens × AreWalked s' ps

stands : (s : Stage) (earlier : List RulePart) (p : RulePart) (later : List RulePart) (inner : List Token)
    (here : Token) (others : List Token) → AreWalked s (earlier ++ p ∷ later)
    → p.tokens ≡ inner ++ here ∷ others
    → part_rule (stage_after s (tokens_in earlier ++ inner)) ≡ p.rule
stands s [] p later inner here others w inside =
    walk_at s p.rule w.0 inner here others (subst (Walks s p.rule w.0) inside w.1)
stands s (q ∷ qs) p later inner here others w inside =
    ap (λ (ts : List Token). part_rule (stage_after s ts))
    (append_assoc q.tokens (tokens_in qs) inner)
    ∙ ap part_rule (walk_on s q.rule w.0 q.tokens (tokens_in qs ++ inner) w.1)
    ∙ stands w.0 qs p later inner here others w.2 inside

-- ---- what stands before the header

keylines_walk : (n : ℕ) (rest : List Token) (s : Stage) → Walks stages.Head rules.Init s rest
    → Walks stages.Head rules.Init s (spelled_keylines n rest)
keylines_walk zero rest s w = w
keylines_walk (suc n) rest s w = (refl, keylines_walk n rest s w)

text_walk : (b : Bool) (rest : List Token) (s : Stage) → Walks stages.Head rules.Init s rest
    → Walks stages.Head rules.Init s (spelled_text b rest)
text_walk true rest s w = (refl, w)
text_walk false rest s w = w

-- within the braces, behind a word or not
abbrev Inside : List Token → Type 0
Inside ts = (word : Bool) → Walks (stages.Init false word) rules.Init (stages.Header 8) ts

place_inside : (p : PlaceTree) (rest : List Token) → Inside rest → Inside (spelled_place p rest)
place_inside (Location false n) rest w = λ word. (refl, w true)
place_inside (Location true n) rest w = λ word. (refl, (refl, (refl, w false)))
place_inside (Register t r) rest w = λ word. (refl, (refl, (refl, w true)))

value_inside : (v : ValueTree) (rest : List Token) → Inside rest → Inside (spelled_value v rest)
value_inside (Number negative ds) rest w = λ word. (refl, w false)
value_inside (Address n) rest w = λ word. (refl, w true)

entry_inside : (e : EntryTree) (rest : List Token) → Inside rest → Inside (spelled_entry e rest)
entry_inside e rest w =
    place_inside e.place (tokens.Mark marks.Equals ∷ spelled_value e.value rest)
    (λ word. (refl, value_inside e.value rest w false))

end_inside : (closed : Bool) (rest : List Token) → Inside rest → Inside (spelled_end closed rest)
end_inside true rest w = λ word. (refl, w false)
end_inside false rest w = w

others_inside : (closed : Bool) (es : List EntryTree) (rest : List Token) → Inside rest
    → Inside (spelled_others spelled_entry closed es rest)
others_inside closed [] rest w = end_inside closed rest w
others_inside closed (e ∷ es) rest w =
    λ word. (
      refl,
      entry_inside e (spelled_others spelled_entry closed es rest)
          (others_inside closed es rest w) false,
    )

listed_inside : (es : Option (Listed EntryTree)) (rest : List Token) → Inside rest
    → Inside (spelled_listed spelled_entry es rest)
listed_inside None rest w = w
listed_inside (Some l) rest w =
    entry_inside l.first (spelled_others spelled_entry l.closed l.others rest)
    (others_inside l.closed l.others rest w)

init_walk : (es : Option (Listed EntryTree))
    → Walks stages.Head rules.Init (stages.Header 8) (spelled_init es [])
init_walk es =
    (refl, listed_inside es (tokens.Mark marks.CloseBrace ∷ []) (λ word. (refl, refl)) false)

-- ---- the header

names_walk : (k n left : ℕ)
    → Walks (stages.Header left) rules.Header stages.CellBegins (spelled_names k n [])
names_walk k zero left = (refl, refl)
names_walk k (suc n) left = (refl, (refl, names_walk (k + 1) n (left - 1)))

-- ---- the rows

-- the word of an instruction does not end the table
module _ (w : List ℕ) (op : Opcode) (known : opcode_of w ≡ Some op) where
  is_no : (v : List ℕ) → opcode_of v ≡ None → (b : Bool) → bytes_eq w v ≡ b → bytes_eq w v ≡ false
  is_no v none false e = e
  is_no v none true e =
      let same : opcode_of w ≡ None = ap opcode_of ((bytes_eq-Decides w v).0 e) ∙ none in
      let bad : Some op ≡ None = sym known ∙ same in
      absurd cc

  stays : ends_table w ≡ false
  stays =
      let a = is_no (codes "locations") no_opcode_locations (bytes_eq w (codes "locations")) refl in
      let b = is_no (codes "exists") no_opcode_exists (bytes_eq w (codes "exists")) refl in
      let c = is_no (codes "forall") no_opcode_forall (bytes_eq w (codes "forall")) refl in
      ap (λ (x : Bool). (x || bytes_eq w (codes "exists")) || bytes_eq w (codes "forall")) a
      ∙ ap (λ (x : Bool). x || bytes_eq w (codes "forall")) b ∙ c

no_semicolon : (w : Want) → token_fits w (tokens.Mark marks.Semicolon) ≡ true → ⊥
no_semicolon wants.Register h = absurd cc
no_semicolon wants.Base h = absurd cc
no_semicolon wants.Immediate h = absurd cc
no_semicolon wants.Zero h = absurd cc
no_semicolon wants.Comma h = absurd cc
no_semicolon wants.Open h = absurd cc
no_semicolon wants.Close h = absurd cc

no_bar : (w : Want) → token_fits w (tokens.Mark marks.Bar) ≡ true → ⊥
no_bar wants.Register h = absurd cc
no_bar wants.Base h = absurd cc
no_bar wants.Immediate h = absurd cc
no_bar wants.Zero h = absurd cc
no_bar wants.Comma h = absurd cc
no_bar wants.Open h = absurd cc
no_bar wants.Close h = absurd cc

in_cell : (w : Want) (t : Token) → token_fits w t ≡ true → next_stage stages.InCell t ≡ stages.InCell
in_cell w (tokens.Mark marks.Semicolon) h = absurd (no_semicolon w h)
in_cell w (tokens.Mark marks.Bar) h = absurd (no_bar w h)
in_cell w t h = refl

abbrev InRow : Stage → Stage → List Token → Type 0
InRow s s' ts = Walks s rules.Instruction s' ts

fit_walk : (ws : List Want) (ts rest : List Token) (s : Stage) → all_fit ws ts ≡ true
    → InRow stages.InCell s rest → InRow stages.InCell s (ts ++ rest)
fit_walk [] [] rest s h w = w
fit_walk [] (t ∷ ts) rest s h w = absurd cc
fit_walk (x ∷ xs) [] rest s h w = absurd cc
fit_walk (x ∷ xs) (t ∷ ts) rest s h w =
    let p = and_parts (token_fits x t) (all_fit xs ts) h in (
      refl,
      subst (λ (g : Stage). InRow g s (ts ++ rest)) (sym (in_cell x t p.0))
          (fit_walk xs ts rest s p.1 w),
    )

label_walk : (ts rest : List Token) (s : Stage) → is_label ts ≡ true → InRow stages.InCell s rest
    → InRow stages.InCell s (ts ++ rest)
label_walk (tokens.Word n ∷ []) rest s h w = (refl, w)
label_walk ts rest s h w = absurd cc

none_walk : (ts rest : List Token) (s : Stage) → are_none ts ≡ true → InRow stages.InCell s rest
    → InRow stages.InCell s (ts ++ rest)
none_walk [] rest s h w = w
none_walk (t ∷ ts) rest s h w = absurd cc

operands_walk : (op : Opcode) (ts rest : List Token) (s : Stage) → takes_operands op ts ≡ true
    → InRow stages.InCell s rest → InRow stages.InCell s (ts ++ rest)
operands_walk (opcodes.Data op) ts rest s h w = fit_walk (data_form op) ts rest s h w
operands_walk (opcodes.Branch condition) ts rest s h w = label_walk ts rest s h w
operands_walk (opcodes.Fence f) ts rest s h w = none_walk ts rest s h w

-- where a cell begins or goes on
record Both (s : Stage) (rest : List Token) : Type 0 where
  begins : InRow stages.CellBegins s rest
  within : InRow stages.InCell s rest

first_walk : (i : Option InstructionTree) (rest : List Token) (s : Stage) → IsInstruction i
    → Both s rest → InRow stages.CellBegins s (spelled_instruction i rest)
first_walk None rest s h b = b.begins
first_walk (Some i) rest s h b = (
  refl,
  subst
      (λ (x : Bool).
      InRow (if x then stages.Tail else stages.InCell) s (i.operands ++ rest))
      (sym (stays i.word h.opcode h.known))
      (operands_walk h.opcode i.operands rest s h.fit b.within),
)

later_walk : (i : Option InstructionTree) (rest : List Token) (s : Stage) → IsInstruction i
    → Both s rest → InRow stages.InCell s (spelled_instruction i rest)
later_walk None rest s h b = b.within
later_walk (Some i) rest s h b = (refl, operands_walk h.opcode i.operands rest s h.fit b.within)

cell_walk : (l : Option (List ℕ)) (i : Option InstructionTree) (rest : List Token) (s : Stage)
    → IsInstruction i → Both s rest
    → InRow stages.CellBegins s (spelled_label l (spelled_instruction i rest))
cell_walk None i rest s h b = first_walk i rest s h b
cell_walk (Some l) i rest s h b = (refl, later_walk i rest s h b)

cells_walk : (cs : List CellTree) (rest : List Token) (s : Stage) → AreCells cs
    → InRow stages.CellBegins s rest → Both s (spelled_cells cs rest)
cells_walk [] rest s h w = record { begins = (refl, w); within = (refl, w) }
cells_walk (c ∷ cs) rest s h w =
    let x = cell_walk c.label c.instruction (spelled_cells cs rest) s h.0 (cells_walk cs rest s h.1 w) in
    record { begins = (refl, x); within = (refl, x) }

rows_walk : (n : ℕ) (rs : List RowTree) (rest : List Token) (s : Stage) → AreRowTrees n rs
    → InRow stages.CellBegins s rest → InRow stages.CellBegins s (spelled_rows rs rest)
rows_walk n [] rest s h w = w
rows_walk n (r ∷ rs) rest s h w =
    cell_walk r.first.label r.first.instruction (spelled_cells r.others (spelled_rows rs rest)) s
    h.0 (cells_walk r.others (spelled_rows rs rest) s h.1 (rows_walk n rs rest s h.3 w))

-- ---- what stands behind the rows

tail_begins : (q : Quantifier) (rest : List Token)
    → InRow stages.CellBegins stages.Tail (take 1 (spelled_quantifier q rest))
tail_begins Exists rest = (refl, refl)
tail_begins NotExists rest = (refl, refl)
tail_begins Forall rest = (refl, refl)

table_ends : (o : Option (Listed PlaceTree)) (q : Quantifier) (rest : List Token)
    → InRow stages.CellBegins stages.Tail (take 1 (spelled_observed o (spelled_quantifier q rest)))
table_ends None q rest = tail_begins q rest
table_ends (Some l) q rest = (refl, refl)

tail_walk : (ts : List Token) → Walks stages.Tail rules.Condition stages.Tail ts
tail_walk [] = refl
tail_walk (t ∷ ts) = (refl, tail_walk ts)

-- ---- tests

test_walk : (most : Limits) (t : TestTree) → IsTestTree most t → AreWalked stages.Magic (test_parts t)
test_walk most t h = (
  stages.Title,
  (refl, refl),
  (
    stages.Head,
    (refl, (refl, refl)),
    (
      stages.Header 8,
      text_walk t.text (spelled_keylines t.keylines (spelled_init t.init [])) (stages.Header 8)
          (keylines_walk t.keylines (spelled_init t.init []) (stages.Header 8) (init_walk t.init)),
      (
        stages.CellBegins,
        (refl, names_walk 1 t.others 8),
        (
          stages.Tail,
          rows_walk t.others t.rows (take 1 (tail_of t)) stages.Tail h.rows
              (table_ends t.observed t.quantifier _),
          (stages.Tail, tail_walk (drop 1 (tail_of t)), tt),
        ),
      ),
    ),
  ),
)

pub stage_of_part : (most : Limits) (t : TestTree) (before : List Token) (here : Token)
    (rule : LitmusRule) → IsTestTree most t → StandsIn (test_parts t) before here rule
    → part_rule (stage_after stages.Magic before) ≡ rule
stage_of_part most t before here rule h x =
    ap (λ (ts : List Token). part_rule (stage_after stages.Magic ts)) x.behind
    ∙ stands stages.Magic x.earlier x.its x.later x.inner here x.others
    (subst (AreWalked stages.Magic) x.split (test_walk most t h)) x.inside
    ∙ x.rule_is

-- ---- the parts are the whole

text-append : (b : Bool) (xs ys : List Token) → spelled_text b xs ++ ys ≡ spelled_text b (xs ++ ys)
text-append true xs ys = refl
text-append false xs ys = refl

first_and_rest : (ts : List Token) → take 1 ts ++ drop 1 ts ≡ ts
first_and_rest [] = refl
first_and_rest (t ∷ ts) = refl

pub parts_whole : (t : TestTree) → tokens_in (test_parts t) ≡ spelled_test t
parts_whole t =
    let T = tail_of t in
    let R = spelled_rows t.rows T in
    let H = spelled_header t.others R in
    let rows : spelled_rows t.rows (take 1 T) ++ (drop 1 T ++ []) ≡ R =
    ap (λ (l : List Token). spelled_rows t.rows (take 1 T) ++ l) (append-nil (drop 1 T))
    ∙ rows-append t.rows (take 1 T) (drop 1 T) ∙ ap (spelled_rows t.rows) (first_and_rest T) in
    let header : spelled_header t.others [] ++ (spelled_rows t.rows (take 1 T) ++ (drop 1 T ++ [])) ≡ H =
    ap (λ (l : List Token). spelled_header t.others [] ++ l) rows
    ∙ ap (λ (l : List Token). tokens.Word (column_name 0) ∷ l) (names-append 1 t.others [] R) in
    let before = spelled_text t.text (spelled_keylines t.keylines (spelled_init t.init [])) in
    let block : before ++ (spelled_header t.others [] ++ (spelled_rows t.rows (take 1 T) ++ (drop 1 T ++ []))) ≡ spelled_text t.text (spelled_keylines t.keylines (spelled_init t.init H)) =
    ap (λ (l : List Token). before ++ l) header
    ∙ text-append t.text (spelled_keylines t.keylines (spelled_init t.init [])) H
    ∙ ap (spelled_text t.text)
    (keylines-append t.keylines (spelled_init t.init []) H
    ∙ ap (spelled_keylines t.keylines) (init-append t.init [] H)) in
    ap (λ (l : List Token). tokens.Word (codes "PPC") ∷ tokens.Word t.name ∷ tokens.LineEnd ∷ l)
    block

-- ---- refusals

-- a ruling names a rule of its own, or that of the part
abbrev IsRight : Stage → Ruling → Type 0
IsRight s (Always n) = (is_named n ≡ true) ⊎ (n ≡ part_rule s)
IsRight s (Where other n) = is_named n ≡ true

right_if : (s : Stage) (b : Bool) (x y : Ruling) → IsRight s x → IsRight s y
    → IsRight s (if b then x else y)
right_if s true x y p q = p
right_if s false x y p q = q

cell_right : (s : Stage) (t : Token) → IsRight s (cell_ruling s t)
cell_right s (tokens.Mark marks.Semicolon) = refl
cell_right s (tokens.Mark marks.Bar) = refl
cell_right s (tokens.Word w) =
    right_if s (bytes_eq w (codes "r0")) _ _ refl (right_if s (is_filter w) _ _ refl (inr refl))
cell_right s (tokens.Number negative ds) = right_if s (is_int negative ds) _ _ refl (inr refl)
cell_right s t = inr refl

word_right : (s : Stage) (w : List ℕ) → IsRight s (word_ruling s w)
word_right (stages.Init alone true) w = inl refl
word_right stages.Tail w = right_if stages.Tail (is_filter w) _ _ (inl refl) (inr refl)
word_right s w = inr refl

other_right : (s : Stage) (t : Token)
    → (part_ruling s t ≡ cell_ruling s t)
    ⊎ ((part_ruling s t ≡ Always (part_rule s))
    ⊎ ((w : List ℕ) × (part_ruling s t ≡ word_ruling s w)))
other_right stages.CellBegins t = inl refl
other_right stages.InCell t = inl refl
other_right s (tokens.Word w) = inr (inr (w, refl))
other_right s t = inr (inl refl)

part_right : (s : Stage) (t : Token) → IsRight s (part_ruling s t)
part_right s t = by_case (other_right s t)
  where
    by_case : (part_ruling s t ≡ cell_ruling s t)
        ⊎ ((part_ruling s t ≡ Always (part_rule s))
        ⊎ ((w : List ℕ) × (part_ruling s t ≡ word_ruling s w)))
        → IsRight s (part_ruling s t)
    by_case (inl e) = subst (IsRight s) (sym e) (cell_right s t)
    by_case (inr (inl e)) = subst (IsRight s) (sym e) (inr refl)
    by_case (inr (inr (w, e))) = subst (IsRight s) (sym e) (word_right s w)

said : (C : Token → Type 0) (s : Stage) (x : Ruling) (t : Token) (k : LitmusRule) → IsRight s x
    → RulingSays C s x k → IsRuleOfToken t (part_rule s) k
said C s (Always n) t k (inl named) e = Named (ap is_named e ∙ named)
said C s (Always n) t k (inr same) e = OfPart (e ∙ same)
said C s (Where other n) t k named (inl x) = Named (ap is_named x.1 ∙ named)
said C s (Where other n) t k named (inr x) = OfPart x.1

numbered : (C : Token → Type 0) (s : Stage) (t : Token) (k : LitmusRule) → RulingSays C s (ruling s t) k
    → IsRuleOfToken t (part_rule s) k
numbered C s (tokens.Broken r) k e = OfToken (ap tokens.Broken (sym e))
numbered C s t k e = said C s (part_ruling s t) t k (part_right s t) e

pub refusal_of_part : (most : Limits) (t : TestTree) (ps : List TokenAt) (rule : LitmusRule)
    (offset : ℕ) → IsTestTree most t → (f : IsTestTokenFault ps rule offset)
    → IsOfItsPart ps rule offset f t
refusal_of_part most t ps rule offset h f there of_part x =
    subst (λ (r : LitmusRule). IsRuleOfToken f.here.token r rule) (stage_of_part most t
    (test_tokens_of f.before) there of_part h x)
    (numbered _ (stage_after stages.Magic (test_tokens_of f.before)) f.here.token rule f.number)

-- ---- parts that are read alone

init_stays : (word : Bool) (ts : List Token)
    → part_rule (stage_after (stages.Init true word) ts) ≡ rules.Init
init_stays word [] = refl
init_stays word (tokens.Word w ∷ ts) = init_stays true ts
init_stays word (tokens.Mark marks.CloseBrace ∷ ts) = init_stays false ts
init_stays word (t ∷ ts) = init_stays false ts

tail_stays : (ts : List Token) → part_rule (stage_after stages.Tail ts) ≡ rules.Condition
tail_stays [] = refl
tail_stays (t ∷ ts) = tail_stays ts

steps_walk : (cs : List CellTree) → AreCells cs
    → Both stages.InCell (spelled_steps cs (tokens.End ∷ []))
steps_walk [] h = record { begins = (refl, refl); within = (refl, refl) }
steps_walk (c ∷ cs) h =
    let x = cell_walk c.label c.instruction (spelled_steps cs (tokens.End ∷ [])) stages.InCell h.0 (steps_walk cs h.1) in
    record { begins = (refl, x); within = (refl, x) }

first_stands : (s : Stage) (before rest : List Token) → InRow s stages.InCell (before ++ rest)
    → part_rule (stage_after s before) ≡ rules.Instruction
first_stands s [] [] w = ap part_rule w
first_stands s [] (t ∷ ts) w = w.0
first_stands s (t ∷ ts) rest w = first_stands (next_stage s t) ts rest w.1

thread_stays : (before rest : List Token) (t : ThreadTree) → AreCells (t.first ∷ t.others)
    → before ++ rest ≡ spelled_thread t (tokens.End ∷ [])
    → part_rule (stage_after stages.CellBegins before) ≡ rules.Instruction
thread_stays before rest t h e =
    first_stands stages.CellBegins before rest (subst (InRow stages.CellBegins stages.InCell)
    (sym e)
    (cell_walk t.first.label t.first.instruction (spelled_steps t.others (tokens.End ∷ []))
    stages.InCell h.0 (steps_walk t.others h.1)))

module _ (ps : List TokenAt) (rule : LitmusRule) (offset : ℕ) where
  of_rule : (IsText : List Token → Type 0) (start : Stage) (of_part : LitmusRule)
      (f : IsFault IsText start ps rule offset)
      → part_rule (stage_after start (test_tokens_of f.before)) ≡ of_part
      → IsRuleOfToken f.here.token of_part rule
  of_rule IsText start of_part f e =
      subst (λ (r : LitmusRule). IsRuleOfToken f.here.token r rule) e (numbered _
      (stage_after start (test_tokens_of f.before)) f.here.token rule f.number)

  pub init_refusal : (f : IsFault (IsStart IsInitText (stages.Init true false))
      (stages.Init true false) ps rule offset) → IsOfPart rules.Init f
  init_refusal f =
      of_rule _ (stages.Init true false) rules.Init f (init_stays false (test_tokens_of f.before))

  pub thread_refusal : (f : IsFault IsThreadText stages.CellBegins ps rule offset)
      → IsOfPart rules.Instruction f
  thread_refusal f =
      let b = f.begins in
      of_rule _ stages.CellBegins rules.Instruction f (thread_stays (test_tokens_of f.before) b.rest
      b.text.tree b.text.fine b.text.whole)

  pub locations_refusal : (threads : ℕ) (f : IsFault (IsLocationsText threads) stages.Tail ps rule
      offset) → IsOfPart rules.Condition f
  locations_refusal threads f =
      of_rule _ stages.Tail rules.Condition f (tail_stays (test_tokens_of f.before))

  pub condition_refusal : (threads : ℕ) (f : IsFault (IsConditionText condition_limits threads) stages.Tail ps
      rule offset) → IsOfPart rules.Condition f
  condition_refusal threads f =
      of_rule _ stages.Tail rules.Condition f (tail_stays (test_tokens_of f.before))
