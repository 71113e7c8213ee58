-- Conditions, as they are read.
use Rattle.std.proofs.Common.{◌≡◌, ℕ, zero, suc, ◌+◌, ◌<◌, ◌≤◌, Bool, true, false, List, [], ◌∷◌, ◌++◌, length, refl, sym, ap, ◌∙◌, arith, append_assoc}
use Rattle.std.specs.Prelude.{max, if◌then◌else◌, ◌&&◌, nat_lt, slice_index, codes}
use Rattle.std.specs.Fmt.{decimal}
use Rattle.std.proofs.lemmas.Bool.{and_parts, ltb-false}
use Rattle.std.proofs.lemmas.Fmt.{decimal_nonempty}
use Rattle.std.proofs.lemmas.List.{append-nil}
use Rattle.text_values.specs.Layout.{comment_of}
use Rattle.litmus_tokens.specs.declared.stage.Stage.TheVariants.{Tail}
use Rattle.litmus_tokens.specs.declared.token.Token.{Token}
use Rattle.litmus_tokens.specs.declared.token.Token.TheVariants as tokens
use Rattle.litmus_tokens.specs.declared.token.Mark.TheVariants as marks
use Rattle.litmus_tokens.specs.declared.lexer.NextLexeme.TheVariants.{Lexeme}
use Rattle.litmus_tokens.specs.Lexer.{is_word_byte, comment_lexeme, first_lexeme}
use Rattle.litmus_tokens.specs.Stage.{next_stage}
use Rattle.litmus_tokens.specs.Texts.{tokens_from}
use Rattle.text_values.specs.declared.test.Place.{Place}
use Rattle.text_values.specs.declared.test.Place.TheVariants as places
use Rattle.text_values.specs.declared.test.Quantifier.{Quantifier}
use Rattle.text_values.specs.declared.test.Quantifier.TheVariants.{Exists, NotExists, Forall}
use Rattle.text_values.specs.declared.test.Connective.{Connective}
use Rattle.text_values.specs.declared.test.Connective.TheVariants as connectives
use Rattle.text_values.specs.TestValue.{Formula, Constant, Holds, Not, Join, level}
use Rattle.litmus_tokens.specs.Conditions as grammar
use Rattle.litmus_tokens.specs.Conditions.{FormulaTree, Word, Atom, Prefix, Pair, Group, connective_token, spelled, spelled_quantifier, tree_formula, tightness, IsGrouped, HasAtoms, depth, operators, Limits, condition_limits}
use Rattle.litmus_printing.specs.Printing.{place_text, value_text, connective_text, is_loose, formula_text, condition_text}
use Rattle.text_values.specs.Joined.{bracketed}
use Rattle.litmus_grammar.specs.Texts.{ReadsCondition}
use Rattle.litmus_laws.specs.Written.{begins_word, IsWord, IsPlace, IsFormula, IsTextOfCondition, nesting, joins, IsFormulaWithinLimits}
use Rattle.text_laws.specs.Counts.{one_where}
use Rattle.litmus_laws.proofs.Read.{InnerPart, Entries, Operands, Condition, part, core, free, inner, inner_turn}
use Rattle.litmus_laws.proofs.Numbers.{digits_first, word, are_back}
use Rattle.litmus_laws.proofs.Places.{equals, Stops, value, value_tree, value_back, value_fine, value_first, place_tree, square_place, place_back, place_fine, place_there}
use Rattle.litmus_tokens.proofs.Branches.{level-le}
use Rattle.text_laws.proofs.Runs.{other}

-- ---- words and signs

abbrev pub all_of_word : List ℕ → Bool
all_of_word [] = true
all_of_word (c ∷ cs) = is_word_byte c && all_of_word cs

each_of : (n : List ℕ) → all_of_word n ≡ true → (k : ℕ) → k < length n
    → is_word_byte (slice_index n k) ≡ true
each_of [] h k lt = absurd (omega arith)
each_of (c ∷ cs) h zero lt = (and_parts (is_word_byte c) (all_of_word cs) h).0
each_of (c ∷ cs) h (suc k) lt =
    each_of cs (and_parts (is_word_byte c) (all_of_word cs) h).1 k (omega arith)

pub is_word : (n : List ℕ) → begins_word (slice_index n 0) ≡ true → all_of_word n ≡ true → IsWord n
is_word n f h = record { first = f; each = each_of n h }

pub blank : (w : InnerPart) (bs : List ℕ) → inner w (32 ∷ bs) ≡ inner w bs
unfolding tokens_from first_lexeme
blank Entries bs = free (part Entries) _ 0 1 bs refl
blank Operands bs = free (part Operands) _ 0 1 bs refl
blank Condition bs = free (part Condition) _ 0 1 bs refl

pub line_end : (w : InnerPart) (bs : List ℕ) → inner w (10 ∷ bs) ≡ inner w bs
unfolding tokens_from first_lexeme
line_end Entries bs = free (part Entries) _ 0 1 bs refl
line_end Operands bs = free (part Operands) _ 0 1 bs refl
line_end Condition bs = free (part Condition) _ 0 1 bs refl

open_here : (bs : List ℕ) → (slice_index bs 0 ≡ 42 → ⊥)
    → first_lexeme Tail false (40 ∷ bs) ≡ Lexeme (tokens.Mark marks.Open) 1
unfolding first_lexeme
open_here bs h =
    ap
    (λ (b : Bool). if b then comment_lexeme (length (40 ∷ bs)) (comment_of (40 ∷ bs))
    else Lexeme (tokens.Mark marks.Open) 1)
    (other (slice_index bs 0) 42 h)

open_stays : (w : InnerPart) → core (next_stage (part w) (tokens.Mark marks.Open)) ≡ part w
open_stays Entries = refl
open_stays Operands = refl
open_stays Condition = refl

pub open_round : (w : InnerPart) (bs : List ℕ) → (slice_index bs 0 ≡ 42 → ⊥)
    → inner w (40 ∷ bs) ≡ tokens.Mark marks.Open ∷ inner w bs
open_round w bs h = inner_turn w 40 [] bs (tokens.Mark marks.Open) (open_stays w) (open_here bs h)

pub close_round : (w : InnerPart) (bs : List ℕ)
    → inner w (41 ∷ bs) ≡ tokens.Mark marks.Close ∷ inner w bs
unfolding tokens_from first_lexeme
close_round Entries bs =
    ap (λ (ts : List Token). tokens.Mark marks.Close ∷ ts) (free (part Entries) _ 0 1 bs refl)
close_round Operands bs =
    ap (λ (ts : List Token). tokens.Mark marks.Close ∷ ts) (free (part Operands) _ 0 1 bs refl)
close_round Condition bs =
    ap (λ (ts : List Token). tokens.Mark marks.Close ∷ ts) (free (part Condition) _ 0 1 bs refl)

tilde : (bs : List ℕ) → inner Condition (126 ∷ bs) ≡ tokens.Mark marks.Tilde ∷ inner Condition bs
unfolding tokens_from first_lexeme
tilde bs = ap (λ (ts : List Token). tokens.Mark marks.Tilde ∷ ts) (free Tail _ 0 1 bs refl)

connective : (op : Connective) (bs : List ℕ)
    → inner Condition (connective_text op ++ bs) ≡ connective_token op ∷ inner Condition bs
unfolding tokens_from first_lexeme
connective connectives.And bs =
    ap (λ (ts : List Token). tokens.Mark marks.And ∷ ts) (free Tail _ 0 4 bs refl)
connective connectives.Or bs =
    ap (λ (ts : List Token). tokens.Mark marks.Or ∷ ts) (free Tail _ 0 4 bs refl)
connective connectives.Implies bs =
    ap (λ (ts : List Token). tokens.Mark marks.Implies ∷ ts) (free Tail _ 0 4 bs refl)

connective_stops : (op : Connective) (bs : List ℕ) → Stops (connective_text op ++ bs)
connective_stops connectives.And bs = record { no_word = refl; no_digits = refl }
connective_stops connectives.Or bs = record { no_word = refl; no_digits = refl }
connective_stops connectives.Implies bs = record { no_word = refl; no_digits = refl }

close_stops : (bs : List ℕ) → Stops (41 ∷ bs)
close_stops bs = record { no_word = refl; no_digits = refl }

pub no_bytes : inner Condition [] ≡ tokens.End ∷ []
unfolding tokens_from
no_bytes = refl

-- ---- trees

abbrev pub grouped : Bool → FormulaTree → FormulaTree
grouped true t = Group t
grouped false t = t

abbrev pub tree_of : Formula → FormulaTree
tree_of (Constant b) = Word b
tree_of (Holds p v) = Atom (place_tree true p) (value_tree v)
tree_of (Not a) = Prefix false (Group (tree_of a))
tree_of (Join op a b) =
    Pair op (grouped (is_loose (level op + 1) a) (tree_of a))
    (grouped (is_loose (level op) b) (tree_of b))

meaning-grouped : (b : Bool) (t : FormulaTree) → tree_formula (grouped b t) ≡ tree_formula t
meaning-grouped true t = refl
meaning-grouped false t = refl

IsGrouped-grouped : (b : Bool) (t : FormulaTree) → IsGrouped t → IsGrouped (grouped b t)
IsGrouped-grouped true t h = h
IsGrouped-grouped false t h = h

HasAtoms-grouped : (threads : ℕ) (b : Bool) (t : FormulaTree) → HasAtoms threads t
    → HasAtoms threads (grouped b t)
HasAtoms-grouped threads true t h = h
HasAtoms-grouped threads false t h = h

tight_pair : (least : ℕ) → least ≤ 4 → (b : Bool) (op : Connective) (x y : FormulaTree)
    → nat_lt (level op) least ≡ b → least ≤ tightness (grouped b (Pair op x y))
tight_pair least low true op x y e = omega arith
tight_pair least low false op x y e = ltb-false (level op) least e

tight : (least : ℕ) → least ≤ 4 → (a : Formula)
    → least ≤ tightness (grouped (is_loose least a) (tree_of a))
tight least low (Constant b) = omega arith
tight least low (Holds p v) = omega arith
tight least low (Not a) = omega arith
tight least low (Join op a b) = tight_pair least low (nat_lt (level op) least) op _ _ refl

grouping : (f : Formula) → IsGrouped (tree_of f)
grouping (Constant b) = tt
grouping (Holds p v) = tt
grouping (Not a) = (omega arith, grouping a)
grouping (Join op a b) =
    let l = level-le op in (
      tight (level op + 1) (omega arith) a,
      tight (level op) (omega arith) b,
      IsGrouped-grouped (is_loose (level op + 1) a) (tree_of a) (grouping a),
      IsGrouped-grouped (is_loose (level op) b) (tree_of b) (grouping b),
    )

-- ---- the tokens of a proposition

open_operand : (b : Bool) (text bs : List ℕ) → (slice_index (text ++ bs) 0 ≡ 42 → ⊥)
    → slice_index (bracketed b text ++ bs) 0 ≡ 42 → ⊥
open_operand true text bs h = λ e. absurd (omega arith)
open_operand false text bs h = h

module _ (threads : ℕ) (few : threads < 18446744073709551616) where
  first_place : (p : Place) (bs : List ℕ) → IsPlace threads p
      → slice_index (place_text p ++ bs) 0 ≡ 42 → ⊥
  first_place (places.Location x) bs h = λ e. absurd (omega arith)
  first_place (places.Register t r) bs h =
      let x = h.0 in
      rw append_assoc (digits_first 42 (decimal t) _ refl (are_back t (omega arith))
      (decimal_nonempty t (omega arith)))

  pub first_byte : (f : Formula) (bs : List ℕ) → IsFormula threads f
      → slice_index (formula_text f ++ bs) 0 ≡ 42 → ⊥
  first_byte (Constant true) bs h = λ e. absurd (omega arith)
  first_byte (Constant false) bs h = λ e. absurd (omega arith)
  first_byte (Holds p v) bs h = rw append_assoc (first_place p _ h.0)
  first_byte (Not a) bs h = λ e. absurd (omega arith)
  first_byte (Join op a b) bs h =
      rw append_assoc (open_operand (is_loose (level op + 1) a) (formula_text a) _
      (first_byte a _ h.0))

  operand_back : (b : Bool) (text : List ℕ) (t : FormulaTree) (bs : List ℕ)
      → ((x : List ℕ) → Stops x → inner Condition (text ++ x) ≡ spelled t (inner Condition x))
      → (slice_index (text ++ (41 ∷ bs)) 0 ≡ 42 → ⊥) → Stops bs
      → inner Condition (bracketed b text ++ bs) ≡ spelled (grouped b t) (inner Condition bs)
  operand_back false text t bs back first e = back bs e
  operand_back true text t bs back first e =
      ap (λ (x : List ℕ). inner Condition (40 ∷ x)) (append_assoc text (41 ∷ []) bs)
      ∙ open_round Condition (text ++ (41 ∷ bs)) first
      ∙ ap (λ (ts : List Token). tokens.Mark marks.Open ∷ ts) (back (41 ∷ bs) (close_stops bs)
      ∙ ap (spelled t) (close_round Condition bs))

  formula_back : (f : Formula) (bs : List ℕ) → IsFormula threads f → Stops bs
      → inner Condition (formula_text f ++ bs) ≡ spelled (tree_of f) (inner Condition bs)
  formula_back (Constant true) bs h e =
      word Condition (codes "true") bs (is_word (codes "true") refl refl) e.no_word
  formula_back (Constant false) bs h e =
      word Condition (codes "false") bs (is_word (codes "false") refl refl) e.no_word
  formula_back (Holds p v) bs h e =
      ap (inner Condition) (append_assoc (place_text p) (61 ∷ value_text v) bs)
      ∙ square_place threads few p (61 ∷ (value_text v ++ bs)) h.0 refl
      ∙ ap (grammar.spelled_place (place_tree true p)) (equals Condition (value_text v ++ bs)
      (value_first v bs h.1)
      ∙ ap (λ (ts : List Token). tokens.Mark marks.Equals ∷ ts) (value Condition v bs h.1 e))
  formula_back (Not a) bs h e =
      let F = formula_text a in
      ap (λ (l : List ℕ). inner Condition (codes "not (" ++ l)) (append_assoc F (41 ∷ []) bs)
      ∙ word Condition (codes "not") (32 ∷ 40 ∷ (F ++ (41 ∷ bs))) (is_word (codes "not") refl refl)
      refl
      ∙ ap (λ (ts : List Token). tokens.Word (codes "not") ∷ ts) (blank Condition
      (40 ∷ (F ++ (41 ∷ bs)))
      ∙ open_round Condition (F ++ (41 ∷ bs)) (first_byte a (41 ∷ bs) h)
      ∙ ap (λ (ts : List Token). tokens.Mark marks.Open ∷ ts) (formula_back a (41 ∷ bs) h
      (close_stops bs) ∙ ap (spelled (tree_of a)) (close_round Condition bs)))
  formula_back (Join op a b) bs h e =
      let A = bracketed (is_loose (level op + 1) a) (formula_text a) in
      let B = bracketed (is_loose (level op) b) (formula_text b) in
      ap (inner Condition) (append_assoc A (connective_text op ++ B) bs
      ∙ ap (λ (x : List ℕ). A ++ x) (append_assoc (connective_text op) B bs))
      ∙ operand_back (is_loose (level op + 1) a) (formula_text a) (tree_of a)
      (connective_text op ++ (B ++ bs)) (λ x k. formula_back a x h.0 k) (first_byte a _ h.0)
      (connective_stops op (B ++ bs))
      ∙ ap (spelled (grouped (is_loose (level op + 1) a) (tree_of a))) (connective op (B ++ bs)
      ∙ ap (λ (ts : List Token). connective_token op ∷ ts) (
      operand_back (is_loose (level op) b) (formula_text b) (tree_of b) bs
      (λ x k. formula_back b x h.1 k) (first_byte b _ h.1) e))

  -- the proposition in its parentheses
  pub group_back : (f : Formula) (bs : List ℕ) → IsFormula threads f
      → inner Condition (32 ∷ 40 ∷ ((formula_text f ++ 41 ∷ []) ++ bs))
      ≡ spelled (Group (tree_of f)) (inner Condition bs)
  group_back f bs h =
      let F = formula_text f in
      blank Condition (40 ∷ ((F ++ 41 ∷ []) ++ bs))
      ∙ ap (λ (l : List ℕ). inner Condition (40 ∷ l)) (append_assoc F (41 ∷ []) bs)
      ∙ open_round Condition (F ++ (41 ∷ bs)) (first_byte f (41 ∷ bs) h)
      ∙ ap (λ (ts : List Token). tokens.Mark marks.Open ∷ ts) (formula_back f (41 ∷ bs) h
      (close_stops bs) ∙ ap (spelled (tree_of f)) (close_round Condition bs))

  pub condition_back : (q : Quantifier) (f : Formula) (bs : List ℕ) → IsFormula threads f
      → inner Condition (condition_text q f ++ bs)
      ≡ spelled_quantifier q (spelled (Group (tree_of f)) (inner Condition bs))
  condition_back Exists f bs h =
      word Condition (codes "exists") (32 ∷ 40 ∷ ((formula_text f ++ 41 ∷ []) ++ bs))
      (is_word (codes "exists") refl refl) refl
      ∙ ap (λ (ts : List Token). tokens.Word (codes "exists") ∷ ts) (group_back f bs h)
  condition_back NotExists f bs h =
      tilde (codes "exists" ++ (32 ∷ 40 ∷ ((formula_text f ++ 41 ∷ []) ++ bs)))
      ∙ ap (λ (ts : List Token). tokens.Mark marks.Tilde ∷ ts) (word Condition (codes "exists")
      (32 ∷ 40 ∷ ((formula_text f ++ 41 ∷ []) ++ bs)) (is_word (codes "exists") refl refl) refl
      ∙ ap (λ (ts : List Token). tokens.Word (codes "exists") ∷ ts) (group_back f bs h))
  condition_back Forall f bs h =
      word Condition (codes "forall") (32 ∷ 40 ∷ ((formula_text f ++ 41 ∷ []) ++ bs))
      (is_word (codes "forall") refl refl) refl
      ∙ ap (λ (ts : List Token). tokens.Word (codes "forall") ∷ ts) (group_back f bs h)

  -- ---- what it means

  atoms : (f : Formula) → IsFormula threads f → HasAtoms threads (tree_of f)
  atoms (Constant b) h = tt
  atoms (Holds p v) h =
      (place_fine threads few true p h.0, place_there threads few true p h.0, value_fine v h.1)
  atoms (Not a) h = atoms a h
  atoms (Join op a b) h = (
    HasAtoms-grouped threads (is_loose (level op + 1) a) (tree_of a) (atoms a h.0),
    HasAtoms-grouped threads (is_loose (level op) b) (tree_of b) (atoms b h.1),
  )

  pub meaning_back : (f : Formula) → IsFormula threads f → tree_formula (tree_of f) ≡ f
  meaning_back (Constant b) h = refl
  meaning_back (Holds p v) h =
      ap (λ (x : Place). Holds x (grammar.value_meaning (value_tree v)))
      (place_back threads few true p h.0) ∙ ap (Holds p) (value_back v h.1)
  meaning_back (Not a) h = ap Not (meaning_back a h)
  meaning_back (Join op a b) h =
      ap (λ (x : Formula). Join op x (tree_formula (grouped (is_loose (level op) b) (tree_of b))))
      (meaning-grouped (is_loose (level op + 1) a) (tree_of a) ∙ meaning_back a h.0)
      ∙ ap (Join op a) (meaning-grouped (is_loose (level op) b) (tree_of b) ∙ meaning_back b h.1)

  depth-grouped : (b : Bool) (t : FormulaTree) → depth (grouped b t) ≡ depth t + one_where b
  depth-grouped true t = refl
  depth-grouped false t = omega arith

  operators-grouped : (b : Bool) (t : FormulaTree) → operators (grouped b t) ≡ operators t
  operators-grouped true t = refl
  operators-grouped false t = refl

  depth_is : (f : Formula) → depth (tree_of f) ≡ nesting f
  depth_is (Constant b) = refl
  depth_is (Holds p v) = refl
  depth_is (Not a) = let one = depth_is a in omega arith
  depth_is (Join op a b) =
      ap (λ (n : ℕ). max n (depth (grouped (is_loose (level op) b) (tree_of b))))
      (depth-grouped (is_loose (level op + 1) a) (tree_of a)
      ∙ ap (λ (n : ℕ). n + one_where (is_loose (level op + 1) a)) (depth_is a))
      ∙ ap (λ (n : ℕ). max (nesting a + one_where (is_loose (level op + 1) a)) n)
      (depth-grouped (is_loose (level op) b) (tree_of b)
      ∙ ap (λ (n : ℕ). n + one_where (is_loose (level op) b)) (depth_is b))

  operators_are : (f : Formula) → operators (tree_of f) ≡ joins f
  operators_are (Constant b) = refl
  operators_are (Holds p v) = refl
  operators_are (Not a) = operators_are a
  operators_are (Join op a b) =
      ap (λ (n : ℕ). n + operators (grouped (is_loose (level op) b) (tree_of b)) + 1)
      (operators-grouped (is_loose (level op + 1) a) (tree_of a) ∙ operators_are a)
      ∙ ap (λ (n : ℕ). joins a + n + 1) (operators-grouped (is_loose (level op) b) (tree_of b)
      ∙ operators_are b)

  -- limits that are wide enough
  abbrev pub enough : Formula → Limits
  enough f = record { nesting = nesting f + 1; operators = joins f }

  pub fine : (most : Limits) (f : Formula) → IsFormula threads f → nesting f + 1 ≤ most.nesting
      → joins f ≤ most.operators → grammar.IsFormulaTree most threads (Group (tree_of f))
  fine most f h deep many =
      let d = depth_is f in
      let o = operators_are f in
      record { grouped = grouping f; atoms = atoms f h; shallow = omega arith; short = omega arith }

  condition_tokens : (q : Quantifier) (f : Formula) → IsFormula threads f
      → inner Condition (condition_text q f)
      ≡ spelled_quantifier q (spelled (Group (tree_of f)) (tokens.End ∷ []))
  condition_tokens q f h =
      ap (inner Condition) (sym (append-nil (condition_text q f))) ∙ condition_back q f [] h
      ∙ ap (λ (ts : List Token). spelled_quantifier q (spelled (Group (tree_of f)) ts)) no_bytes

  pub condition_is_read : (q : Quantifier) (f : Formula) → IsFormula threads f
      → IsTextOfCondition threads (condition_text q f) q f
  condition_is_read q f h = record {
    most = enough f;
    text =
        record {
          quantifier = q;
          condition = Group (tree_of f);
          fine = fine (enough f) f h (omega arith) (omega arith);
          whole = condition_tokens q f h;
        };
    asked = refl;
    meant = meaning_back f h;
  }

  pub condition_reads : (q : Quantifier) (f : Formula) → IsFormula threads f
      → IsFormulaWithinLimits (condition_text q f) f → ReadsCondition threads (condition_text q f) (q, f)
  condition_reads q f h w = record {
    short = w.short;
    text =
        record {
          quantifier = q;
          condition = Group (tree_of f);
          fine = fine condition_limits f h w.shallow w.few;
          whole = condition_tokens q f h;
        };
    in_time = refl;
    meant = ap (λ (g : Formula). (q, g)) (meaning_back f h);
  }
