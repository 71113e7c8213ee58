-- Instructions, as they are read.
use Rattle.std.proofs.Common.{◌≡◌, ℕ, suc, ◌+◌, ◌<◌, Bool, true, false, List, [], ◌∷◌, ◌++◌, length, take, drop, refl, sym, ap, ◌∙◌, arith, append_assoc}
use Rattle.std.specs.Prelude.{if◌then◌else◌, ◌&&◌, ◌||◌, ◌==◌, not, map, slice_index, codes, Option, Some, None, ℤ, pos}
use Rattle.std.specs.List.{position_or_len}
use Rattle.std.specs.Str.{bytes_eq}
use Rattle.std.specs.Fmt.{decimal, signed_decimal}
use Rattle.std.proofs.lemmas.Bool.{and_from, and_left, false_from_ne_true}
use Rattle.std.proofs.lemmas.Bool.Decides.{nat_tests}
use Rattle.std.proofs.lemmas.List.{take_at, drop_at, append-nil, length-append}
use Rattle.std.proofs.lemmas.Fmt.{decimal_digit}
use Rattle.std.proofs.lemmas.Slice.Eq.{bytes_eq-Decides}
use Rattle.litmus_tokens.specs.declared.stage.Stage.TheVariants.{CellBegins, InCell, Tail}
use Rattle.litmus_tokens.specs.declared.token.Token.{Token}
use Rattle.litmus_tokens.specs.declared.token.Token.TheVariants as tokens
use Rattle.litmus_tokens.specs.declared.token.Mark.TheVariants as marks
use Rattle.litmus_tokens.specs.declared.lexer.NextLexeme.{NextLexeme}
use Rattle.litmus_tokens.specs.declared.lexer.NextLexeme.TheVariants.{Layout, Lexeme}
use Rattle.litmus_tokens.specs.Words.{ends_table, is_register, is_known, register_of, or_zero}
use Rattle.text_values.specs.Letters.{is_letter}
use Rattle.litmus_tokens.specs.Lexer.{is_space, ends_word, significant, begins_comment, gap_from, label_lexeme, first_lexeme}
use Rattle.litmus_tokens.specs.Stage.{next_stage}
use Rattle.litmus_tokens.specs.Texts.{tokens_from}
use Rattle.text_values.specs.declared.instruction.Instruction.{Instruction}
use Rattle.text_values.specs.declared.instruction.Instruction.TheVariants as instructions
use Rattle.text_values.specs.declared.instruction.Operation.{Operation}
use Rattle.text_values.specs.declared.instruction.Operation.TheVariants as operations
use Rattle.text_values.specs.declared.instruction.BranchCondition.{BranchCondition}
use Rattle.text_values.specs.declared.instruction.BranchCondition.TheVariants as branches
use Rattle.text_values.specs.declared.instruction.Fence as fence
use Rattle.text_values.specs.declared.instruction.Fence.TheVariants as fences
use Rattle.litmus_words.specs.declared.opcode.DataOpcode.{DataOpcode}
use Rattle.litmus_words.specs.declared.opcode.DataOpcode.TheVariants as data_opcodes
use Rattle.litmus_words.specs.declared.opcode.Opcode.{Opcode}
use Rattle.litmus_words.specs.declared.opcode.Opcode.TheVariants as opcodes
use Rattle.litmus_words.specs.declared.opcode.Want.{Want}
use Rattle.litmus_words.specs.declared.opcode.Want.TheVariants as wants
use Rattle.litmus_words.specs.Words.{computing_of, accessing_of, fence_of, branch_of, opcode_of, data_form, all_fit, registers, immediate, data_meaning, instruction_meaning}
use Rattle.litmus_table.specs.Grammar.{InstructionTree, IsOperation}
use Rattle.litmus_printing.specs.Printing.{register_text, operation_text, branch_text, fence_text, operands_text, based_text, instruction_text}
use Rattle.text_values.specs.Joined.{joined}
use Rattle.litmus_laws.specs.Written.{begins_word, IsWord, IsNumber, IsBase, IsTestInstruction}
use Rattle.litmus_laws.proofs.Read.{Operands, core, read, free, turn, inner, first_of, word_byte}
use Rattle.litmus_laws.proofs.Numbers.{second_test, word_len, word, number, signed_number, is_negative, digits_of, signed_back, is_int_back, register_back, register_word}
use Rattle.litmus_laws.proofs.Places.{Stops}
use Rattle.litmus_laws.proofs.Conditions.{is_word, blank, open_round, close_round}
use Rattle.text_laws.proofs.Runs.{other}

-- ---- a word that begins a cell

-- behind these bytes and a blank no colon makes the word before them a label
pub record NoColon (bs : List ℕ) : Type 0 where
  pub no_space : is_space (slice_index bs 0) ≡ false
  pub no_comment : begins_comment bs ≡ false
  pub no_colon : slice_index bs 0 ≡ 58 → ⊥

two_tests : {A : Type 0} (x y : Bool) (a b c : A) → x ≡ false → y ≡ false
    → (if x then a else (if y then b else c)) ≡ c
two_tests x y a b c e f =
    ap (λ (t : Bool). if t then a else (if y then b else c)) e
    ∙ ap (λ (t : Bool). if t then b else c) f

gap_one : (bs : List ℕ) → NoColon bs → gap_from 0 0 (32 ∷ bs) ≡ 1
unfolding gap_from
gap_one [] h = refl
gap_one (c ∷ cs) h = two_tests (is_space c) (begins_comment (c ∷ cs)) _ _ 1 h.no_space h.no_comment

no_gap : (bs : List ℕ) → gap_from 0 0 (58 ∷ bs) ≡ 0
unfolding gap_from
no_gap bs = refl

at_seam : (w : List ℕ) (b : ℕ) (bs : List ℕ) → slice_index (w ++ b ∷ bs) (length w) ≡ b
at_seam [] b bs = refl
at_seam (c ∷ cs) b bs = at_seam cs b bs

at_behind : (w : List ℕ) (b : ℕ) (bs : List ℕ)
    → slice_index (w ++ b ∷ bs) (suc (length w)) ≡ slice_index bs 0
at_behind [] b bs = refl
at_behind (c ∷ cs) b bs = at_behind cs b bs

abbrev cell_lexeme : List ℕ → ℕ → NextLexeme
cell_lexeme bs n = label_lexeme bs n (gap_from 0 0 (drop n bs))

begins_here : (c : ℕ) (cs bs : List ℕ) → IsWord (c ∷ cs) → ends_word (slice_index bs 0) ≡ true
    → first_lexeme CellBegins false (c ∷ (cs ++ bs))
    ≡ label_lexeme ((c ∷ cs) ++ bs) (length (c ∷ cs)) (gap_from 0 0 bs)
begins_here c cs bs h e =
    let o = first_of c h.first in
    let l = o.low in
    let whole = (c ∷ cs) ++ bs in
    word_byte CellBegins c (cs ++ bs) o
    ∙ second_test (c == 10) (is_letter c || c == 95) (Layout 1)
    (cell_lexeme whole (position_or_len ends_word whole)) _
    (other c 10 (λ x. absurd (omega arith))) h.first
    ∙ ap (cell_lexeme whole) (word_len (c ∷ cs) bs h e)
    ∙ ap (λ (x : List ℕ). label_lexeme whole (length (c ∷ cs)) (gap_from 0 0 x))
    (drop_at (c ∷ cs) bs (length (c ∷ cs)) refl)

word_here : (c : ℕ) (cs bs : List ℕ) → IsWord (c ∷ cs) → NoColon bs
    → first_lexeme CellBegins false (c ∷ (cs ++ 32 ∷ bs)) ≡ Lexeme (tokens.Word (c ∷ cs)) (length (c ∷ cs))
word_here c cs bs h e =
    let whole = (c ∷ cs) ++ 32 ∷ bs in
    let n = length (c ∷ cs) in
    let next : n + 1 ≡ suc n = omega arith in
    begins_here c cs (32 ∷ bs) h refl
    ∙ ap (label_lexeme whole n) (gap_one bs e)
    ∙ ap
    (λ (k : ℕ). if slice_index whole k == 58 then Lexeme (tokens.Label (take n whole))
    (n + 1 + 1)
    else Lexeme (tokens.Word (take n whole)) n) next
    ∙ ap
    (λ (b : ℕ). if b == 58 then Lexeme (tokens.Label (take n whole)) (n + 1 + 1)
    else Lexeme (tokens.Word (take n whole)) n)
    (at_behind (c ∷ cs) 32 bs)
    ∙ ap
    (λ (b : Bool). if b then Lexeme (tokens.Label (take n whole)) (n + 1 + 1)
    else Lexeme (tokens.Word (take n whole)) n)
    (other (slice_index bs 0) 58 e.no_colon)
    ∙ ap (λ (t : List ℕ). Lexeme (tokens.Word t) n) (take_at (c ∷ cs) (32 ∷ bs) n refl)

pub cell_word : (w bs : List ℕ) → IsWord w → NoColon bs
    → read CellBegins (w ++ 32 ∷ bs)
    ≡ tokens.Word w ∷ read (core (next_stage CellBegins (tokens.Word w))) (32 ∷ bs)
cell_word [] bs h e = let bad : false ≡ true = h.first in absurd cc
cell_word (c ∷ cs) bs h e =
    turn CellBegins c cs (32 ∷ bs) (tokens.Word (c ∷ cs)) refl (word_here c cs bs h e)

label_here : (c : ℕ) (cs bs : List ℕ) → IsWord (c ∷ cs)
    → first_lexeme CellBegins false (c ∷ (cs ++ 58 ∷ bs))
    ≡ Lexeme (tokens.Label (c ∷ cs)) (length (c ∷ (cs ++ 58 ∷ [])))
label_here c cs bs h =
    let whole = (c ∷ cs) ++ 58 ∷ bs in
    let n = length (c ∷ cs) in
    let l = length-append cs (58 ∷ []) in
    let here : n + 0 ≡ n = omega arith in
    let behind : n + 1 ≡ length (c ∷ (cs ++ 58 ∷ [])) = omega arith in
    begins_here c cs (58 ∷ bs) h refl
    ∙ ap (label_lexeme whole n) (no_gap bs)
    ∙ ap
    (λ (k : ℕ). if slice_index whole k == 58 then Lexeme (tokens.Label (take n whole)) (k + 1)
    else Lexeme (tokens.Word (take n whole)) n) here
    ∙ ap
    (λ (b : ℕ). if b == 58 then Lexeme (tokens.Label (take n whole)) (n + 1)
    else Lexeme (tokens.Word (take n whole)) n)
    (at_seam (c ∷ cs) 58 bs)
    ∙ ap (λ (k : ℕ). Lexeme (tokens.Label (take n whole)) k) behind
    ∙ ap (λ (t : List ℕ). Lexeme (tokens.Label t) (length (c ∷ (cs ++ 58 ∷ []))))
    (take_at (c ∷ cs) (58 ∷ bs) n refl)

pub cell_label : (w bs : List ℕ) → IsWord w
    → read CellBegins (w ++ 58 ∷ bs) ≡ tokens.Label w ∷ inner Operands bs
cell_label [] bs h = let bad : false ≡ true = h.first in absurd cc
cell_label (c ∷ cs) bs h =
    let whole : c ∷ ((cs ++ 58 ∷ []) ++ bs) ≡ (c ∷ cs) ++ 58 ∷ bs = ap (λ (x : List ℕ). c ∷ x) (append_assoc cs (58 ∷ []) bs) in
    ap (read CellBegins) (sym whole)
    ∙ turn CellBegins c (cs ++ 58 ∷ []) bs (tokens.Label (c ∷ cs)) refl
    (ap (first_lexeme CellBegins false) whole ∙ label_here c cs bs h)

-- a word that goes on with the table
pub opcode_back : (w bs : List ℕ) → IsWord w → ends_table w ≡ false → NoColon bs
    → read CellBegins (w ++ 32 ∷ bs) ≡ tokens.Word w ∷ inner Operands bs
opcode_back w bs h e n =
    cell_word w bs h n
    ∙ ap (λ (b : Bool). tokens.Word w ∷ read (core (if b then Tail else InCell)) (32 ∷ bs)) e
    ∙ ap (λ (ts : List Token). tokens.Word w ∷ ts) (blank Operands bs)

-- ---- operands

pub data Piece : Type 0 where
  Reg : (r : ℕ) → Piece
  Base : (r : ℕ) → Piece
  Num : (z : ℤ) → Piece
  Based : (r : ℕ) → Piece

abbrev pub piece_text : Piece → List ℕ
piece_text (Reg r) = register_text r
piece_text (Base r) = register_text r
piece_text (Num z) = signed_decimal z
piece_text (Based r) = based_text r

abbrev pub piece_tokens : Piece → List Token
piece_tokens (Reg r) = tokens.Word (register_text r) ∷ []
piece_tokens (Base r) = tokens.Word (register_text r) ∷ []
piece_tokens (Num z) = tokens.Number (is_negative z) (digits_of z) ∷ []
piece_tokens (Based r) =
    tokens.Number false [] ∷ tokens.Mark marks.Open ∷ tokens.Word (register_text r)
    ∷ tokens.Mark marks.Close ∷ []

abbrev pub operands_of : List Piece → List Token
operands_of [] = []
operands_of (p ∷ []) = piece_tokens p
operands_of (p ∷ q ∷ ps) = piece_tokens p ++ tokens.Mark marks.Comma ∷ operands_of (q ∷ ps)

abbrev pub IsPiece : Piece → Type 0
IsPiece (Reg r) = r < 32
IsPiece (Base r) = IsBase r
IsPiece (Num z) = IsNumber z
IsPiece (Based r) = IsBase r

abbrev pub ArePieces : List Piece → Type 0
ArePieces [] = Unit {0}
ArePieces (p ∷ ps) = IsPiece p × ArePieces ps

comma : (bs : List ℕ) → inner Operands (44 ∷ bs) ≡ tokens.Mark marks.Comma ∷ inner Operands bs
unfolding tokens_from first_lexeme
comma bs = ap (λ (ts : List Token). tokens.Mark marks.Comma ∷ ts) (free InCell _ 0 1 bs refl)

nought : (bs : List ℕ)
    → inner Operands (48 ∷ 40 ∷ bs) ≡ tokens.Number false [] ∷ inner Operands (40 ∷ bs)
nought bs =
    let is : decimal 0 ≡ 48 ∷ [] = decimal_digit 0 (omega arith) in
    ap (λ (l : List ℕ). inner Operands (l ++ 40 ∷ bs)) (sym is)
    ∙ number Operands 0 (40 ∷ bs) (omega arith) refl
    ∙ ap (λ (l : List ℕ). tokens.Number false (significant l) ∷ inner Operands (40 ∷ bs)) is

piece_back : (p : Piece) (bs : List ℕ) → IsPiece p → Stops bs
    → inner Operands (piece_text p ++ bs) ≡ piece_tokens p ++ inner Operands bs
piece_back (Reg r) bs h e = word Operands (register_text r) bs (register_word r h) e.no_word
piece_back (Base r) bs h e = word Operands (register_text r) bs (register_word r h.1) e.no_word
piece_back (Num z) bs h e = signed_number Operands z bs h e.no_digits
piece_back (Based r) bs h e =
    let R = register_text r in
    ap (λ (l : List ℕ). inner Operands (48 ∷ 40 ∷ l)) (append_assoc R (41 ∷ []) bs)
    ∙ nought (R ++ 41 ∷ bs)
    ∙ ap (λ (ts : List Token). tokens.Number false [] ∷ ts) (open_round Operands (R ++ 41 ∷ bs)
    (λ x. absurd (omega arith))
    ∙ ap (λ (ts : List Token). tokens.Mark marks.Open ∷ ts) (word Operands R (41 ∷ bs)
    (register_word r h.1) refl
    ∙ ap (λ (ts : List Token). tokens.Word R ∷ ts) (close_round Operands bs)))

pieces_back : (p : Piece) (ps : List Piece) (bs : List ℕ) → ArePieces (p ∷ ps) → Stops bs
    → inner Operands (joined (codes ",") (map piece_text (p ∷ ps)) ++ bs)
    ≡ operands_of (p ∷ ps) ++ inner Operands bs
pieces_back p [] bs h e = piece_back p bs h.0 e
pieces_back p (q ∷ qs) bs h e =
    let J = joined (codes ",") (map piece_text (q ∷ qs)) in
    ap (inner Operands) (append_assoc (piece_text p) (44 ∷ J) bs)
    ∙ piece_back p (44 ∷ (J ++ bs)) h.0 (record { no_word = refl; no_digits = refl })
    ∙ ap (λ (ts : List Token). piece_tokens p ++ ts) (comma (J ++ bs)
    ∙ ap (λ (ts : List Token). tokens.Mark marks.Comma ∷ ts) (pieces_back q qs bs h.1 e))
    ∙ sym (append_assoc (piece_tokens p) (tokens.Mark marks.Comma ∷ operands_of (q ∷ qs))
    (inner Operands bs))

register_first : (d : ℕ) (ps : List Piece) (bs : List ℕ)
    → NoColon (joined (codes ",") (map piece_text (Reg d ∷ ps)) ++ bs)
register_first d [] bs =
    record { no_space = refl; no_comment = refl; no_colon = λ e. absurd (omega arith) }
register_first d (p ∷ ps) bs =
    record { no_space = refl; no_comment = refl; no_colon = λ e. absurd (omega arith) }

blank_stops : (bs : List ℕ) → Stops (32 ∷ bs)
blank_stops bs = record { no_word = refl; no_digits = refl }

data_back : (w : List ℕ) (d : ℕ) (ps : List Piece) (bs : List ℕ) → IsWord w → ends_table w ≡ false
    → ArePieces (Reg d ∷ ps)
    → read CellBegins (operands_text w (map piece_text (Reg d ∷ ps)) ++ 32 ∷ bs)
    ≡ tokens.Word w ∷ (operands_of (Reg d ∷ ps) ++ inner Operands (32 ∷ bs))
data_back w d ps bs h e are =
    let J = joined (codes ",") (map piece_text (Reg d ∷ ps)) in
    ap (read CellBegins) (append_assoc w (32 ∷ J) (32 ∷ bs))
    ∙ opcode_back w (J ++ 32 ∷ bs) h e (register_first d ps (32 ∷ bs))
    ∙ ap (λ (ts : List Token). tokens.Word w ∷ ts)
    (pieces_back (Reg d) ps (32 ∷ bs) are (blank_stops bs))

label_first : (l bs : List ℕ) → IsWord l → NoColon (l ++ bs)
label_first [] bs h = let bad : false ≡ true = h.first in absurd cc
label_first (c ∷ cs) bs h =
    let o = first_of c h.first in
    let x = o.low in
    record { no_space = spaceless c h.first; no_comment = and_left (c == 40) (slice_index (cs ++ bs) 0 == 42) (other c 40 (λ e. absurd (omega arith))); no_colon = uncoloned c h.first }
  where
    spaceless : (c : ℕ) → begins_word c ≡ true → is_space c ≡ false
    spaceless c h = grind (arith, nat_tests)

    uncoloned : (c : ℕ) → begins_word c ≡ true → c ≡ 58 → ⊥
    uncoloned c h e = grind (arith, nat_tests)

branch_back : (w l bs : List ℕ) → IsWord w → ends_table w ≡ false → IsWord l
    → read CellBegins (operands_text w (l ∷ []) ++ 32 ∷ bs)
    ≡ tokens.Word w ∷ tokens.Word l ∷ inner Operands (32 ∷ bs)
branch_back w l bs h e is =
    ap (read CellBegins) (append_assoc w (32 ∷ l) (32 ∷ bs))
    ∙ opcode_back w (l ++ 32 ∷ bs) h e (label_first l (32 ∷ bs) is)
    ∙ ap (λ (ts : List Token). tokens.Word w ∷ ts) (word Operands l (32 ∷ bs) is refl)

-- ---- what the operands fit and mean

abbrev piece_form : Piece → List Want
piece_form (Reg r) = wants.Register ∷ []
piece_form (Base r) = wants.Base ∷ []
piece_form (Num z) = wants.Immediate ∷ []
piece_form (Based r) = wants.Zero ∷ wants.Open ∷ wants.Base ∷ wants.Close ∷ []

abbrev form : List Piece → List Want
form [] = []
form (p ∷ []) = piece_form p
form (p ∷ q ∷ ps) = piece_form p ++ wants.Comma ∷ form (q ∷ ps)

is_register_back : (r : ℕ) → r < 32 → is_register (register_text r) ≡ true
is_register_back r h = ap is_known (register_back r h)

no_zero : (r : ℕ) → IsBase r → bytes_eq (register_text r) (codes "r0") ≡ false
no_zero r h =
    false_from_ne_true (bytes_eq (register_text r) (codes "r0")) (λ e.
    let same : register_text r ≡ codes "r0" = (bytes_eq-Decides (register_text r) (codes "r0")).0 e in
    let is : r ≡ 0 = sym (ap or_zero (register_back r h.1)) ∙ ap (λ (l : List ℕ). or_zero (register_of l)) same in
    let some = h.0 in
    absurd (omega arith))

is_base : (r : ℕ) → IsBase r
    → (is_register (register_text r) && not (bytes_eq (register_text r) (codes "r0"))) ≡ true
is_base r h =
    and_from (is_register (register_text r)) (not (bytes_eq (register_text r) (codes "r0")))
    (is_register_back r h.1) (ap not (no_zero r h))

piece_fits : (p : Piece) (ws : List Want) (ts : List Token) → IsPiece p
    → all_fit (piece_form p ++ ws) (piece_tokens p ++ ts) ≡ all_fit ws ts
piece_fits (Reg r) ws ts h = ap (λ (b : Bool). b && all_fit ws ts) (is_register_back r h)
piece_fits (Base r) ws ts h = ap (λ (b : Bool). b && all_fit ws ts) (is_base r h)
piece_fits (Num z) ws ts h = ap (λ (b : Bool). b && all_fit ws ts) (is_int_back z h)
piece_fits (Based r) ws ts h = ap (λ (b : Bool). b && all_fit ws ts) (is_base r h)

pieces_fit : (p : Piece) (ps : List Piece) → ArePieces (p ∷ ps)
    → all_fit (form (p ∷ ps)) (operands_of (p ∷ ps)) ≡ true
pieces_fit p [] h =
    ap (λ (ws : List Want). all_fit ws (piece_tokens p)) (sym (append-nil (piece_form p)))
    ∙ ap (all_fit (piece_form p ++ [])) (sym (append-nil (piece_tokens p))) ∙ piece_fits p [] [] h.0
pieces_fit p (q ∷ qs) h =
    piece_fits p (wants.Comma ∷ form (q ∷ qs)) (tokens.Mark marks.Comma ∷ operands_of (q ∷ qs)) h.0
    ∙ pieces_fit q qs h.1

abbrev registers_of : List Piece → List ℕ
registers_of [] = []
registers_of (Reg r ∷ ps) = r ∷ registers_of ps
registers_of (Base r ∷ ps) = r ∷ registers_of ps
registers_of (Num z ∷ ps) = registers_of ps
registers_of (Based r ∷ ps) = r ∷ registers_of ps

abbrev number_of : List Piece → ℤ
number_of [] = pos 0
number_of (Reg r ∷ ps) = number_of ps
number_of (Base r ∷ ps) = number_of ps
number_of (Num z ∷ ps) = z
number_of (Based r ∷ ps) = pos 0

register_is : (r : ℕ) (rs : List ℕ) → r < 32 → or_zero (register_of (register_text r)) ∷ rs ≡ r ∷ rs
register_is r rs h = ap (λ (o : Option ℕ). or_zero o ∷ rs) (register_back r h)

piece_registers : (p : Piece) (ps : List Piece) (ts : List Token) → IsPiece p
    → registers ts ≡ registers_of ps → registers (piece_tokens p ++ ts) ≡ registers_of (p ∷ ps)
piece_registers (Reg r) ps ts h e = register_is r (registers ts) h ∙ ap (λ (rs : List ℕ). r ∷ rs) e
piece_registers (Base r) ps ts h e =
    register_is r (registers ts) h.1 ∙ ap (λ (rs : List ℕ). r ∷ rs) e
piece_registers (Num z) ps ts h e = e
piece_registers (Based r) ps ts h e =
    register_is r (registers ts) h.1 ∙ ap (λ (rs : List ℕ). r ∷ rs) e

pieces_registers : (p : Piece) (ps : List Piece) → ArePieces (p ∷ ps)
    → registers (operands_of (p ∷ ps)) ≡ registers_of (p ∷ ps)
pieces_registers p [] h =
    ap registers (sym (append-nil (piece_tokens p))) ∙ piece_registers p [] [] h.0 refl
pieces_registers p (q ∷ qs) h =
    piece_registers p (q ∷ qs) (tokens.Mark marks.Comma ∷ operands_of (q ∷ qs)) h.0
    (pieces_registers q qs h.1)

piece_number : (p : Piece) (ps : List Piece) (ts : List Token) → IsPiece p
    → immediate ts ≡ number_of ps → immediate (piece_tokens p ++ ts) ≡ number_of (p ∷ ps)
piece_number (Reg r) ps ts h e = e
piece_number (Base r) ps ts h e = e
piece_number (Num z) ps ts h e = signed_back z h
piece_number (Based r) ps ts h e = refl

pieces_number : (p : Piece) (ps : List Piece) → ArePieces (p ∷ ps)
    → immediate (operands_of (p ∷ ps)) ≡ number_of (p ∷ ps)
pieces_number p [] h =
    ap immediate (sym (append-nil (piece_tokens p))) ∙ piece_number p [] [] h.0 refl
pieces_number p (q ∷ qs) h =
    piece_number p (q ∷ qs) (tokens.Mark marks.Comma ∷ operands_of (q ∷ qs)) h.0
    (pieces_number q qs h.1)

data_back_meaning : (op : DataOpcode) (p : Piece) (ps : List Piece) → ArePieces (p ∷ ps)
    → instruction_meaning (opcodes.Data op) (operands_of (p ∷ ps))
    ≡ data_meaning op (registers_of (p ∷ ps)) (number_of (p ∷ ps))
data_back_meaning op p ps h =
    ap (λ (rs : List ℕ). data_meaning op rs (immediate (operands_of (p ∷ ps))))
    (pieces_registers p ps h)
    ∙ ap (data_meaning op (registers_of (p ∷ ps))) (pieces_number p ps h)

-- ---- the words

record IsOpcode (w : List ℕ) (o : Opcode) : Type 0 where
  is_word : IsWord w
  goes_on : ends_table w ≡ false
  known : opcode_of w ≡ Some o

abbrev data_word : DataOpcode → List ℕ
data_word data_opcodes.LoadImmediate = codes "li"
data_word data_opcodes.Move = codes "mr"
data_word data_opcodes.AddImmediate = codes "addi"
data_word (data_opcodes.Compute op) = operation_text op
data_word data_opcodes.Load = codes "lwz"
data_word data_opcodes.LoadIndexed = codes "lwzx"
data_word data_opcodes.Store = codes "stw"
data_word data_opcodes.StoreIndexed = codes "stwx"
data_word data_opcodes.Compare = codes "cmpw"
data_word data_opcodes.CompareImmediate = codes "cmpwi"

operation_is : (op : Operation)
    → IsOpcode (operation_text op) (opcodes.Data (data_opcodes.Compute op))
unfolding computing_of
operation_is operations.Add =
    record { is_word = is_word (codes "add") refl refl; goes_on = refl; known = refl }
operation_is operations.SubtractFrom =
    record { is_word = is_word (codes "subf") refl refl; goes_on = refl; known = refl }
operation_is operations.Xor =
    record { is_word = is_word (codes "xor") refl refl; goes_on = refl; known = refl }
operation_is operations.Or =
    record { is_word = is_word (codes "or") refl refl; goes_on = refl; known = refl }
operation_is operations.And =
    record { is_word = is_word (codes "and") refl refl; goes_on = refl; known = refl }

data_is : (op : DataOpcode) → IsOpcode (data_word op) (opcodes.Data op)
unfolding computing_of accessing_of
data_is data_opcodes.LoadImmediate =
    record { is_word = is_word (codes "li") refl refl; goes_on = refl; known = refl }
data_is data_opcodes.Move =
    record { is_word = is_word (codes "mr") refl refl; goes_on = refl; known = refl }
data_is data_opcodes.AddImmediate =
    record { is_word = is_word (codes "addi") refl refl; goes_on = refl; known = refl }
data_is (data_opcodes.Compute op) = operation_is op
data_is data_opcodes.Load =
    record { is_word = is_word (codes "lwz") refl refl; goes_on = refl; known = refl }
data_is data_opcodes.LoadIndexed =
    record { is_word = is_word (codes "lwzx") refl refl; goes_on = refl; known = refl }
data_is data_opcodes.Store =
    record { is_word = is_word (codes "stw") refl refl; goes_on = refl; known = refl }
data_is data_opcodes.StoreIndexed =
    record { is_word = is_word (codes "stwx") refl refl; goes_on = refl; known = refl }
data_is data_opcodes.Compare =
    record { is_word = is_word (codes "cmpw") refl refl; goes_on = refl; known = refl }
data_is data_opcodes.CompareImmediate =
    record { is_word = is_word (codes "cmpwi") refl refl; goes_on = refl; known = refl }

branch_is : (c : BranchCondition) → IsOpcode (branch_text c) (opcodes.Branch (Some c))
unfolding computing_of accessing_of fence_of branch_of
branch_is branches.Equal =
    record { is_word = is_word (codes "beq") refl refl; goes_on = refl; known = refl }
branch_is branches.NotEqual =
    record { is_word = is_word (codes "bne") refl refl; goes_on = refl; known = refl }
branch_is branches.Less =
    record { is_word = is_word (codes "blt") refl refl; goes_on = refl; known = refl }
branch_is branches.Greater =
    record { is_word = is_word (codes "bgt") refl refl; goes_on = refl; known = refl }
branch_is branches.LessOrEqual =
    record { is_word = is_word (codes "ble") refl refl; goes_on = refl; known = refl }
branch_is branches.GreaterOrEqual =
    record { is_word = is_word (codes "bge") refl refl; goes_on = refl; known = refl }

always_is : IsOpcode (codes "b") (opcodes.Branch None)
unfolding computing_of accessing_of fence_of branch_of
always_is = record { is_word = is_word (codes "b") refl refl; goes_on = refl; known = refl }

fence_is : (f : fence.Fence) → IsOpcode (fence_text f) (opcodes.Fence f)
unfolding computing_of accessing_of fence_of
fence_is fences.Sync =
    record { is_word = is_word (codes "sync") refl refl; goes_on = refl; known = refl }
fence_is fences.LightweightSync =
    record { is_word = is_word (codes "lwsync") refl refl; goes_on = refl; known = refl }
fence_is fences.Eieio =
    record { is_word = is_word (codes "eieio") refl refl; goes_on = refl; known = refl }
fence_is fences.Isync =
    record { is_word = is_word (codes "isync") refl refl; goes_on = refl; known = refl }

-- ---- instructions

abbrev data_tree : DataOpcode → ℕ → List Piece → InstructionTree
data_tree op d ps = record { word = data_word op; operands = operands_of (Reg d ∷ ps) }

abbrev branch_tree : List ℕ → List ℕ → InstructionTree
branch_tree w l = record { word = w; operands = tokens.Word l ∷ [] }

abbrev pub tree_of : Instruction → InstructionTree
tree_of (instructions.LoadImmediate d n) = data_tree data_opcodes.LoadImmediate d (Num n ∷ [])
tree_of (instructions.Move d s) = data_tree data_opcodes.Move d (Reg s ∷ [])
tree_of (instructions.AddImmediate d a n) =
    data_tree data_opcodes.AddImmediate d (Base a ∷ Num n ∷ [])
tree_of (instructions.Compute op d a b) = data_tree (data_opcodes.Compute op) d (Reg a ∷ Reg b ∷ [])
tree_of (instructions.Load d a) = data_tree data_opcodes.Load d (Based a ∷ [])
tree_of (instructions.LoadIndexed d a b) =
    data_tree data_opcodes.LoadIndexed d (Base a ∷ Reg b ∷ [])
tree_of (instructions.Store s a) = data_tree data_opcodes.Store s (Based a ∷ [])
tree_of (instructions.StoreIndexed s a b) =
    data_tree data_opcodes.StoreIndexed s (Base a ∷ Reg b ∷ [])
tree_of (instructions.Compare a b) = data_tree data_opcodes.Compare a (Reg b ∷ [])
tree_of (instructions.CompareImmediate a n) = data_tree data_opcodes.CompareImmediate a (Num n ∷ [])
tree_of (instructions.BranchIf c l) = branch_tree (branch_text c) l
tree_of (instructions.Branch l) = branch_tree (codes "b") l
tree_of (instructions.Fence f) = record { word = fence_text f; operands = [] }

abbrev pub opcode : Instruction → Opcode
opcode (instructions.LoadImmediate d n) = opcodes.Data data_opcodes.LoadImmediate
opcode (instructions.Move d s) = opcodes.Data data_opcodes.Move
opcode (instructions.AddImmediate d a n) = opcodes.Data data_opcodes.AddImmediate
opcode (instructions.Compute op d a b) = opcodes.Data (data_opcodes.Compute op)
opcode (instructions.Load d a) = opcodes.Data data_opcodes.Load
opcode (instructions.LoadIndexed d a b) = opcodes.Data data_opcodes.LoadIndexed
opcode (instructions.Store s a) = opcodes.Data data_opcodes.Store
opcode (instructions.StoreIndexed s a b) = opcodes.Data data_opcodes.StoreIndexed
opcode (instructions.Compare a b) = opcodes.Data data_opcodes.Compare
opcode (instructions.CompareImmediate a n) = opcodes.Data data_opcodes.CompareImmediate
opcode (instructions.BranchIf c l) = opcodes.Branch (Some c)
opcode (instructions.Branch l) = opcodes.Branch None
opcode (instructions.Fence f) = opcodes.Fence f

-- what an instruction is printed as, as it is read
pub record IsReadAs (text : List ℕ) (tree : InstructionTree) (i : Instruction) : Type 0 where
  pub fine : IsOperation tree
  pub known : opcode_of tree.word ≡ Some (opcode i)
  pub means : instruction_meaning fine.opcode tree.operands ≡ i
  pub tokens_are : (bs : List ℕ) → NoColon bs
      → read CellBegins (text ++ 32 ∷ bs)
      ≡ tokens.Word tree.word ∷ (tree.operands ++ inner Operands (32 ∷ bs))

data_read : (op : DataOpcode) (d : ℕ) (ps : List Piece) (i : Instruction) → ArePieces (Reg d ∷ ps)
    → opcodes.Data op ≡ opcode i → data_form op ≡ form (Reg d ∷ ps)
    → data_meaning op (registers_of (Reg d ∷ ps)) (number_of (Reg d ∷ ps)) ≡ i
    → IsReadAs (operands_text (data_word op) (map piece_text (Reg d ∷ ps))) (data_tree op d ps) i
data_read op d ps i h o e m = record {
  fine =
      record {
        opcode = opcodes.Data op;
        known = (data_is op).known;
        fit =
            ap (λ (ws : List Want). all_fit ws (operands_of (Reg d ∷ ps))) e
            ∙ pieces_fit (Reg d) ps h;
      };
  known = (data_is op).known ∙ ap (λ (x : Opcode). Some x) o;
  means = data_back_meaning op (Reg d) ps h ∙ m;
  tokens_are = λ bs _. data_back (data_word op) d ps bs (data_is op).is_word (data_is op).goes_on h;
}

branch_read : (c : Option BranchCondition) (w l : List ℕ) (i : Instruction)
    → IsOpcode w (opcodes.Branch c) → opcodes.Branch c ≡ opcode i → IsWord l
    → instruction_meaning (opcodes.Branch c) (tokens.Word l ∷ []) ≡ i
    → IsReadAs (operands_text w (l ∷ [])) (branch_tree w l) i
branch_read c w l i o is h m = record {
  fine = record { opcode = opcodes.Branch c; known = o.known; fit = refl };
  known = o.known ∙ ap (λ (x : Opcode). Some x) is;
  means = m;
  tokens_are = λ bs _. branch_back w l bs o.is_word o.goes_on h;
}

fence_read : (f : fence.Fence)
    → IsReadAs (fence_text f) (tree_of (instructions.Fence f)) (instructions.Fence f)
fence_read f = record {
  fine = record { opcode = opcodes.Fence f; known = (fence_is f).known; fit = refl };
  known = (fence_is f).known;
  means = refl;
  tokens_are =
      λ bs n. opcode_back (fence_text f) bs (fence_is f).is_word (fence_is f).goes_on n
      ∙ ap (λ (ts : List Token). tokens.Word (fence_text f) ∷ ts) (sym (blank Operands bs));
}

pub instruction_read : (i : Instruction) → IsTestInstruction i
    → IsReadAs (instruction_text i) (tree_of i) i
instruction_read (instructions.LoadImmediate d n) h =
    data_read data_opcodes.LoadImmediate d (Num n ∷ []) _ (h.0, (h.1, tt)) refl refl refl
instruction_read (instructions.Move d s) h =
    data_read data_opcodes.Move d (Reg s ∷ []) _ (h.0, (h.1, tt)) refl refl refl
instruction_read (instructions.AddImmediate d a n) h =
    data_read data_opcodes.AddImmediate d (Base a ∷ Num n ∷ []) _ (h.0, (h.1, (h.2, tt))) refl refl
    refl
instruction_read (instructions.Compute op d a b) h =
    data_read (data_opcodes.Compute op) d (Reg a ∷ Reg b ∷ []) _ (h.0, (h.1, (h.2, tt))) refl refl
    refl
instruction_read (instructions.Load d a) h =
    data_read data_opcodes.Load d (Based a ∷ []) _ (h.0, (h.1, tt)) refl refl refl
instruction_read (instructions.LoadIndexed d a b) h =
    data_read data_opcodes.LoadIndexed d (Base a ∷ Reg b ∷ []) _ (h.0, (h.1, (h.2, tt))) refl refl
    refl
instruction_read (instructions.Store s a) h =
    data_read data_opcodes.Store s (Based a ∷ []) _ (h.0, (h.1, tt)) refl refl refl
instruction_read (instructions.StoreIndexed s a b) h =
    data_read data_opcodes.StoreIndexed s (Base a ∷ Reg b ∷ []) _ (h.0, (h.1, (h.2, tt))) refl refl
    refl
instruction_read (instructions.Compare a b) h =
    data_read data_opcodes.Compare a (Reg b ∷ []) _ (h.0, (h.1, tt)) refl refl refl
instruction_read (instructions.CompareImmediate a n) h =
    data_read data_opcodes.CompareImmediate a (Num n ∷ []) _ (h.0, (h.1, tt)) refl refl refl
instruction_read (instructions.BranchIf c l) h =
    branch_read (Some c) (branch_text c) l _ (branch_is c) refl h refl
instruction_read (instructions.Branch l) h = branch_read None (codes "b") l _ always_is refl h refl
instruction_read (instructions.Fence f) h = fence_read f
