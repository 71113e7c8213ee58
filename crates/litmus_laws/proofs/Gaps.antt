-- What stands between a label and its colon.
use Rattle.std.proofs.Common.{◌≡◌, ℕ, zero, suc, ◌+◌, ◌-◌, ◌≤◌, Bool, true, false, List, [], ◌∷◌, ◌++◌, length, take, drop, refl, sym, ap, ◌∙◌, subst, arith, append_assoc}
use Rattle.std.specs.Prelude.{Option, Some, None, slice_index, ◌||◌, if◌then◌else◌}
use Rattle.std.proofs.lemmas.List.{length-take, length-drop, length-append, take-append-drop, drop_at}
use Rattle.text_values.specs.Layout.{is_blank, is_line_end, comment_of}
use Rattle.text_laws.specs.Comments.{BeginsWithComment}
use Rattle.text_laws.proofs.Nesting as nesting
use Rattle.litmus_tokens.specs.declared.stage.Stage.TheVariants.{CellBegins}
use Rattle.litmus_tokens.specs.Lexer.{is_space, begins_comment, over, gap_from}
use Rattle.litmus_laws.specs.Tokens.{IsTestGap, Blank, LineEnd, Comment, gaps_text, AreGaps}
use Rattle.std.proofs.lemmas.Bool.{or_right}
use Rattle.litmus_tokens.proofs.Turns.{skipped}

gap_end : (n : ℕ) → gap_from 0 n [] ≡ n
unfolding gap_from
gap_end n = refl

gap_turn : (n b : ℕ) (bs : List ℕ)
    → gap_from 0 n (b ∷ bs) ≡ (if is_space b then gap_from 0 (n + 1) bs
    else (if begins_comment (b ∷ bs) then over n (comment_of (b ∷ bs))
    (λ skip. gap_from skip (n + 1) bs)
    else n))
unfolding gap_from
gap_turn n b bs = refl

gap_space : (n b : ℕ) (bs : List ℕ) → is_space b ≡ true
    → gap_from 0 n (b ∷ bs) ≡ gap_from 0 (n + 1) bs
gap_space n b bs e =
    gap_turn n b bs
    ∙ ap
    (λ (x : Bool). if x then gap_from 0 (n + 1) bs
    else (if begins_comment (b ∷ bs) then over n (comment_of (b ∷ bs))
    (λ skip. gap_from skip (n + 1) bs)
    else n)) e

past_space : (n b : ℕ) (bs : List ℕ) → is_space b ≡ false
    → gap_from 0 n (b ∷ bs) ≡ (if begins_comment (b ∷ bs) then over n (comment_of (b ∷ bs))
    (λ skip. gap_from skip (n + 1) bs)
    else n)
past_space n b bs e =
    gap_turn n b bs
    ∙ ap
    (λ (x : Bool). if x then gap_from 0 (n + 1) bs
    else (if begins_comment (b ∷ bs) then over n (comment_of (b ∷ bs))
    (λ skip. gap_from skip (n + 1) bs)
    else n)) e

gap_none : (n b : ℕ) (bs : List ℕ) → is_space b ≡ false → begins_comment (b ∷ bs) ≡ false
    → gap_from 0 n (b ∷ bs) ≡ n
gap_none n b bs e k =
    past_space n b bs e
    ∙ ap
    (λ (x : Bool).
    if x then over n (comment_of (b ∷ bs)) (λ skip. gap_from skip (n + 1) bs) else n) k

at_comment : (n b : ℕ) (bs : List ℕ) → is_space b ≡ false → begins_comment (b ∷ bs) ≡ true
    → (o : Option ℕ) → comment_of (b ∷ bs) ≡ o
    → gap_from 0 n (b ∷ bs) ≡ over n o (λ skip. gap_from skip (n + 1) bs)
at_comment n b bs e k o is =
    past_space n b bs e
    ∙ ap
    (λ (x : Bool).
    if x then over n (comment_of (b ∷ bs)) (λ skip. gap_from skip (n + 1) bs) else n) k
    ∙ ap (λ (p : Option ℕ). over n p (λ skip. gap_from skip (n + 1) bs)) is

gap_comment : (n b : ℕ) (bs : List ℕ) (j : ℕ) → is_space b ≡ false → begins_comment (b ∷ bs) ≡ true
    → comment_of (b ∷ bs) ≡ Some (suc j) → j ≤ length bs
    → gap_from 0 n (b ∷ bs) ≡ gap_from 0 (n + suc j) (drop j bs)
gap_comment n b bs j e k is le =
    at_comment n b bs e k (Some (suc j)) is
    ∙ ap (λ (m : ℕ). gap_from m (n + 1) bs) (let one : suc j - 1 ≡ j = omega arith in one)
    ∙ skipped j (n + 1) bs le
    ∙ ap (λ (m : ℕ). gap_from 0 m (drop j bs))
    (let one : n + 1 + j ≡ n + suc j = omega arith in one)

-- ---- the gaps that a text begins with

pub record Found (n : ℕ) (bs : List ℕ) : Type 0 where
  pub gaps : List (List ℕ)
  pub rest : List ℕ
  pub are : AreGaps gaps rest
  pub whole : bs ≡ gaps_text gaps ++ rest
  pub count : gap_from 0 n bs ≡ n + length (gaps_text gaps)

no_gaps : (n : ℕ) (bs : List ℕ) → gap_from 0 n bs ≡ n → Found n bs
no_gaps n bs e =
    record {
      gaps = [];
      rest = bs;
      are = tt;
      whole = refl;
      count = e ∙ (let same : n ≡ n + 0 = omega arith in same);
    }

-- one gap, and those behind it
more_gaps : (n : ℕ) (bs : List ℕ) (j : ℕ) → j ≤ length bs → (b : ℕ)
    → ((rest : List ℕ) → rest ≡ drop j bs → IsTestGap CellBegins (b ∷ take j bs) rest)
    → gap_from 0 n (b ∷ bs) ≡ gap_from 0 (n + suc j) (drop j bs) → Found (n + suc j) (drop j bs)
    → Found n (b ∷ bs)
more_gaps n bs j le b gap goes f =
    let l = length-take j bs in
    let m = length-append (take j bs) (gaps_text f.gaps) in
    record {
      gaps = (b ∷ take j bs) ∷ f.gaps;
      rest = f.rest;
      are = (gap (gaps_text f.gaps ++ f.rest) (sym f.whole), f.are);
      whole =
          ap (λ (xs : List ℕ). b ∷ xs) (sym (take-append-drop j bs)
          ∙ ap (λ (xs : List ℕ). take j bs ++ xs) f.whole
          ∙ sym (append_assoc (take j bs) (gaps_text f.gaps) f.rest));
      count =
          goes ∙ f.count
          ∙ (
          let same : n + suc j + length (gaps_text f.gaps)
          ≡ n + length (b ∷ (take j bs ++ gaps_text f.gaps)) = omega arith in
          same);
    }

abbrev Finds : ℕ → Type 0
Finds most = (n : ℕ) (bs : List ℕ) → length bs ≤ most → Found n bs

space_of : (b : ℕ) (rest : List ℕ) (x : Bool) → is_blank b ≡ x → is_space b ≡ true
    → IsTestGap CellBegins (b ∷ []) rest
space_of b rest true e s = Blank b e refl
space_of b rest false e s =
    LineEnd (λ k. absurd cc) b (sym (ap (λ (x : Bool). x || is_line_end b) e) ∙ s) refl

comment_found : (most n b : ℕ) (bs : List ℕ) → Finds most → length bs ≤ most → is_space b ≡ false
    → begins_comment (b ∷ bs) ≡ true → (o : Option ℕ) → comment_of (b ∷ bs) ≡ o → Found n (b ∷ bs)
comment_found most n b bs ih few e k None is = no_gaps n (b ∷ bs) (at_comment n b bs e k None is)
comment_found most n b bs ih few e k (Some zero) is =
    let c = nesting.found (b ∷ bs) 0 k is in
    let some = nesting.some_bytes (b ∷ bs) 0 c in
    absurd (omega arith)
comment_found most n b bs ih few e k (Some (suc j)) is =
    let c = nesting.found (b ∷ bs) (suc j) k is in
    let long = c.long in
    let l = length-take j bs in
    let m = length-drop j bs in
    let size : suc j ≡ length (b ∷ take j bs) = omega arith in
    more_gaps n bs j (omega arith) b
    (λ rest same. Comment (subst (BeginsWithComment (b ∷ (take j bs ++ rest))) size
    (subst (λ (xs : List ℕ). BeginsWithComment xs (suc j))
    (ap (λ (xs : List ℕ). b ∷ xs) (sym (take-append-drop j bs)
    ∙ ap (λ (xs : List ℕ). take j bs ++ xs) (sym same))) c)))
    (gap_comment n b bs j e k is (omega arith)) (ih (n + suc j) (drop j bs) (omega arith))

by_comment : (most n b : ℕ) (bs : List ℕ) → Finds most → length bs ≤ most → is_space b ≡ false
    → (x : Bool) → begins_comment (b ∷ bs) ≡ x → Found n (b ∷ bs)
by_comment most n b bs ih few e true k =
    comment_found most n b bs ih few e k (comment_of (b ∷ bs)) refl
by_comment most n b bs ih few e false k = no_gaps n (b ∷ bs) (gap_none n b bs e k)

by_space : (most n b : ℕ) (bs : List ℕ) → Finds most → length bs ≤ most → (x : Bool)
    → is_space b ≡ x → Found n (b ∷ bs)
by_space most n b bs ih few true e =
    more_gaps n bs 0 (omega arith) b (λ rest same. space_of b rest (is_blank b) refl e)
    (gap_space n b bs e) (ih (n + 1) bs few)
by_space most n b bs ih few false e = by_comment most n b bs ih few e (begins_comment (b ∷ bs)) refl

finds : (most : ℕ) → Finds most
finds most n [] le = no_gaps n [] (gap_end n)
finds zero n (b ∷ bs) le = absurd (omega arith)
finds (suc most) n (b ∷ bs) le = by_space most n b bs (finds most) (omega arith) (is_space b) refl

pub gaps_of : (bs : List ℕ) → Found 0 bs
gaps_of bs = finds (length bs) 0 bs (omega arith)

-- ---- gaps before a colon are all the gaps

colon_stops : (n : ℕ) (rest : List ℕ) → gap_from 0 n (58 ∷ rest) ≡ n
colon_stops n rest = gap_none n 58 rest refl refl

blank_space : (b : ℕ) → is_blank b ≡ true → is_space b ≡ true
blank_space b e = ap (λ (x : Bool). x || is_line_end b) e

one_gap : (n : ℕ) (g rest : List ℕ) → IsTestGap CellBegins g rest
    → gap_from 0 n (g ++ rest) ≡ gap_from 0 (n + length g) rest
one_gap n g rest (Blank b e is) =
    ap (λ (xs : List ℕ). gap_from 0 n (xs ++ rest)) is ∙ gap_space n b rest (blank_space b e)
    ∙ ap (λ (xs : List ℕ). gap_from 0 (n + length xs) rest) (sym is)
one_gap n g rest (LineEnd apart b e is) =
    ap (λ (xs : List ℕ). gap_from 0 n (xs ++ rest)) is
    ∙ gap_space n b rest (or_right (is_blank b) (is_line_end b) e)
    ∙ ap (λ (xs : List ℕ). gap_from 0 (n + length xs) rest) (sym is)
one_gap n [] rest (Comment c) =
    let some = nesting.some_bytes rest 0 c in
    absurd (omega arith)
one_gap n (b ∷ bs) rest (Comment c) =
    let first : b ≡ 40 = ap (λ (xs : List ℕ). slice_index xs 0) c.whole in
    let space : is_space b ≡ false = ap is_space first in
    let begins : begins_comment (b ∷ (bs ++ rest)) ≡ true = ap begins_comment c.whole in
    let l = length-append bs rest in
    gap_comment n b (bs ++ rest) (length bs) space begins
    (nesting.only (b ∷ (bs ++ rest)) (suc (length bs)) c) (omega arith)
    ∙ ap (gap_from 0 (n + suc (length bs))) (drop_at bs rest (length bs) refl)

pub all_gaps : (n : ℕ) (gs : List (List ℕ)) (rest : List ℕ) → AreGaps gs (58 ∷ rest)
    → gap_from 0 n (gaps_text gs ++ 58 ∷ rest) ≡ n + length (gaps_text gs)
all_gaps n [] rest h = colon_stops n rest ∙ (let same : n ≡ n + 0 = omega arith in same)
all_gaps n (g ∷ gs) rest h =
    let l = length-append g (gaps_text gs) in
    ap (gap_from 0 n) (append_assoc g (gaps_text gs) (58 ∷ rest))
    ∙ one_gap n g (gaps_text gs ++ 58 ∷ rest) h.0 ∙ all_gaps (n + length g) gs rest h.1
    ∙ (
    let same : n + length g + length (gaps_text gs) ≡ n + length (g ++ gaps_text gs) =
    omega arith in
    same)
