-- Places and values, as they are read.
use Rattle.std.proofs.Common.{◌≡◌, ℕ, ◌<◌, ◌^◌, Bool, true, false, List, [], ◌∷◌, ◌++◌, refl, ap, ◌∙◌, arith, append_assoc}
use Rattle.std.specs.Prelude.{if◌then◌else◌, slice_index, Option, pos, negsuc}
use Rattle.std.specs.Fmt.{decimal}
use Rattle.std.proofs.lemmas.Fmt.{decimal_nonempty}
use Rattle.std.proofs.lemmas.Bool.Decides.{nat_tests}
use Rattle.litmus_tokens.specs.declared.stage.Stage.TheVariants.{InCell, Tail}
use Rattle.litmus_tokens.specs.declared.token.Token.{Token}
use Rattle.litmus_tokens.specs.declared.token.Token.TheVariants as tokens
use Rattle.litmus_tokens.specs.declared.token.Mark.TheVariants as marks
use Rattle.litmus_tokens.specs.declared.lexer.NextLexeme.TheVariants.{Lexeme}
use Rattle.litmus_tokens.specs.Words.{register_of, is_known, or_zero}
use Rattle.litmus_tokens.specs.Lexer.{ends_word, ends_digits, significant, first_lexeme}
use Rattle.litmus_tokens.specs.Stage.{next_stage}
use Rattle.litmus_tokens.specs.Texts.{tokens_from}
use Rattle.text_values.specs.declared.test.Place.{Place}
use Rattle.text_values.specs.declared.test.Place.TheVariants as places
use Rattle.text_values.specs.declared.test.Value as declared_value
use Rattle.text_values.specs.declared.test.Value.TheVariants as values
use Rattle.litmus_tokens.specs.Conditions as grammar
use Rattle.litmus_tokens.specs.Conditions.{PlaceTree, Location, Register, ValueTree, Number, Address, spelled_place, spelled_value, place_meaning, value_meaning, HasThread}
use Rattle.litmus_printing.specs.Printing.{register_text, value_text, bare_text, place_text}
use Rattle.litmus_laws.specs.Written.{begins_word, IsWord, IsValue, IsPlace}
use Rattle.litmus_laws.proofs.Read.{InnerPart, Entries, Operands, Condition, part, core, free, inner, inner_turn}
use Rattle.litmus_laws.proofs.Numbers.{digits_first, word, number, are_back, signed_number, number_back, is_negative, digits_of, signed_back, is_int_back, register_back, register_word}
use Rattle.text_laws.proofs.Runs.{other}

-- ---- signs

pub colon : (w : InnerPart) (bs : List ℕ) → inner w (58 ∷ bs) ≡ tokens.Mark marks.Colon ∷ inner w bs
unfolding tokens_from first_lexeme
colon Entries bs =
    ap (λ (ts : List Token). tokens.Mark marks.Colon ∷ ts) (free (part Entries) _ 0 1 bs refl)
colon Operands bs =
    ap (λ (ts : List Token). tokens.Mark marks.Colon ∷ ts) (free InCell _ 0 1 bs refl)
colon Condition bs =
    ap (λ (ts : List Token). tokens.Mark marks.Colon ∷ ts) (free Tail _ 0 1 bs refl)

pub open_square : (bs : List ℕ)
    → inner Condition (91 ∷ bs) ≡ tokens.Mark marks.OpenBracket ∷ inner Condition bs
unfolding tokens_from first_lexeme
open_square bs =
    ap (λ (ts : List Token). tokens.Mark marks.OpenBracket ∷ ts) (free Tail _ 0 1 bs refl)

pub close_square : (bs : List ℕ)
    → inner Condition (93 ∷ bs) ≡ tokens.Mark marks.CloseBracket ∷ inner Condition bs
unfolding tokens_from first_lexeme
close_square bs =
    ap (λ (ts : List Token). tokens.Mark marks.CloseBracket ∷ ts) (free Tail _ 0 1 bs refl)

equals_here : (bs : List ℕ) → (slice_index bs 0 ≡ 62 → ⊥)
    → first_lexeme Tail false (61 ∷ bs) ≡ Lexeme (tokens.Mark marks.Equals) 1
unfolding first_lexeme
equals_here bs h =
    ap
    (λ (b : Bool).
    if b then Lexeme (tokens.Mark marks.Implies) 2 else Lexeme (tokens.Mark marks.Equals) 1)
    (other (slice_index bs 0) 62 h)

equals_stays : (w : InnerPart) → core (next_stage (part w) (tokens.Mark marks.Equals)) ≡ part w
equals_stays Entries = refl
equals_stays Operands = refl
equals_stays Condition = refl

pub equals : (w : InnerPart) (bs : List ℕ) → (slice_index bs 0 ≡ 62 → ⊥)
    → inner w (61 ∷ bs) ≡ tokens.Mark marks.Equals ∷ inner w bs
equals w bs h = inner_turn w 61 [] bs (tokens.Mark marks.Equals) (equals_stays w) (equals_here bs h)

-- ---- values

abbrev pub value_tree : declared_value.Value → ValueTree
value_tree (values.Number z) = Number (is_negative z) (digits_of z)
value_tree (values.Address x) = Address x

-- what follows goes on with no word and no number
pub record Stops (bs : List ℕ) : Type 0 where
  pub no_word : ends_word (slice_index bs 0) ≡ true
  pub no_digits : ends_digits (slice_index bs 0) ≡ true

pub value : (w : InnerPart) (v : declared_value.Value) (bs : List ℕ) → IsValue v → Stops bs
    → inner w (value_text v ++ bs) ≡ spelled_value (value_tree v) (inner w bs)
value w (values.Number z) bs h e = signed_number w z bs h e.no_digits
value w (values.Address x) bs h e = word w x bs h e.no_word

pub value_back : (v : declared_value.Value) → IsValue v → value_meaning (value_tree v) ≡ v
value_back (values.Number z) h = ap values.Number (signed_back z h)
value_back (values.Address x) h = refl

pub value_fine : (v : declared_value.Value) → IsValue v → grammar.IsValueTree (value_tree v)
value_fine (values.Number z) h = is_int_back z h
value_fine (values.Address x) h = tt

-- no value begins with the sign behind that of an arrow
word_first : (n bs : List ℕ) → IsWord n → slice_index (n ++ bs) 0 ≡ 62 → ⊥
word_first [] bs h = let bad : false ≡ true = h.first in absurd cc
word_first (c ∷ cs) bs h = no_begin c h.first
  where
    no_begin : (c : ℕ) → begins_word c ≡ true → c ≡ 62 → ⊥
    no_begin c h e = grind (arith, nat_tests)

pub value_first : (v : declared_value.Value) (bs : List ℕ) → IsValue v
    → slice_index (value_text v ++ bs) 0 ≡ 62 → ⊥
value_first (values.Number (pos n)) bs h =
    digits_first 62 (decimal n) bs refl (are_back n (omega arith))
    (decimal_nonempty n (omega arith))
value_first (values.Number (negsuc n)) bs h = λ e. absurd (omega arith)
value_first (values.Address x) bs h = word_first x bs h

-- ---- places

-- a location stands bare in the init block, and in brackets elsewhere
abbrev pub place_tree : Bool → Place → PlaceTree
place_tree bracketed (places.Location x) = Location bracketed x
place_tree bracketed (places.Register t r) = Register (significant (decimal t)) (register_text r)

register : (w : InnerPart) (t r : ℕ) (bs : List ℕ) → t < 2 ^ 64 → r < 32
    → ends_word (slice_index bs 0) ≡ true
    → inner w ((decimal t ++ (58 ∷ register_text r)) ++ bs)
    ≡ spelled_place (Register (significant (decimal t)) (register_text r)) (inner w bs)
register w t r bs small h e =
    ap (inner w) (append_assoc (decimal t) (58 ∷ register_text r) bs)
    ∙ number w t (58 ∷ (register_text r ++ bs)) small refl
    ∙ ap (λ (ts : List Token). tokens.Number false (significant (decimal t)) ∷ ts) (colon w
    (register_text r ++ bs)
    ∙ ap (λ (ts : List Token). tokens.Mark marks.Colon ∷ ts)
    (word w (register_text r) bs (register_word r h) e))

module _ (threads : ℕ) (few : threads < 18446744073709551616) where
  pub bare_place : (p : Place) (bs : List ℕ) → IsPlace threads p
      → ends_word (slice_index bs 0) ≡ true
      → inner Entries (bare_text p ++ bs) ≡ spelled_place (place_tree false p) (inner Entries bs)
  bare_place (places.Location x) bs h e = word Entries x bs h e
  bare_place (places.Register t r) bs h e =
      let x = h.0 in register Entries t r bs (omega arith) h.1 e

  pub square_place : (p : Place) (bs : List ℕ) → IsPlace threads p
      → ends_word (slice_index bs 0) ≡ true
      → inner Condition (place_text p ++ bs)
      ≡ spelled_place (place_tree true p) (inner Condition bs)
  square_place (places.Location x) bs h e =
      ap (λ (l : List ℕ). inner Condition (91 ∷ l)) (append_assoc x (93 ∷ []) bs)
      ∙ open_square (x ++ (93 ∷ bs))
      ∙ ap (λ (ts : List Token). tokens.Mark marks.OpenBracket ∷ ts) (word Condition x (93 ∷ bs) h
      refl
      ∙ ap (λ (ts : List Token). tokens.Word x ∷ ts) (close_square bs))
  square_place (places.Register t r) bs h e =
      let x = h.0 in register Condition t r bs (omega arith) h.1 e

  pub place_back : (b : Bool) (p : Place) → IsPlace threads p → place_meaning (place_tree b p) ≡ p
  place_back b (places.Location x) h = refl
  place_back b (places.Register t r) h =
      let x = h.0 in
      ap (λ (n : ℕ). places.Register n (or_zero (register_of (register_text r))))
      (number_back t (omega arith))
      ∙ ap (λ (o : Option ℕ). places.Register t (or_zero o)) (register_back r h.1)

  pub place_fine : (b : Bool) (p : Place) → IsPlace threads p → grammar.IsPlaceTree (place_tree b p)
  place_fine b (places.Location x) h = tt
  place_fine b (places.Register t r) h = ap is_known (register_back r h.1)

  pub place_there : (b : Bool) (p : Place) → IsPlace threads p → HasThread threads (place_tree b p)
  place_there b (places.Location x) h = tt
  place_there b (places.Register t r) h =
      let x = h.0 in
      let same = number_back t (omega arith) in
      omega arith
