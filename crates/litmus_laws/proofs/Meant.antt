-- What the text of a condition means can be printed.
use Rattle.std.proofs.Common.{ap, ◌≡◌, ℕ, zero, suc, ◌<◌, ◌≤◌, Bool, true, false, List, [], ◌∷◌, refl, subst, arith}
use Rattle.std.specs.Prelude.{if◌then◌else◌, ◌&&◌, ◌==◌, nat_lt, Some, None}
use Rattle.std.proofs.lemmas.Bool.{and_parts, ltb-true, leb-true}
use Rattle.litmus_tokens.specs.declared.stage.Stage.TheVariants.{Tail}
use Rattle.litmus_tokens.specs.declared.token.Token.{Token}
use Rattle.litmus_tokens.specs.Words as words
use Rattle.litmus_tokens.specs.Words.{signed, is_int, is_plain, register_of, is_register, is_known, or_zero}
use Rattle.litmus_tokens.specs.Texts.{test_tokens_of, test_lexing}
use Rattle.text_values.specs.declared.test.Quantifier.{Quantifier}
use Rattle.text_values.specs.declared.test.Quantifier.TheVariants.{Exists, NotExists, Forall}
use Rattle.text_values.specs.TestValue.{Formula}
use Rattle.litmus_tokens.specs.Conditions as grammar
use Rattle.litmus_tokens.specs.Conditions.{condition_limits, PlaceTree, Location, Register, ValueTree, Number, Address, spelled_place, spelled_value, place_meaning, value_meaning, HasThread, FormulaTree, Word, Atom, Prefix, Pair, Group, prefix_token, spelled, spelled_quantifier, tree_formula, HasAtoms}
use Rattle.litmus_grammar.specs.Texts.{ReadsCondition}
use Rattle.litmus_laws.specs.Written.{IsNumber, IsValue, IsPlace, IsFormula, IsTextOfCondition}
use Rattle.litmus_laws.proofs.Tokens.{AllFine, tokens_fine, all_fine}

number_small : (n : ℕ) → n ≤ 2147483648 → IsNumber (signed true n)
number_small zero h = omega arith
number_small (suc n) h = omega arith

pub number_is : (negative : Bool) (ds : List ℕ) → is_int negative ds ≡ true
    → IsNumber (signed negative (words.decimal ds))
number_is false ds h = ltb-true (words.decimal ds) 2147483648 h
number_is true ds h = number_small (words.decimal ds) (leb-true (words.decimal ds) 2147483648 h)

known_small : (c : Bool) (n : ℕ) → (c ≡ true → n < 32)
    → is_known (if c then Some n else None) ≡ true → or_zero (if c then Some n else None) < 32
known_small true n h k = h refl
known_small false n h k = absurd cc

pub register_small : (w : List ℕ) → is_register w ≡ true → or_zero (register_of w) < 32
register_small [] h = absurd cc
register_small (r ∷ ds) h =
    known_small (r == 114 && is_plain ds && nat_lt (words.decimal ds) 32) (words.decimal ds)
    (λ e. ltb-true (words.decimal ds) 32 (and_parts (r == 114 && is_plain ds)
    (nat_lt (words.decimal ds) 32) e).1) h

module _ (threads : ℕ) where
  pub place_meant : (p : PlaceTree) (rest : List Token) → grammar.IsPlaceTree p → HasThread threads p
      → AllFine (spelled_place p rest) → IsPlace threads (place_meaning p) × AllFine rest
  place_meant (Location false n) rest i h a = (a.0, a.1)
  place_meant (Location true n) rest i h a = (a.1.0, a.1.1.1)
  place_meant (Register t r) rest i h a = ((h, register_small r i), a.1.1.1)

  pub value_meant : (v : ValueTree) (rest : List Token) → grammar.IsValueTree v
      → AllFine (spelled_value v rest) → IsValue (value_meaning v) × AllFine rest
  value_meant (Number negative ds) rest i a = (number_is negative ds i, a.1)
  value_meant (Address n) rest i a = (a.0, a.1)

  behind_prefix : (tilde : Bool) (rest : List Token) → AllFine (prefix_token tilde ∷ rest)
      → AllFine rest
  behind_prefix tilde rest a = a.1

  pub formula_meant : (f : FormulaTree) (rest : List Token) → HasAtoms threads f
      → AllFine (spelled f rest) → IsFormula threads (tree_formula f) × AllFine rest
  formula_meant (Word b) rest h a = (tt, a.1)
  formula_meant (Atom p v) rest h a =
      let one = place_meant p _ h.0 h.1 a in
      let two = value_meant v rest h.2 one.1.1 in
      ((one.0, two.0), two.1)
  formula_meant (Prefix tilde f) rest h a = formula_meant f rest h (behind_prefix tilde _ a)
  formula_meant (Pair op f g) rest h a =
      let one = formula_meant f _ h.0 a in
      let two = formula_meant g rest h.1 one.1.1 in
      ((one.0, two.0), two.1)
  formula_meant (Group f) rest h a =
      let one = formula_meant f _ h a.1 in
      (one.0, one.1.1)

  pub behind_quantifier : (q : Quantifier) (rest : List Token) → AllFine (spelled_quantifier q rest)
      → AllFine rest
  behind_quantifier Exists rest a = a.1
  behind_quantifier NotExists rest a = a.1.1
  behind_quantifier Forall rest a = a.1

pub condition_is_written : (threads : ℕ) (bytes : List ℕ) (q : Quantifier) (f : Formula)
    → IsTextOfCondition threads bytes q f → IsFormula threads f
condition_is_written threads bytes q f h =
    let all = subst AllFine h.text.whole (all_fine Tail (test_tokens_of (test_lexing Tail bytes)) refl (tokens_fine Tail false 0 0 bytes)) in
    let inside = behind_quantifier threads h.text.quantifier _ all in
    subst (IsFormula threads) h.meant (formula_meant threads h.text.condition _ h.text.fine.atoms
    inside).0

pub condition_reads_written : (threads : ℕ) (bytes : List ℕ) (q : Quantifier) (f : Formula)
    → ReadsCondition threads bytes (q, f) → IsFormula threads f
condition_reads_written threads bytes q f h =
    condition_is_written threads bytes q f (record {
      most = condition_limits;
      text = h.text;
      asked = ap (λ (p : Quantifier × Formula). p.0) h.meant;
      meant = ap (λ (p : Quantifier × Formula). p.1) h.meant;
    })
