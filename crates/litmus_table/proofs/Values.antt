-- What an instruction has of the tokens that it took.
use Rattle.std.proofs.Common.{◌≡◌, ℕ, Bool, true, false, List, [], ◌∷◌, ◌++◌, Some, None, ℤ, pos, refl, sym, ap, ◌∙◌}
use Rattle.std.specs.Prelude.{if◌then◌else◌}
use Rattle.std.proofs.lemmas.Bool.{and_parts}
use Rattle.litmus_tokens.specs.declared.token.Token.{Token}
use Rattle.litmus_tokens.specs.declared.token.Token.TheVariants as tokens
use Rattle.litmus_tokens.specs.Words.{decimal, signed}
use Rattle.litmus_words.specs.declared.opcode.DataOpcode.{DataOpcode}
use Rattle.litmus_words.specs.declared.opcode.DataOpcode.TheVariants as data_opcodes
use Rattle.litmus_words.specs.declared.opcode.Want.{Want}
use Rattle.litmus_words.specs.declared.opcode.Want.TheVariants as wants
use Rattle.litmus_words.specs.Words.{data_form, token_fits, all_fit, registers, immediate}
use Rattle.litmus_words.specs.Machine.{registers_with, or_value, value_with}

pub registers-with : (t : Token) (ts : List Token) (rs : List ℕ)
    → registers_with t rs ++ registers ts ≡ rs ++ registers (t ∷ ts)
registers-with (tokens.Word w) ts [] = refl
registers-with (tokens.Word w) ts (r ∷ rs) =
    ap (λ (l : List ℕ). r ∷ l) (registers-with (tokens.Word w) ts rs)
registers-with t ts rs = refl

-- the number that is kept after these tokens
abbrev pub value_after : ℤ → List Token → ℤ
value_after v [] = v
value_after v (t ∷ ts) = value_after (value_with t v) ts

abbrev wants_number : Want → Bool
wants_number wants.Immediate = true
wants_number wants.Zero = true
wants_number w = false

-- a form without numbers, and one with a number at most
abbrev AreNone : List Want → Type 0
AreNone [] = Unit {0}
AreNone (wants.Immediate ∷ ws) = ⊥
AreNone (wants.Zero ∷ ws) = ⊥
AreNone (w ∷ ws) = AreNone ws

abbrev IsOne : List Want → Type 0
IsOne [] = Unit {0}
IsOne (wants.Immediate ∷ ws) = AreNone ws
IsOne (wants.Zero ∷ ws) = AreNone ws
IsOne (w ∷ ws) = IsOne ws

form_one : (op : DataOpcode) → IsOne (data_form op)
form_one data_opcodes.LoadImmediate = tt
form_one data_opcodes.Move = tt
form_one data_opcodes.AddImmediate = tt
form_one (data_opcodes.Compute o) = tt
form_one data_opcodes.Load = tt
form_one data_opcodes.LoadIndexed = tt
form_one data_opcodes.Store = tt
form_one data_opcodes.StoreIndexed = tt
form_one data_opcodes.Compare = tt
form_one data_opcodes.CompareImmediate = tt

-- a token that is no number
abbrev IsOther : Token → Type 0
IsOther (tokens.Number negative ds) = ⊥
IsOther t = Unit {0}

other_value : (t : Token) (v : ℤ) → IsOther t → value_with t v ≡ v
other_value (tokens.Number negative ds) v o = absurd o
other_value t v o = refl

other_immediate : (t : Token) (ts : List Token) → IsOther t → immediate (t ∷ ts) ≡ immediate ts
other_immediate (tokens.Number negative ds) ts o = absurd o
other_immediate t ts o = refl

is_other : (w : Want) (t : Token) → wants_number w ≡ false → token_fits w t ≡ true → IsOther t
is_other wants.Register (tokens.Number negative ds) e f = absurd cc
is_other wants.Base (tokens.Number negative ds) e f = absurd cc
is_other wants.Comma (tokens.Number negative ds) e f = absurd cc
is_other wants.Open (tokens.Number negative ds) e f = absurd cc
is_other wants.Close (tokens.Number negative ds) e f = absurd cc
is_other wants.Immediate (tokens.Number negative ds) e f = absurd cc
is_other wants.Zero (tokens.Number negative ds) e f = absurd cc
is_other w t e f = tt

none_after : (ws : List Want) (ts : List Token) (v : ℤ) → AreNone ws → all_fit ws ts ≡ true
    → (value_after v ts ≡ v) × (immediate ts ≡ pos 0)
none_after [] [] v n f = (refl, refl)
none_after [] (t ∷ ts) v n f = absurd cc
none_after (wants.Immediate ∷ ws) ts v n f = absurd n
none_after (wants.Zero ∷ ws) ts v n f = absurd n
none_after (w ∷ ws) [] v n f = absurd cc
none_after (w ∷ ws) (t ∷ ts) v n f =
    let b = and_parts (token_fits w t) (all_fit ws ts) f in
    let o = is_other w t refl b.0 in
    let r = none_after ws ts (value_with t v) n b.1 in
    (r.0 ∙ other_value t v o, other_immediate t ts o ∙ r.1)

-- digits of a number that fits
immediate_value : (t : Token) (v : ℤ) (ts : List Token) → token_fits wants.Immediate t ≡ true
    → value_with t v ≡ immediate (t ∷ ts)
immediate_value (tokens.Number negative ds) v ts f =
    ap (λ (b : Bool). or_value (if b then Some (signed negative (decimal ds)) else None) v) f
immediate_value t v ts f = absurd cc

signed_zero : (negative : Bool)
    → (value_with (tokens.Number negative []) (pos 0) ≡ pos 0) × (signed negative 0 ≡ pos 0)
signed_zero true = (refl, refl)
signed_zero false = (refl, refl)

zero_value : (t : Token) (ts : List Token) → token_fits wants.Zero t ≡ true
    → value_with t (pos 0) ≡ immediate (t ∷ ts)
zero_value (tokens.Number negative []) ts f = let z = signed_zero negative in z.0 ∙ sym z.1
zero_value (tokens.Number negative (d ∷ ds)) ts f = absurd cc
zero_value t ts f = absurd cc

one_after : (ws : List Want) (ts : List Token) → IsOne ws → all_fit ws ts ≡ true
    → value_after (pos 0) ts ≡ immediate ts
one_after [] [] n f = refl
one_after [] (t ∷ ts) n f = absurd cc
one_after (w ∷ ws) [] n f = absurd cc
one_after (wants.Immediate ∷ ws) (t ∷ ts) n f =
    let b = and_parts (token_fits wants.Immediate t) (all_fit ws ts) f in
    (none_after ws ts (value_with t (pos 0)) n b.1).0 ∙ immediate_value t (pos 0) ts b.0
one_after (wants.Zero ∷ ws) (t ∷ ts) n f =
    let b = and_parts (token_fits wants.Zero t) (all_fit ws ts) f in
    (none_after ws ts (value_with t (pos 0)) n b.1).0 ∙ zero_value t ts b.0
one_after (w ∷ ws) (t ∷ ts) n f =
    let b = and_parts (token_fits w t) (all_fit ws ts) f in
    let o = is_other w t refl b.0 in
    ap (λ (v : ℤ). value_after v ts) (other_value t (pos 0) o) ∙ one_after ws ts n b.1
    ∙ sym (other_immediate t ts o)

pub value_of : (op : DataOpcode) (ts : List Token) → all_fit (data_form op) ts ≡ true
    → value_after (pos 0) ts ≡ immediate ts
value_of op ts f = one_after (data_form op) ts (form_one op) f
