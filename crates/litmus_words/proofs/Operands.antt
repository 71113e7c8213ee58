-- A token more of what an instruction wants.
use Rattle.std.proofs.Common.{◌≡◌, ℕ, ◌+◌, ◌<◌, ◌≤◌, ◌⊎◌, inl, inr, true, List, [], length, drop, min, Some, None, ℤ, sym, ap, ◌∙◌, arith}
use Rattle.std.specs.Prelude.{if◌then◌else◌}
use Rattle.std.proofs.lemmas.Bool.{cases_lt}
use Rattle.std.proofs.lemmas.List.{at_drop_more, drop_all}
use Rattle.litmus_tokens.specs.declared.token.Token.{Token}
use Rattle.litmus_words.specs.declared.opcode.DataOpcode.{DataOpcode}
use Rattle.litmus_words.specs.declared.opcode.DataOpcode.TheVariants as data_opcodes
use Rattle.litmus_words.specs.declared.opcode.Want.{Want}
use Rattle.litmus_words.specs.declared.opcode.Want.TheVariants as wants
use Rattle.litmus_words.specs.Words.{data_form, token_fits}
use Rattle.litmus_words.specs.Machine.{Pending, registers_with, value_with, first_of, rest_of, pending_with, pending_as, pending_after}

short : (op : DataOpcode) → length (data_form op) < 10
short data_opcodes.LoadImmediate = omega arith
short data_opcodes.Move = omega arith
short data_opcodes.AddImmediate = omega arith
short (data_opcodes.Compute o) = omega arith
short data_opcodes.Load = omega arith
short data_opcodes.LoadIndexed = omega arith
short data_opcodes.Store = omega arith
short data_opcodes.StoreIndexed = omega arith
short data_opcodes.Compare = omega arith
short data_opcodes.CompareImmediate = omega arith

none_wanted : (w : Want) → first_of [] ≡ Some w → ⊥
none_wanted w e = absurd cc

within : (ws : List Want) (k : ℕ) (w : Want) → first_of (drop k ws) ≡ Some w → k < length ws
within ws k w e = choose (cases_lt k (length ws))
  where
    choose : (k < length ws) ⊎ (length ws ≤ k) → k < length ws
    choose (inl lt) = lt
    choose (inr le) = absurd (none_wanted w (sym (ap first_of (drop_all k ws le)) ∙ e))

abbrev pending : DataOpcode → List Want → List ℕ → ℤ → Pending
pending op ws rs n = record { opcode = op; wants = ws; registers = rs; value = n }

pub takes : (op : DataOpcode) (k m : ℕ) (rs rs' : List ℕ) (n n' : ℤ) (w : Want) (t : Token)
    → first_of (drop k (data_form op)) ≡ Some w → m ≡ min (k + 1) 18446744073709551615
    → token_fits w t ≡ true → rs' ≡ registers_with t rs → n' ≡ value_with t n
    → pending_after (pending op (drop k (data_form op)) rs n) t
    ≡ Some (pending op (drop m (data_form op)) rs' n')
takes op k m rs rs' n n' w t first more fit registers value =
    let ws = drop k (data_form op) in
    let lt = within (data_form op) k w first in
    let few = short op in
    let next : k + 1 ≡ m = omega (arith, more, lt, few) in
    let rest : rest_of ws ≡ drop m (data_form op) = at_drop_more rest_of (data_form op) k wants.Comma lt ∙ ap (λ i. drop i (data_form op)) next in
    ap (λ o. pending_as (pending op ws rs n) o t) first
    ∙ ap (λ b. if b then Some (pending_with (pending op ws rs n) (rest_of ws) t) else None) fit
    ∙ ap (λ us. Some (pending op us (registers_with t rs) (value_with t n))) rest
    ∙ ap (λ xs. Some (pending op (drop m (data_form op)) xs (value_with t n))) (sym registers)
    ∙ ap (λ x. Some (pending op (drop m (data_form op)) rs' x)) (sym value)
