-- The machine makes words of words.
use Rattle.std.proofs.Common.{ℕ, ℤ, zero, suc, ◌≡◌, ◌<◌, ◌+◌, ◌-◌, ◌%◌, ◌^◌, Bool, true, false, nat_eq, bytes_eq, List, [], ◌∷◌, map, Contains, slice_index_or, slice_set, bit_and, bit_or, bit_xor, if◌then◌else◌, refl, sym, ap, subst, arith, mod-lt, pow_pos}
use Rattle.std.specs.List.{AllByRecursion}
use Rattle.std.specs.Int.{w32, cast_unsigned}
use Rattle.std.specs.Prelude.{FitsSigned}
use Rattle.std.proofs.lemmas.Nat.{or_of_32, xor_of_32, and_le_l}
use mir.ValLaws.{of_z_fits}
use Rattle.text_values.specs.declared.instruction.Operation.{Operation}
use Rattle.text_values.specs.declared.instruction.Operation.TheVariants.{Add, SubtractFrom, Xor, Or, And}
use Rattle.text_values.specs.declared.instruction.Instruction.{Instruction}
use Rattle.text_values.specs.declared.instruction.Instruction.TheVariants.{LoadImmediate, Move, AddImmediate, Compute, Load, LoadIndexed, Store, StoreIndexed, Compare, CompareImmediate, BranchIf, Branch, Fence}
use Rattle.meaning.specs.Names.{Name}
use Rattle.meaning.specs.Machine.{Value, Number, Address, NoValue, State, word, sum_of, difference_of, exclusive_or_of, bitwise_of, zero_if_same, result_of, cancels, result_in, register, state_after, stored_values}
use Rattle.meaning_laws.specs.Words.{IsWord, HasWordImmediate}

-- a number that is written
pub written_number : (n : ℤ) → FitsSigned w32 n → IsWord (word n)
written_number n fits = (of_z_fits w32 n fits).fits

either : (b : Bool) (v w : Value) → IsWord v → IsWord w → IsWord (if b then v else w)
either true v w h g = h
either false v w h g = g

no_address : (b : Bool) (l : Name) → IsWord (if b then Address l else NoValue)
no_address b l = either b (Address l) NoValue tt tt

-- ---- operations

modulo : (n : ℕ) → n % 2 ^ 32 < 2 ^ 32
modulo n = mod-lt n (pow_pos 32)

sums : (v w : Value) → IsWord (sum_of v w)
sums (Number m) (Number n) = modulo (m + n)
sums (Number m) (Address l) = no_address (nat_eq m 0) l
sums (Number m) NoValue = tt
sums (Address l) (Number n) = no_address (nat_eq n 0) l
sums (Address l) (Address k) = tt
sums (Address l) NoValue = tt
sums NoValue w = tt

zero_same : (k l : Name) → IsWord (zero_if_same k l)
zero_same k l = either (bytes_eq k l) (Number 0) NoValue (pow_pos 32) tt

differences : (v w : Value) → IsWord (difference_of v w)
differences (Number m) (Number n) = modulo (n + (2 ^ 32 - m))
differences (Number m) (Address l) = tt
differences (Number m) NoValue = tt
differences (Address l) (Number n) = tt
differences (Address l) (Address k) = zero_same l k
differences (Address l) NoValue = tt
differences NoValue w = tt

exclusive_ors : (v w : Value) → IsWord v → IsWord w → IsWord (exclusive_or_of v w)
exclusive_ors (Number m) (Number n) h g = xor_of_32 m n h g
exclusive_ors (Number m) (Address l) h g = tt
exclusive_ors (Number m) NoValue h g = tt
exclusive_ors (Address l) (Number n) h g = tt
exclusive_ors (Address l) (Address k) h g = zero_same l k
exclusive_ors (Address l) NoValue h g = tt
exclusive_ors NoValue w h g = tt

bitwise : (f : ℕ → ℕ → ℕ) → ((m n : ℕ) → m < 2 ^ 32 → n < 2 ^ 32 → f m n < 2 ^ 32)
    → (v w : Value) → IsWord v → IsWord w → IsWord (bitwise_of f v w)
bitwise f keeps (Number m) (Number n) h g = keeps m n h g
bitwise f keeps (Number m) (Address l) h g = tt
bitwise f keeps (Number m) NoValue h g = tt
bitwise f keeps (Address l) w h g = tt
bitwise f keeps NoValue w h g = tt

ands : (m n : ℕ) → m < 2 ^ 32 → n < 2 ^ 32 → bit_and m n < 2 ^ 32
ands m n h g = omega (arith, h, and_le_l m n)

results : (o : Operation) (v w : Value) → IsWord v → IsWord w → IsWord (result_of o v w)
results Add v w h g = sums v w
results SubtractFrom v w h g = differences v w
results Xor v w h g = exclusive_ors v w h g
results Or v w h g = bitwise bit_or or_of_32 v w h g
results And v w h g = bitwise bit_and ands v w h g

-- ---- registers

abbrev pub AreWords : List Value → Type 0
AreWords vs = AllByRecursion IsWord vs

pub at_index : (vs : List Value) (r : ℕ) (d : Value) → AreWords vs → IsWord d
    → IsWord (slice_index_or vs r d)
at_index [] r d all h = h
at_index (v ∷ vs) zero d all h = all.0
at_index (v ∷ vs) (suc r) d all h = at_index vs r d all.1 h

with_one : (vs : List Value) (r : ℕ) (v : Value) → AreWords vs → IsWord v
    → AreWords (slice_set vs r v)
with_one [] r v all h = tt
with_one (u ∷ vs) zero v all h = (h, all.1)
with_one (u ∷ vs) (suc r) v all h = (all.0, with_one vs r v all.1 h)

in_register : (s : State) (r : ℕ) → AreWords s.registers → IsWord (register s r)
in_register s r all = at_index s.registers r (Number 0) all (pow_pos 32)

result_there : (s : State) (o : Operation) (a b : ℕ) → AreWords s.registers
    → IsWord (result_in s o a b)
result_there s o a b all =
    either (cancels o a b) (Number 0) (result_of o (register s a) (register s b)) (pow_pos 32)
    (results o (register s a) (register s b) (in_register s a all) (in_register s b all))

-- ---- instructions

pub after_words : (i : Instruction) (v : Value) (s : State) → HasWordImmediate i → IsWord v
    → AreWords s.registers → AreWords (state_after i v s).registers
after_words (LoadImmediate d n) v s fits h all =
    with_one s.registers d (word n) all (written_number n fits)
after_words (Move d a) v s fits h all =
    with_one s.registers d (register s a) all (in_register s a all)
after_words (AddImmediate d a n) v s fits h all =
    with_one s.registers d (sum_of (register s a) (word n)) all (sums (register s a) (word n))
after_words (Compute o d a b) v s fits h all =
    with_one s.registers d (result_in s o a b) all (result_there s o a b all)
after_words (Load d a) v s fits h all = with_one s.registers d v all h
after_words (LoadIndexed d a b) v s fits h all = with_one s.registers d v all h
after_words (Store d a) v s fits h all = all
after_words (StoreIndexed d a b) v s fits h all = all
after_words (Compare a b) v s fits h all = all
after_words (CompareImmediate a n) v s fits h all = all
after_words (BranchIf c l) v s fits h all = all
after_words (Branch l) v s fits h all = all
after_words (Fence f) v s fits h all = all

only : (v w : Value) → IsWord v → Contains (v ∷ []) w → IsWord w
only v w h (zero, lt, eq) = subst IsWord eq h
only v w h (suc k, lt, eq) = absurd (omega (arith, lt))

nothing : (w : Value) → Contains [] w → IsWord w
nothing w (k, lt, eq) = absurd (omega (arith, lt))

pub stored_words : (i : Instruction) (s : State) (v : Value) → AreWords s.registers
    → Contains (stored_values i s) v → IsWord v
stored_words (Store d a) s v all h = only (register s d) v (in_register s d all) h
stored_words (StoreIndexed d a b) s v all h = only (register s d) v (in_register s d all) h
stored_words _ s v all h = nothing v h
