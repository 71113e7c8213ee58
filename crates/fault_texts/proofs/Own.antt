-- The fault of an application itself.
use Rattle.std.proofs.Common.{ℕ, ◌≡◌, ◌<◌, ◌≤◌, ◌+◌, ◌*◌, List, length, map, drop, get_or, length-drop, Bool, Option, Some, None, Result, Ok, sym, ap, ◌∙◌, arith}
use Rattle.std.specs.Prelude.{if◌then◌else◌, not, min}
use Rattle.std.proofs.lemmas.Bool.{lt-ltb, le-ltb}
use Rattle.text_values.specs.declared.model.Expression.{Expression}
use Rattle.text_values.specs.ModelValue.{Terms, gathered}
use Rattle.text_values.specs.ModelValues.{term_of}
use Rattle.binding_kinds.specs.declared.fault.ModelFault.{ModelFault}
use Rattle.binding_kinds.specs.declared.fault.ModelFault.TheVariants as faults
use Rattle.binding_kinds.specs.declared.function.Function.{Function}
use Rattle.binding_kinds.specs.declared.kinds.Kind.{Kind}
use Rattle.binding_kinds.specs.declared.signature.Signature.{Signature}
use Rattle.binding_kinds.specs.Combinations.{digit, kinds_number, unknown}
use Rattle.binding_kinds.specs.Value.{Naming}
use Rattle.binding_kinds.specs.Verdict.{or_else, unless}
use Rattle.binding_kinds.specs.Senses.{Sense, HasSense, IsSameSize, size_with, size_applied, kind_in, kinds_in, fault_applied}
use Rattle.binding_kinds.proofs.Applications.{below_table, next, long_kinds, count_arguments, or_none}

own_large : (s : Sense) (sizes : List ℕ) (kinds : List Kind) (size : ℕ)
    → IsSameSize size (size_with s sizes) → 4096 < size
    → fault_applied (Ok s) sizes kinds None ≡ Some faults.TooLarge
own_large s sizes kinds size alike lt =
    ap
    (λ (b : Bool). if b then Some faults.TooLarge
    else or_else (unless (not (s.clashes kinds)) faults.Kind) None)
    (lt-ltb 4096 (size_with s sizes) (omega (arith, alike, lt)))

own_small : (f : Function) (s : Sense) (sizes : List ℕ) (kinds : List Kind) (size combination : ℕ)
    → HasSense f s → length kinds ≡ s.arity → combination ≡ kinds_number kinds
    → IsSameSize size (size_with s sizes) → size ≤ 4096
    → fault_applied (Ok s) sizes kinds None
    ≡ unless (not (get_or f.signatures.items combination unknown).clashes) faults.Kind
own_small f s sizes kinds size combination kept long is alike le =
    let g = ap (λ (n : ℕ). get_or f.signatures.items n unknown) is ∙ kept.kinds kinds long in
    ap
    (λ (b : Bool). if b then Some faults.TooLarge
    else or_else (unless (not (s.clashes kinds)) faults.Kind) None)
    (le-ltb 4096 (size_with s sizes) (omega (arith, alike, le)))
    ∙ or_none (unless (not (s.clashes kinds)) faults.Kind)
    ∙ sym (ap (λ (x : Signature). unless (not x.clashes) faults.Kind) g)

-- the kinds of so many arguments
long_arguments : (ss : List Sense) (names : List Naming) (xs : List Expression)
    → length (kinds_in ss names (gathered (map term_of xs))) ≡ length xs
long_arguments ss names xs = long_kinds ss names (gathered (map term_of xs)) ∙ count_arguments xs

-- ---- what an application answers

pub too_large : (r : Result Sense ModelFault) (s : Sense) (sizes : List ℕ) (kinds : List Kind)
    (size : ℕ) → r ≡ Ok s → IsSameSize size (size_applied r sizes) → 4096 < size
    → Some faults.TooLarge ≡ fault_applied r sizes kinds None
too_large r s sizes kinds size is alike lt =
    sym (ap (λ (q : Result Sense ModelFault). fault_applied q sizes kinds None) is
    ∙ own_large s sizes kinds size
    (alike ∙ ap (λ (q : Result Sense ModelFault). min (size_applied q sizes) 4097) is) lt)

pub clashing : (f : Function) (ss : List Sense) (names : List Naming) (xs : List Expression)
    (r : Result Sense ModelFault) (s : Sense) (sizes : List ℕ) (size combination : ℕ)
    (o : Option ModelFault) → r ≡ Ok s → HasSense f s → length xs ≡ s.arity
    → (length xs ≤ 8 → combination ≡ kinds_number (kinds_in ss names (gathered (map term_of xs))))
    → IsSameSize size (size_applied r sizes) → size ≤ 4096
    → o ≡ unless (not (get_or f.signatures.items combination unknown).clashes) faults.Kind
    → o ≡ fault_applied r sizes (kinds_in ss names (gathered (map term_of xs))) None
clashing f ss names xs r s sizes size combination o is kept arity combined alike le o_is =
    let kinds = kinds_in ss names (gathered (map term_of xs)) in
    let few : length xs ≤ 8 = let k = kept.few in omega (arith, arity, k) in
    o_is ∙ sym (
    ap (λ (q : Result Sense ModelFault). fault_applied q sizes kinds None) is
    ∙ own_small f s sizes kinds size combination kept (long_arguments ss names xs ∙ arity)
    (combined few)
    (alike ∙ ap (λ (q : Result Sense ModelFault). min (size_applied q sizes) 4097) is) le
    )

-- ---- the combination, from the last argument to the first

pub combined_before : (ss : List Sense) (names : List Naming) (xs : List Expression) (i : ℕ)
    (e : Expression) (k : Kind) (c after : ℕ) → i < length xs → length xs ≤ 8
    → e ≡ get_or xs i e → k ≡ kind_in ss names (term_of e)
    → c ≡ kinds_number (kinds_in ss names (gathered (map term_of (drop (i + 1) xs))))
    → (c < 6561 → after ≡ c * 3 + digit k)
    → after ≡ kinds_number (kinds_in ss names (gathered (map term_of (drop i xs))))
combined_before ss names xs i e k c after lt few is k_is c_is after_is =
    let rest = drop (i + 1) xs in
    let long : length rest ≤ 8 = let d = length-drop (i + 1) xs in omega (arith, d, few) in
    let small : c < 6561 = let b = below_table (kinds_in ss names (gathered (map term_of rest))) (let l = long_arguments ss names rest in omega (arith, l, long)) in omega (arith, c_is, b) in
    let open_up : kinds_number (kinds_in ss names (gathered (map term_of (drop i xs)))) ≡ digit (kind_in ss names (term_of e)) + 3 * kinds_number (kinds_in ss names (gathered (map term_of rest))) = ap (λ (t : Terms). kinds_number (kinds_in ss names t)) (next xs i e lt is) in
    let d : digit k ≡ digit (kind_in ss names (term_of e)) = ap digit k_is in
    let a = after_is small in
    omega (arith, open_up, d, a, c_is)
