-- The size of a body with its parameters counted as the arguments, and the length of the body in
-- postfix order.
use Rattle.std.proofs.Common.{ℕ, suc, ◌≡◌, ◌<◌, ◌≤◌, ◌+◌, ◌*◌, ◌++◌, List, [], ◌∷◌, length, Bool, true, false, refl, arith, length-append, ◌⊎◌, inl, inr}
use Rattle.std.specs.Prelude.{nat_eq, if◌then◌else◌}
use Rattle.std.proofs.Math.Nat.{add-mul}
use Rattle.std.proofs.lemmas.Bool.{eq-eqb, cases_eq, cases_lt}
use Rattle.binding_kinds.specs.declared.function.Piece.TheVariants as pieces
use Rattle.binding_kinds.specs.declared.function.Function.{Function}
use Rattle.binding_kinds.specs.Formula.{Formula, Value, Parameter, Everything, NoPairs, NoEvents, Joined, Marked, Complement, Identity, constant_of, factor_of, HasParameters, postfix}
use Rattle.binding_kinds.specs.Senses.{Sense, size_of_arguments, size_with, ArePositive, HasSense}

pub args_both : (f g : ℕ → ℕ) (from : ℕ) (sizes : List ℕ)
    → size_of_arguments (λ p. f p + g p) from sizes
    ≡ size_of_arguments f from sizes + size_of_arguments g from sizes
args_both f g from [] = refl
args_both f g from (s ∷ ss) =
    let e = args_both f g (suc from) ss in
    let d : (f from + g from) * s ≡ f from * s + g from * s = add-mul (f from) (g from) s in
    omega (arith, e, d)

-- the argument of a parameter
args_one : (index from : ℕ) (sizes : List ℕ) → ArePositive sizes → from ≤ index
    → index < from + length sizes
    → 0 < size_of_arguments (λ p. if nat_eq index p then 1 else 0) from sizes
args_one index from [] pos le lt = absurd (omega (arith, le, lt))
args_one index from (s ∷ ss) pos le lt =
    at_first (cases_eq index from) (λ le lt. args_one index (suc from) ss pos.1 le lt)
  where
    here : (b : Bool) → b ≡ true → 0 < (if b then 1 else 0) * s
    here true e = let h = pos.0 in omega (arith, h)
    here false e = absurd (let f : false ≡ true = e in cc)

    at_first : (index ≡ from) ⊎ (index ≡ from → ⊥)
        → (suc from ≤ index → index < suc from + length ss
        → 0 < size_of_arguments (λ p. if nat_eq index p then 1 else 0) (suc from) ss)
        → 0
        < (if nat_eq index from then 1 else 0) * s
        + size_of_arguments (λ p. if nat_eq index p then 1 else 0) (suc from) ss
    at_first (inl e) later =
        let h = here (nat_eq index from) (eq-eqb index from e) in omega (arith, h)
    at_first (inr n) later =
        let h = later (at_least (cases_lt from index) n) (omega (arith, lt)) in omega (arith, h)
      where
        at_least : (from < index) ⊎ (index ≤ from) → (index ≡ from → ⊥) → suc from ≤ index
        at_least (inl less) n = omega (arith, less)
        at_least (inr more) n = absurd (n (omega (arith, le, more)))

-- the body with each parameter counted as its argument is no shorter than with each counted as one
size_least : (sizes : List ℕ) (f : Formula) → ArePositive sizes → HasParameters (length sizes) f
    → length (postfix f) ≤ constant_of f + size_of_arguments (factor_of f) 0 sizes
size_least sizes (Value f) pos h = omega arith
size_least sizes (Parameter index) pos h =
    let e = args_one index 0 sizes pos (omega arith) (omega (arith, h)) in omega (arith, e)
size_least sizes Everything pos h = omega arith
size_least sizes NoPairs pos h = omega arith
size_least sizes NoEvents pos h = omega arith
size_least sizes (Joined op a b) pos h =
    let l = size_least sizes a pos h.0 in
    let r = size_least sizes b pos h.1 in
    let n = length-append (postfix a) (postfix b ++ pieces.Joined op ∷ []) in
    let m = length-append (postfix b) (pieces.Joined op ∷ []) in
    let e = args_both (factor_of a) (factor_of b) 0 sizes in
    omega (arith, l, r, n, m, e)
size_least sizes (Marked op a) pos h =
    let l = size_least sizes a pos h in
    let n = length-append (postfix a) (pieces.Marked op ∷ []) in omega (arith, l, n)
size_least sizes (Complement a) pos h =
    let l = size_least sizes a pos h in
    let n = length-append (postfix a) (pieces.Complement ∷ []) in omega (arith, l, n)
size_least sizes (Identity a) pos h =
    let l = size_least sizes a pos h in
    let n = length-append (postfix a) (pieces.Identity ∷ []) in omega (arith, l, n)

pub some_piece : (f : Formula) → 0 < length (postfix f)
some_piece (Value f) = omega arith
some_piece (Parameter index) = omega arith
some_piece Everything = omega arith
some_piece NoPairs = omega arith
some_piece NoEvents = omega arith
some_piece (Joined op a b) =
    let l = some_piece a in
    let n = length-append (postfix a) (postfix b ++ pieces.Joined op ∷ []) in omega (arith, l, n)
some_piece (Marked op a) =
    let l = some_piece a in
    let n = length-append (postfix a) (pieces.Marked op ∷ []) in omega (arith, l, n)
some_piece (Complement a) =
    let l = some_piece a in
    let n = length-append (postfix a) (pieces.Complement ∷ []) in omega (arith, l, n)
some_piece (Identity a) =
    let l = some_piece a in
    let n = length-append (postfix a) (pieces.Identity ∷ []) in omega (arith, l, n)

pub kept_positive : (f : Function) (s : Sense) → HasSense f s → (sizes : List ℕ)
    → length sizes ≡ s.arity → ArePositive sizes → 0 < size_with s sizes
kept_positive f s kept sizes long pos =
    let h = size_least sizes s.formula pos (rw long kept.within) in
    let p = some_piece s.formula in
    omega (arith, h, p)

pub kept_large : (f : Function) (s : Sense) → HasSense f s → (sizes : List ℕ) → f.is_oversized ≡ true
    → length sizes ≡ s.arity → ArePositive sizes → 4096 < size_with s sizes
kept_large f s kept sizes over long pos =
    let h = size_least sizes s.formula pos (rw long kept.within) in
    let l = kept.large over in
    omega (arith, h, l)
