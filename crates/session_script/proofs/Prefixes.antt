-- The first bytes of a source.
use Rattle.std.proofs.Common.{◌≡◌, ℕ, ◌+◌, ◌-◌, ◌<◌, ◌≤◌, ◌⊎◌, inl, inr, List, [], ◌++◌, length, take, min, Option, Some, None, Result, Ok, Err, OnOk, sym, ap, ◌∙◌, subst, refl, arith, append_assoc}
use Rattle.std.proofs.lemmas.Bool.{cases_order}
use Rattle.std.proofs.lemmas.Grind.{common_steps}
use Rattle.std.proofs.lemmas.List.{take_all, take_min, length-take, length-take-le, length-append, take-take, take-append-le}
use Rattle.std.proofs.Math.Seq.{take-append-add}
use Rattle.std.specs.Prelude.{if◌then◌else◌, is_ok}
use Rattle.std.specs.Io.KnownBytes.{Consumes}

-- of the bytes that were left at first, some are read, one at least a turn, and the first of them
-- are kept
abbrev pub HasRead : ℕ → Option (List ℕ) → Option (List ℕ) → List ℕ → ℕ → Type 0
HasRead most None left kept turns = Unit {0}
HasRead most (Some all) None kept turns = ⊥
HasRead most (Some all) (Some left) kept turns =
    (bytes : List ℕ) × (all ≡ bytes ++ left) × (kept ≡ take most bytes) × (turns ≤ length bytes)

pub nothing_read : (most : ℕ) (left : Option (List ℕ)) → HasRead most left left [] 0
nothing_read most None = tt
nothing_read most (Some all) = ([], refl, sym (take_all most [] (omega arith)), omega arith)

least_swapped : (a b : ℕ) → min a b ≡ min b a
least_swapped a b = grind (arith, common_steps)

-- the first of some bytes and of those behind them
pub prefix_joined : (most : ℕ) (kept more : List ℕ) → length kept ≤ most
    → kept ++ take (min (length more) (most - length kept)) more ≡ take most (kept ++ more)
prefix_joined most kept more h =
    let room = most - length kept in
    let count : take (min (length more) room) more ≡ take room more = ap (λ (n : ℕ). take n more) (least_swapped (length more) room) ∙ take_min room more in
    let whole : length kept + room ≡ most = omega arith in
    ap (λ (l : List ℕ). kept ++ l) count ∙ sym (take-append-add kept more room)
    ∙ ap (λ (n : ℕ). take n (kept ++ more)) whole

pub prefix_of_prefix : (most : ℕ) (bytes more : List ℕ)
    → take most (take most bytes ++ more) ≡ take most (bytes ++ more)
prefix_of_prefix most bytes more = by_length (cases_order most (length bytes))
  where
    short : length bytes ≤ most → take most (take most bytes ++ more) ≡ take most (bytes ++ more)
    short h = ap (λ (l : List ℕ). take most (l ++ more)) (take_all most bytes h)

    by_length : (most ≡ length bytes) ⊎ ((most < length bytes) ⊎ (length bytes < most))
        → take most (take most bytes ++ more) ≡ take most (bytes ++ more)
    by_length (inl same) = short (omega arith)
    by_length (inr (inr less)) = short (omega arith)
    by_length (inr (inl more_bytes)) =
        let full : length (take most bytes) ≡ most = length-take-le most bytes (omega arith) in
        take-append-le most (take most bytes) more (omega arith)
        ∙ take-take most most bytes (omega arith)
        ∙ sym (take-append-le most bytes more (omega arith))

-- a turn more, which gave these bytes
pub read_on : (most : ℕ) (first left rest : Option (List ℕ)) (kept more : List ℕ) (turns : ℕ)
    → HasRead most first left kept turns → Consumes left rest more → 0 < length more
    → HasRead most first rest (take most (kept ++ more)) (turns + 1)
read_on most None left rest kept more turns h k some = tt
read_on most (Some all) None rest kept more turns h k some = absurd h
read_on most (Some all) (Some left) None kept more turns h k some = absurd k
read_on most (Some all) (Some left) (Some rest) kept more turns (bytes, whole, prefix, count) k some
    =
    let joined : all ≡ (bytes ++ more) ++ rest = whole ∙ ap (λ (l : List ℕ). bytes ++ l) k ∙ sym (append_assoc bytes more rest) in
    let first : take most (kept ++ more) ≡ take most (bytes ++ more) = ap (λ (l : List ℕ). take most (l ++ more)) prefix ∙ prefix_of_prefix most bytes more in
    let len = length-append bytes more in
    (bytes ++ more, joined, first, omega arith)

pub is_kept : (most : ℕ) (first left : Option (List ℕ)) (kept wanted : List ℕ) (turns : ℕ)
    → kept ≡ wanted → HasRead most first left wanted turns → HasRead most first left kept turns
is_kept most first left kept wanted turns e h =
    subst (λ (l : List ℕ). HasRead most first left l turns) (sym e) h

pub prefix_is_short : (kept : List ℕ) (most : ℕ) (bytes : List ℕ) → kept ≡ take most bytes
    → length kept ≤ most
prefix_is_short kept most bytes h =
    let same = ap (λ (l : List ℕ). length l) h in
    let len = length-take most bytes in
    omega arith

-- a list that grew at `Ok`
pub grown : {A E : Type 0} → (r : Result A E) (new old joined wanted : List ℕ)
    → new ≡ (if is_ok r then joined else old) → joined ≡ wanted → OnOk r (new ≡ wanted)
grown (Ok a) new old joined wanted h e = h ∙ e
grown (Err f) new old joined wanted h e = tt
