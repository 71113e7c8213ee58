-- Lists that are new before an index and old from there on, after one change more.
use Rattle.std.proofs.Common.{◌≡◌, ℕ, zero, suc, ◌+◌, ◌-◌, ◌<◌, ◌≤◌, List, [], ◌∷◌, ◌++◌, length, take, drop, refl, ap, arith}
use Rattle.text_values.specs.ModelValue.{Clause}
use Rattle.watch_edits.specs.declared.items.ItemChange.{ItemChange}
use Rattle.text_values.specs.TestValue.{Content}
use Rattle.watch_edits.specs.declared.parts.TestPart.{TestPart}
use Rattle.watch_edits.specs.Parts.{with_part, with_parts}
use Rattle.watch_edits.specs.Changes.{element_at, set_at, with_change, with_changes}

-- the element is set
pub set_goes_on : {A : Type 0} (old new : List A) (i : ℕ) → i < length old → i < length new
    → set_at new i (take i new ++ drop i old) ≡ take (suc i) new ++ drop (suc i) old
set_goes_on [] new i a b = grind arith
set_goes_on (o ∷ os) [] i a b = grind arith
set_goes_on (o ∷ os) (n ∷ ns) zero a b = refl
set_goes_on (o ∷ os) (n ∷ ns) (suc i) a b =
    let c : i < length os = omega arith in let d : i < length ns = omega arith in
    ap (λ xs. n ∷ xs) (set_goes_on os ns i c d)

-- it is the same already
pub same_goes_on : {A : Type 0} (old new : List A) (i : ℕ) → i < length old → i < length new
    → element_at i old ≡ element_at i new
    → take i new ++ drop i old ≡ take (suc i) new ++ drop (suc i) old
same_goes_on [] new i a b e = grind arith
same_goes_on (o ∷ os) [] i a b e = grind arith
same_goes_on (o ∷ os) (n ∷ ns) zero a b e = ap (λ xs. xs ++ os) e
same_goes_on (o ∷ os) (n ∷ ns) (suc i) a b e =
    let c : i < length os = omega arith in let d : i < length ns = omega arith in
    ap (λ xs. n ∷ xs) (same_goes_on os ns i c d e)

-- an element is inserted
pub insert_goes_on : {A : Type 0} (new rest : List A) (i : ℕ) → i < length new
    → take i (take i new ++ rest) ++ (element_at i new ++ drop i (take i new ++ rest))
    ≡ take (suc i) new ++ rest
insert_goes_on [] rest i a = grind arith
insert_goes_on (n ∷ ns) rest zero a = refl
insert_goes_on (n ∷ ns) rest (suc i) a =
    let c : i < length ns = omega arith in ap (λ xs. n ∷ xs) (insert_goes_on ns rest i c)

drop-once : {A : Type 0} (old : List A) (j : ℕ) → drop 1 (drop j old) ≡ drop (suc j) old
drop-once [] zero = refl
drop-once [] (suc j) = refl
drop-once (o ∷ os) zero = refl
drop-once (o ∷ os) (suc j) = drop-once os j

-- an element is removed
pub remove_goes_on : {A : Type 0} (old new : List A) (i j : ℕ) → i ≤ length new
    → take i (take i new ++ drop j old) ++ drop (suc i) (take i new ++ drop j old)
    ≡ take i new ++ drop (suc j) old
remove_goes_on old new zero j a = drop-once old j
remove_goes_on old [] (suc i) j a = grind arith
remove_goes_on old (n ∷ ns) (suc i) j a =
    let c : i ≤ length ns = omega arith in ap (λ xs. n ∷ xs) (remove_goes_on old ns i j c)

-- one change more is made last
pub applied_last : (new : List Clause) (cs : List ItemChange) (c : ItemChange) (xs : List Clause)
    → with_changes new (cs ++ c ∷ []) xs ≡ with_change new c (with_changes new cs xs)
applied_last new [] c xs = refl
applied_last new (d ∷ cs) c xs = applied_last new cs c (with_change new d xs)

pub put_last : (new : Content) (ps : List TestPart) (p : TestPart) (c : Content)
    → with_parts new (ps ++ p ∷ []) c ≡ with_part new p (with_parts new ps c)
put_last new [] p c = refl
put_last new (q ∷ ps) p c = put_last new ps p (with_part new q c)
