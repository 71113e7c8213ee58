-- Counts up to the greatest number of 64 bits.
use Rattle.std.proofs.Common.{◌≡◌, ℕ, zero, suc, ◌+◌, ◌*◌, ◌<◌, ◌≤◌, List, [], ◌∷◌, map, length, take, drop, get_or, ap, add-one, min, nat_lt, Bool, true, false, refl, sym, ◌∙◌, arith}
use Rattle.std.specs.List.{sum_by, remove, insert}
use Rattle.bench_texts.specs.BenchTexts.{PlainModel, NumberedItem, put_at, changed_at, with_items}
use Rattle.bench_texts.specs.Limits.{clause_outputs, items_outputs, models_outputs}
use Rattle.std.proofs.lemmas.List.Sums.{sum_by-cons, sum_by-append, sum_by-insert}
use Rattle.std.proofs.Math.Nat.{suc-mul, zero-mul}
use Rattle.std.proofs.lemmas.Bool.{ltb-true, lt-ltb}
use Rattle.std.proofs.lemmas.Grind.{common_steps}

pub sum_by-map : {A B : Type 0} (f : B → ℕ) (g : A → B) → (xs : List A)
    → sum_by f (map g xs) ≡ sum_by (λ x. f (g x)) xs
sum_by-map f g [] = refl
sum_by-map f g (x ∷ xs) =
    let a = sum_by-cons f (g x) (map g xs) in let b = sum_by-cons (λ x. f (g x)) x xs in let r = sum_by-map f g xs in cc

pub lt-min : (l p : ℕ) → l < 18446744073709551615
    → nat_lt l (min p 18446744073709551615) ≡ nat_lt l p
lt-min l p h = grind arith

-- outputs that are counted up to the greatest number of 64 bits are over the limit where all of
-- them are
many : (t o e : ℕ) → e ≡ min o 18446744073709551615 → 18446744073709551615 ≤ o
    → nat_lt 524288 (min (t * min (e + 1) 18446744073709551615) 18446744073709551615)
    ≡ nat_lt 524288 (t * (1 + o))
many zero o e h l = rw (zero-mul, zero-mul) refl
many (suc k) o e h l =
    let x : min (e + 1) 18446744073709551615 ≡ 18446744073709551615 = omega arith in
    let a = suc-mul k 18446744073709551615 in let b = suc-mul k (1 + o) in
    let left : 524288 < min (suc k * 18446744073709551615) 18446744073709551615 = omega arith in
    let right : 524288 < suc k * (1 + o) = omega arith in
    rw x (lt-ltb _ _ left ∙ sym (lt-ltb _ _ right))

few : (t o e : ℕ) → e ≡ min o 18446744073709551615 → o < 18446744073709551615
    → nat_lt 524288 (min (t * min (e + 1) 18446744073709551615) 18446744073709551615)
    ≡ nat_lt 524288 (t * (1 + o))
few t o e h l =
    let x : min (e + 1) 18446744073709551615 ≡ 1 + o = omega arith in rw x (lt-min 524288 (t * (1 + o)) (omega arith))

by_size : (b : Bool) (t o e : ℕ) → nat_lt o 18446744073709551615 ≡ b
    → e ≡ min o 18446744073709551615
    → nat_lt 524288 (min (t * min (e + 1) 18446744073709551615) 18446744073709551615)
    ≡ nat_lt 524288 (t * (1 + o))
by_size true t o e s h = few t o e h (ltb-true _ _ s)
by_size false t o e s h = many t o e h (grind (arith, common_steps))

pub over_exact : (t o e : ℕ) → e ≡ min o 18446744073709551615
    → nat_lt 524288 (min (t * min (e + 1) 18446744073709551615) 18446744073709551615)
    ≡ nat_lt 524288 (t * (1 + o))
over_exact t o e h = by_size (nat_lt o 18446744073709551615) t o e refl h

pub outputs-remove : (ms : List PlainModel) (i : ℕ)
    → models_outputs (remove ms i) ≡ models_outputs (take i ms) + models_outputs (drop (i + 1) ms)
outputs-remove ms i =
    rw add-one (sum_by-append (λ m. items_outputs m.items + 1) (take i ms) (drop (suc i) ms))

-- where the items of one model are others
pub outputs-changed : (f : List NumberedItem → List NumberedItem) (ms : List PlainModel) (i : ℕ)
    (m : PlainModel) → i < length ms → m ≡ get_or ms i m
    → models_outputs (changed_at i (with_items f) ms)
    ≡ models_outputs (take i ms) + models_outputs (drop (suc i) ms)
    + (items_outputs (f m.items) + 1)
outputs-changed f [] i m b e = grind arith
outputs-changed f (x ∷ xs) zero m b e =
    let a = sum_by-cons (λ n. items_outputs n.items + 1) (with_items f x) xs in
    let g : items_outputs (f m.items) ≡ items_outputs (f x.items) = ap (λ n. items_outputs (f n.items)) e in omega arith
outputs-changed f (x ∷ xs) (suc i) m b e =
    let l : i < length xs = omega arith in let r = outputs-changed f xs i m l e in
    let a = sum_by-cons (λ n. items_outputs n.items + 1) x (changed_at i (with_items f) xs) in
    let d = sum_by-cons (λ n. items_outputs n.items + 1) x (take i xs) in omega arith

pub outputs-with : (f : List NumberedItem → List NumberedItem) (ms : List PlainModel) (i : ℕ)
    (m : PlainModel) → i < length ms → m ≡ get_or ms i m
    → models_outputs (changed_at i (with_items f) ms)
    ≡ models_outputs (take i ms) + models_outputs (drop (i + 1) ms)
    + (items_outputs (f m.items) + 1)
outputs-with f ms i m b e = rw add-one (outputs-changed f ms i m b e)

pub items-remove : (is : List NumberedItem) (k : ℕ)
    → items_outputs (remove is k) ≡ items_outputs (take k is) + items_outputs (drop (k + 1) is)
items-remove is k =
    rw add-one (sum_by-append (λ i. clause_outputs i.clause) (take k is) (drop (suc k) is))

pub items-put : (is : List NumberedItem) (k : ℕ) (y : NumberedItem)
    → items_outputs (put_at k y is)
    ≡ items_outputs (take k is) + items_outputs (drop (k + 1) is) + clause_outputs y.clause
items-put is k y =
    let a = sum_by-append (λ i. clause_outputs i.clause) (take k is) (y ∷ drop (suc k) is) in
    let b = sum_by-cons (λ i. clause_outputs i.clause) y (drop (suc k) is) in rw add-one (omega arith)

pub items-insert : (is : List NumberedItem) (k : ℕ) (y : NumberedItem)
    → items_outputs (insert is k y) ≡ items_outputs is + clause_outputs y.clause
items-insert is k y = sum_by-insert (λ i. clause_outputs i.clause) is k y

pub outputs-put_at : (ms : List PlainModel) (i : ℕ) (m : PlainModel)
    → models_outputs (put_at i m ms)
    ≡ models_outputs (take i ms) + models_outputs (drop (i + 1) ms)
    + (items_outputs m.items + 1)
outputs-put_at ms i m =
    let a = sum_by-append (λ n. items_outputs n.items + 1) (take i ms) (m ∷ drop (suc i) ms) in
    let b = sum_by-cons (λ n. items_outputs n.items + 1) m (drop (suc i) ms) in rw add-one (omega arith)

outputs-around : (ms : List PlainModel) (i : ℕ) → i ≡ length ms
    → models_outputs (take i ms) + models_outputs (drop (suc i) ms) ≡ models_outputs ms
outputs-around [] zero e = refl
outputs-around [] (suc i) e = grind arith
outputs-around (x ∷ xs) zero e = grind arith
outputs-around (x ∷ xs) (suc i) e =
    let l : i ≡ length xs = omega arith in let r = outputs-around xs i l in
    let a = sum_by-cons (λ n. items_outputs n.items + 1) x xs in
    let d = sum_by-cons (λ n. items_outputs n.items + 1) x (take i xs) in omega arith

pub outputs-put_last : (ms : List PlainModel) (i : ℕ) (m : PlainModel) → i ≡ length ms
    → models_outputs (put_at i m ms) ≡ models_outputs ms + (items_outputs m.items + 1)
outputs-put_last ms i m e =
    let a = sum_by-append (λ n. items_outputs n.items + 1) (take i ms) (m ∷ drop (suc i) ms) in
    let b = sum_by-cons (λ n. items_outputs n.items + 1) m (drop (suc i) ms) in let r = outputs-around ms i e in omega arith

-- a sum of counts up to the greatest number of 64 bits
pub counted-more : (a b e f : ℕ) → e ≡ min a 18446744073709551615 → f ≡ b
    → min (e + f) 18446744073709551615 ≡ min (a + b) 18446744073709551615
counted-more a b e f g h = omega arith

pub counted-sum : (a b e f : ℕ) → e ≡ min a 18446744073709551615 → f ≡ min b 18446744073709551615
    → min (e + f) 18446744073709551615 ≡ min (a + b) 18446744073709551615
counted-sum a b e f g h = omega arith

pub ruleset counts = (sum_by-map, lt-min)
