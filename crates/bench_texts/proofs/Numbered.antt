-- Items with their numbers, after a change of both lists.
use Rattle.std.proofs.Common.{◌≡◌, ℕ, zero, suc, ◌+◌, ◌<◌, ◌≤◌, List, [], ◌∷◌, ◌++◌, add-one, length, take, drop, map, refl, sym, ap, arith, ◌==◌, ◌∙◌}
use Rattle.std.proofs.Math.ListN.{set}
use Rattle.std.proofs.lemmas.List.{map-set}
use Rattle.std.proofs.lemmas.List.FromFn.{length-range_with_len}
use Rattle.std.specs.List.{sum_by, insert, remove, position_or_len, range_with_len}
use Rattle.std.proofs.lemmas.List.Sums.{sum_by-cons}
use Rattle.text_values.specs.declared.model.Item.{Item}
use Rattle.text_values.specs.ModelValues.{clause_of, clauses_of}
use Rattle.bench_texts.specs.BenchTexts.{items_with_numbers, item_index, put_at, numbered_items}
use Rattle.bench_texts.specs.Limits.{clause_outputs, items_outputs}
use Rattle.bench_texts.proofs.Lists.{map-remove}

pub length-items_of : (ns : List ℕ) (is : List Item) → length ns ≡ length is
    → length (items_with_numbers ns is) ≡ length is
length-items_of [] [] e = refl
length-items_of [] (i ∷ is) e = grind arith
length-items_of (n ∷ ns) [] e = grind arith
length-items_of (n ∷ ns) (i ∷ is) e =
    let h : length ns ≡ length is = omega arith in ap suc (length-items_of ns is h)

pub items_of-set : (ns : List ℕ) (is : List Item) (k n : ℕ) (i : Item) → length ns ≡ length is
    → k < length is
    → items_with_numbers (set ns k n) (set is k i)
    ≡ put_at k (record { number = n; clause = clause_of i }) (items_with_numbers ns is)
items_of-set [] [] k n i e b = grind arith
items_of-set [] (j ∷ is) k n i e b = grind arith
items_of-set (m ∷ ns) [] k n i e b = grind arith
items_of-set (m ∷ ns) (j ∷ is) zero n i e b = refl
items_of-set (m ∷ ns) (j ∷ is) (suc k) n i e b =
    let h : length ns ≡ length is = omega arith in let l : k < length is = omega arith in
    ap (λ xs. record { number = m; clause = clause_of j } ∷ xs) (items_of-set ns is k n i h l)

pub items_of-insert : (ns : List ℕ) (is : List Item) (k n : ℕ) (i : Item) → length ns ≡ length is
    → k ≤ length is
    → items_with_numbers (insert ns k n) (insert is k i)
    ≡ insert (items_with_numbers ns is) k (record { number = n; clause = clause_of i })
items_of-insert [] [] zero n i e b = refl
items_of-insert [] [] (suc k) n i e b = grind arith
items_of-insert [] (j ∷ is) k n i e b = grind arith
items_of-insert (m ∷ ns) [] k n i e b = grind arith
items_of-insert (m ∷ ns) (j ∷ is) zero n i e b = refl
items_of-insert (m ∷ ns) (j ∷ is) (suc k) n i e b =
    let h : length ns ≡ length is = omega arith in let l : k ≤ length is = omega arith in
    ap (λ xs. record { number = m; clause = clause_of j } ∷ xs) (items_of-insert ns is k n i h l)

pub items_of-remove : (ns : List ℕ) (is : List Item) (k : ℕ) → length ns ≡ length is
    → items_with_numbers (remove ns k) (remove is k) ≡ remove (items_with_numbers ns is) k
items_of-remove [] [] zero e = refl
items_of-remove [] [] (suc k) e = refl
items_of-remove [] (j ∷ is) k e = grind arith
items_of-remove (m ∷ ns) [] k e = grind arith
items_of-remove (m ∷ ns) (j ∷ is) zero e = refl
items_of-remove (m ∷ ns) (j ∷ is) (suc k) e =
    let h : length ns ≡ length is = omega arith in
    ap (λ xs. record { number = m; clause = clause_of j } ∷ xs) (items_of-remove ns is k h)

pub item_index-items_of : (number : ℕ) (ns : List ℕ) (is : List Item) → length ns ≡ length is
    → item_index number (items_with_numbers ns is) ≡ position_or_len (λ n. n == number) ns
item_index-items_of number [] [] e = refl
item_index-items_of number [] (j ∷ is) e = grind arith
item_index-items_of number (m ∷ ns) [] e = grind arith
item_index-items_of number (m ∷ ns) (j ∷ is) e =
    let h : length ns ≡ length is = omega arith in rw (item_index-items_of number ns is h)

pub outputs-take : (ns : List ℕ) (is : List Item) (k : ℕ) → length ns ≡ length is
    → items_outputs (take k (items_with_numbers ns is))
    ≡ sum_by (λ i. clause_outputs (clause_of i)) (take k is)
outputs-take [] [] zero e = refl
outputs-take [] [] (suc k) e = refl
outputs-take [] (j ∷ is) k e = grind arith
outputs-take (m ∷ ns) [] k e = grind arith
outputs-take (m ∷ ns) (j ∷ is) zero e = refl
outputs-take (m ∷ ns) (j ∷ is) (suc k) e =
    let h : length ns ≡ length is = omega arith in
    let a = sum_by-cons (λ i. clause_outputs i.clause) (record { number = m; clause = clause_of j }) (take k (items_with_numbers ns is)) in
    let b = sum_by-cons (λ i. clause_outputs (clause_of i)) j (take k is) in let r = outputs-take ns is k h in cc

pub outputs-drop : (ns : List ℕ) (is : List Item) (k : ℕ) → length ns ≡ length is
    → items_outputs (drop k (items_with_numbers ns is))
    ≡ sum_by (λ i. clause_outputs (clause_of i)) (drop k is)
outputs-drop [] [] zero e = refl
outputs-drop [] [] (suc k) e = refl
outputs-drop [] (j ∷ is) k e = grind arith
outputs-drop (m ∷ ns) [] k e = grind arith
outputs-drop (m ∷ ns) (j ∷ is) zero e =
    let h : length ns ≡ length is = omega arith in
    let a = sum_by-cons (λ i. clause_outputs i.clause) (record { number = m; clause = clause_of j }) (items_with_numbers ns is) in
    let b = sum_by-cons (λ i. clause_outputs (clause_of i)) j is in let r = outputs-drop ns is 0 h in cc
outputs-drop (m ∷ ns) (j ∷ is) (suc k) e =
    let h : length ns ≡ length is = omega arith in outputs-drop ns is k h

pub outputs-items_of : (ns : List ℕ) (is : List Item) → length ns ≡ length is
    → items_outputs (items_with_numbers ns is) ≡ sum_by (λ i. clause_outputs (clause_of i)) is
outputs-items_of ns is e = outputs-drop ns is 0 e

-- items that are numbered from a number on
pub items_of-range : (n : ℕ) (is : List Item)
    → items_with_numbers (range_with_len n (length is)) is ≡ numbered_items n (clauses_of is)
items_of-range n [] = refl
items_of-range n (i ∷ is) =
    ap (λ r. record { number = n; clause = clause_of i } ∷ r) (items_of-range (n + 1) is)

range-last : (a n j : ℕ) → a + n ≡ j → range_with_len a (suc n) ≡ range_with_len a n ++ j ∷ []
range-last a zero j e = let same : a ≡ j = omega arith in ap (λ k. k ∷ []) same
range-last a (suc n) j e = ap (λ l. a ∷ l) (range-last (a + 1) n j (omega arith))

pub range-more : (a n : ℕ) → range_with_len a (n + 1) ≡ range_with_len a n ++ (a + n) ∷ []
range-more a n = rw add-one (range-last a n (a + n) refl)

pub items_of-numbered : (ns : List ℕ) (n k : ℕ) (is : List Item) → ns ≡ range_with_len n k
    → k ≡ length is → items_with_numbers ns is ≡ numbered_items n (clauses_of is)
items_of-numbered ns n k is e l = rw (e, l) (items_of-range n is)

pub outputs-numbered : (n : ℕ) (is : List Item)
    → items_outputs (numbered_items n (clauses_of is))
    ≡ sum_by (λ i. clause_outputs (clause_of i)) is
outputs-numbered n [] = refl
outputs-numbered n (i ∷ is) =
    let a = sum_by-cons (λ i. clause_outputs i.clause) (record { number = n; clause = clause_of i }) (numbered_items (n + 1) (clauses_of is)) in
    let b = sum_by-cons (λ i. clause_outputs (clause_of i)) i is in let r = outputs-numbered (n + 1) is in cc

-- items that say the same
pub items_of-same : (ns : List ℕ) (is js : List Item) → clauses_of is ≡ clauses_of js
    → items_with_numbers ns is ≡ items_with_numbers ns js
items_of-same [] is js e = refl
items_of-same (n ∷ ns) [] [] e = refl
items_of-same (n ∷ ns) [] (j ∷ js) e = grind arith
items_of-same (n ∷ ns) (i ∷ is) [] e = grind arith
items_of-same (n ∷ ns) (i ∷ is) (j ∷ js) e =
    let h : clause_of i ≡ clause_of j = grind arith in let r : clauses_of is ≡ clauses_of js = grind arith in
    ap (λ c. record { number = n; clause = c } ∷ items_with_numbers ns is) h
    ∙ ap (λ l. record { number = n; clause = clause_of j } ∷ l) (items_of-same ns is js r)

pub length-same : (is js : List Item) → clauses_of is ≡ clauses_of js → length is ≡ length js
length-same [] [] e = refl
length-same [] (j ∷ js) e = grind arith
length-same (i ∷ is) [] e = grind arith
length-same (i ∷ is) (j ∷ js) e =
    let r : clauses_of is ≡ clauses_of js = grind arith in ap suc (length-same is js r)

pub map-insert : {A B : Type 0} (f : A → B) → (xs : List A) (i : ℕ) (y : A)
    → map f (insert xs i y) ≡ insert (map f xs) i (f y)
map-insert f [] zero y = refl
map-insert f [] (suc i) y = refl
map-insert f (x ∷ xs) zero y = refl
map-insert f (x ∷ xs) (suc i) y = ap (λ r. f x ∷ r) (map-insert f xs i y)

-- items that say what a change of the items says
pub items_of-with : (ns : List ℕ) (is cs : List Item) (k n : ℕ) (i : Item) → length ns ≡ length is
    → clauses_of cs ≡ set (clauses_of is) k (clause_of i) → k < length is
    → items_with_numbers (set ns k n) cs
    ≡ put_at k (record { number = n; clause = clause_of i }) (items_with_numbers ns is)
items_of-with ns is cs k n i e says b =
    items_of-same (set ns k n) cs (set is k i) (says ∙ sym (map-set clause_of is k i))
    ∙ items_of-set ns is k n i e b

pub items_of-more : (ns : List ℕ) (is cs : List Item) (k n : ℕ) (i : Item) → length ns ≡ length is
    → clauses_of cs ≡ insert (clauses_of is) k (clause_of i) → k ≤ length is
    → items_with_numbers (insert ns k n) cs
    ≡ insert (items_with_numbers ns is) k (record { number = n; clause = clause_of i })
items_of-more ns is cs k n i e says b =
    items_of-same (insert ns k n) cs (insert is k i) (says ∙ sym (map-insert clause_of is k i))
    ∙ items_of-insert ns is k n i e b

pub items_of-without : (ns : List ℕ) (is cs : List Item) (k : ℕ) → length ns ≡ length is
    → clauses_of cs ≡ remove (clauses_of is) k
    → items_with_numbers (remove ns k) cs ≡ remove (items_with_numbers ns is) k
items_of-without ns is cs k e says =
    items_of-same (remove ns k) cs (remove is k) (says ∙ sym (map-remove clause_of is k))
    ∙ items_of-remove ns is k e

pub ruleset numbered_lemmas = (
  length-items_of,
  items_of-set,
  items_of-insert,
  items_of-remove,
  item_index-items_of,
  outputs-take,
  outputs-drop,
  outputs-items_of,
  range-more,
  length-range_with_len,
  length-same,
  map-set,
  map-insert,
  map-remove,
  items_of-with,
  items_of-more,
  items_of-without,
)
