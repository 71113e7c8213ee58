-- Elements of lists at an index, and lists that end alike.
use Rattle.std.proofs.Common.{◌≡◌, ℕ, zero, suc, ◌+◌, ◌-◌, ◌<◌, ◌≤◌, List, [], ◌∷◌, ◌++◌, length, map, drop, get_or, refl, ap, sym, arith, ◌∙◌, ◌⊎◌, inl, inr}
use Rattle.std.proofs.lemmas.Bool.{cases_lt}
use Rattle.std.specs.List.{flat_map}
use Rattle.std.proofs.lemmas.List.{length-map, append-nil, drop-drop}
use Rattle.text_values.specs.declared.test.Thread.{Thread}
use Rattle.text_values.specs.TestValue.{thread_steps}
use Rattle.text_values.specs.declared.model.Item.{Item}
use Rattle.text_values.specs.ModelValue.{Clause}
use Rattle.text_values.specs.ModelValues.{clause_of, clauses_of}
use Rattle.cat_printing.specs.Printing.{printed_item}
use Rattle.watch_edits.specs.Changes.{element_at, IsCommonEnd}

-- the element that an index reads
pub element_here : {A B : Type 0} (f : A → B) (xs : List A) (i : ℕ) (x : A) → i < length xs
    → x ≡ get_or xs i x → element_at i (map f xs) ≡ f x ∷ []
element_here f [] i x a e = grind arith
element_here f (y ∷ ys) zero x a e = ap (λ z. f z ∷ []) (sym e)
element_here f (y ∷ ys) (suc i) x a e =
    let b : i < length ys = omega arith in element_here f ys i x b e

pub element_past : {A : Type 0} (xs : List A) (i : ℕ) → length xs ≤ i → element_at i xs ≡ []
element_past [] zero a = refl
element_past [] (suc i) a = refl
element_past (x ∷ xs) zero a = grind arith
element_past (x ∷ xs) (suc i) a = let b : length xs ≤ i = omega arith in element_past xs i b

pub same_elements : {A B : Type 0} (f : A → B) (xs ys : List A) (i j : ℕ) (x y : A) → i < length xs
    → j < length ys → x ≡ get_or xs i x → y ≡ get_or ys j y → f x ≡ f y
    → element_at i (map f xs) ≡ element_at j (map f ys)
same_elements f xs ys i j x y a b d e s =
    element_here f xs i x a d ∙ ap (λ z. z ∷ []) s ∙ sym (element_here f ys j y b e)

first-same : {B : Type 0} (a b : B) → a ∷ [] ≡ b ∷ [] → a ≡ b
first-same a b e = ap (λ zs. get_or zs 0 a) e

pub same_values : {A B : Type 0} (f : A → B) (xs ys : List A) (i j : ℕ) (x y : A) → i < length xs
    → j < length ys → x ≡ get_or xs i x → y ≡ get_or ys j y
    → element_at i (map f xs) ≡ element_at j (map f ys) → f x ≡ f y
same_values f xs ys i j x y a b d e s =
    first-same (f x) (f y) (sym (element_here f xs i x a d) ∙ s ∙ element_here f ys j y b e)

pub same_items : (old new : List Item) (i j : ℕ) (x y : Item) → i < length old → j < length new
    → x ≡ get_or old i x → y ≡ get_or new j y → clause_of x ≡ clause_of y
    → element_at i (clauses_of old) ≡ element_at j (clauses_of new)
same_items old new i j x y a b d e s = same_elements clause_of old new i j x y a b d e s

pub same_clauses : (old new : List Item) (i j : ℕ) (x y : Item) → i < length old → j < length new
    → x ≡ get_or old i x → y ≡ get_or new j y
    → element_at i (clauses_of old) ≡ element_at j (clauses_of new) → clause_of x ≡ clause_of y
same_clauses old new i j x y a b d e s = same_values clause_of old new i j x y a b d e s

pub same_threads : (old new : List Thread) (i : ℕ) (x y : Thread) → i < length old → i < length new
    → x ≡ get_or old i x → y ≡ get_or new i y → x.steps.items ≡ y.steps.items
    → element_at i (map thread_steps old) ≡ element_at i (map thread_steps new)
same_threads old new i x y a b d e s = same_elements thread_steps old new i i x y a b d e s

pub same_steps : (old new : List Thread) (i : ℕ) (x y : Thread) → i < length old → i < length new
    → x ≡ get_or old i x → y ≡ get_or new i y
    → element_at i (map thread_steps old) ≡ element_at i (map thread_steps new)
    → x.steps.items ≡ y.steps.items
same_steps old new i x y a b d e s = same_values thread_steps old new i i x y a b d e s

-- ---- texts

pub text_here : (items : List Item) (i : ℕ) (x : Item) → i < length items → x ≡ get_or items i x
    → flat_map printed_item (element_at i (clauses_of items)) ≡ printed_item (clause_of x)
text_here items i x a e =
    ap (λ cs. flat_map printed_item cs) (element_here clause_of items i x a e)
    ∙ append-nil (printed_item (clause_of x))

pub text_past : (items : List Item) (i : ℕ) → length items ≤ i
    → flat_map printed_item (element_at i (clauses_of items)) ≡ []
text_past items i a =
    let m : length (clauses_of items) ≡ length items = length-map items clause_of in
    let b : length (clauses_of items) ≤ i = omega (arith, m) in
    ap (λ cs. flat_map printed_item cs) (element_past (clauses_of items) i b)

-- ---- ends

drop-one : {A : Type 0} (xs : List A) (i : ℕ) → i < length xs
    → drop i xs ≡ element_at i xs ++ drop (suc i) xs
drop-one [] i a = grind arith
drop-one (x ∷ xs) zero a = refl
drop-one (x ∷ xs) (suc i) a = let b : i < length xs = omega arith in drop-one xs i b

end-more : (xs ys : List Clause) (c : ℕ) → c < length xs → c < length ys → IsCommonEnd xs ys c
    → element_at (length xs - 1 - c) xs ≡ element_at (length ys - 1 - c) ys
    → drop (length xs - (c + 1)) xs ≡ drop (length ys - (c + 1)) ys
end-more xs ys c a b end e =
    let i : length xs - (c + 1) ≡ length xs - 1 - c = omega arith in let j : length ys - (c + 1) ≡ length ys - 1 - c = omega arith in
    let k : suc (length xs - 1 - c) ≡ length xs - c = omega arith in let l : suc (length ys - 1 - c) ≡ length ys - c = omega arith in
    let m : length xs - 1 - c < length xs = omega arith in let n : length ys - 1 - c < length ys = omega arith in
    let p = drop-one xs (length xs - 1 - c) m in let q = drop-one ys (length ys - 1 - c) n in let s = end.same in cc

pub end_goes_on : (old new : List Item) (c : ℕ) → c < length old → c < length new
    → IsCommonEnd (clauses_of old) (clauses_of new) c
    → element_at (length old - 1 - c) (clauses_of old)
    ≡ element_at (length new - 1 - c) (clauses_of new)
    → IsCommonEnd (clauses_of old) (clauses_of new) (c + 1)
end_goes_on old new c a b end e =
    let m : length (clauses_of old) ≡ length old = length-map old clause_of in let n : length (clauses_of new) ≡ length new = length-map new clause_of in
    let a2 : c < length (clauses_of old) = omega (arith, m) in let b2 : c < length (clauses_of new) = omega (arith, n) in
    let e2 : element_at (length (clauses_of old) - 1 - c) (clauses_of old) ≡ element_at (length (clauses_of new) - 1 - c) (clauses_of new) = cc in
    record { old_length = omega arith; new_length = omega arith; same = end-more (clauses_of old) (clauses_of new) c a2 b2 end e2 }

end-fewer : (xs ys : List Clause) (c s : ℕ) → IsCommonEnd xs ys s → c < s
    → element_at (length xs - 1 - c) xs ≡ element_at (length ys - 1 - c) ys
end-fewer xs ys c s end a =
    let f = end.old_length in let g = end.new_length in
    let i : (length xs - s) + (s - 1 - c) ≡ length xs - 1 - c = omega arith in let j : (length ys - s) + (s - 1 - c) ≡ length ys - 1 - c = omega arith in
    let p = drop-drop (s - 1 - c) (length xs - s) xs in let q = drop-drop (s - 1 - c) (length ys - s) ys in
    let r = ap (λ zs. element_at (s - 1 - c) zs) end.same in cc

stops-by : (old new : List Item) (c s : ℕ) → IsCommonEnd (clauses_of old) (clauses_of new) s
    → (element_at (length old - 1 - c) (clauses_of old)
    ≡ element_at (length new - 1 - c) (clauses_of new) → ⊥) → (c < s) ⊎ (s ≤ c) → s ≤ c
stops-by old new c s end differs (inr a) = a
stops-by old new c s end differs (inl a) =
    let m : length (clauses_of old) ≡ length old = length-map old clause_of in let n : length (clauses_of new) ≡ length new = length-map new clause_of in
    let e = end-fewer (clauses_of old) (clauses_of new) c s end a in
    let f : element_at (length old - 1 - c) (clauses_of old) ≡ element_at (length new - 1 - c) (clauses_of new) = cc in absurd (differs f)

pub end_stops : (old new : List Item) (c s : ℕ) → IsCommonEnd (clauses_of old) (clauses_of new) s
    → (element_at (length old - 1 - c) (clauses_of old)
    ≡ element_at (length new - 1 - c) (clauses_of new) → ⊥) → s ≤ c
end_stops old new c s end differs = stops-by old new c s end differs (cases_lt c s)
