-- Items listed the latest first: an item's index is the number of those behind it.
use Rattle.std.proofs.Common.{ℕ, ◌≡◌, ◌+◌, suc, List, [], ◌∷◌, ◌++◌, length, reverse, if◌then◌else◌, Option, Some, refl, sym, ap, ◌∙◌, subst, append_assoc, arith}
use Rattle.std.specs.Prelude.{slice_get}
use Rattle.std.proofs.lemmas.List.{reverse-append, append-nil}
use Rattle.binding_graph.specs.declared.resolved.ResolvedItem.{ResolvedItem}
use Rattle.binding_graph.specs.Reach.{is_check}
use Rattle.bench_values.specs.Values.{NodeContent}
use Rattle.bench_edits.specs.Solved.{Table, flag_name, flag_names, answers_in}

-- this holds of each item, at its index
abbrev pub Each : (ℕ → ResolvedItem → Type 0) → List ResolvedItem → Type 0
Each P [] = Unit {0}
Each P (r ∷ rs) = P (length rs) r × Each P rs

-- what an item adds to the answers
abbrev pub added_answers : Table → ℕ → ResolvedItem → List NodeContent
added_answers table index r = if is_check r.role then table.outputs index else []

-- what it adds to the names of flags
abbrev pub added_name : ResolvedItem → List (Option (List ℕ))
added_name r = if is_check r.role then flag_name r.role ∷ [] else []

-- the answers of the checks and flags, and the names of the flags, in the order of the text
abbrev pub late_answers : Table → List ResolvedItem → List NodeContent
late_answers table [] = []
late_answers table (r ∷ rs) = late_answers table rs ++ added_answers table (length rs) r

abbrev pub late_names : List ResolvedItem → List (Option (List ℕ))
late_names [] = []
late_names (r ∷ rs) = late_names rs ++ added_name r

reverse_more : (r : ResolvedItem) (items rs : List ResolvedItem)
    → reverse (r ∷ items) ++ rs ≡ reverse items ++ r ∷ rs
reverse_more r items rs =
    ap (λ (ys : List ResolvedItem). ys ++ rs) (reverse-append (r ∷ []) items)
    ∙ append_assoc (reverse items) (r ∷ []) rs

each_before : (P : ℕ → ResolvedItem → Type 0) (items rs : List ResolvedItem)
    → ((k : ℕ) (r : ResolvedItem) → slice_get items k ≡ Some r → P (length rs + k) r) → Each P rs
    → Each P (reverse items ++ rs)
each_before P [] rs h before = before
each_before P (r ∷ items) rs h before =
    let at_start : length rs + 0 ≡ length rs = omega arith in
    let here : P (length rs) r = subst (λ (n : ℕ). P n r) at_start (h 0 r refl) in
    let next : (k : ℕ) (s : ResolvedItem) → slice_get items k ≡ Some s → P (length (r ∷ rs) + k) s = λ k s e.
    let same_count : length rs + suc k ≡ length (r ∷ rs) + k = omega arith in
    subst (λ (n : ℕ). P n s) same_count (h (suc k) s e) in
    subst (λ (xs : List ResolvedItem). Each P xs) (sym (reverse_more r items rs))
    (each_before P items (r ∷ rs) next (here, before))

pub each_reversed : (P : ℕ → ResolvedItem → Type 0) (items : List ResolvedItem)
    → ((k : ℕ) (r : ResolvedItem) → slice_get items k ≡ Some r → P k r) → Each P (reverse items)
each_reversed P items h =
    let at_start : (k : ℕ) → k ≡ 0 + k = λ k. omega arith in
    subst (λ (xs : List ResolvedItem). Each P xs) (append-nil (reverse items))
    (each_before P items [] (λ k r e. subst (λ (n : ℕ). P n r) (at_start k) (h k r e)) tt)

answers_before : (table : Table) (items rs : List ResolvedItem)
    → late_answers table (reverse items ++ rs)
    ≡ late_answers table rs ++ answers_in table (length rs) items
answers_before table [] rs = sym (append-nil (late_answers table rs))
answers_before table (r ∷ items) rs =
    ap (λ (xs : List ResolvedItem). late_answers table xs) (reverse_more r items rs)
    ∙ answers_before table items (r ∷ rs)
    ∙ append_assoc (late_answers table rs) (added_answers table (length rs) r)
    (answers_in table (length (r ∷ rs)) items)

pub answers_reversed : (table : Table) (items : List ResolvedItem)
    → late_answers table (reverse items) ≡ answers_in table 0 items
answers_reversed table items =
    ap (λ (xs : List ResolvedItem). late_answers table xs) (sym (append-nil (reverse items)))
    ∙ answers_before table items []

names_before : (items rs : List ResolvedItem)
    → late_names (reverse items ++ rs) ≡ late_names rs ++ flag_names items
names_before [] rs = sym (append-nil (late_names rs))
names_before (r ∷ items) rs =
    ap (λ (xs : List ResolvedItem). late_names xs) (reverse_more r items rs)
    ∙ names_before items (r ∷ rs)
    ∙ append_assoc (late_names rs) (added_name r) (flag_names items)

pub names_reversed : (items : List ResolvedItem) → late_names (reverse items) ≡ flag_names items
names_reversed items =
    ap (λ (xs : List ResolvedItem). late_names xs) (sym (append-nil (reverse items)))
    ∙ names_before items []
