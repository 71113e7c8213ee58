-- What one change more makes of the items of two versions.
use Rattle.std.proofs.Common.{◌≡◌, ℕ, ◌+◌, ◌<◌, ◌≤◌, List, [], ◌∷◌, ◌++◌, add-one, length, take, drop, ap, sym, arith, ◌∙◌}
use Rattle.std.proofs.lemmas.List.{length-map}
use Rattle.text_values.specs.declared.test.Step.{Step}
use Rattle.text_values.specs.declared.model.Item.{Item}
use Rattle.text_values.specs.ModelValues.{clause_of, clauses_of}
use Rattle.watch_edits.specs.declared.items.ItemChange.{ItemChange}
use Rattle.watch_edits.specs.declared.items.ItemChange.TheVariants.{Set, Insert, Remove}
use Rattle.watch_edits.specs.Changes.{element_at, set_at, with_change, with_changes}
use Rattle.watch_edits.proofs.Steps.{set_goes_on, same_goes_on, insert_goes_on, remove_goes_on, applied_last}

pub item_set : (old new : List Item) (cs : List ItemChange) (i : ℕ) → i < length old
    → i < length new
    → with_changes (clauses_of new) cs (clauses_of old)
    ≡ take i (clauses_of new) ++ drop i (clauses_of old)
    → with_changes (clauses_of new) (cs ++ Set i ∷ []) (clauses_of old)
    ≡ take (i + 1) (clauses_of new) ++ drop (i + 1) (clauses_of old)
item_set old new cs i a b e =
    let k : length (clauses_of old) ≡ length old = length-map old clause_of in let m : i < length (clauses_of old) = omega (arith, k) in let l : length (clauses_of new) ≡ length new = length-map new clause_of in let n : i < length (clauses_of new) = omega (arith, l) in
    applied_last (clauses_of new) cs (Set i) (clauses_of old)
    ∙ (ap (λ xs. set_at (clauses_of new) i xs) e
    ∙ (set_goes_on (clauses_of old) (clauses_of new) i m n
    ∙ ap (λ k. take k (clauses_of new) ++ drop k (clauses_of old))
    (sym (add-one i))))

pub item_kept : (old new : List Item) (i : ℕ) → i < length old → i < length new
    → element_at i (clauses_of old) ≡ element_at i (clauses_of new)
    → take i (clauses_of new) ++ drop i (clauses_of old)
    ≡ take (i + 1) (clauses_of new) ++ drop (i + 1) (clauses_of old)
item_kept old new i a b e =
    let k : length (clauses_of old) ≡ length old = length-map old clause_of in let m : i < length (clauses_of old) = omega (arith, k) in let l : length (clauses_of new) ≡ length new = length-map new clause_of in let n : i < length (clauses_of new) = omega (arith, l) in
    same_goes_on (clauses_of old) (clauses_of new) i m n e
    ∙ ap (λ k. take k (clauses_of new) ++ drop k (clauses_of old)) (sym (add-one i))

pub item_inserted : (old new : List Item) (cs : List ItemChange) (i j : ℕ) → i < length new
    → with_changes (clauses_of new) cs (clauses_of old)
    ≡ take i (clauses_of new) ++ drop j (clauses_of old)
    → with_changes (clauses_of new) (cs ++ Insert i ∷ []) (clauses_of old)
    ≡ take (i + 1) (clauses_of new) ++ drop j (clauses_of old)
item_inserted old new cs i j b e =
    let l : length (clauses_of new) ≡ length new = length-map new clause_of in let n : i < length (clauses_of new) = omega (arith, l) in
    applied_last (clauses_of new) cs (Insert i) (clauses_of old)
    ∙ (ap (λ xs. with_change (clauses_of new) (Insert i) xs) e
    ∙ (insert_goes_on (clauses_of new) (drop j (clauses_of old)) i n
    ∙ ap (λ k. take k (clauses_of new) ++ drop j (clauses_of old))
    (sym (add-one i))))

pub item_removed : (old new : List Item) (cs : List ItemChange) (i j : ℕ) → i ≤ length new
    → with_changes (clauses_of new) cs (clauses_of old)
    ≡ take i (clauses_of new) ++ drop j (clauses_of old)
    → with_changes (clauses_of new) (cs ++ Remove i ∷ []) (clauses_of old)
    ≡ take i (clauses_of new) ++ drop (j + 1) (clauses_of old)
item_removed old new cs i j b e =
    let l : length (clauses_of new) ≡ length new = length-map new clause_of in let n : i ≤ length (clauses_of new) = omega (arith, l) in
    applied_last (clauses_of new) cs (Remove i) (clauses_of old)
    ∙ (ap (λ xs. with_change (clauses_of new) (Remove i) xs) e
    ∙ (remove_goes_on (clauses_of old) (clauses_of new) i j n
    ∙ ap (λ k. take i (clauses_of new) ++ drop k (clauses_of old))
    (sym (add-one j))))

-- ---- threads

pub thread_set : (old new : List (List Step)) (i : ℕ) → i < length old → i < length new
    → set_at new i (take i new ++ drop i old) ≡ take (i + 1) new ++ drop (i + 1) old
thread_set old new i a b =
    set_goes_on old new i a b ∙ ap (λ k. take k new ++ drop k old) (sym (add-one i))

pub thread_kept : (old new : List (List Step)) (i : ℕ) → i < length old → i < length new
    → element_at i old ≡ element_at i new
    → take i new ++ drop i old ≡ take (i + 1) new ++ drop (i + 1) old
thread_kept old new i a b e =
    same_goes_on old new i a b e ∙ ap (λ k. take k new ++ drop k old) (sym (add-one i))
