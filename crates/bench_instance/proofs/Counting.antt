-- How many nodes are used after an edit.
use Rattle.std.proofs.Common.{◌≡◌, ℕ, zero, suc, ◌+◌, ◌*◌, ◌≤◌, List, [], ◌∷◌, length, remove, subst, sym, ap, arith}
use Rattle.std.proofs.lemmas.Nat.{mul-le}
use Rattle.bench_nodes.specs.Nodes.{used}
use Rattle.bench_nodes.proofs.Lists.{length-used_in}
use Rattle.bench_texts.specs.BenchTexts.{put_at}
use Rattle.bench_parts.specs.declared.parts.Parts.{Parts}
use Rattle.bench_edits.specs.declared.edited.EditedParts.{EditedParts}
use Rattle.bench_edits.specs.declared.edited.EditedParts.TheVariants as edited
use Rattle.bench_edits.specs.Edited.{Commits}
use Rattle.bench_instance.specs.Edited.{most_used}

few_put : {A : Type 0} (xs : List A) (i : ℕ) (y : A) → length (put_at i y xs) ≤ length xs + 1
few_put [] zero y = omega arith
few_put [] (suc i) y = omega arith
few_put (x ∷ xs) zero y = omega arith
few_put (x ∷ xs) (suc i) y = let r = few_put xs i y in omega (arith, r)

few_left : {A : Type 0} (xs : List A) (i : ℕ) → length (remove xs i) ≤ length xs
few_left [] zero = omega arith
few_left [] (suc i) = omega arith
few_left (x ∷ xs) zero = omega arith
few_left (x ∷ xs) (suc i) = let r = few_left xs i in omega (arith, r)

-- so many tests and slots
module _ (p q : Parts) (tests slots : ℕ) where
  product : length q.table.tests.items ≤ tests → length q.table.slots.items ≤ slots
      → length (used q.table) ≤ tests * slots
  product few_tests few_slots =
      subst (λ (n : ℕ). n ≤ tests * slots)
      (sym (length-used_in q.table.slots.items q.table.tests.items)) (mul-le
      (length q.table.tests.items) (length q.table.slots.items) tests slots few_tests
      few_slots)

same_length : {A : Type 0} (xs ys : List A) → xs ≡ ys → length xs ≤ length ys
same_length xs ys e = let l : length xs ≡ length ys = ap length e in omega (arith, l)

-- no more nodes are used with the parts that are put
pub few_used : (p q : Parts) (number : ℕ) (e : EditedParts) → Commits p number e q
    → length (used q.table) ≤ most_used p e
few_used p q number (edited.PutTest at row locations) c =
    let few : length q.table.tests.items ≤ length p.table.tests.items + 1 = subst (λ ts. length ts ≤ length p.table.tests.items + 1) (sym (c.changes).rows) (few_put p.table.tests.items at (c.changes).new) in
    product p q (length p.table.tests.items + 1) (length p.table.slots.items) few
    (same_length q.table.slots.items p.table.slots.items ((c.changes).models).slots)
few_used p q number (edited.DropTest at) c =
    let left = few_left p.table.tests.items at in
    let few : length q.table.tests.items ≤ length p.table.tests.items + 1 = subst (λ ts. length ts ≤ length p.table.tests.items + 1) (sym (c.changes).rows) (omega (arith, left)) in
    product p q (length p.table.tests.items + 1) (length p.table.slots.items) few
    (same_length q.table.slots.items p.table.slots.items ((c.changes).models).slots)
few_used p q number (edited.Models m) c =
    let same = same_length q.table.tests.items p.table.tests.items ((c.changes).tests).rows in
    product p q (length p.table.tests.items + 1) (length m.slots.items) (omega (arith, same))
    (same_length q.table.slots.items m.slots.items (c.changes).slots)
