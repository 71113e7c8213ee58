-- Items that are all still there.
use Rattle.std.proofs.Common.{◌≡◌, inl, inr, ℕ, ◌≤◌, min, true, List, [], ◌∷◌, length, drop, Option, refl, ap, ◌∙◌, arith}
use Rattle.std.proofs.lemmas.Bool.{cases_lt}
use Rattle.std.proofs.lemmas.List.{drop_all}
use Rattle.memo_core.specs.declared.keys.Kind.{Kind}
use Rattle.bench_nodes.specs.declared.table.ItemRow.{ItemRow}
use Rattle.bench_parts.specs.States.{keep_kinds}

no_kinds : (is js : List ItemRow) (ls : List (Option Kind)) → keep_kinds is [] js ls ≡ true
no_kinds [] js ls = refl
no_kinds (i ∷ is) js ls = refl

-- there are no more items, or no more kinds
pub past_kinds : (is : List ItemRow) (ks : List (Option Kind)) (js : List ItemRow)
    (ls : List (Option Kind)) (i : ℕ) → min (length is) (length ks) ≤ i
    → keep_kinds (drop i is) (drop i ks) js ls ≡ true
past_kinds is ks js ls i past = elim (cases_lt i (length is)) [
  | inl lt ↦ (
      let none = drop_all i ks (omega (arith, past, lt)) in
      ap (λ (l : List (Option Kind)). keep_kinds (drop i is) l js ls) none
      ∙ no_kinds (drop i is) js ls)
  | inr le ↦ ap (λ (l : List ItemRow). keep_kinds l (drop i ks) js ls) (drop_all i is le)
]
