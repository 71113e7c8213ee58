use Rattle.std.proofs.Common.{ℕ, ◌≡◌, ◌<◌, ◌+◌, ◌↔◌, ◌∙◌, inl, inr, List, ◌∷◌, length, get_or, drop, ap, sym, subst}
use Rattle.std.specs.Prelude.{map}
use Rattle.std.proofs.lemmas.List.{drop_more, drop_all}
use Rattle.predefined_names.specs.declared.predefined.Predefined.{Predefined}
use Rattle.cat_machine.specs.declared.seen.NamedColumn.{NamedColumn}
use Rattle.cat_machine.specs.Named.{ColumnEvents, ColumnPairs}
use Rattle.cat_machine.specs.Seen.{EventsAmong, PairsAmong, value_at}
use Rattle.cat_machine.proofs.Seeing.{events_found, pairs_found}
use Rattle.cat_machine.proofs.Naming.{equal_names, unequal_names}
use Rattle.cat_machine.proofs.seen.column_of.Goals as goal

next : (xs : List NamedColumn) (i : ℕ) (x : NamedColumn) → i < length xs → x ≡ get_or xs i x
    → drop i xs ≡ x ∷ drop (i + 1) xs
next xs i x lt is = drop_more xs i x lt ∙ ap (λ y. y ∷ drop (i + 1) xs) (sym is)

module _ (xs : List NamedColumn) (name : Predefined) where
  -- under the name the same is found among these
  abbrev HaveSame : List NamedColumn → Type 0
  HaveSame ys =
      ((k n a : ℕ)
      → EventsAmong (map (value_at k) ys) name n a
      ↔ EventsAmong (map (value_at k) xs) name n a)
      × ((k n a b : ℕ)
      → PairsAmong (map (value_at k) ys) name n a b
      ↔ PairsAmong (map (value_at k) xs) name n a b)

  events_of_first : (x : NamedColumn) (ys : List NamedColumn) → x.name ≡ name → HaveSame (x ∷ ys)
      → (k n a : ℕ) → ColumnEvents x.column.now k n a ↔ EventsAmong (map (value_at k) xs) name n a
  events_of_first x ys same h k n a =
      let found = events_found x.column.now k n a in
      let all = h.0 k n a in (
        (λ is. all.0 (inl (same, found.0 is))),
        (λ is. elim (all.1 is) [ inl f ↦ found.1 f.1 | inr g ↦ absurd (g.0 same) ]),
      )

  pairs_of_first : (x : NamedColumn) (ys : List NamedColumn) → x.name ≡ name → HaveSame (x ∷ ys)
      → (k n a b : ℕ)
      → ColumnPairs x.column.now k n a b ↔ PairsAmong (map (value_at k) xs) name n a b
  pairs_of_first x ys same h k n a b =
      let found = pairs_found x.column.now k n a b in
      let all = h.1 k n a b in (
        (λ is. all.0 (inl (same, found.0 is))),
        (λ is. elim (all.1 is) [ inl f ↦ found.1 f.1 | inr g ↦ absurd (g.0 same) ]),
      )

  past_first : (x : NamedColumn) (ys : List NamedColumn) → (x.name ≡ name → ⊥) → HaveSame (x ∷ ys)
      → HaveSame ys
  past_first x ys other h = (
    (λ k n a. (
      (λ is. (h.0 k n a).0 (inr (other, is))),
      (λ is. elim ((h.0 k n a).1 is) [ inl f ↦ absurd (other f.0) | inr g ↦ g.1 ]),
    )),
    (λ k n a b. (
      (λ is. (h.1 k n a b).0 (inr (other, is))),
      (λ is. elim ((h.1 k n a b).1 is) [ inl f ↦ absurd (other f.0) | inr g ↦ g.1 ]),
    )),
  )

  from_index : (i : ℕ) (x : NamedColumn) → i < length xs → x ≡ get_or xs i x → HaveSame (drop i xs)
      → HaveSame (x ∷ drop (i + 1) xs)
  from_index i x lt is = subst HaveSame (next xs i x lt is)

pub returns-then-eq-clause-events : goal.returns-then-eq-clause-events
returns-then-eq-clause-events c =
    let same : c.one-item.result.name ≡ c.args.name = equal_names c.one-item.result.name c.args.name c.eq.result c.eq.ensures c.if-eq.true in
    events_of_first c.args.named.now c.args.name c.one-item.result _ same (from_index
    c.args.named.now c.args.name c.loop-one.one-index c.one-item.result c.loop-one-test.true
    c.one-item.is c.loop-one.invariant)

pub returns-then-eq-clause-pairs : goal.returns-then-eq-clause-pairs
returns-then-eq-clause-pairs c =
    let same : c.one-item.result.name ≡ c.args.name = equal_names c.one-item.result.name c.args.name c.eq.result c.eq.ensures c.if-eq.true in
    pairs_of_first c.args.named.now c.args.name c.one-item.result _ same (from_index
    c.args.named.now c.args.name c.loop-one.one-index c.one-item.result c.loop-one-test.true
    c.one-item.is c.loop-one.invariant)

pub loop-one-preserved : goal.loop-one-preserved
loop-one-preserved c =
    let other : c.one-item.result.name ≡ c.args.name → ⊥ = unequal_names c.one-item.result.name c.args.name c.eq.result c.eq.ensures c.if-eq.false in
    past_first c.args.named.now c.args.name c.one-item.result _ other (from_index c.args.named.now
    c.args.name c.loop-one.one-index c.one-item.result c.loop-one-test.true c.one-item.is
    c.loop-one.invariant)

pub returns-clause-events : goal.returns-clause-events
returns-clause-events c =
    (subst (HaveSame c.args.named.now c.args.name)
    (drop_all c.loop-one.one-index c.args.named.now c.loop-one-test.false)
    c.loop-one.invariant).0

pub returns-clause-pairs : goal.returns-clause-pairs
returns-clause-pairs c =
    (subst (HaveSame c.args.named.now c.args.name)
    (drop_all c.loop-one.one-index c.args.named.now c.loop-one-test.false)
    c.loop-one.invariant).1
