use Rattle.std.proofs.Common.{ℕ, ◌≡◌, ◌<◌, ◌+◌, ◌↔◌, ◌∙◌, inl, inr, List, ◌∷◌, length, get_or, drop, ap, sym, subst, rules}
use Rattle.std.proofs.lemmas.List.{drop_more, drop_all}
use Rattle.bit_rows.specs.Relation.{Has}
use Rattle.predefined_names.specs.declared.predefined.Predefined.{Predefined}
use Rattle.base_names.specs.declared.names.Shared.{Shared}
use Rattle.base_names.specs.Known.{PairsUnder}
use Rattle.base_names.proofs.names.find_shared.Goals as goal

module _ (xs : List Shared) (name : Predefined) where
  -- under the name the same is found among these
  abbrev HaveSame : List Shared → Type 0
  HaveSame ys = (n a b : ℕ) → PairsUnder ys name n a b ↔ PairsUnder xs name n a b

  from_index : (i : ℕ) (x : Shared) → i < length xs → x ≡ get_or xs i x → HaveSame (drop i xs)
      → HaveSame (x ∷ drop (i + 1) xs)
  from_index i x lt is =
      subst HaveSame (drop_more xs i x lt ∙ ap (λ y. y ∷ drop (i + 1) xs) (sym is))

  of_first : (x : Shared) (ys : List Shared) → x.name ≡ name → HaveSame (x ∷ ys) → (n a b : ℕ)
      → ((x.relation.count ≡ n) × Has x.relation a b) ↔ PairsUnder xs name n a b
  of_first x ys same h n a b = (
    (λ is. (h n a b).0 (inl (same, is.0, is.1))),
    (λ is. elim ((h n a b).1 is) [ inl f ↦ (f.1, f.2) | inr g ↦ absurd (g.0 same) ]),
  )

  past_first : (x : Shared) (ys : List Shared) → (x.name ≡ name → ⊥) → HaveSame (x ∷ ys)
      → HaveSame ys
  past_first x ys other h = λ n a b. (
    (λ is. (h n a b).0 (inr (other, is))),
    (λ is. elim ((h n a b).1 is) [ inl f ↦ absurd (other f.0) | inr g ↦ g.1 ]),
  )

pub returns-then-eq : goal.returns-then-eq
returns-then-eq c =
    let same : c.one-item.result.name ≡ c.args.name = search (rules, c.eq.ensures, c.if-eq.true) in
    of_first c.args.shared.now c.args.name c.one-item.result _ same (from_index c.args.shared.now
    c.args.name c.loop-one.one-index c.one-item.result c.loop-one-test.true c.one-item.is
    c.loop-one.invariant)

pub loop-one-preserved : goal.loop-one-preserved
loop-one-preserved c =
    let other : c.one-item.result.name ≡ c.args.name → ⊥ = λ same. search (rules, c.eq.ensures, c.if-eq.false, same) in
    past_first c.args.shared.now c.args.name c.one-item.result _ other (from_index c.args.shared.now
    c.args.name c.loop-one.one-index c.one-item.result c.loop-one-test.true c.one-item.is
    c.loop-one.invariant)

pub returns : goal.returns
returns c = λ n a b.
    (subst (HaveSame c.args.shared.now c.args.name)
    (drop_all c.loop-one.one-index c.args.shared.now c.loop-one-test.false)
    c.loop-one.invariant n a b).1
