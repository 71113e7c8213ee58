use Rattle.std.proofs.Common.{ℕ, ◌≡◌, ◌<◌, ◌+◌, ◌↔◌, ◌∙◌, inl, inr, List, ◌∷◌, length, get_or, drop, ap, sym, subst, rules}
use Rattle.std.specs.Prelude.{Some}
use Rattle.std.proofs.lemmas.List.{drop_more, drop_all}
use Rattle.predefined_names.specs.declared.predefined.Predefined.{Predefined}
use Rattle.base_names.specs.declared.names.Named.{Named}
use Rattle.base_names.specs.Known.{EventsUnder, EventsFound}
use Rattle.base_names.proofs.names.find_set.Goals as goal

module _ (xs : List Named) (name : Predefined) where
  -- under the name the same is found among these
  abbrev HaveSame : List Named → Type 0
  HaveSame ys = (n a : ℕ) → EventsUnder ys name n a ↔ EventsUnder xs name n a

  from_index : (i : ℕ) (x : Named) → i < length xs → x ≡ get_or xs i x → HaveSame (drop i xs)
      → HaveSame (x ∷ drop (i + 1) xs)
  from_index i x lt is =
      subst HaveSame (drop_more xs i x lt ∙ ap (λ y. y ∷ drop (i + 1) xs) (sym is))

  of_first : (x : Named) (ys : List Named) → x.name ≡ name → HaveSame (x ∷ ys) → (n a : ℕ)
      → EventsFound (Some x.set) n a ↔ EventsUnder xs name n a
  of_first x ys same h n a = (
    (λ is. (h n a).0 (inl (same, is.0, is.1))),
    (λ is. elim ((h n a).1 is) [ inl f ↦ (f.1, f.2) | inr g ↦ absurd (g.0 same) ]),
  )

  past_first : (x : Named) (ys : List Named) → (x.name ≡ name → ⊥) → HaveSame (x ∷ ys) → HaveSame ys
  past_first x ys other h = λ n a. (
    (λ is. (h n a).0 (inr (other, is))),
    (λ is. elim ((h n a).1 is) [ inl f ↦ absurd (other f.0) | inr g ↦ g.1 ]),
  )

pub returns-then-eq : goal.returns-then-eq
returns-then-eq c =
    let same : c.named-item.result.name ≡ c.args.name = search (rules, c.eq.ensures, c.if-eq.true) in
    of_first c.args.sets.now c.args.name c.named-item.result _ same (from_index c.args.sets.now
    c.args.name c.loop-named.named-index c.named-item.result c.loop-named-test.true
    c.named-item.is c.loop-named.invariant)

pub loop-named-preserved : goal.loop-named-preserved
loop-named-preserved c =
    let other : c.named-item.result.name ≡ c.args.name → ⊥ = λ same. search (rules, c.eq.ensures, c.if-eq.false, same) in
    past_first c.args.sets.now c.args.name c.named-item.result _ other (from_index c.args.sets.now
    c.args.name c.loop-named.named-index c.named-item.result c.loop-named-test.true
    c.named-item.is c.loop-named.invariant)

pub returns : goal.returns
returns c =
    subst (HaveSame c.args.sets.now c.args.name)
    (drop_all c.loop-named.named-index c.args.sets.now c.loop-named-test.false)
    c.loop-named.invariant
