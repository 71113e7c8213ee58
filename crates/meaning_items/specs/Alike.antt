-- When what is meant by the definitions is what a tree of the program means. Read next: Groups.
use Rattle.std.specs.Prelude.{ℕ, ◌<◌, ◌↔◌, List}
use Rattle.binding_kinds.specs.declared.kinds.Kind.{Kind}
use Rattle.binding_kinds.specs.declared.kinds.Kind.TheVariants.{OfSet, OfRelation}
use Rattle.binding_kinds.specs.declared.scope.Used.{Used}
use Rattle.binding_kinds.specs.declared.scope.Found.{Found}
use Rattle.binding_kinds.specs.Formula.{Formula}
use Rattle.binding_graph.specs.declared.resolved.Source.{Source}
use Rattle.binding_graph.specs.Meaning.{source_of}
use Rattle.meaning.specs.Cat.{Meaning, ASet, ARelation}
use Rattle.meaning_items.specs.Formulas.{HasNames}

-- What is meant is the set, or the relation, as the kind says.
abbrev pub IsAs : Kind → Meaning ℕ → (ℕ → Type 0) → (ℕ → ℕ → Type 0) → Type 0
IsAs OfSet (ASet S) T R = (a : ℕ) → S a ↔ T a
IsAs OfRelation (ARelation Q) T R = (a b : ℕ) → Q a b ↔ R a b
IsAs _ _ T R = ⊥

-- The name has the value that its source has for the program.
abbrev pub HasSource : (ℕ → Meaning ℕ) → (Source → ℕ → Type 0) → (Source → ℕ → ℕ → Type 0)
    → List Used → ℕ → Found → Type 0
HasSource value sets rels us from f =
    IsAs f.kind (value f.slot) (sets (source_of us from f)) (rels (source_of us from f))

-- Each name of the expression has the value that its source has.
abbrev pub HasSources : (ℕ → Meaning ℕ) → (Source → ℕ → Type 0) → (Source → ℕ → ℕ → Type 0)
    → List Used → ℕ → Formula → Type 0
HasSources value sets rels us from f = HasNames (HasSource value sets rels us from) f

-- Each name of the expression from outside of the group, whose slots begin there, has that value.
abbrev pub HasOuterSources : (ℕ → Meaning ℕ) → (Source → ℕ → Type 0) → (Source → ℕ → ℕ → Type 0)
    → List Used → ℕ → Formula → Type 0
HasOuterSources value sets outer us from f =
    HasNames (λ g. g.slot < from → HasSource value sets outer us from g) f
