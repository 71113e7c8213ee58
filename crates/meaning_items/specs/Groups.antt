-- The bindings of a recursive group by their positions. Read next: TreeLaws.
use Rattle.std.specs.Prelude.{ℕ, zero, suc, ◌≡◌, ◌<◌, ◌↔◌, List, [], ◌∷◌, length}
use Rattle.text_values.specs.ModelValue.{Term, AllEvents}
use Rattle.binding_graph.specs.declared.resolved.Source.{Source}
use Rattle.binding_graph.specs.Trees.{RelTree}
use Rattle.cat_machine.specs.Least.{body}
use Rattle.cat_machine.specs.Meaning.{MeansRelation}
use Rattle.cat_machine.specs.Named.{WithOwn}
use Rattle.meaning.specs.Sets.{Relation}
use Rattle.meaning.specs.Names.{Name}
use Rattle.meaning.specs.Cat.{Names, meaning_of, HasPair, with_group}

-- the name at a position; where there is none, no matter
abbrev pub name_at : List (Name × Term) → ℕ → Name
name_at [] j = []
name_at (b ∷ bs) zero = b.0
name_at (b ∷ bs) (suc j) = name_at bs j

-- the body at a position, likewise
abbrev pub term_at : List (Name × Term) → ℕ → Term
term_at [] j = AllEvents
term_at (b ∷ bs) zero = b.1
term_at (b ∷ bs) (suc j) = term_at bs j

-- No name stands twice.
abbrev pub AreApart : List (Name × Term) → Type 0
AreApart [] = Unit {0}
AreApart (b ∷ bs) = ((j : ℕ) → j < length bs → b.0 ≡ name_at bs j → ⊥) × AreApart bs

-- Each body gives what its tree gives, whatever relations the names of the group stand for.
abbrev pub HasBodies : ℕ → Names ℕ → List (Name × Term) → (Source → ℕ → Type 0)
    → (Source → ℕ → ℕ → Type 0) → List RelTree → Type 1
HasBodies n N group sets outer trees =
    (R : Name → Relation ℕ) (P : ℕ → ℕ → ℕ → Type 0)
    → ((j : ℕ) → j < length group → (a b : ℕ) → R (name_at group j) a b ↔ P j a b)
    → (j : ℕ) → j < length group → (a b : ℕ)
    → HasPair (meaning_of (λ a. a < n) (with_group R group N) (term_at group j)) a b
    ↔ MeansRelation n sets (WithOwn outer P) (body trees j) a b
