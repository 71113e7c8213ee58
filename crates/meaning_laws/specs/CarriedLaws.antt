-- What the law of this crate says: how things are numbered does not matter to a model.
use Rattle.std.specs.Prelude.{ℕ, ◌≡◌, ◌↔◌, List, [], ◌∷◌, Bool, IsTrue}
use Rattle.text_values.specs.ModelValue.{Clause}
use Rattle.meaning.specs.Names.{Name}
use Rattle.meaning.specs.Cat.{Names, ToMeaning, ARelation, Choice, IsChosen, AreMet, IsFlagMet}

-- Each number stands for one other, and each other for one.
pub record AreRenumbered (to from : ℕ → ℕ) : Type 0 where
  pub there : (n : ℕ) → from (to n) ≡ n
  pub back : (n : ℕ) → to (from n) ≡ n

-- the names, each bound to the relation that is chosen for it
abbrev pub chosen_names : Choice ℕ → List Name → Names ℕ
chosen_names choice [] = []
chosen_names choice (n ∷ ns) =
    (n, ToMeaning (ARelation (IsChosen choice n))) ∷ chosen_names choice ns

-- the choice, where each number stands for another
abbrev pub renumbered : (ℕ → ℕ) → Choice ℕ → Choice ℕ
renumbered to choice n a b = choice n (to a) (to b)

-- Where all things are numbered anew, the same checks and flags of a model are met.
abbrev pub NumbersDoNotMatter : Type 0
NumbersDoNotMatter =
    (to from : ℕ → ℕ) → AreRenumbered to from → (all : ℕ → Bool) (choice : Choice ℕ)
    (names : List Name) (items : List Clause)
    → (AreMet (λ n. IsTrue (all (to n))) (chosen_names (renumbered to choice) names) items
    ↔ AreMet (λ n. IsTrue (all n)) (chosen_names choice names) items)
    × ((index : ℕ)
    → IsFlagMet (λ n. IsTrue (all (to n))) (chosen_names (renumbered to choice) names) items index
    ↔ IsFlagMet (λ n. IsTrue (all n)) (chosen_names choice names) items index)
