-- Names and numbers of the texts of the bench: each stands once.
use Rattle.std.specs.Prelude.{⊤, ℕ, ◌<◌, List, [], ◌∷◌, map}
use Rattle.std.specs.List.{flat_map}
use Rattle.memo_core.specs.Step.{Has}
use Rattle.bench_texts.specs.BenchTexts.{BenchTexts, PlainModel}

-- no two are equal
abbrev pub AreApart : {A : Type 0} → List A → Type 0
AreApart [] = ⊤
AreApart (x ∷ xs) = (Has xs x → ⊥) × AreApart xs

-- the numbers of the items of a model, and of all models
abbrev pub numbers_of : PlainModel → List ℕ
numbers_of m = map (λ i. i.number) m.items

abbrev pub all_numbers : List PlainModel → List ℕ
all_numbers models = flat_map numbers_of models

-- no two tests and no two models have one name, no two items one number, and the next item gets a
-- greater one
pub record IsOrderly (t : BenchTexts) : Type 0 where
  pub tests : AreApart (map (λ c. c.name) t.tests)
  pub models : AreApart (map (λ m. m.name) t.models)
  pub items : AreApart (all_numbers t.models)
  pub next : (n : ℕ) → Has (all_numbers t.models) n → n < t.next
