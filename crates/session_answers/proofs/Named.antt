-- Models by their names.
use Rattle.std.proofs.Common.{◌≡◌, ℕ, List, [], ◌∷◌, ◌++◌, length, map, Option, refl, arith}
use Rattle.std.specs.Prelude.{option_map}
use Rattle.text_values.specs.declared.model.Item.{Item}
use Rattle.text_values.specs.declared.model.ModelText.{ModelText}
use Rattle.text_values.specs.ModelValues.{clauses_of}
use Rattle.bench_texts.specs.BenchTexts.{PlainModel, items_with_numbers}

-- what the items of a model say is what its numbered items say
pub clauses_of-items : (ns : List ℕ) (is : List Item) → length ns ≡ length is
    → clauses_of is ≡ map (λ i. i.clause) (items_with_numbers ns is)
clauses_of-items [] [] e = refl
clauses_of-items [] (i ∷ is) e = absurd (omega arith)
clauses_of-items (n ∷ ns) [] e = absurd (omega arith)
clauses_of-items (n ∷ ns) (i ∷ is) e =
    let h : length ns ≡ length is = omega arith in
    rw (← clauses_of-items ns is h) refl

-- these models before the others, if all of them are there
abbrev pub joined : List PlainModel → Option (List PlainModel) → Option (List PlainModel)
joined front models = option_map (λ others. front ++ others) models

pub first_is : (x y : ModelText) (xs ys : List ModelText)
    → ◌≡◌ {A = List ModelText} (x ∷ xs) (y ∷ ys) → x ≡ y
first_is x y xs ys e = cc

pub rest_is : (x y : ModelText) (xs ys : List ModelText)
    → ◌≡◌ {A = List ModelText} (x ∷ xs) (y ∷ ys) → xs ≡ ys
rest_is x y xs ys e = cc

pub no_first : (x : ModelText) (xs : List ModelText) → ◌≡◌ {A = List ModelText} (x ∷ xs) [] → ⊥
no_first x xs e = cc
