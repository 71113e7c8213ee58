-- What the bench holds, without where it lies in memory. Read this file first, then Limits, then
-- Edits.
use Rattle.std.specs.Prelude.{ℕ, zero, suc, ◌+◌, ◌==◌, List, [], ◌∷◌, ◌++◌, take, drop, bytes_eq}
use Rattle.std.specs.List.{position_or_len}
use Rattle.text_values.specs.declared.test.InitEntry.{InitEntry}
use Rattle.text_values.specs.declared.test.Place.{Place}
use Rattle.text_values.specs.declared.test.Step.{Step}
use Rattle.text_values.specs.declared.test.Quantifier.{Quantifier}
use Rattle.text_values.specs.TestValue.{Content, Formula}
use Rattle.text_values.specs.declared.model.Item.{Item}
use Rattle.text_values.specs.ModelValue.{Clause}
use Rattle.text_values.specs.ModelValues.{clause_of}

-- an item of a model: its number on the bench, and what it says
pub record NumberedItem : Type 0 where
  pub number : ℕ
  pub clause : Clause

-- a model: its name, and its items in the order of the text
pub record PlainModel : Type 0 where
  pub name : List ℕ
  pub items : List NumberedItem

-- the tests and the models in their order, and the number that the next item is given
pub record BenchTexts : Type 0 where
  pub tests : List Content
  pub models : List PlainModel
  pub next : ℕ

-- no tests and no models; the first item is given number 1
abbrev pub no_texts : BenchTexts
no_texts = record { tests = []; models = []; next = 1 }

-- ---- indexes: of the first of that name or number, or the length where there is none

abbrev pub test_index : List ℕ → List Content → ℕ
test_index name tests = position_or_len (λ t. bytes_eq t.name name) tests

abbrev pub model_index : List ℕ → List PlainModel → ℕ
model_index name models = position_or_len (λ m. bytes_eq m.name name) models

abbrev pub item_index : ℕ → List NumberedItem → ℕ
item_index number items = position_or_len (λ i. i.number == number) items

-- ---- lists with one element changed

-- with x at that index, in the place of what is there: at the end where the index is the length
abbrev pub put_at : {A : Type 0} → ℕ → A → List A → List A
put_at i x xs = take i xs ++ x ∷ drop (suc i) xs

-- with what the function makes of the element at that index
abbrev pub changed_at : {A : Type 0} → ℕ → (A → A) → List A → List A
changed_at i f [] = []
changed_at zero f (x ∷ xs) = f x ∷ xs
changed_at (suc i) f (x ∷ xs) = x ∷ changed_at i f xs

-- ---- tests and models with one part changed

abbrev pub with_init : List InitEntry → Content → Content
with_init init c =
    record {
      name = c.name;
      init = init;
      threads = c.threads;
      observed = c.observed;
      quantifier = c.quantifier;
      condition = c.condition;
    }

-- the thread of that number, from 0 on, is another
abbrev pub with_thread : ℕ → List Step → Content → Content
with_thread k steps c =
    record {
      name = c.name;
      init = c.init;
      threads = put_at k steps c.threads;
      observed = c.observed;
      quantifier = c.quantifier;
      condition = c.condition;
    }

abbrev pub with_condition : Quantifier × Formula → Content → Content
with_condition q c =
    record {
      name = c.name;
      init = c.init;
      threads = c.threads;
      observed = c.observed;
      quantifier = q.0;
      condition = q.1;
    }

abbrev pub with_observed : List Place → Content → Content
with_observed places c =
    record {
      name = c.name;
      init = c.init;
      threads = c.threads;
      observed = places;
      quantifier = c.quantifier;
      condition = c.condition;
    }

abbrev pub with_items : (List NumberedItem → List NumberedItem) → PlainModel → PlainModel
with_items f m = record { name = m.name; items = f m.items }

-- the tests are changed, and else nothing
abbrev pub with_tests : (List Content → List Content) → BenchTexts → BenchTexts
with_tests f t = record { tests = f t.tests; models = t.models; next = t.next }

-- the models are changed, and the next item is given that number
abbrev pub with_models : (List PlainModel → List PlainModel) → ℕ → BenchTexts → BenchTexts
with_models f next t = record { tests = t.tests; models = f t.models; next = next }

-- ---- items

-- the clauses with the numbers from that one on
abbrev pub numbered_items : ℕ → List Clause → List NumberedItem
numbered_items n [] = []
numbered_items n (c ∷ cs) = record { number = n; clause = c } ∷ numbered_items (n + 1) cs

-- each item with its number
abbrev pub items_with_numbers : List ℕ → List Item → List NumberedItem
items_with_numbers [] is = []
items_with_numbers (n ∷ ns) [] = []
items_with_numbers (n ∷ ns) (i ∷ is) =
    record { number = n; clause = clause_of i } ∷ items_with_numbers ns is
