-- The items of later texts beside those of earlier ones. Read Orderly first.
use Rattle.std.specs.Prelude.{◌≡◌, ℕ, ◌<◌, ◌≤◌, ◌⊎◌, List, Some, slice_get}
use Rattle.memo_core.specs.Step.{Has}
use Rattle.bench_texts.specs.BenchTexts.{BenchTexts, PlainModel}
use Rattle.bench_text_laws.specs.Orderly.{numbers_of, all_numbers}

-- a stands before b among the numbers
abbrev pub StandsBefore : List ℕ → ℕ → ℕ → Type 0
StandsBefore numbers a b =
    (i : ℕ) × (j : ℕ) × (slice_get numbers i ≡ Some a) × (slice_get numbers j ≡ Some b) × (i < j)

-- The items of the later texts u go on from those of the earlier texts t. Items that stand in both
-- keep their order. An item that stands in u alone has the number that t keeps for its next item,
-- or a greater one; and what u keeps for its next is no less.
pub record PlainItemsGoOn (t u : BenchTexts) : Type 0 where
  pub order : (a b : ℕ) → Has (all_numbers u.models) a → Has (all_numbers u.models) b
      → StandsBefore (all_numbers t.models) a b → StandsBefore (all_numbers u.models) a b
  pub fresh : (n : ℕ) → Has (all_numbers u.models) n → Has (all_numbers t.models) n ⊎ (t.next ≤ n)
  pub next : t.next ≤ u.next

-- the numbers that stand in both lists stand in one order in both
abbrev pub AreNumbersInOneOrder : List ℕ → List ℕ → Type 0
AreNumbersInOneOrder before after =
    (a b c d first second : ℕ) → slice_get before a ≡ Some first → slice_get before b ≡ Some second
    → slice_get after c ≡ Some first → slice_get after d ≡ Some second
    → a < b → c < d

-- Items that stand in one model of the earlier texts, and still stand in the later ones, stand in
-- one model of these.
abbrev pub AreTogether : BenchTexts → BenchTexts → Type 0
AreTogether t u =
    (m : PlainModel) (a b : ℕ) → Has t.models m → Has (numbers_of m) a → Has (numbers_of m) b
    → Has (all_numbers u.models) a → Has (all_numbers u.models) b
    → (w : PlainModel) × Has u.models w × Has (numbers_of w) a × Has (numbers_of w) b
