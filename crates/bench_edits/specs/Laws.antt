-- LAWS of the parts of the bench after an edit: what `laws` states.
use Rattle.std.specs.Prelude.{◌≡◌, ⊤, ℕ, ◌<◌, ◌≤◌, ◌⊎◌, List, Some, slice_get, All}
use Rattle.text_values.specs.declared.test.Test.{Test}
use Rattle.memo_core.specs.Step.{Has}
use Rattle.bench_texts.specs.Held.{IsModelRead}
use Rattle.bench_texts.specs.declared.model.NamedModel.{NamedModel}
use Rattle.bench_texts.specs.declared.replacement.Replacement.{Replacement}
use Rattle.bench_texts.specs.declared.replacement.Replacement.TheVariants as made
use Rattle.bench_texts.specs.Replacements.{tests_with, models_with}
use Rattle.bench_parts.specs.Written.{IsWholeState, IsPartAfter, EqualPartsKeepStamps, IsStamped}
use Rattle.bench_parts.specs.declared.parts.Parts.{Parts}
use Rattle.bench_parts.specs.Stamps.{IsLaterNumber}
use Rattle.bench_edits.specs.declared.edited.EditedParts.{EditedParts}
use Rattle.bench_edits.specs.Edited.{ArePartsMade, Commits}
use Rattle.bench_edits.specs.Readings.{written_state}
use Rattle.bench_edits.specs.Owed.{ArePartsOf, item_numbers}
use Rattle.bench_text_laws.specs.Orderly.{AreApart}

-- the parts before an edit of that number and after it
pub record IsEdit (p : Parts) (tests : List Test) (models : List NamedModel) (r : Replacement)
    (number : ℕ) (e : EditedParts) (q : Parts) : Type 0 where
  pub later : IsLaterNumber p.last number
  pub owed : ArePartsOf p tests models
  pub is_made : ArePartsMade p tests models r e
  pub committed : Commits p number e q

-- the edit puts or drops a test
abbrev pub IsOfTest : Replacement → Type 0
IsOfTest (made.PutTest at test) = ⊤
IsOfTest (made.DropTest at) = ⊤
IsOfTest (made.PutModel at model next) = ⊥
IsOfTest (made.DropModel at) = ⊥

-- after an edit of a test the parts are those of the texts after it
abbrev pub TestEditsKeepParts : Type 0
TestEditsKeepParts =
    (p q : Parts) (tests : List Test) (models : List NamedModel) (r : Replacement) (number : ℕ)
    (e : EditedParts) → IsEdit p tests models r number e q → IsOfTest r
    → ArePartsOf q (tests_with r tests) (models_with r models)

-- and each part is as it was, has the number of the edit, or is gone
abbrev pub TestEditsGoOn : Type 0
TestEditsGoOn =
    (p q : Parts) (tests : List Test) (models : List NamedModel) (r : Replacement) (number : ℕ)
    (e : EditedParts) → IsEdit p tests models r number e q → IsOfTest r
    → (next later part of : ℕ)
    → IsPartAfter (written_state p tests models next) number
    (written_state q (tests_with r tests) (models_with r models) later) part of

-- after any edit the parts are those of the texts after it, where no two items have one number and
-- each model is read
abbrev pub EditsKeepParts : Type 0
EditsKeepParts =
    (p q : Parts) (tests : List Test) (models : List NamedModel) (r : Replacement) (number : ℕ)
    (e : EditedParts) → IsEdit p tests models r number e q
    → AreApart (item_numbers (models_with r models)) → All IsModelRead (models_with r models)
    → ArePartsOf q (tests_with r tests) (models_with r models)

-- and each part is as it was, has the number of the edit, or is gone
abbrev pub EditsGoOn : Type 0
EditsGoOn =
    (p q : Parts) (tests : List Test) (models : List NamedModel) (r : Replacement) (number : ℕ)
    (e : EditedParts) → IsEdit p tests models r number e q
    → AreApart (item_numbers (models_with r models)) → All IsModelRead (models_with r models)
    → (next later part of : ℕ)
    → IsPartAfter (written_state p tests models next) number
    (written_state q (tests_with r tests) (models_with r models) later) part of

-- and a part that holds what it held has its stamp of before
abbrev pub EditsKeepStamps : Type 0
EditsKeepStamps =
    (p q : Parts) (tests : List Test) (models : List NamedModel) (r : Replacement) (number : ℕ)
    (e : EditedParts) → IsEdit p tests models r number e q
    → AreApart (item_numbers (models_with r models)) → All IsModelRead (models_with r models)
    → (next later part : ℕ)
    → EqualPartsKeepStamps (written_state p tests models next)
    (written_state q (tests_with r tests) (models_with r models) later) part

-- ---- the state of parts, tests and models

-- the models are read, and no two of their items have one number, which is below that of the next
-- new item
pub record AreModelsWritten (models : List NamedModel) (next : ℕ) : Type 0 where
  pub read : All IsModelRead models
  pub apart : AreApart (item_numbers models)
  pub low : (number : ℕ) → Has (item_numbers models) number → number < next

-- Items of one model that are still there after an edit are so of one model, in one order. A new
-- item has a number that none had before. `was` and `now` are the numbers that the next new item is
-- given before the edit and after it.
pub record ItemsFollow (models after : List NamedModel) (was now : ℕ) : Type 0 where
  pub order : (m : NamedModel) (a b first second : ℕ) → Has models m
      → slice_get m.numbers.items a ≡ Some first → slice_get m.numbers.items b ≡ Some second → a < b
      → Has (item_numbers after) first → Has (item_numbers after) second
      → (n : NamedModel) × (c : ℕ) × (d : ℕ) × Has after n
      × (slice_get n.numbers.items c ≡ Some first) × (slice_get n.numbers.items d ≡ Some second)
      × (c < d)
  pub numbers : (number : ℕ) → Has (item_numbers after) number
      → Has (item_numbers models) number ⊎ (was ≤ number)
  pub next : was ≤ now

-- parts of tests and of models as they are written are those of a whole state
abbrev pub PartsAreWhole : Type 0
PartsAreWhole =
    (p : Parts) (tests : List Test) (models : List NamedModel) (next : ℕ)
    → ArePartsOf p tests models → AreModelsWritten models next
    → IsWholeState (written_state p tests models next)

-- after any edit the state is stamped with the number of the edit
abbrev pub EditsAreStamped : Type 0
EditsAreStamped =
    (p q : Parts) (tests : List Test) (models : List NamedModel) (r : Replacement) (number : ℕ)
    (e : EditedParts) (next later : ℕ) → IsEdit p tests models r number e q
    → AreModelsWritten models next
    → AreModelsWritten (models_with r models) later
    → ItemsFollow models (models_with r models) next later
    → IsStamped (written_state p tests models next) number (written_state q (tests_with r tests)
    (models_with r models) later)
