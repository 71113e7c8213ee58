-- An edit keeps tests of words.
use Rattle.std.proofs.Common.{◌≡◌, ℕ, zero, suc, List, [], ◌∷◌, All, Some, slice_get, sym, subst}
use Rattle.std.specs.List.{AllByRecursion}
use Rattle.std.specs.Prelude.{remove, take, drop}
use Rattle.std.proofs.lemmas.Option.{slice_get_within, get_or_from_slice_get}
use Rattle.std.proofs.lemmas.List.Elements.{All-append, All-take, All-drop, All-cons, All-from_recursion, recursion_from_All}
use Rattle.text_values.specs.declared.test.InitEntry.{InitEntry}
use Rattle.text_values.specs.declared.test.Place.{Place}
use Rattle.text_values.specs.declared.test.Quantifier.{Quantifier}
use Rattle.text_values.specs.declared.test.Step.{Step}
use Rattle.text_values.specs.TestValue.{Content, Formula}
use Rattle.bench_texts.specs.BenchTexts.{BenchTexts, put_at, changed_at, with_init, with_thread, with_condition, with_observed, test_index}
use Rattle.bench_texts.specs.Edits.{Edit, PutTest, DropTest, SetInit, SetThread, SetCond, SetLocations, PutModel, DropModel, SetItem, InsertItem, RemoveItem, EditMakes, thread_count}
use Rattle.meaning_laws.specs.Words.{IsStepOfWords, IsFormulaOfWords, IsTestOfWords}
use Rattle.meaning_texts.proofs.Reading.{all_read}
use Rattle.meaning_edits.specs.Edits.{AreTextsOfWords, EditsKeepWords}
use Rattle.meaning_edits.proofs.Parts.{AreEntriesOfWords, init_of_words, thread_of_words, condition_of_words}

-- ---- lists with one element changed

pub all_put : {X : Type 0} (P : X → Type 0) (at : ℕ) (x : X) (xs : List X) → P x → All P xs
    → All P (put_at at x xs)
all_put P at x xs one all =
    All-append P (take at xs) (x ∷ drop (suc at) xs) (All-take P at xs all)
    (All-cons P x (drop (suc at) xs) one (All-drop P (suc at) xs all))

pub all_removed : {X : Type 0} (P : X → Type 0) (at : ℕ) (xs : List X) → All P xs
    → All P (remove xs at)
all_removed P at xs all =
    All-append P (take at xs) (drop (suc at) xs) (All-take P at xs all)
    (All-drop P (suc at) xs all)

each_changed : {X : Type 0} (P : X → Type 0) (f : X → X) → ((x : X) → P x → P (f x)) → (at : ℕ)
    (xs : List X) → AllByRecursion P xs → AllByRecursion P (changed_at at f xs)
each_changed P f keeps at [] all = tt
each_changed P f keeps zero (x ∷ xs) all = (keeps x all.0, all.1)
each_changed P f keeps (suc at) (x ∷ xs) all = (all.0, each_changed P f keeps at xs all.1)

all_changed : {X : Type 0} (P : X → Type 0) (f : X → X) → ((x : X) → P x → P (f x)) → (at : ℕ)
    (xs : List X) → All P xs → All P (changed_at at f xs)
all_changed P f keeps at xs all =
    All-from_recursion P (changed_at at f xs)
    (each_changed P f keeps at xs (recursion_from_All P xs all))

-- what holds of all of a list holds of one of them
pub held_at : {X : Type 0} (P : X → Type 0) (xs : List X) (k : ℕ) (x : X) → All P xs
    → slice_get xs k ≡ Some x → P x
held_at P xs k x all at =
    subst P (get_or_from_slice_get xs k x x at) (all k x (slice_get_within xs k x at))

-- ---- tests with one part changed

init_changed : (v : List InitEntry) → AreEntriesOfWords v → (c : Content) → IsTestOfWords c
    → IsTestOfWords (with_init v c)
init_changed v one c words =
    record { start = one; lines = words.lines; condition = words.condition }

thread_changed : (k : ℕ) (v : List Step) → All IsStepOfWords v → (c : Content) → IsTestOfWords c
    → IsTestOfWords (with_thread k v c)
thread_changed k v one c words =
    record {
      start = words.start;
      lines = all_put (λ (steps : List Step). All IsStepOfWords steps) k v c.threads one words.lines;
      condition = words.condition;
    }

condition_changed : (q : Quantifier × Formula) → IsFormulaOfWords q.1 → (c : Content)
    → IsTestOfWords c → IsTestOfWords (with_condition q c)
condition_changed q one c words =
    record { start = words.start; lines = words.lines; condition = one }

observed_changed : (places : List Place) → (c : Content) → IsTestOfWords c
    → IsTestOfWords (with_observed places c)
observed_changed places c words =
    record { start = words.start; lines = words.lines; condition = words.condition }

-- ---- texts

-- texts whose tests these are
same_words : (new : BenchTexts) (t : BenchTexts) → new ≡ t → AreTextsOfWords t
    → AreTextsOfWords new
same_words new t e words = subst AreTextsOfWords (sym e) words

module _ (t : BenchTexts) (words : AreTextsOfWords t) where
  changed : (test : List ℕ) (f : Content → Content)
      → ((c : Content) → IsTestOfWords c → IsTestOfWords (f c))
      → All IsTestOfWords (changed_at (test_index test t.tests) f t.tests)
  changed test f keeps = all_changed IsTestOfWords f keeps (test_index test t.tests) t.tests words

  pub makes_words : (new : BenchTexts) (e : Edit) → EditMakes t e new → AreTextsOfWords new
  makes_words new (PutTest text) (c, read, made) =
      same_words new _ made
      (all_put IsTestOfWords (test_index c.name t.tests) c t.tests (all_read text c read) words)
  makes_words new (DropTest test) made =
      same_words new _ made (all_removed IsTestOfWords (test_index test t.tests) t.tests words)
  makes_words new (SetInit test text) (v, read, made) =
      same_words new _ made
      (changed test (with_init v) (init_changed v (init_of_words (thread_count t test) text v read)))
  makes_words new (SetThread test thread text) (v, read, made) =
      same_words new _ made
      (changed test (with_thread thread v)
      (thread_changed thread v (thread_of_words text v read)))
  makes_words new (SetCond test text) (v, read, made) =
      same_words new _ made
      (changed test (with_condition v)
      (condition_changed v (condition_of_words (thread_count t test) text v read)))
  makes_words new (SetLocations test text) (v, read, made) =
      same_words new _ made (changed test (with_observed v) (observed_changed v))
  makes_words new (PutModel model text) (cs, read, made) = same_words new _ made words
  makes_words new (DropModel model) made = same_words new _ made words
  makes_words new (SetItem model item text) (c, read, made) = same_words new _ made words
  makes_words new (InsertItem model before text) (c, read, most, made) =
      same_words new _ made words
  makes_words new (RemoveItem model item) made = same_words new _ made words

pub keeps_words : EditsKeepWords
keeps_words t new spent e words applies = makes_words t words new e applies.makes
