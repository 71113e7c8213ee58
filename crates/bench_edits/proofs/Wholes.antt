-- The parts of tests and of models that are read are those of a whole state.
use Rattle.std.proofs.Common.{ℕ, zero, suc, ◌≡◌, inl, inr, List, [], ◌∷◌, map, Some, None, slice_get, refl, sym, ap, subst, ◌∙◌, arith}
use Rattle.std.specs.List.{AllByRecursion as Each}
use Rattle.std.proofs.lemmas.Bool.Decides.{eqb_tells}
use Rattle.std.proofs.lemmas.Option.{none-some, same_Some}
use Rattle.text_values.specs.declared.test.Test.{Test}
use Rattle.memo_core.specs.Step.{Has}
use Rattle.bench_texts.specs.declared.model.NamedModel.{NamedModel}
use Rattle.bench_texts.specs.declared.reading.Reading.{Reading}
use Rattle.bench_texts.specs.declared.reading.Reading.TheVariants as readings
use Rattle.bench_texts.specs.Held.{IsModelRead}
use Rattle.bench_texts.specs.Readings.{IsModelReading}
use Rattle.bench_nodes.specs.declared.table.ModelRow.{ModelRow}
use Rattle.bench_nodes.specs.Nodes.{part_stamp}
use Rattle.bench_slots.specs.Tables.{ModelReading}
use Rattle.bench_slots.proofs.Lists.{has_append, has_behind}
use Rattle.bench_parts.specs.Built.{IsBuilt}
use Rattle.bench_parts.specs.Contents.{parts_state}
use Rattle.bench_parts.specs.Written.{WrittenModel, StandsAt, IsReadAs, IsPaired, IsWholeState, part_content}
use Rattle.bench_parts.specs.declared.parts.Parts.{Parts}
use Rattle.bench_parts.proofs.Built.{built_valid}
use Rattle.bench_edits.specs.Laws.{AreModelsWritten}
use Rattle.bench_edits.specs.Owed.{ArePartsOf, item_numbers}
use Rattle.bench_text_laws.specs.Orderly.{AreApart}
use Rattle.bench_edits.specs.Readings.{reading_by, reading_of, readings_of, written_model, written_models, written_state}
use Rattle.bench_edits.proofs.Facts.{each_item_has_number, texts_are, unstamped_gone}
use Rattle.bench_edits.proofs.ModelEdits.{each_read}
use Rattle.bench_edits.proofs.Lists.{has_at, apart_left, apart_right, apart_cross}

-- ---- numbers

stands_once : (xs : List ℕ) (a b n : ℕ) → AreApart xs → slice_get xs a ≡ Some n
    → slice_get xs b ≡ Some n → a ≡ b
stands_once [] a b n h e f = absurd (none-some n e)
stands_once (x ∷ xs) zero zero n h e f = refl
stands_once (x ∷ xs) zero (suc b) n h e f =
    absurd (h.0 (subst (λ (k : ℕ). Has xs k) (sym (same_Some _ _ e)) (has_at xs b n f)))
stands_once (x ∷ xs) (suc a) zero n h e f =
    absurd (h.0 (subst (λ (k : ℕ). Has xs k) (sym (same_Some _ _ f)) (has_at xs a n e)))
stands_once (x ∷ xs) (suc a) (suc b) n h e f = ap suc (stands_once xs a b n h.1 e f)

-- ---- models

pub readings_are : (rows : List ModelRow) (ms : List NamedModel)
    → map (λ m. m.reading) (written_models rows ms) ≡ readings_of rows ms
readings_are [] ms = refl
readings_are (r ∷ rs) [] = refl
readings_are (r ∷ rs) (m ∷ ms) =
    ap (λ (l : List ModelReading). reading_of r m ∷ l) (readings_are rs ms)

one_read : (row : ModelRow) (m : NamedModel) → IsModelRead m → AreApart m.numbers.items
    → IsReadAs (written_model row m) (reading_of row m)
one_read row m read apart = by_reading m.reading read
  where
    by_reading : (rd : Reading) → IsModelReading m.text.items.items rd
        → IsReadAs (written_model row m) (reading_by row.id m.numbers.items rd)
    by_reading (readings.Sound resolved used) h = (
      refl,
      record {
        numbered = omega (arith, m.paired, m.numbers.ok.0, m.text.items.ok.0);
        apart = λ a b number e f. stands_once m.numbers.items a b number apart e f;
        whole = h.0.whole;
        no_fault = h.0.no_fault;
        as_resolved = h.0.as_resolved;
        labelled = h.0.labelled;
      },
    )
    by_reading (readings.Faulty fault) h = tt

all_read : (rows : List ModelRow) (ms : List NamedModel) → Each IsModelRead ms
    → AreApart (item_numbers ms) → Each (λ m. IsReadAs m m.reading) (written_models rows ms)
all_read [] ms read apart = tt
all_read (r ∷ rs) [] read apart = tt
all_read (r ∷ rs) (m ∷ ms) read apart = (
  one_read r m read.0 (apart_left m.numbers.items (item_numbers ms) apart),
  all_read rs ms read.1 (apart_right m.numbers.items (item_numbers ms) apart),
)

all_paired : (rows : List ModelRow) (ms : List NamedModel) → Each IsPaired (written_models rows ms)
all_paired [] ms = tt
all_paired (r ∷ rs) [] = tt
all_paired (r ∷ rs) (m ∷ ms) = (sym (each_item_has_number m), all_paired rs ms)

pub number_is_listed : (rows : List ModelRow) (ms : List NamedModel) (m : WrittenModel) (a n : ℕ)
    → Has (written_models rows ms) m → StandsAt m a n → Has (item_numbers ms) n
number_is_listed [] ms m a n h e = absurd h
number_is_listed (r ∷ rs) [] m a n h e = absurd h
number_is_listed (r ∷ rs) (k ∷ ms) m a n (inl same) e =
    has_append k.numbers.items (item_numbers ms) n (has_at k.numbers.items a n
    (ap (λ (w : WrittenModel). slice_get w.numbers a) same ∙ e))
number_is_listed (r ∷ rs) (k ∷ ms) m a n (inr later) e =
    has_behind k.numbers.items (item_numbers ms) n (number_is_listed rs ms m a n later e)

all_apart : (rows : List ModelRow) (ms : List NamedModel) → AreApart (item_numbers ms)
    → (m w : WrittenModel) (a b n : ℕ) → Has (written_models rows ms) m
    → Has (written_models rows ms) w → StandsAt m a n → StandsAt w b n → (m ≡ w) × (a ≡ b)
all_apart [] ms apart m w a b n h g e f = absurd h
all_apart (r ∷ rs) [] apart m w a b n h g e f = absurd h
all_apart (r ∷ rs) (k ∷ ms) apart m w a b n (inl h) (inl g) e f = (
  sym h ∙ g,
  stands_once k.numbers.items a b n (apart_left k.numbers.items (item_numbers ms) apart)
      (ap (λ (x : WrittenModel). slice_get x.numbers a) h ∙ e)
      (ap (λ (x : WrittenModel). slice_get x.numbers b) g ∙ f),
)
all_apart (r ∷ rs) (k ∷ ms) apart m w a b n (inl h) (inr g) e f =
    absurd (apart_cross k.numbers.items (item_numbers ms) n apart
    (has_at k.numbers.items a n (ap (λ (x : WrittenModel). slice_get x.numbers a) h ∙ e))
    (number_is_listed rs ms w b n g f))
all_apart (r ∷ rs) (k ∷ ms) apart m w a b n (inr h) (inl g) e f =
    absurd (apart_cross k.numbers.items (item_numbers ms) n apart
    (has_at k.numbers.items b n (ap (λ (x : WrittenModel). slice_get x.numbers b) g ∙ f))
    (number_is_listed rs ms m a n h e))
all_apart (r ∷ rs) (k ∷ ms) apart m w a b n (inr h) (inr g) e f =
    all_apart rs ms (apart_right k.numbers.items (item_numbers ms) apart) m w a b n h g e f

-- what has no stamp is not there
gone : (p : Parts) (tests : List Test) (ms : List NamedModel) (next : ℕ) → ArePartsOf p tests ms
    → (part of : ℕ) → part_stamp p.table part of ≡ 0
    → part_content (written_state p tests ms next) part of ≡ None
gone p tests ms next owed part of none = elim (eqb_tells part 0) [
  | inl zero_is ↦ rw zero_is.0 (texts_are p.table.models.items ms of owed.each_model
      ∙ unstamped_gone p tests ms of owed (rw zero_is.0 at none))
  | inr other ↦ (
      let empty =
      (built_valid (parts_state p tests) (readings_of p.table.models.items ms)
      owed.built).empty part of none in
      rw other.0 (rw other.0 at empty))
]

pub parts_whole : (p : Parts) (tests : List Test) (ms : List NamedModel) (next : ℕ)
    → ArePartsOf p tests ms → AreModelsWritten ms next → IsWholeState (written_state p tests ms next)
parts_whole p tests ms next owed written = record {
  built =
      subst (λ (l : List ModelReading). IsBuilt (parts_state p tests) l)
      (sym (readings_are p.table.models.items ms)) owed.built;
  read = all_read p.table.models.items ms (each_read ms written.read) written.apart;
  paired = all_paired p.table.models.items ms;
  apart = all_apart p.table.models.items ms written.apart;
  low =
      λ n here. written.low n (number_is_listed p.table.models.items ms here.model here.index n
      here.there here.stands);
  gone = gone p tests ms next owed;
}
