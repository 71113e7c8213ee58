-- To prepare an edit and to put it in place is to make it.
use Rattle.std.proofs.Common.{◌≡◌, ℕ, ◌<◌, ◌≤◌, ◌⊎◌, inl, inr, List, [], ◌∷◌, ◌++◌, length, map, Some, slice_get, false, All, refl, sym, ap, subst, ◌∙◌, arith}
use Rattle.std.specs.List.{remove}
use Rattle.memo_core.specs.Step.{Has}
use Rattle.text_values.specs.declared.test.Test.{Test}
use Rattle.text_values.specs.declared.model.Item.{Item}
use Rattle.bench_texts.specs.declared.edit.Edit.{Edit}
use Rattle.bench_texts.specs.declared.model.NamedModel.{NamedModel}
use Rattle.bench_texts.specs.BenchTexts.{BenchTexts, PlainModel, put_at, items_with_numbers}
use Rattle.bench_texts.specs.Edits.{Edit as Change, edit_of, Applies}
use Rattle.bench_texts.specs.Held.{plain_model, texts_of, IsModelRead, AreModelsRead}
use Rattle.bench_texts.specs.Replacements.{texts_with, tests_with, models_with}
use Rattle.bench_parts.specs.declared.parts.Parts.{Parts}
use Rattle.bench_parts.specs.Contents as contents
use Rattle.bench_parts.specs.States.{IsSamePartsState}
use Rattle.bench_parts.specs.Written.{IsStamped}
use Rattle.bench_parts.specs.Stamps.{IsLaterNumber}
use Rattle.bench_parts.specs.Models.{raised_model}
use Rattle.bench_parts.specs.Tests.{IsRaisedRow}
use Rattle.bench_parts.specs.Items.{raised_item}
use Rattle.bench_edits.specs.declared.edited.EditedParts.{EditedParts}
use Rattle.bench_edits.specs.declared.edited.EditedParts.TheVariants as edited
use Rattle.bench_edits.proofs.ModelEdits.{edits_keep}
use Rattle.bench_edits.proofs.Stamped.{edits_stamped}
use Rattle.bench_edits.specs.Edited.{AreTestsSame, AreModelsSame, Changes}
use Rattle.bench_edits.specs.Laws.{IsEdit, EditsKeepParts, AreModelsWritten, ItemsFollow, EditsAreStamped}
use Rattle.bench_edits.specs.Readings.{written_state}
use Rattle.bench_edits.specs.Owed.{ArePartsOf, item_numbers}
use Rattle.bench_edits.specs.Left.{AreKindsOf}
use Rattle.bench_edits.proofs.ItemKinds.{kinds_after}
use Rattle.bench_edits.proofs.Lists.{has_map}
use Rattle.bench_instance.specs.declared.stamped_texts.StampedTexts.{StampedTexts}
use Rattle.bench_instance.specs.declared.stamped_texts.PreparedEdit.{PreparedEdit}
use Rattle.bench_text_laws.specs.Orderly.{AreApart, numbers_of, all_numbers, IsOrderly}
use Rattle.bench_text_laws.specs.Order.{PlainItemsGoOn, AreNumbersInOneOrder}
use Rattle.bench_instance.specs.StampedTexts.{written_of, AreSoundTexts}
use Rattle.bench_instance.specs.Edited.{IsPrepared, IsCommitted, IsPartsEdit, IsEdited}
use Rattle.bench_text_laws.proofs.Orderly.{applied_orderly}
use Rattle.bench_text_laws.proofs.Order.{applied_go_on, models_in_order}
use Rattle.bench_text_laws.proofs.Splices.{has_at, at_has}
use Rattle.bench_text_laws.proofs.Together.{applied_together}

-- ---- parts that were the same

tests_from : (p u q : Parts) (ts us : List Test)
    → IsSamePartsState (contents.parts_state p ts) (contents.parts_state u us) → AreTestsSame u q
    → AreTestsSame p q
tests_from p u q ts us s h =
    record { rows = h.rows ∙ s.test_rows; locations = h.locations ∙ s.locations }

models_from : (p u q : Parts) (ts us : List Test)
    → IsSamePartsState (contents.parts_state p ts) (contents.parts_state u us) → AreModelsSame u q
    → AreModelsSame p q
models_from p u q ts us s h = record {
  rows = h.rows ∙ s.model_rows;
  faults = h.faults ∙ s.faults;
  items = h.items ∙ s.item_rows;
  roles = h.roles ∙ s.roles;
  kinds = h.kinds ∙ s.kinds;
  slots = h.slots ∙ s.slots;
}

changes_from : (p u q : Parts) (ts us : List Test) (number : ℕ) (e : EditedParts)
    → IsSamePartsState (contents.parts_state p ts) (contents.parts_state u us) → Changes u number e q
    → Changes p number e q
changes_from p u q ts us number (edited.PutTest at row locations) s h = record {
  new = h.new;
  raised = subst (λ (l : ℕ). IsRaisedRow l number row h.new) s.last h.raised;
  rows = h.rows ∙ ap (put_at at h.new) s.test_rows;
  locations_are = h.locations_are ∙ ap (put_at at locations) s.locations;
  models = models_from p u q ts us s h.models;
}
changes_from p u q ts us number (edited.DropTest at) s h = record {
  rows = h.rows ∙ ap (λ rs. remove rs at) s.test_rows;
  locations = h.locations ∙ ap (λ ls. remove ls at) s.locations;
  models = models_from p u q ts us s h.models;
}
changes_from p u q ts us number (edited.Models m) s h = record {
  rows = h.rows ∙ ap (λ (l : ℕ). map (raised_model l number) m.rows.items) s.last;
  faults = h.faults;
  items = h.items ∙ ap (λ (l : ℕ). map (raised_item l number) m.items.rows.items) s.last;
  roles = h.roles;
  kinds = h.kinds;
  slots = h.slots;
  tests = tests_from p u q ts us s h.tests;
}

-- ---- numbers

numbers_are : (ns : List ℕ) (is : List Item) → length ns ≡ length is
    → map (λ i. i.number) (items_with_numbers ns is) ≡ ns
numbers_are [] is e = refl
numbers_are (n ∷ ns) [] e = absurd (omega (arith, e))
numbers_are (n ∷ ns) (i ∷ is) e =
    let f : length ns ≡ length is = omega (arith, e) in
    ap (λ (ms : List ℕ). n ∷ ms) (numbers_are ns is f)

numbers_in : (m : NamedModel) → numbers_of (plain_model m) ≡ m.numbers.items
numbers_in m =
    numbers_are m.numbers.items m.text.items.items
    (sym (m.numbers).ok.0 ∙ m.paired ∙ ((m.text).items).ok.0)

pub all_are : (ms : List NamedModel) → all_numbers (map plain_model ms) ≡ item_numbers ms
all_are [] = refl
all_are (m ∷ ms) =
    ap (λ (ns : List ℕ). ns ++ all_numbers (map plain_model ms)) (numbers_in m) ∙ ap
    (λ (ns : List ℕ). m.numbers.items ++ ns) (all_are ms)

-- ---- models as they are written

pub are_written : (t : StampedTexts) → AreSoundTexts t → AreModelsWritten t.texts.models.items t.texts.next
are_written t s = record {
  read = s.read;
  apart = subst AreApart (all_are t.texts.models.items) (s.orderly).items;
  low =
      λ number there. (s.orderly).next number (subst (λ (ns : List ℕ). Has ns number)
      (sym (all_are t.texts.models.items)) there);
}

-- what is among the images is that of an element
of_map : {A B : Type 0} (f : A → B) (xs : List A) (y : B) → Has (map f xs) y
    → (x : A) × Has xs x × (f x ≡ y)
of_map f [] y h = absurd h
of_map f (x ∷ xs) y (inl e) = (x, inl refl, e)
of_map f (x ∷ xs) y (inr h) = let found = of_map f xs y h in (found.0, inr found.1, found.2)

-- the texts before an edit, and those after it
module _ (t w : StampedTexts) (e : Change) (orderly : IsOrderly (texts_of t.texts))
    (applies : Applies (texts_of t.texts) false e (texts_of w.texts)) where
  goes_on : PlainItemsGoOn (texts_of t.texts) (texts_of w.texts)
  goes_on = applied_go_on (texts_of t.texts) (texts_of w.texts) false e orderly applies

  -- two items of a model that are still there are so of one model
  abbrev StandTogether : ℕ → ℕ → Type 0
  StandTogether first second =
      (n : NamedModel) × Has w.texts.models.items n × Has n.numbers.items first
      × Has n.numbers.items second

  named_together : (first second : ℕ) (v : PlainModel) → Has (map plain_model w.texts.models.items) v
      → Has (numbers_of v) first → Has (numbers_of v) second → StandTogether first second
  named_together first second v there one other =
      let found = of_map plain_model w.texts.models.items v there in
      let same : numbers_of v ≡ found.0.numbers.items = ap numbers_of (sym found.2) ∙ numbers_in found.0 in (
        found.0,
        found.1,
        subst (λ (ns : List ℕ). Has ns first) same one,
        subst (λ (ns : List ℕ). Has ns second) same other,
      )

  still_there : (number : ℕ) → Has (item_numbers w.texts.models.items) number
      → Has (all_numbers (map plain_model w.texts.models.items)) number
  still_there number there =
      subst (λ (ns : List ℕ). Has ns number) (sym (all_are w.texts.models.items)) there

  in_model : (m : NamedModel) (index number : ℕ) → slice_get m.numbers.items index ≡ Some number
      → Has (numbers_of (plain_model m)) number
  in_model m index number at =
      subst (λ (ns : List ℕ). Has ns number) (sym (numbers_in m))
      (has_at m.numbers.items index number at)

  together : (m : NamedModel) (a b first second : ℕ) → Has t.texts.models.items m
      → slice_get m.numbers.items a ≡ Some first → slice_get m.numbers.items b ≡ Some second
      → Has (item_numbers w.texts.models.items) first
      → Has (item_numbers w.texts.models.items) second → StandTogether first second
  together m a b first second there at_a at_b la lb =
      let stays = applied_together (texts_of t.texts) (texts_of w.texts) false e orderly applies (plain_model m) first second (has_map plain_model t.texts.models.items m there)
      (in_model m a first at_a) (in_model m b second at_b) (still_there first la)
      (still_there second lb) in
      named_together first second stays.0 stays.1 stays.2 stays.3

  in_order : (m n : NamedModel) → Has t.texts.models.items m → Has w.texts.models.items n
      → AreNumbersInOneOrder m.numbers.items n.numbers.items
  in_order m n there later =
      subst (λ (ns : List ℕ). AreNumbersInOneOrder m.numbers.items ns) (numbers_in n)
      (subst (λ (ns : List ℕ). AreNumbersInOneOrder ns (numbers_of (plain_model n))) (numbers_in m)
      (models_in_order (texts_of t.texts) (texts_of w.texts) (plain_model m) (plain_model n)
      (applied_orderly (texts_of t.texts) (texts_of w.texts) false e orderly applies) goes_on
      (has_map plain_model t.texts.models.items m there)
      (has_map plain_model w.texts.models.items n later)))

  pub items_follow : ItemsFollow t.texts.models.items w.texts.models.items t.texts.next w.texts.next
  items_follow = record {
    order = λ m a b first second there at_a at_b before la lb.
        (let found = together m a b first second there at_a at_b la lb in
        let c = at_has found.0.numbers.items first found.2 in
        let d = at_has found.0.numbers.items second found.3 in (
          found.0,
          c.0,
          d.0,
          found.1,
          c.1,
          d.1,
          in_order m found.0 there found.1 a b c.0 d.0 first second at_a at_b c.1 d.1
              before,
        ));
    numbers =
        λ number there. subst (λ (ns : List ℕ). Has ns number ⊎ (t.texts.next ≤ number))
        (all_are t.texts.models.items) (goes_on.fresh number (still_there number there));
    next = goes_on.next;
  }

-- ---- the edit

module _ (keep : EditsKeepParts) (stamp : EditsAreStamped) (t u w : StampedTexts) (e : Edit)
    (p : PreparedEdit) (number : ℕ) (h : IsPrepared t e p u) (c : IsCommitted u p number w) where
  tests_are : w.texts.tests.items ≡ tests_with p.texts.replacement t.texts.tests.items
  tests_are = c.tests ∙ ap (tests_with p.texts.replacement) (h.same).state.tests

  models_are : w.texts.models.items ≡ models_with p.texts.replacement t.texts.models.items
  models_are = c.models ∙ ap (models_with p.texts.replacement) (h.same).models

  texts_are : texts_of w.texts ≡ texts_with p.texts.replacement (texts_of t.texts)
  texts_are = c.texts ∙ ap (texts_with p.texts.replacement) (h.same).texts

  applies : Applies (texts_of t.texts) false (edit_of e) (texts_of w.texts)
  applies =
      subst (λ (v : BenchTexts). Applies (texts_of t.texts) false (edit_of e) v) (sym texts_are)
      h.applies

  later : IsLaterNumber t.parts.last number
  later =
      record { later = subst (λ (l : ℕ). l < number) ((h.same).state).last c.later; fits = c.fits }

  is_edit : AreSoundTexts t
      → IsEdit t.parts t.texts.tests.items t.texts.models.items p.texts.replacement number p.parts
      w.parts
  is_edit s = record {
    later = later;
    owed = s.parts_are;
    is_made = h.made;
    committed = record {
      changes =
          changes_from t.parts u.parts w.parts t.texts.tests.items u.texts.tests.items number
          p.parts (h.same).state (c.parts_are).changes;
      last = (c.parts_are).last;
    };
  }

  orderly : AreSoundTexts t → IsOrderly (texts_of w.texts)
  orderly s =
      applied_orderly (texts_of t.texts) (texts_of w.texts) false (edit_of e) s.orderly applies

  read : AreSoundTexts t → AreModelsRead w.texts
  read s = c.read ((h.same).read s.read)

  apart : AreSoundTexts t
      → AreApart (item_numbers (models_with p.texts.replacement t.texts.models.items))
  apart s =
      subst AreApart (all_are (models_with p.texts.replacement t.texts.models.items))
      (subst (λ (ms : List NamedModel). AreApart (all_numbers (map plain_model ms))) models_are
      (orderly s).items)

  all_read : AreSoundTexts t → All IsModelRead (models_with p.texts.replacement t.texts.models.items)
  all_read s = subst (λ (ms : List NamedModel). All IsModelRead ms) models_are (read s)

  parts_are : AreSoundTexts t → ArePartsOf w.parts w.texts.tests.items w.texts.models.items
  parts_are s =
      subst (λ (ts : List Test). ArePartsOf w.parts ts w.texts.models.items) (sym tests_are)
      (subst
      (λ (ms : List NamedModel).
      ArePartsOf w.parts (tests_with p.texts.replacement t.texts.tests.items) ms)
      (sym models_are)
      (keep t.parts w.parts t.texts.tests.items t.texts.models.items p.texts.replacement number
      p.parts (is_edit s) (apart s) (all_read s)))

  kinds : AreSoundTexts t → AreKindsOf w.parts w.texts.models.items
  kinds s =
      subst (λ (ms : List NamedModel). AreKindsOf w.parts ms) (sym models_are)
      (kinds_after t.parts w.parts t.texts.tests.items t.texts.models.items p.texts.replacement
      number p.parts (is_edit s) (apart s) s.kinds)

  parts_edit : AreSoundTexts t → IsPartsEdit t number w
  parts_edit s =
      record {
        replacement = p.texts.replacement;
        parts = p.parts;
        is_edit = is_edit s;
        tests = tests_are;
        models = models_are;
      }

  sound : AreSoundTexts t → AreSoundTexts w
  sound s = record { read = read s; parts_are = parts_are s; orderly = orderly s; kinds = kinds s }

  follow : AreSoundTexts t
      → ItemsFollow t.texts.models.items (models_with p.texts.replacement t.texts.models.items)
      t.texts.next w.texts.next
  follow s =
      subst
      (λ (ms : List NamedModel). ItemsFollow t.texts.models.items ms t.texts.next w.texts.next)
      models_are (items_follow t w (edit_of e) s.orderly applies)

  written_after : AreSoundTexts t
      → AreModelsWritten (models_with p.texts.replacement t.texts.models.items) w.texts.next
  written_after s =
      subst (λ (ms : List NamedModel). AreModelsWritten ms w.texts.next) models_are
      (are_written w (sound s))

  stamped : AreSoundTexts t → IsStamped (written_of t) number (written_of w)
  stamped s =
      subst
      (λ (ts : List Test). IsStamped (written_of t) number
      (written_state w.parts ts w.texts.models.items w.texts.next))
      (sym tests_are)
      (subst
      (λ (ms : List NamedModel). IsStamped (written_of t) number (written_state w.parts
      (tests_with p.texts.replacement t.texts.tests.items) ms w.texts.next))
      (sym models_are)
      (stamp t.parts w.parts t.texts.tests.items t.texts.models.items p.texts.replacement number
      p.parts t.texts.next w.texts.next (is_edit s) (are_written t s) (written_after s)
      (follow s)))

  edit_is_made : IsEdited t e number w
  edit_is_made = record { applies = applies; sound = sound; stamped = stamped; made = parts_edit }

pub commits_edit : (t u w : StampedTexts) (e : Edit) (p : PreparedEdit) (number : ℕ)
    → IsPrepared t e p u → IsCommitted u p number w → IsEdited t e number w
commits_edit = edit_is_made edits_keep edits_stamped

-- the parts of the texts after a prepared edit are those that were made for it
pub parts_edited : (t u w : StampedTexts) (e : Edit) (p : PreparedEdit) (number : ℕ)
    → IsPrepared t e p u → IsCommitted u p number w → AreSoundTexts t
    → IsEdit t.parts t.texts.tests.items t.texts.models.items p.texts.replacement number p.parts
    w.parts
parts_edited = is_edit edits_keep edits_stamped
