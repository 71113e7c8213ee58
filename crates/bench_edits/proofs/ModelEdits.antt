-- The parts of the bench after an edit of a model.
use Rattle.std.proofs.Common.{ℕ, zero, suc, ◌+◌, ◌<◌, ◌≤◌, ◌≡◌, ◌≢◌, ◌⊎◌, inl, inr, List, [], ◌∷◌, ◌++◌, length, map, Option, None, if◌then◌else◌, ◌==◌, nat_lt, refl, sym, ap, subst, ◌∙◌, eq-eqb, ne_eqb, arith}
use Rattle.std.specs.Arc.{arc_value}
use Rattle.std.specs.List.{AllZip, All, AllByRecursion as Each, remove}
use Rattle.std.proofs.lemmas.Bool.Decides.{eqb_tells, leb_tells}
use Rattle.std.proofs.lemmas.List.{length-append, length-map, map-append}
use Rattle.text_values.specs.declared.test.Test.{Test}
use Rattle.text_values.specs.declared.model.Item.{Item}
use Rattle.binding_kinds.specs.Value.{bare_item}
use Rattle.binding_kinds.specs.declared.fault.ModelFault.{ModelFault}
use Rattle.memo_core.specs.Step.{Has}
use Rattle.bench_items.specs.Naming.{SeenName}
use Rattle.bench_items.specs.declared.items.SharedItem.{SharedItem}
use Rattle.bench_items.specs.Items.{held_history}
use Rattle.bench_texts.proofs.Lists.{map-remove}
use Rattle.bench_texts.specs.BenchTexts.{put_at}
use Rattle.bench_texts.specs.Held.{IsModelRead}
use Rattle.bench_texts.specs.Replacements.{tests_with, models_with}
use Rattle.bench_texts.specs.declared.replacement.Replacement.{Replacement}
use Rattle.bench_texts.specs.declared.replacement.Replacement.TheVariants as made
use Rattle.bench_texts.specs.Readings.{IsModelReading}
use Rattle.bench_texts.specs.declared.model.NamedModel.{NamedModel}
use Rattle.bench_texts.specs.declared.reading.Reading.{Reading}
use Rattle.bench_texts.specs.declared.reading.Reading.TheVariants as readings
use Rattle.bench_nodes.specs.declared.table.ItemRow.{ItemRow}
use Rattle.bench_nodes.specs.declared.table.ModelRow.{ModelRow}
use Rattle.bench_nodes.specs.declared.table.Slot.{Slot}
use Rattle.bench_nodes.specs.declared.table.TestRow.{TestRow}
use Rattle.bench_nodes.specs.Nodes.{item_stamp, fault_stamp}
use Rattle.bench_slots.proofs.RoleItems.{resolved_closed}
use Rattle.bench_slots.proofs.Reached.{ordered_items}
use Rattle.bench_slots.specs.Slots.{plain, item_history}
use Rattle.bench_slots.specs.Tables.{ModelReading, IsOrderedModel, all_slots}
use Rattle.bench_parts.specs.declared.parts.Parts.{Parts}
use Rattle.bench_parts.specs.Built.{IsItemRow, IsModelRow, AreTestRows, IsModelIn, IsBuilt}
use Rattle.bench_parts.specs.Contents.{PartsState, parts_state, content, fault_content, fault_part}
use Rattle.bench_parts.specs.Written.{IsPartAfter, item_text}
use Rattle.bench_parts.specs.declared.model_rows.HeldModel.{HeldModel}
use Rattle.bench_parts.specs.TableLaws.{WasModelRow}
use Rattle.bench_parts.specs.Stamps.{IsLaterNumber, IsPartNow, next_number}
use Rattle.bench_parts.specs.Models.{raised_model}
use Rattle.bench_parts.specs.Items.{ItemFact, item_facts, raised_item}
use Rattle.bench_parts.specs.ItemLaws.{AreItemsAfter, DoesWhatIsRead}
use Rattle.bench_parts.proofs.ItemRows.{parts_go_on, items_are_stamped, items_do, items_in_order, items_held}
use Rattle.bench_edits.specs.declared.edited.EditedParts.{EditedParts}
use Rattle.bench_edits.specs.declared.edited.EditedParts.TheVariants as edited
use Rattle.bench_edits.specs.declared.edited.ModelParts.{ModelParts}
use Rattle.bench_edits.specs.Edited.{held_models, model_id, AreModelPartsMade, PutsModels}
use Rattle.bench_edits.specs.Laws.{IsEdit}
use Rattle.bench_edits.specs.Owed.{ArePartsOf, item_numbers}
use Rattle.bench_text_laws.specs.Orderly.{AreApart}
use Rattle.bench_edits.specs.Readings.{fault_in, resolved_in, reading_by, readings_of, written_models, written_state, named_text, facts_in, all_facts}
use Rattle.bench_edits.proofs.PutModels.{held_is, held_ids_are, held_keys_are, held_were, content_pushed, were_pushed, content_removed, were_removed, faults_now, rows_after, ids_after, length_made, IsWithout, part_over}
use Rattle.bench_edits.proofs.Making.{push_past}
use Rattle.bench_edits.proofs.Facts.{all_numbers, all_apart, all_written, all_said, texts_are, unstamped_gone}
use Rattle.bench_edits.proofs.PutTests.{rows_stay, apart_removed}
use Rattle.bench_edits.proofs.TestEdits.{fresh_above, fresh_most, tests_keep, tests_go_on}

-- ---- models as they are read

abbrev fault_of : NamedModel → Option ModelFault
fault_of m = fault_in m.reading

readings_raised : (last number : ℕ) (rs : List ModelRow) (ms : List NamedModel)
    → readings_of (map (raised_model last number) rs) ms ≡ readings_of rs ms
readings_raised last number [] ms = refl
readings_raised last number (r ∷ rs) [] = refl
readings_raised last number (r ∷ rs) (m ∷ ms) =
    ap (λ (l : List ModelReading). reading_by r.id m.numbers.items m.reading ∷ l)
    (readings_raised last number rs ms)

-- a new number of an edit changes no history
pub history_raised : (last number : ℕ) (rows : List ItemRow) (items : List (Option SharedItem))
    → item_history (map (raised_item last number) rows) items ≡ item_history rows items
history_raised last number rows items = let same = each rows items in λ k of. same of k
  where
    each : (rows : List ItemRow) (items : List (Option SharedItem)) (of : ℕ)
        → item_history (map (raised_item last number) rows) items of ≡ item_history rows items of
    each [] items of = refl
    each (i ∷ is) [] of = refl
    each (i ∷ is) (s ∷ ss) of =
        ap (λ (h : List SeenName). if i.number == of then held_history s else h) (each is ss of)

split_each : (P : ItemFact → Type 0) (fs gs : List ItemFact) → Each P (fs ++ gs)
    → Each P fs × Each P gs
split_each P [] gs h = (tt, h)
split_each P (f ∷ fs) gs h = let rest = split_each P fs gs h.1 in ((h.0, rest.0), rest.1)

one_in : (s : PartsState) (id : ℕ) (numbers : List ℕ) (is : List Item) (rd : Reading)
    → IsOrderedModel (reading_by id numbers rd)
    → Each (DoesWhatIsRead s.parts.table.items.items s.parts.roles.items)
    (item_facts numbers is (resolved_in rd)) → length is ≡ length numbers → IsModelReading is rd
    → content s 1 id ≡ fault_part (fault_in rd) → IsModelIn s (reading_by id numbers rd)
one_in s id numbers is (readings.Sound resolved used) ordered does len read fault = (
  ordered,
  items_held s.parts.table.items.items s.parts.roles.items numbers is
      (arc_value resolved).items.items (omega (arith, read.0.whole, len)) does,
)
one_in s id numbers is (readings.Faulty f) ordered does len read fault = fault

models_in : (s : PartsState) (rows : List ModelRow) (ms : List NamedModel)
    → ((of : ℕ) → Has (map (λ r. r.id) rows) of
    → content s 1 of ≡ fault_content rows (map fault_of ms) of)
    → AreApart (map (λ r. r.id) rows)
    → Each IsOrderedModel (readings_of rows ms)
    → Each (DoesWhatIsRead s.parts.table.items.items s.parts.roles.items) (all_facts ms)
    → Each IsModelRead ms → Each (IsModelIn s) (readings_of rows ms)
models_in s [] ms faults apart ordered does read = tt
models_in s (r ∷ rows) [] faults apart ordered does read = tt
models_in s (r ∷ rows) (m ∷ ms) faults apart ordered does read =
    let parts = split_each (DoesWhatIsRead s.parts.table.items.items s.parts.roles.items) (facts_in m) (all_facts ms) does in
    let len : length m.text.items.items ≡ length m.numbers.items = omega (arith, m.paired, m.numbers.ok.0, m.text.items.ok.0) in
    let here : content s 1 r.id ≡ fault_part (fault_of m) = faults r.id (inl refl) ∙ (rw (eq-eqb r.id r.id refl) refl) in (
      one_in s r.id m.numbers.items m.text.items.items m.reading ordered.0 parts.0 len read.0 here,
      models_in s rows ms
          (λ of has. faults of (inr has)
          ∙ (
          let e : r.id ≢ of =
          λ k. apart.0 (subst (λ (n : ℕ). Has (map (λ (q : ModelRow). q.id) rows) n)
          (sym k) has) in
          rw (ne_eqb r.id of e) refl)) apart.1 ordered.1 parts.1 read.1,
    )

each_low : (number : ℕ) (rows : List ModelRow) → Each (λ n. n ≤ number) (map (λ r. r.id) rows)
    → Each (λ r. r.id ≤ number) rows
each_low number [] h = tt
each_low number (r ∷ rows) h = (h.0, each_low number rows h.1)

tests_low : (last number : ℕ) (rows : List TestRow) → last ≤ number → Each (λ r. r.id ≤ last) rows
    → Each (λ r. r.id ≤ number) rows
tests_low last number [] le h = tt
tests_low last number (r ∷ rows) le h = (omega (arith, h.0, le), tests_low last number rows le h.1)

-- ---- the parts after the edit

pub record AreModelsNow (p : Parts) (held hs : List (Option HeldModel)) (ms : List NamedModel)
    (number : ℕ) : Type 0 where
  pub without : (of : ℕ) → IsWithout held hs of
  pub were : Each (WasModelRow p.last) hs
  pub each : length hs ≡ length ms
  pub apart : AreApart (map (model_id (next_number p.last)) hs)
  pub low : Each (λ n. n ≤ number) (map (model_id (next_number p.last)) hs)
  pub read : Each IsModelRead ms
  pub numbers : AreApart (item_numbers ms)

module _ (p q : Parts) (tests : List Test) (models ms : List NamedModel)
    (hs : List (Option HeldModel)) (number : ℕ) (m : ModelParts)
    (later : IsLaterNumber p.last number) (owed : ArePartsOf p tests models)
    (is_now : AreModelsNow p (held_models p.table.models.items p.faults.items) hs ms number)
    (are_made : AreModelPartsMade p models hs ms m) (puts : PutsModels p number m q)
    (last : q.last ≡ number)
    (ordered : Each IsOrderedModel (readings_of q.table.models.items ms)) where
  le : p.last ≤ number
  le = let lt : p.last < number = later.later in omega arith

  items_after : AreItemsAfter p.last number p.table.items.items p.roles.items (named_text models)
      (all_facts ms) q.table.items.items m.items.roles.items m.items.kinds.items
  items_after = record {
    later = later;
    was = owed.built.items;
    gone = λ of none. unstamped_gone p tests models of owed none;
    before = m.items.rows.items;
    written = all_written ms;
    made = are_made.items;
    raised = puts.items;
  }

  does : Each (DoesWhatIsRead q.table.items.items q.roles.items) (all_facts ms)
  does =
      subst
      (λ (l : List (Option SharedItem)). Each (DoesWhatIsRead q.table.items.items l) (all_facts ms))
      (sym puts.roles)
      (items_do p.last number p.table.items.items q.table.items.items p.roles.items
      m.items.roles.items (named_text models) m.items.kinds.items (all_facts ms) items_after
      (all_apart ms is_now.numbers))

  abbrev raised_rows : List ModelRow
  raised_rows = map (raised_model p.last number) m.rows.items

  ids : map (λ r. r.id) q.table.models.items ≡ map (model_id (next_number p.last)) hs
  ids =
      ap (λ (l : List ModelRow). map (λ (r : ModelRow). r.id) l) puts.rows
      ∙ ids_after p.last number later hs ms m.rows.items is_now.each are_made.rows

  apart_ids : AreApart (map (λ r. r.id) q.table.models.items)
  apart_ids = subst (λ (l : List ℕ). AreApart l) (sym ids) is_now.apart

  faults : q.faults.items ≡ map fault_of ms
  faults = puts.faults ∙ are_made.faults

  abbrev made_histories : ℕ → List SeenName
  made_histories = item_history m.items.rows.items m.items.roles.items

  histories_now : made_histories ≡ item_history q.table.items.items q.roles.items
  histories_now =
      sym (history_raised p.last number m.items.rows.items m.items.roles.items)
      ∙ ap (λ (l : List ItemRow). item_history l m.items.roles.items) (sym puts.items)
      ∙ ap (λ (l : List (Option SharedItem)). item_history q.table.items.items l) (sym puts.roles)

  pub models_built : IsBuilt (parts_state q tests) (readings_of q.table.models.items ms)
  models_built = record {
    slots =
        ap (λ (l : List Slot). map plain l) puts.slots ∙ (are_made.slots
        ∙ (ap (all_slots made_histories) (sym (readings_raised p.last number m.rows.items ms)
        ∙ ap (λ (l : List ModelRow). readings_of l ms) (sym puts.rows))
        ∙ ap (λ (h : ℕ → List SeenName). all_slots h (readings_of q.table.models.items ms))
        histories_now));
    models_in =
        models_in (parts_state q tests) q.table.models.items ms
        (λ of has.
        ap (λ (l : List (Option ModelFault)). fault_content q.table.models.items l of) faults)
        apart_ids ordered does is_now.read;
    items = subst (λ (n : ℕ). AllZip (IsItemRow n) q.table.items.items q.roles.items) (sym last)
        (subst (λ (l : List (Option SharedItem)). AllZip (IsItemRow number) q.table.items.items l)
        (sym puts.roles)
        (items_are_stamped p.last number p.table.items.items q.table.items.items p.roles.items
        m.items.roles.items (named_text models) m.items.kinds.items (all_facts ms)
        items_after));
    faults = subst (λ (n : ℕ). AllZip (IsModelRow n) q.table.models.items q.faults.items) (sym last)
        (subst (λ (l : List (Option ModelFault)). AllZip (IsModelRow number) q.table.models.items l)
        (sym faults)
        (subst (λ (l : List ModelRow). AllZip (IsModelRow number) l (map fault_of ms))
        (sym puts.rows) (rows_after p.last number later hs ms m.rows.items is_now.were
        are_made.rows)));
    tests = subst (λ (n : ℕ). AreTestRows n q.table.tests.items tests q.locations.items) (sym last)
        (rw (puts.tests.rows, puts.tests.locations) (rows_stay p.last number p.table.tests.items
        tests p.locations.items le owed.built.tests));
  }

  pub models_keep : ArePartsOf q tests ms
  models_keep = record {
    built = models_built;
    each_model =
        ap (λ (l : List ModelRow). length l) puts.rows
        ∙ (length-map m.rows.items (raised_model p.last number)
        ∙ length_made (next_number p.last) hs ms m.rows.items are_made.rows);
    each_item =
        (items_in_order p.last number p.table.items.items q.table.items.items p.roles.items
        m.items.roles.items (named_text models) m.items.kinds.items (all_facts ms)
        items_after).0 ∙ all_numbers ms;
    numbered = record {
      tests_apart =
          subst (λ (l : List TestRow). AreApart (map (λ r. r.id) l)) (sym puts.tests.rows)
          owed.numbered.tests_apart;
      models_apart = apart_ids;
      tests_low =
          subst (λ (n : ℕ). Each (λ r. r.id ≤ n) q.table.tests.items) (sym last)
          (subst (λ (l : List TestRow). Each (λ r. r.id ≤ number) l) (sym puts.tests.rows)
          (tests_low p.last number p.table.tests.items le owed.numbered.tests_low));
      models_low =
          subst (λ (n : ℕ). Each (λ r. r.id ≤ n) q.table.models.items) (sym last)
          (each_low number q.table.models.items (subst (λ (l : List ℕ). Each (λ n. n ≤ number) l)
          (sym ids) is_now.low));
    };
    locations = rw puts.tests.locations owed.locations;
  }

  fault_part_now : (of : ℕ)
      → IsPartNow (fault_content p.table.models.items p.faults.items of)
      (fault_stamp p.table.models.items of) number
      (fault_content q.table.models.items q.faults.items of)
      (fault_stamp q.table.models.items of)
  fault_part_now of =
      let was = held_is p.last p.table.models.items p.faults.items owed.built.faults of in
      let over = part_over (held_models p.table.models.items p.faults.items) hs number of (fault_content raised_rows (map fault_of ms) of) (fault_stamp raised_rows of) (is_now.without of) (faults_now p.last number later hs ms m.rows.items is_now.were are_made.rows of) in
      rw (puts.rows, faults) (rw (was.0, was.1) at over)

  -- what an item says
  text_part_now : (of : ℕ)
      → IsPartNow (item_text (written_models p.table.models.items models) of)
      (item_stamp p.table.items.items of) number
      (item_text (written_models q.table.models.items ms) of)
      (item_stamp q.table.items.items of)
  text_part_now of =
      rw (
        texts_are p.table.models.items models of owed.each_model,
        texts_are q.table.models.items ms of models_keep.each_model,
        ← all_said ms of,
      )
      (parts_go_on p.last number p.table.items.items q.table.items.items p.roles.items
      m.items.roles.items (named_text models) m.items.kinds.items (all_facts ms) items_after
      of)

  pub models_go_on : (next next_now part of : ℕ)
      → IsPartAfter (written_state p tests models next) number (written_state q tests ms next_now)
      part of
  models_go_on next next_now part of = elim (eqb_tells part 0) [
    | inl zero_is ↦ rw zero_is.0 (text_part_now of)
    | inr other ↦ elim (eqb_tells part 1) [
      | inl one_is ↦ rw (other.0, one_is.0) (fault_part_now of)
      | inr more ↦ rw (other.0, more.0, puts.tests.rows, puts.tests.locations) (inl (refl, refl))
    ]
  ]

-- ---- what the models were

same_removed : {A B : Type 0} (xs : List A) (ys : List B) (at : ℕ) → length xs ≡ length ys
    → length (remove xs at) ≡ length (remove ys at)
same_removed [] [] zero e = refl
same_removed [] [] (suc at) e = refl
same_removed [] (y ∷ ys) at e = absurd (omega arith)
same_removed (x ∷ xs) [] at e = absurd (omega arith)
same_removed (x ∷ xs) (y ∷ ys) zero e = omega arith
same_removed (x ∷ xs) (y ∷ ys) (suc at) e =
    let n : length xs ≡ length ys = omega arith in ap suc (same_removed xs ys at n)

same_put : {A : Type 0} (ys : List A) (at : ℕ) (y : A) → at < length ys
    → length (put_at at y ys) ≡ length ys
same_put [] at y lt = absurd (omega arith)
same_put (x ∷ ys) zero y lt = refl
same_put (x ∷ ys) (suc at) y lt = ap suc (same_put ys at y (omega arith))

more_put : {A : Type 0} (ys : List A) (at : ℕ) (y : A) → length ys ≤ at
    → length (put_at at y ys) ≡ length ys + 1
more_put ys at y le = ap (λ l. length l) (sym (push_past ys at y le)) ∙ length-append ys (y ∷ [])

each_removed : (number : ℕ) (ns : List ℕ) (at : ℕ) → Each (λ n. n ≤ number) ns
    → Each (λ n. n ≤ number) (remove ns at)
each_removed number [] zero h = tt
each_removed number [] (suc at) h = tt
each_removed number (n ∷ ns) zero h = h.1
each_removed number (n ∷ ns) (suc at) h = (h.0, each_removed number ns at h.1)

low_ids : (last number : ℕ) (rows : List ModelRow) → last ≤ number → Each (λ r. r.id ≤ last) rows
    → Each (λ n. n ≤ number) (map (λ r. r.id) rows)
low_ids last number [] le h = tt
low_ids last number (r ∷ rows) le h = (omega (arith, h.0, le), low_ids last number rows le h.1)

low_pushed : (number n : ℕ) (ns : List ℕ) → n ≤ number → Each (λ k. k ≤ number) ns
    → Each (λ k. k ≤ number) (ns ++ n ∷ [])
low_pushed number n [] one h = (one, tt)
low_pushed number n (k ∷ ns) one h = (h.0, low_pushed number n ns one h.1)

has_pushed : (ns : List ℕ) (n k : ℕ) → Has (ns ++ n ∷ []) k → Has ns k ⊎ (n ≡ k)
has_pushed [] n k h = elim h [ inl e ↦ inr e | inr gone ↦ absurd gone ]
has_pushed (m ∷ ns) n k h =
    elim h [
      | inl e ↦ inl (inl e)
      | inr later ↦ elim (has_pushed ns n k later)
          [ inl was ↦ inl (inr was) | inr e ↦ inr e ]
    ]

apart_pushed : (last n : ℕ) (rows : List ModelRow) → last < n → Each (λ r. r.id ≤ last) rows
    → AreApart (map (λ r. r.id) rows) → AreApart (map (λ r. r.id) rows ++ n ∷ [])
apart_pushed last n [] lt low h = ((λ gone. gone), tt)
apart_pushed last n (r ∷ rows) lt low h = (
  (λ has. elim (has_pushed (map (λ (q : ModelRow). q.id) rows) n r.id has)
      [ inl was ↦ h.0 was | inr e ↦ absurd (omega (arith, low.0, lt, e)) ]),
  apart_pushed last n rows lt low.1 h.1,
)

module _ (p : Parts) (tests : List Test) (models : List NamedModel) (number : ℕ)
    (later : IsLaterNumber p.last number) (owed : ArePartsOf p tests models) where
  abbrev fresh : ℕ
  fresh = next_number p.last

  abbrev held : List (Option HeldModel)
  held = held_models p.table.models.items p.faults.items

  keys : map (model_id fresh) held ≡ map (λ r. r.id) p.table.models.items
  keys = held_keys_are fresh p.last p.table.models.items p.faults.items owed.built.faults

  each_held : length held ≡ length models
  each_held =
      sym (length-map held (model_id fresh))
      ∙ (ap (λ (l : List ℕ). length l) keys
      ∙ (length-map p.table.models.items (λ (r : ModelRow). r.id) ∙ owed.each_model))

  most : p.last ≤ number
  most = let lt : p.last < number = later.later in omega arith

  apart_keys : AreApart (map (model_id fresh) held)
  apart_keys = subst (λ (l : List ℕ). AreApart l) (sym keys) owed.numbered.models_apart

  low_keys : Each (λ n. n ≤ number) (map (model_id fresh) held)
  low_keys =
      subst (λ (l : List ℕ). Each (λ n. n ≤ number) l) (sym keys) (low_ids p.last number
      p.table.models.items most owed.numbered.models_low)

  pub now_dropped : (at : ℕ) → Each IsModelRead (remove models at)
      → AreApart (item_numbers (remove models at))
      → AreModelsNow p held (remove held at) (remove models at) number
  now_dropped at read numbers = record {
    without =
        λ of. content_removed held at of (subst (λ (l : List ℕ). AreApart l)
        (sym (held_ids_are p.last p.table.models.items p.faults.items owed.built.faults))
        owed.numbered.models_apart);
    were =
        were_removed p.last held at (held_were p.last p.table.models.items p.faults.items
        owed.built.faults);
    each = same_removed held models at each_held;
    apart =
        subst (λ (l : List ℕ). AreApart l) (sym (map-remove (model_id fresh) held at))
        (apart_removed (map (model_id fresh) held) at apart_keys);
    low =
        subst (λ (l : List ℕ). Each (λ n. n ≤ number) l) (sym (map-remove (model_id fresh) held at))
        (each_removed number (map (model_id fresh) held) at low_keys);
    read = read;
    numbers = numbers;
  }

  pub now_put : (at : ℕ) (model : NamedModel) → Each IsModelRead (put_at at model models)
      → AreApart (item_numbers (put_at at model models))
      → AreModelsNow p held (if nat_lt at (length held) then held else held ++ None ∷ [])
      (put_at at model models) number
  now_put at model read numbers = elim (leb_tells (suc at) (length held)) [
    | inl within ↦ rw within.0 (record {
      without = λ of. inl (refl, refl);
      were = held_were p.last p.table.models.items p.faults.items owed.built.faults;
      each = each_held ∙ sym (same_put models at model (omega (arith, within.1, each_held)));
      apart = apart_keys;
      low = low_keys;
      read = read;
      numbers = numbers;
    })
    | inr past ↦ rw past.0 (record {
      without = λ of. inl (content_pushed held of);
      were =
          were_pushed p.last held (held_were p.last p.table.models.items p.faults.items
          owed.built.faults);
      each =
          length-append held (None ∷ [])
          ∙ (ap (λ (n : ℕ). n + 1) each_held
          ∙ sym (more_put models at model (omega (arith, past.1, each_held))));
      apart =
          subst (λ (l : List ℕ). AreApart l) (sym pushed) (apart_pushed p.last fresh
          p.table.models.items (fresh_above p.last number later) owed.numbered.models_low
          owed.numbered.models_apart);
      low =
          subst (λ (l : List ℕ). Each (λ n. n ≤ number) l) (sym pushed) (low_pushed number fresh
          (map (λ (r : ModelRow). r.id) p.table.models.items) (fresh_most p.last number later)
          (low_ids p.last number p.table.models.items most owed.numbered.models_low));
      read = read;
      numbers = numbers;
    })
  ]
    where
      pushed : map (model_id fresh) (held ++ None ∷ [])
          ≡ map (λ r. r.id) p.table.models.items ++ fresh ∷ []
      pushed =
          map-append (model_id fresh) held (None ∷ []) ∙ ap (λ (l : List ℕ). l ++ fresh ∷ []) keys

-- ---- all edits

pub each_read : (ms : List NamedModel) → All IsModelRead ms → Each IsModelRead ms
each_read [] h = tt
each_read (m ∷ ms) h = (h 0 m (omega arith), each_read ms (λ k d lt. h (suc k) d (omega arith)))

-- of a model without fault each item uses names of those before it
ordered_in : (id : ℕ) (numbers : List ℕ) (is : List Item) (rd : Reading) → IsModelReading is rd
    → IsOrderedModel (reading_by id numbers rd)
ordered_in id numbers is (readings.Sound resolved used) read =
    ordered_items (arc_value resolved).items.items used.items
    (resolved_closed (map bare_item is) (arc_value resolved).items.items read.0.as_resolved)
    read.1
ordered_in id numbers is (readings.Faulty fault) read = tt

all_ordered : (rows : List ModelRow) (ms : List NamedModel) → Each IsModelRead ms
    → Each IsOrderedModel (readings_of rows ms)
all_ordered [] ms h = tt
all_ordered (r ∷ rows) [] h = tt
all_ordered (r ∷ rows) (m ∷ ms) h =
    (ordered_in r.id m.numbers.items m.text.items.items m.reading h.0, all_ordered rows ms h.1)

pub edits_keep : (p q : Parts) (tests : List Test) (models : List NamedModel) (r : Replacement)
    (number : ℕ) (e : EditedParts) → IsEdit p tests models r number e q
    → AreApart (item_numbers (models_with r models)) → All IsModelRead (models_with r models)
    → ArePartsOf q (tests_with r tests) (models_with r models)
edits_keep p q tests models (made.PutTest at test) number e edit numbers read =
    tests_keep p q tests models (made.PutTest at test) number e edit tt
edits_keep p q tests models (made.DropTest at) number e edit numbers read =
    tests_keep p q tests models (made.DropTest at) number e edit tt
edits_keep p q tests models (made.PutModel at model next) number (edited.PutTest to row names) edit
    numbers read = absurd edit.is_made
edits_keep p q tests models (made.PutModel at model next) number (edited.DropTest to) edit numbers
    read = absurd edit.is_made
edits_keep p q tests models (made.PutModel at model next) number (edited.Models m) edit numbers read
    =
    models_keep p q tests models (put_at at model models) _ number m edit.later edit.owed
    (now_put p tests models number edit.later edit.owed at model (each_read _ read) numbers)
    edit.is_made edit.committed.changes edit.committed.last
    (all_ordered q.table.models.items _ (each_read _ read))
edits_keep p q tests models (made.DropModel at) number (edited.PutTest to row names) edit numbers
    read = absurd edit.is_made
edits_keep p q tests models (made.DropModel at) number (edited.DropTest to) edit numbers read =
    absurd edit.is_made
edits_keep p q tests models (made.DropModel at) number (edited.Models m) edit numbers read =
    models_keep p q tests models (remove models at) _ number m edit.later edit.owed
    (now_dropped p tests models number edit.later edit.owed at (each_read _ read) numbers)
    edit.is_made edit.committed.changes edit.committed.last
    (all_ordered q.table.models.items _ (each_read _ read))

pub edits_go_on : (p q : Parts) (tests : List Test) (models : List NamedModel) (r : Replacement)
    (number : ℕ) (e : EditedParts) → IsEdit p tests models r number e q
    → AreApart (item_numbers (models_with r models)) → All IsModelRead (models_with r models)
    → (next later part of : ℕ)
    → IsPartAfter (written_state p tests models next) number
    (written_state q (tests_with r tests) (models_with r models) later) part of
edits_go_on p q tests models (made.PutTest at test) number e edit numbers read =
    tests_go_on p q tests models (made.PutTest at test) number e edit tt
edits_go_on p q tests models (made.DropTest at) number e edit numbers read =
    tests_go_on p q tests models (made.DropTest at) number e edit tt
edits_go_on p q tests models (made.PutModel at model next) number (edited.PutTest to row names) edit
    numbers read = absurd edit.is_made
edits_go_on p q tests models (made.PutModel at model next) number (edited.DropTest to) edit numbers
    read = absurd edit.is_made
edits_go_on p q tests models (made.PutModel at model next) number (edited.Models m) edit numbers
    read =
    models_go_on p q tests models (put_at at model models) _ number m edit.later edit.owed
    (now_put p tests models number edit.later edit.owed at model (each_read _ read) numbers)
    edit.is_made edit.committed.changes edit.committed.last
    (all_ordered q.table.models.items _ (each_read _ read))
edits_go_on p q tests models (made.DropModel at) number (edited.PutTest to row names) edit numbers
    read = absurd edit.is_made
edits_go_on p q tests models (made.DropModel at) number (edited.DropTest to) edit numbers read =
    absurd edit.is_made
edits_go_on p q tests models (made.DropModel at) number (edited.Models m) edit numbers read =
    models_go_on p q tests models (remove models at) _ number m edit.later edit.owed
    (now_dropped p tests models number edit.later edit.owed at (each_read _ read) numbers)
    edit.is_made edit.committed.changes edit.committed.last
    (all_ordered q.table.models.items _ (each_read _ read))
