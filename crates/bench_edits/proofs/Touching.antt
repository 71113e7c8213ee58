-- What an edit of the parts touches.
use Rattle.std.proofs.Common.{◌≡◌, ◌⊎◌, inl, inr, ℕ, zero, suc, ◌≤◌, Bool, true, false, ◌==◌, List, [], ◌∷◌, length, map, remove, ◌-◌, Option, Some, None, slice_get, get_or, Vec, if◌then◌else◌, refl, ap, sym, ◌∙◌, subst, eq-eqb, arith}
use Rattle.std.specs.List.{AllByRecursion as Each}
use Rattle.std.specs.declared.alloc.Global.{Global}
use Rattle.std.proofs.lemmas.Bool.{cases_Bool}
use Rattle.std.proofs.lemmas.List.{length-map}
use Rattle.std.proofs.lemmas.Option.{same_Some}
use Rattle.text_values.specs.declared.test.Test.{Test}
use Rattle.memo_core.specs.declared.keys.Kind.{Kind}
use Rattle.memo_core.specs.declared.keys.Kind.TheVariants as kinds
use Rattle.memo_core.specs.declared.keys.Node.{Node}
use Rattle.memo_core.specs.Laws.{TouchesOnly}
use Rattle.memo_core.specs.Step.{Has}
use Rattle.bench_texts.specs.BenchTexts.{put_at}
use Rattle.bench_texts.specs.declared.model.NamedModel.{NamedModel}
use Rattle.bench_texts.specs.declared.replacement.Replacement.{Replacement}
use Rattle.bench_texts.specs.declared.replacement.Replacement.TheVariants as made
use Rattle.binding_graph.specs.declared.resolved.Role.{Role}
use Rattle.binding_graph.specs.declared.resolved.Role.TheVariants as roles
use Rattle.bench_nodes.specs.declared.table.ItemRow.{ItemRow}
use Rattle.bench_nodes.specs.declared.table.ModelRow.{ModelRow}
use Rattle.bench_nodes.specs.declared.table.Slot.{Slot}
use Rattle.bench_nodes.specs.declared.table.SlotKey.{SlotKey}
use Rattle.bench_nodes.specs.declared.table.TestRow.{TestRow}
use Rattle.bench_nodes.specs.Nodes.{item_stamp, fault_stamp, stamp_in, part_stamp, slot_keys, has_test_row, row_of, net_of}
use Rattle.bench_nodes.specs.Order.{HasOwnKeys, AreSlotsAlike}
use Rattle.bench_nodes.specs.Touched.{SlotRows, rows_of, touched_slots, keeps_inputs, is_node_kept, test_slots, nodes_of_tests, all_names}
use Rattle.bench_nodes.proofs.Lookups.{turned}
use Rattle.bench_nodes.proofs.Touching.{named, has_all_names, named_or_kept, IsNodeKept, models_touch, test_touches, same_node, kept_node, row_there, rows_same}
use Rattle.bench_slots.specs.Slots.{plain}
use Rattle.bench_slots.specs.Tables.{ModelReading, Sound, all_slots}
use Rattle.bench_parts.specs.Contents.{parts_state, PartsState, histories}
use Rattle.bench_parts.specs.Stamps.{raised}
use Rattle.bench_parts.specs.Built.{IsTestRow, AreTestRows}
use Rattle.bench_parts.specs.Items.{raised_item}
use Rattle.bench_parts.specs.Models.{raised_model}
use Rattle.bench_parts.specs.Tests.{TestEntry, IsRaisedRow}
use Rattle.bench_parts.specs.declared.parts.Parts.{Parts}
use Rattle.bench_parts.proofs.Stamping.{raised_low}
use Rattle.bench_parts.proofs.TestRows.{row_low}
use Rattle.bench_parts.proofs.Built.{built_valid}
use Rattle.bench_parts.proofs.BuiltSlots.{slot_inputs}
use Rattle.bench_edits.specs.declared.edited.EditedParts.{EditedParts}
use Rattle.bench_edits.specs.declared.edited.EditedParts.TheVariants as edited
use Rattle.bench_edits.specs.declared.edited.ModelParts.{ModelParts}
use Rattle.bench_edits.specs.Edited.{AreTestsSame, AreModelsSame, PutsTest, DropsTest, PutsModels, IsTestMade, ArePartsMade, entry_by, entry_at, test_id}
use Rattle.bench_edits.specs.Laws.{IsEdit}
use Rattle.bench_edits.specs.Readings.{readings_of}
use Rattle.bench_edits.specs.Kept.{IsKeptState}
use Rattle.bench_edits.specs.Touched.{rows_made, touched_nodes, dropped_nodes}
use Rattle.bench_edits.proofs.Origin.{HasKind, slots_by, space_there, item_keys_are, verdict_keys_are}

-- ---- slots of one kind and number have the same inputs

module _ (s : PartsState) (models : List ModelReading) (kept : IsKeptState s models) where
  abbrev all : List Slot
  all = s.parts.table.slots.items

  abbrev HasNone : Kind → ℕ → List SlotKey → Type 0
  HasNone kind of keys = kind ≡ kinds.Space → keys ≡ []

  no_space : (role : Role) (kind : Kind) → HasKind role kind → kind ≡ kinds.Space → ⊥
  no_space (roles.Group recursive bodies) kind h e = other (sym h ∙ e)
    where
      other : kinds.Group ≡ kinds.Space → ⊥
      other e = cc
  no_space (roles.Check check) kind h e = other (sym h ∙ e)
    where
      other : kinds.Check ≡ kinds.Space → ⊥
      other e = cc
  no_space roles.Silent kind h e = absurd h

  nones : Each (λ p. HasNone p.kind p.of p.inputs) (all_slots (histories s) models)
  nones =
      slots_by (histories s) HasNone models (λ id numbers items used there e. refl)
      (λ id numbers items used there i r kind inside found has e.
      absurd (no_space r.role kind has e))
      (λ m there e. absurd (not_verdict e))
    where
      not_verdict : kinds.Verdict ≡ kinds.Space → ⊥
      not_verdict e = cc

  space_keys_none : (id : ℕ) (numbers : List ℕ) (items : _) (used : List ℕ)
      → Has models (Sound id numbers items used) → slot_keys all kinds.Space 0 ≡ []
  space_keys_none id numbers items used there =
      slot_inputs HasNone all kinds.Space 0
      (subst (Each (λ p. HasNone p.kind p.of p.inputs)) (sym kept.built.slots) nones)
      (space_there models kept.models_apart kept.read (histories s) all kept.built.slots id numbers
      items used there) refl

  abbrev IsFirst : Kind → ℕ → List SlotKey → Type 0
  IsFirst kind of keys = slot_keys all kind of ≡ keys

  firsts : Each (λ p. IsFirst p.kind p.of p.inputs) (all_slots (histories s) models)
  firsts =
      slots_by (histories s) IsFirst models space_keys_none
      (λ id numbers items used there i r kind inside found has.
      item_keys_are models kept.models_apart kept.read (histories s) all kept.built.slots id numbers
      items used there i r kind inside found has)
      (λ m there. verdict_keys_are models kept.models_apart kept.read (histories s) all
      kept.built.slots m there)

  alike : (ss : List Slot) → Each (λ p. IsFirst p.kind p.of p.inputs) (map plain ss)
      → Each (λ p. HasNone p.kind p.of p.inputs) (map plain ss) → Each (HasOwnKeys all) ss
  alike [] f n = tt
  alike (x ∷ ss) f n = (record { keys = f.0; space = n.0 }, alike ss f.1 n.1)

  pub slots_alike : AreSlotsAlike all
  slots_alike =
      alike all (subst (Each (λ p. IsFirst p.kind p.of p.inputs)) (sym kept.built.slots) firsts)
      (subst (Each (λ p. HasNone p.kind p.of p.inputs)) (sym kept.built.slots) nones)

-- ---- rows under the number of an edit

item_raised : (last number n : ℕ) (is : List ItemRow)
    → item_stamp (map (raised_item last number) is) n ≡ raised last number (item_stamp is n)
item_raised last number n [] = sym (raised_low last number 0 (omega arith))
item_raised last number n (i ∷ is) = elim (cases_Bool (i.number == n)) [
  | inl e ↦ rw e refl
  | inr f ↦ rw f (item_raised last number n is)
]

fault_raised : (last number n : ℕ) (ms : List ModelRow)
    → fault_stamp (map (raised_model last number) ms) n ≡ raised last number (fault_stamp ms n)
fault_raised last number n [] = sym (raised_low last number 0 (omega arith))
fault_raised last number n (m ∷ ms) = elim (cases_Bool (m.id == n)) [
  | inl e ↦ rw e refl
  | inr f ↦ rw f (fault_raised last number n ms)
]

-- a stamp that is as it was is not raised
same_raised : (last number now was is : ℕ) → was ≤ last → was ≡ now → is ≡ raised last number now
    → is ≡ was
same_raised last number now was is low e h =
    h ∙ ap (raised last number) (sym e) ∙ raised_low last number was low

threads_raised : (last number k : ℕ) (ts : List ℕ)
    → get_or (map (raised last number) ts) k 0 ≡ raised last number (get_or ts k 0)
threads_raised last number k [] = sym (raised_low last number 0 (omega arith))
threads_raised last number zero (t ∷ ts) = refl
threads_raised last number (suc k) (t ∷ ts) = threads_raised last number k ts

row_raised : (last number : ℕ) (row new : TestRow) → IsRaisedRow last number row new → (part : ℕ)
    → stamp_in new part ≡ raised last number (stamp_in row part)
row_raised last number row new h part = elim (cases_Bool (part == 2)) [
  | inl e ↦ rw e h.condition
  | inr a ↦ elim (cases_Bool (part == 3)) [
    | inl e ↦ rw (a, e) h.observed
    | inr b ↦ elim (cases_Bool (part == 4)) [
      | inl e ↦ rw (a, b, e) h.locations
      | inr c ↦ elim (cases_Bool (part == 5)) [
        | inl e ↦ rw (a, b, c, e) h.init
        | inr d ↦ rw (a, b, c, d) (ap (λ (ts : List ℕ). get_or ts (part - 6) 0) h.threads
            ∙ threads_raised last number (part - 6) row.threads.items)
      ]
    ]
  ]
]

-- ---- rows of tests

-- the row that is found is as it was, or the new one in the place of the one before
put_here : (ts : List TestRow) (at : ℕ) (a new : TestRow) → slice_get ts at ≡ Some a → a.id ≡ new.id
    → (row_of (put_at at new ts) new.id ≡ row_of ts new.id)
    ⊎ ((row_of ts new.id ≡ Some a) × (row_of (put_at at new ts) new.id ≡ Some new))
put_here [] at a new h e = cc
put_here (t ∷ ts) zero a new h e =
    let is : t ≡ a = same_Some t a h in
    let old : (t.id == new.id) ≡ true = eq-eqb t.id new.id (ap (λ (x : TestRow). x.id) is ∙ e) in
    inr (rw old (ap Some is), rw (eq-eqb new.id new.id refl) refl)
put_here (t ∷ ts) (suc at) a new h e = elim (cases_Bool (t.id == new.id)) [
  | inl same ↦ inl (rw same refl)
  | inr other ↦ elim (put_here ts at a new h e) [
    | inl kept ↦ inl (rw other kept)
    | inr put ↦ inr (rw other put.0, rw other put.1)
  ]
]

put_other : (ts : List TestRow) (at m : ℕ) (new : TestRow) → (m == new.id) ≡ false
    → ((a : TestRow) → slice_get ts at ≡ Some a → a.id ≡ new.id)
    → row_of (put_at at new ts) m ≡ row_of ts m
put_other [] zero m new f same = rw (turned m new.id false f) refl
put_other [] (suc at) m new f same = rw (turned m new.id false f) refl
put_other (t ∷ ts) zero m new f same =
    let e : t.id ≡ new.id = same t refl in
    rw (turned m new.id false f) (rw e (rw (turned m new.id false f) refl))
put_other (t ∷ ts) (suc at) m new f same =
    ap (λ (o : Option TestRow). if t.id == m then Some t else o) (put_other ts at m new f same)

removed_other : (ts : List TestRow) (at m : ℕ) (a : TestRow) → slice_get ts at ≡ Some a
    → (m == a.id) ≡ false → row_of (remove ts at) m ≡ row_of ts m
removed_other [] at m a h f = cc
removed_other (t ∷ ts) zero m a h f =
    let is : t ≡ a = same_Some t a h in
    rw is (rw (turned m a.id false f) refl)
removed_other (t ∷ ts) (suc at) m a h f =
    ap (λ (o : Option TestRow). if t.id == m then Some t else o) (removed_other ts at m a h f)

removed_none : (ts : List TestRow) (at : ℕ) → slice_get ts at ≡ None → remove ts at ≡ ts
removed_none [] zero h = refl
removed_none [] (suc at) h = refl
removed_none (t ∷ ts) zero h = cc
removed_none (t ∷ ts) (suc at) h =
    ap (λ (l : List TestRow). t ∷ l) (removed_none ts at h)

-- the entry of a row that is there
record IsEntryOf (last : ℕ) (a : TestRow) (o : Option TestEntry) : Type 0 where
  entry : TestEntry
  is : o ≡ Some entry
  row : entry.row ≡ a
  stamps : IsTestRow last a entry.test

entry_there : (last : ℕ) (rs : List TestRow) (ts : List Test) (ls : List (Vec (List ℕ) Global))
    (at : ℕ) (a : TestRow) → AreTestRows last rs ts ls → slice_get rs at ≡ Some a
    → IsEntryOf last a (entry_by (slice_get rs at) (slice_get ts at) (slice_get ls at))
entry_there last [] ts ls at a h e = cc
entry_there last (r ∷ rs) [] ls at a h e = absurd h
entry_there last (r ∷ rs) (t ∷ ts) [] at a h e = absurd h
entry_there last (r ∷ rs) (t ∷ ts) (l ∷ ls) zero a h e =
    let is : r ≡ a = same_Some r a e in
    record {
      entry = record { row = r; test = t; locations = l.items };
      is = refl;
      row = is;
      stamps = subst (λ (x : TestRow). IsTestRow last x t) is h.0;
    }
entry_there last (r ∷ rs) (t ∷ ts) (l ∷ ls) (suc at) a h e = entry_there last rs ts ls at a h.1 e

-- ---- the edit

module _ {G : Type 0} (p q : Parts) (tests : List Test) (models : List NamedModel) (r : Replacement)
    (number : ℕ) (gives after : Node → G → Bool) where
  module _ (e : EditedParts) (edit : IsEdit p tests models r number e q) where
    low : (part of : ℕ) → part_stamp p.table part of ≤ p.last
    low =
        (built_valid (parts_state p tests) (readings_of p.table.models.items models)
        edit.owed.built).low

  models_by : (m : ModelParts) → IsEdit p tests models r number (edited.Models m) q
      → TouchesOnly (net_of p.table gives) (net_of q.table after) (touched_nodes p (edited.Models m))
  models_by m edit =
      let c : PutsModels p number m q = edit.committed.changes in
      models_touch p.table q.table gives after (rows_made m) c.tests.rows c.slots
      (λ n same. same_raised p.last number (item_stamp m.items.rows.items n)
      (item_stamp p.table.items.items n) (item_stamp q.table.items.items n)
      (low (edited.Models m) edit 0 n) same
      (ap (λ (is : List ItemRow). item_stamp is n) c.items
      ∙ item_raised p.last number n m.items.rows.items))
      (λ n same. same_raised p.last number (fault_stamp m.rows.items n)
      (fault_stamp p.table.models.items n) (fault_stamp q.table.models.items n)
      (low (edited.Models m) edit 1 n) same
      (ap (λ (ms : List ModelRow). fault_stamp ms n) c.rows
      ∙ fault_raised p.last number n m.rows.items))

  -- an edit that puts a test
  module _ (to at : ℕ) (test : Test) (row : TestRow) (locations : Vec (List ℕ) Global)
      (edit : IsEdit p tests models r number (edited.PutTest to row locations) q)
      (is_made : IsTestMade p tests to test row locations.items) where
    abbrev c : PutsTest p number to row locations q
    c = edit.committed.changes

    abbrev rows : List TestRow
    rows = p.table.tests.items

    entry : (a : TestRow) → slice_get rows to ≡ Some a → IsEntryOf p.last a (entry_at p tests to)
    entry a h = entry_there p.last rows tests p.locations.items to a edit.owed.built.tests h

    same_id : (a : TestRow) → slice_get rows to ≡ Some a → a.id ≡ row.id
    same_id a h =
        let e = entry a h in
        sym (is_made.made.id_is ∙ ap (test_id _) e.is ∙ ap (λ (x : TestRow). x.id) e.row)

    pub new_id : (a : TestRow) → slice_get rows to ≡ Some a → a.id ≡ c.new.id
    new_id a h = same_id a h ∙ sym c.raised.id_is

    other : (m : ℕ) → (m == row.id) ≡ false → row_of q.table.tests.items m ≡ row_of rows m
    other m f =
        ap (λ (ts : List TestRow). row_of ts m) c.rows
        ∙ put_other rows to m c.new (rw c.raised.id_is f) new_id

    raised_same : (a : TestRow) → slice_get rows to ≡ Some a → (part : ℕ)
        → stamp_in a part ≡ stamp_in row part → stamp_in c.new part ≡ stamp_in a part
    raised_same a h part e =
        let t = entry a h in
        same_raised p.last number (stamp_in row part) (stamp_in a part) (stamp_in c.new part)
        (row_low p.last a t.entry.test t.stamps part) e
        (row_raised p.last number row c.new c.raised part)

    threads_same : length c.new.threads.items ≡ length row.threads.items
    threads_same =
        ap (λ (ts : List ℕ). length ts) c.raised.threads
        ∙ length-map row.threads.items (raised p.last number)

    abbrev IsKept : Kind → ℕ → Type 0
    IsKept kind of =
        IsNodeKept p.table q.table gives after c.models.slots c.models.items c.models.rows kind
        row.id of

    module _ (kind : Kind) (of : ℕ)
        (there : (has_test_row rows row.id ≡ true) ⊎ (has_test_row q.table.tests.items row.id ≡ true))
      where
        as_before : row_of q.table.tests.items row.id ≡ row_of rows row.id → IsKept kind of
        as_before same =
            let e = rows_same rows q.table.tests.items row.id same in
            let is : has_test_row rows row.id ≡ true = elim there [ inl l ↦ l | inr h ↦ sym e ∙ h ] in
            record {
              was_there = is;
              is_there = e ∙ is;
              alike =
                  same_node p.table q.table gives after c.models.slots c.models.items c.models.rows
                  row.id same kind of;
            }

        put_in : (a : TestRow) → slice_get rows to ≡ Some a
            → keeps_inputs a row kind (slot_keys p.table.slots.items kind of) ≡ true
            → (row_of q.table.tests.items row.id ≡ row_of rows row.id)
            ⊎ ((row_of rows row.id ≡ Some a) × (row_of q.table.tests.items row.id ≡ Some c.new))
            → IsKept kind of
        put_in a h keeps found = elim found [
          | inl same ↦ as_before same
          | inr put ↦ record {
            was_there = row_there rows row.id a put.0;
            is_there = row_there q.table.tests.items row.id c.new put.1;
            alike =
                kept_node p.table q.table gives after c.models.slots c.models.items c.models.rows
                row.id a row c.new put.0 put.1 (raised_same a h) threads_same kind of keeps;
          }
        ]

        found : (a : TestRow) → slice_get rows to ≡ Some a
            → (row_of q.table.tests.items row.id ≡ row_of rows row.id)
            ⊎ ((row_of rows row.id ≡ Some a) × (row_of q.table.tests.items row.id ≡ Some c.new))
        found a h =
            subst
            (λ (ts : List TestRow). (row_of ts row.id ≡ row_of rows row.id)
            ⊎ ((row_of rows row.id ≡ Some a) × (row_of ts row.id ≡ Some c.new)))
            (sym c.rows)
            (subst
            (λ (m : ℕ). (row_of (put_at to c.new rows) m ≡ row_of rows m)
            ⊎ ((row_of rows m ≡ Some a) × (row_of (put_at to c.new rows) m ≡ Some c.new)))
            c.raised.id_is (put_here rows to a c.new h (new_id a h)))

        by_row : (o : Option TestRow) → slice_get rows to ≡ o
            → is_node_kept o row kind (slot_keys p.table.slots.items kind of) ≡ true → IsKept kind of
        by_row None h keeps = cc
        by_row (Some a) h keeps = put_in a h keeps (found a h)

    test_by : TouchesOnly (net_of p.table gives) (net_of q.table after)
        (touched_nodes p (edited.PutTest to row locations))
    test_by =
        test_touches p.table q.table gives after c.models.slots c.models.items c.models.rows row.id
        (test_slots (slice_get rows to) row p.table.slots.items) other
        (λ kind of there has. elim
        (named_or_kept (slice_get rows to) row p.table.slots.items kind of has) [
          | inl named ↦ inl named
          | inr keeps ↦ inr (by_row kind of there (slice_get rows to) refl keeps)
        ])

  -- an edit that drops one
  module _ (to : ℕ) (edit : IsEdit p tests models r number (edited.DropTest to) q) where
    abbrev d : DropsTest p to q
    d = edit.committed.changes

    abbrev Touches : List Node → Type 0
    Touches ns = TouchesOnly (net_of p.table gives) (net_of q.table after) ns

    drop_by : (o : Option TestRow) → slice_get p.table.tests.items to ≡ o
        → Touches (dropped_nodes o p.table.slots.items)
    drop_by None h =
        let same : q.table.tests.items ≡ p.table.tests.items = d.rows ∙ removed_none p.table.tests.items to h in
        test_touches p.table q.table gives after d.models.slots d.models.items d.models.rows 0 []
        (λ m f. ap (λ (ts : List TestRow). row_of ts m) same)
        (λ kind of there has.
        let row = ap (λ (ts : List TestRow). row_of ts 0) same in
        let e = rows_same p.table.tests.items q.table.tests.items 0 row in
        let is : has_test_row p.table.tests.items 0 ≡ true = elim there [ inl l ↦ l | inr h ↦ sym e ∙ h ] in
        inr (record {
          was_there = is;
          is_there = e ∙ is;
          alike =
              same_node p.table q.table gives after d.models.slots d.models.items d.models.rows 0
              row kind of;
        }))
    drop_by (Some a) h =
        test_touches p.table q.table gives after d.models.slots d.models.items d.models.rows a.id
        (all_names p.table.slots.items)
        (λ m f. ap (λ (ts : List TestRow). row_of ts m) d.rows
        ∙ removed_other p.table.tests.items to m a h f)
        (λ kind of there has. inl (has_all_names p.table.slots.items kind of has))

  -- an edit touches the nodes that are named for it alone
  pub edit_touches : (e : EditedParts) → IsEdit p tests models r number e q
      → TouchesOnly (net_of p.table gives) (net_of q.table after) (touched_nodes p e)
  edit_touches (edited.PutTest to row locations) edit = put_by r edit.is_made
    where
      put_by : (r : Replacement) → ArePartsMade p tests models r (edited.PutTest to row locations)
          → TouchesOnly (net_of p.table gives) (net_of q.table after)
          (touched_nodes p (edited.PutTest to row locations))
      put_by (made.PutTest at test) m =
          test_by to at test row locations edit
          (subst (λ (i : ℕ). IsTestMade p tests i test row locations.items) (sym m.0) m.1)
      put_by (made.DropTest at) m = absurd m
      put_by (made.PutModel at model next) m = absurd m
      put_by (made.DropModel at) m = absurd m
  edit_touches (edited.DropTest to) edit = drop_by to edit (slice_get p.table.tests.items to) refl
  edit_touches (edited.Models m) edit = models_by m edit

abbrev rows_with : List Slot → List ItemRow → List ModelRow → SlotRows
rows_with ss is ms = record { slots = ss; items = is; models = ms }

same_slot_rows : (p q : Parts) → AreModelsSame p q → rows_of q.table ≡ rows_of p.table
same_slot_rows p q m =
    ap (λ (ss : List Slot). rows_with ss q.table.items.items q.table.models.items) m.slots
    ∙ ap (λ (is : List ItemRow). rows_with p.table.slots.items is q.table.models.items) m.items
    ∙ ap (λ (ms : List ModelRow). rows_with p.table.slots.items p.table.items.items ms) m.rows

-- parts that are the same are touched alike
pub same_touched : (p q : Parts) (e : EditedParts) → AreTestsSame p q → AreModelsSame p q
    → touched_nodes q e ≡ touched_nodes p e
same_touched p q (edited.PutTest at row locations) t m = rw (t.rows, m.slots) refl
same_touched p q (edited.DropTest at) t m = rw (t.rows, m.slots) refl
same_touched p q (edited.Models made) t m =
    ap (λ (r : SlotRows). nodes_of_tests (touched_slots r (rows_made made)) q.table.tests.items)
    (same_slot_rows p q m)
    ∙ ap (nodes_of_tests (touched_slots (rows_of p.table) (rows_made made))) t.rows
