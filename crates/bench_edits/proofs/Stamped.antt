-- An edit stamps the state with its number.
use Rattle.std.proofs.Common.{ℕ, suc, ◌<◌, ◌≡◌, ◌⊎◌, inl, inr, List, [], ◌∷◌, ◌++◌, length, map, Option, Some, None, slice_get, refl, sym, ap, subst, ◌∙◌, arith}
use Rattle.std.proofs.lemmas.Bool.Decides.{eqb_tells}
use Rattle.std.proofs.lemmas.List.{append-nil}
use Rattle.text_values.specs.declared.test.Test.{Test}
use Rattle.memo_core.specs.declared.keys.Kind.{Kind}
use Rattle.memo_core.specs.Step.{Has}
use Rattle.bench_items.specs.declared.items.SharedItem.{SharedItem}
use Rattle.bench_items.specs.Items.{RoleContent, held_history}
use Rattle.bench_items.specs.Naming.{SeenName}
use Rattle.bench_items.proofs.Naming.{grown_begins}
use Rattle.bench_texts.specs.Replacements.{tests_with, models_with}
use Rattle.bench_texts.specs.declared.model.NamedModel.{NamedModel}
use Rattle.bench_texts.specs.declared.replacement.Replacement.{Replacement}
use Rattle.bench_texts.specs.declared.replacement.Replacement.TheVariants as made
use Rattle.bench_nodes.specs.declared.table.ItemRow.{ItemRow}
use Rattle.bench_nodes.specs.declared.table.ModelRow.{ModelRow}
use Rattle.bench_slots.specs.Slots.{item_history}
use Rattle.bench_parts.specs.declared.parts.Parts.{Parts}
use Rattle.bench_parts.specs.Contents.{PartContent, role_part, item_content, part_history}
use Rattle.bench_parts.specs.Stamps.{next_number}
use Rattle.bench_parts.specs.Items.{ItemFact, part_after, AreItemsMade}
use Rattle.bench_parts.specs.Written.{WrittenModel, WrittenState, IsHere, Precedes, WrittenItemsGoOn, IsStamped}
use Rattle.bench_edits.specs.declared.edited.EditedParts.{EditedParts}
use Rattle.bench_edits.specs.declared.edited.EditedParts.TheVariants as edited
use Rattle.bench_edits.specs.declared.edited.ModelParts.{ModelParts}
use Rattle.bench_edits.specs.Edited.{AreModelsSame, AreModelsAfter, PutsModels}
use Rattle.bench_edits.specs.Laws.{IsEdit, AreModelsWritten, ItemsFollow}
use Rattle.bench_edits.specs.Owed.{ArePartsOf, item_numbers}
use Rattle.bench_edits.specs.Readings.{written_model, written_models, written_state, named_text, all_facts}
use Rattle.bench_edits.proofs.Facts.{all_numbers}
use Rattle.bench_edits.proofs.ModelEdits.{history_raised, edits_keep, edits_go_on}
use Rattle.bench_edits.proofs.Wholes.{number_is_listed, parts_whole}

-- ---- histories

history_held : (item : Option SharedItem) → held_history item ≡ part_history (role_part item)
history_held None = refl
history_held (Some s) = refl

history_is : (rows : List ItemRow) (roles : List (Option SharedItem)) (of : ℕ)
    → part_history (item_content rows roles of) ≡ item_history rows roles of
history_is [] roles of = refl
history_is (i ∷ is) [] of = refl
history_is (i ∷ is) (r ∷ rs) of = elim (eqb_tells i.number of) [
  | inl same ↦ rw same.0 (sym (history_held r))
  | inr other ↦ rw other.0 (history_is is rs of)
]

role_grows : (read : Option RoleContent) (before now : Option PartContent)
    → now ≡ part_after read before
    → (more : List SeenName) × (part_history now ≡ part_history before ++ more)
role_grows None before now e = ([], ap part_history e ∙ sym (append-nil (part_history before)))
role_grows (Some role) before now e =
    let g = grown_begins (part_history before) role in (g.0, ap part_history e ∙ g.1)

-- what an item is read to be adds names at the end of its history
items_grow : (fresh : ℕ) (rows : List ItemRow) (roles : List (Option SharedItem))
    (texts : ℕ → Option PartContent) (facts : List ItemFact) (new : List ItemRow)
    (does : List (Option SharedItem)) (kinds : List (Option Kind))
    → AreItemsMade fresh rows roles texts facts new does kinds
    → (of : ℕ) → Has (map (λ f. f.number) facts) of
    → (more : List SeenName) × (item_history new does of ≡ item_history rows roles of ++ more)
items_grow fresh rows roles texts [] new does kinds h of has = absurd has
items_grow fresh rows roles texts (f ∷ fs) [] rs ks h of has = absurd h
items_grow fresh rows roles texts (f ∷ fs) (i ∷ is) [] ks h of has = absurd h
items_grow fresh rows roles texts (f ∷ fs) (i ∷ is) (r ∷ rs) [] h of has = absurd h
items_grow fresh rows roles texts (f ∷ fs) (i ∷ is) (r ∷ rs) (k ∷ ks) h of has =
    elim (eqb_tells i.number of) [
      | inl same ↦ (
          let own : f.number ≡ of = sym h.0.number_is ∙ same.1 in
          let g = role_grows f.role (item_content rows roles f.number) (role_part r) h.0.role_is in
          let was : part_history (item_content rows roles f.number) ≡ item_history rows roles of = history_is rows roles f.number ∙ ap (item_history rows roles) own in
          rw same.0 (g.0, history_held r ∙ g.1 ∙ ap (λ (l : List SeenName). l ++ g.0) was))
      | inr other ↦ rw other.0 (items_grow fresh rows roles texts fs is rs ks h.2 of
          (later has (λ e. other.1 (h.0.number_is ∙ e))))
    ]
  where
    later : Has (map (λ f. f.number) (f ∷ fs)) of → (f.number ≡ of → ⊥)
        → Has (map (λ f. f.number) fs) of
    later (inl e) unlike = absurd (unlike e)
    later (inr has) unlike = has

module _ (p q : Parts) (of : ℕ) where
  abbrev Grows : Type 0
  Grows =
      (more : List SeenName)
      × (item_history q.table.items.items q.roles.items of
      ≡ item_history p.table.items.items p.roles.items of ++ more)

  same_history : AreModelsSame p q → Grows
  same_history same = (
    [],
    rw (same.items, same.roles) (sym (append-nil
        (item_history p.table.items.items p.roles.items of))),
  )

  models_history : (models : List NamedModel) (r : Replacement) (number : ℕ) (m : ModelParts)
      → AreModelsAfter p models r m → PutsModels p number m q
      → Has (item_numbers (models_with r models)) of → Grows
  models_history models r number m after puts has =
      let g = items_grow (next_number p.last) p.table.items.items p.roles.items (named_text models) (all_facts (models_with r models)) m.items.rows.items m.items.roles.items m.items.kinds.items after.items of (subst (λ (l : List ℕ). Has l of) (sym (all_numbers (models_with r models))) has) in (
        g.0,
        rw (puts.items, puts.roles) (ap (λ (h : ℕ → List SeenName). h of)
            (history_raised p.last number m.items.rows.items m.items.roles.items)
            ∙ g.1),
      )

histories_grow : (p q : Parts) (tests : List Test) (models : List NamedModel) (r : Replacement)
    (number : ℕ) (e : EditedParts) → IsEdit p tests models r number e q → (of : ℕ)
    → Has (item_numbers (models_with r models)) of → Grows p q of
histories_grow p q tests models (made.PutTest at test) number (edited.PutTest to row names) edit of
    has = same_history p q of edit.committed.changes.models
histories_grow p q tests models (made.PutTest at test) number (edited.DropTest to) edit of has =
    absurd edit.is_made
histories_grow p q tests models (made.PutTest at test) number (edited.Models m) edit of has =
    absurd edit.is_made
histories_grow p q tests models (made.DropTest at) number (edited.PutTest to row names) edit of
    has = absurd edit.is_made
histories_grow p q tests models (made.DropTest at) number (edited.DropTest to) edit of has =
    same_history p q of edit.committed.changes.models
histories_grow p q tests models (made.DropTest at) number (edited.Models m) edit of has =
    absurd edit.is_made
histories_grow p q tests models (made.PutModel at model next) number (edited.PutTest to row names)
    edit of has = absurd edit.is_made
histories_grow p q tests models (made.PutModel at model next) number (edited.DropTest to) edit of
    has = absurd edit.is_made
histories_grow p q tests models (made.PutModel at model next) number (edited.Models m) edit of has =
    models_history p q of models (made.PutModel at model next) number m edit.is_made
    edit.committed.changes has
histories_grow p q tests models (made.DropModel at) number (edited.PutTest to row names) edit of
    has = absurd edit.is_made
histories_grow p q tests models (made.DropModel at) number (edited.DropTest to) edit of has =
    absurd edit.is_made
histories_grow p q tests models (made.DropModel at) number (edited.Models m) edit of has =
    models_history p q of models (made.DropModel at) number m edit.is_made edit.committed.changes
    has

-- ---- models as they are written

-- a model that is written is one of the models
written_was : (rows : List ModelRow) (ms : List NamedModel) (w : WrittenModel)
    → Has (written_models rows ms) w → (m : NamedModel) × Has ms m × (w.numbers ≡ m.numbers.items)
written_was [] ms w h = absurd h
written_was (r ∷ rows) [] w h = absurd h
written_was (r ∷ rows) (m ∷ ms) w (inl e) =
    (m, inl refl, ap (λ (v : WrittenModel). v.numbers) (sym e))
written_was (r ∷ rows) (m ∷ ms) w (inr h) =
    let was = written_was rows ms w h in (was.0, inr was.1, was.2)

-- and each of the models is written
written_is : (rows : List ModelRow) (ms : List NamedModel) (m : NamedModel)
    → length rows ≡ length ms → Has ms m
    → (w : WrittenModel) × Has (written_models rows ms) w × (w.numbers ≡ m.numbers.items)
written_is [] [] m e h = absurd h
written_is [] (n ∷ ms) m e h = absurd (omega arith)
written_is (r ∷ rows) [] m e h = absurd h
written_is (r ∷ rows) (n ∷ ms) m e (inl same) =
    (written_model r n, inl refl, ap (λ (k : NamedModel). k.numbers.items) same)
written_is (r ∷ rows) (n ∷ ms) m e (inr h) =
    let len : length rows ≡ length ms = omega arith in
    let is = written_is rows ms m len h in (is.0, inr is.1, is.2)

index_of : (ns : List ℕ) (n : ℕ) → Has ns n → (a : ℕ) × (slice_get ns a ≡ Some n)
index_of [] n h = absurd h
index_of (k ∷ ns) n (inl e) = (0, ap Some e)
index_of (k ∷ ns) n (inr h) = let found = index_of ns n h in (suc found.0, found.1)

split_has : (xs ys : List ℕ) (n : ℕ) → Has (xs ++ ys) n → Has xs n ⊎ Has ys n
split_has [] ys n h = inr h
split_has (x ∷ xs) ys n (inl e) = inl (inl e)
split_has (x ∷ xs) ys n (inr h) = elim (split_has xs ys n h) [ inl a ↦ inl (inr a) | inr b ↦ inr b ]

number_of : (ms : List NamedModel) (n : ℕ) → Has (item_numbers ms) n
    → (m : NamedModel) × Has ms m × Has m.numbers.items n
number_of [] n h = absurd h
number_of (m ∷ ms) n h = elim (split_has m.numbers.items (item_numbers ms) n h) [
  | inl own ↦ (m, inl refl, own)
  | inr later ↦ (let found = number_of ms n later in (found.0, inr found.1, found.2))
]

module _ (p : Parts) (tests : List Test) (ms : List NamedModel) (next : ℕ) where
  -- what is there as it is written is there
  here_has : (n : ℕ) → IsHere (written_state p tests ms next) n → Has (item_numbers ms) n
  here_has n here =
      number_is_listed p.table.models.items ms here.model here.index n here.there here.stands

  has_here : (n : ℕ) → ArePartsOf p tests ms → Has (item_numbers ms) n
      → IsHere (written_state p tests ms next) n
  has_here n owed has =
      let found = number_of ms n has in
      let at = index_of found.0.numbers.items n found.2 in
      let w = written_is p.table.models.items ms found.0 owed.each_model found.1 in
      record { model = w.0; index = at.0; there = w.1; stands = ap (λ (l : List ℕ). slice_get l at.0) w.2 ∙ at.1 }

-- ---- edits

module _ (p q : Parts) (tests : List Test) (models : List NamedModel) (r : Replacement) (number : ℕ)
    (e : EditedParts) (next later : ℕ) (edit : IsEdit p tests models r number e q)
    (written : AreModelsWritten (models_with r models) later)
    (follow : ItemsFollow models (models_with r models) next later) where
  kept : ArePartsOf q (tests_with r tests) (models_with r models)
  kept = edits_keep p q tests models r number e edit written.apart written.read

  abbrev after : WrittenState
  after = written_state q (tests_with r tests) (models_with r models) later

  stands_also : (xs ys : List ℕ) (k n : ℕ) → xs ≡ ys → slice_get ys k ≡ Some n
      → slice_get xs k ≡ Some n
  stands_also xs ys k n same h = ap (λ (l : List ℕ). slice_get l k) same ∙ h

  precedes : (m : NamedModel) (from to first second : ℕ) → Has (models_with r models) m
      → slice_get m.numbers.items from ≡ Some first → slice_get m.numbers.items to ≡ Some second
      → from < to → Precedes after first second
  precedes m from to first second there first_at second_at before =
      let w = written_is q.table.models.items (models_with r models) m kept.each_model there in
      record {
        model = w.0;
        from = from;
        to = to;
        there = w.1;
        first_at = stands_also w.0.numbers m.numbers.items from first w.2 first_at;
        second_at = stands_also w.0.numbers m.numbers.items to second w.2 second_at;
        before = before;
      }

  order_is : (first second : ℕ) → Precedes (written_state p tests models next) first second
      → IsHere after first → IsHere after second → Precedes after first second
  order_is first second before a b =
      let m = written_was p.table.models.items models before.model before.there in
      let o = follow.order m.0 before.from before.to first second m.1 (stands_also m.0.numbers.items before.model.numbers before.from first (sym m.2) before.first_at) (stands_also m.0.numbers.items before.model.numbers before.to second (sym m.2) before.second_at) before.before
      (here_has q (tests_with r tests) (models_with r models) later first a)
      (here_has q (tests_with r tests) (models_with r models) later second b) in
      precedes o.0 o.1 o.2 first second o.3 o.4 o.5 o.6

  items_go_on : WrittenItemsGoOn (written_state p tests models next) after
  items_go_on = record {
    order = order_is;
    numbers =
        λ n here. elim
        (follow.numbers n (here_has q (tests_with r tests) (models_with r models) later n here)) [
          | inl was ↦ inl (has_here p tests models next n edit.owed was)
          | inr new ↦ inr new
        ];
    next = follow.next;
    grown =
        λ n was here. histories_grow p q tests models r number e edit n
        (here_has q (tests_with r tests) (models_with r models) later n here);
  }

pub edits_stamped : (p q : Parts) (tests : List Test) (models : List NamedModel) (r : Replacement)
    (number : ℕ) (e : EditedParts) (next later : ℕ) → IsEdit p tests models r number e q
    → AreModelsWritten models next → AreModelsWritten (models_with r models) later
    → ItemsFollow models (models_with r models) next later
    → IsStamped (written_state p tests models next) number (written_state q (tests_with r tests)
    (models_with r models) later)
edits_stamped p q tests models r number e next later edit was written follow = record {
  above = edit.later.later;
  last = edit.committed.last;
  whole =
      λ whole. parts_whole q (tests_with r tests) (models_with r models) later
      (kept p q tests models r number e next later edit written follow) written;
  parts = edits_go_on p q tests models r number e edit written.apart written.read next later;
  items = items_go_on p q tests models r number e next later edit written follow;
}
