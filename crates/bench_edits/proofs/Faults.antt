-- Equal items and faults keep their stamps.
use Rattle.std.proofs.Common.{◌≡◌, ◌≢◌, ℕ, zero, suc, ◌<◌, ◌≤◌, inl, inr, List, [], ◌∷◌, ◌++◌, length, map, Option, Some, None, nat_lt, if◌then◌else◌, refl, sym, ap, subst, ◌∙◌, eq-eqb, ne_eqb, arith}
use Rattle.std.specs.List.{AllByRecursion as Each, remove}
use Rattle.std.proofs.lemmas.Bool.Decides.{eqb_tells, leb_tells}
use Rattle.text_values.specs.declared.test.Test.{Test}
use Rattle.binding_kinds.specs.declared.fault.ModelFault.{ModelFault}
use Rattle.memo_core.specs.Step.{Has}
use Rattle.bench_texts.specs.BenchTexts.{put_at}
use Rattle.bench_texts.specs.Replacements.{tests_with, models_with}
use Rattle.bench_texts.specs.declared.model.NamedModel.{NamedModel}
use Rattle.bench_texts.specs.declared.replacement.Replacement.{Replacement}
use Rattle.bench_texts.specs.declared.replacement.Replacement.TheVariants as made
use Rattle.bench_items.specs.declared.items.SharedItem.{SharedItem}
use Rattle.bench_nodes.specs.declared.table.ModelRow.{ModelRow}
use Rattle.bench_nodes.specs.declared.table.ItemRow.{ItemRow}
use Rattle.bench_nodes.specs.Nodes.{item_stamp, fault_stamp}
use Rattle.bench_parts.specs.declared.parts.Parts.{Parts}
use Rattle.bench_parts.specs.Contents.{PartContent, OfRole, parts_state, item_content, fault_part, fault_content}
use Rattle.bench_parts.specs.declared.model_rows.HeldModel.{HeldModel}
use Rattle.bench_parts.specs.TableLaws.{WasModelRow}
use Rattle.bench_parts.specs.Stamps.{IsLaterNumber, next_number, raised, IsStampOf}
use Rattle.bench_parts.specs.Models.{raised_model}
use Rattle.bench_parts.specs.Written.{EqualPartsKeepStamps}
use Rattle.bench_parts.proofs.Stamping.{raised_low}
use Rattle.bench_parts.proofs.ModelRows.{fault_low}
use Rattle.bench_parts.proofs.Histories.{histories_go_on}
use Rattle.bench_parts.proofs.ItemRows.{items_keep_stamps}
use Rattle.bench_edits.specs.declared.edited.EditedParts.{EditedParts}
use Rattle.bench_edits.specs.declared.edited.EditedParts.TheVariants as edited
use Rattle.bench_edits.specs.declared.edited.ModelParts.{ModelParts}
use Rattle.bench_edits.specs.Edited.{held_models, AreModelsMade, AreModelsSame, AreModelsAfter, PutsModels}
use Rattle.bench_edits.specs.Laws.{IsEdit}
use Rattle.bench_edits.specs.Owed.{ArePartsOf}
use Rattle.bench_text_laws.specs.Orderly.{AreApart}
use Rattle.bench_edits.specs.Readings.{fault_in, named_text, written_state, all_facts}
use Rattle.bench_edits.proofs.PutModels.{held_content, held_stamp, held_ids, held_is, held_ids_are, held_were, content_pushed, were_pushed, were_removed}
use Rattle.bench_edits.proofs.TestEdits.{fresh_above}
use Rattle.bench_edits.specs.BenchCells.{EqualItemsKeepNames}
use Rattle.bench_edits.proofs.Facts.{all_said, texts_are}
use Rattle.bench_edits.proofs.ItemKinds.{items_after}

none_is : {A : Type 0} {a : A} → None ≡ Some a → ⊥
none_is e = cc

-- a part that holds what it held keeps its stamp
pub kept_stamp : (last number was stamp : ℕ) (before now : Option PartContent) (c : PartContent)
    → was ≤ last → IsStampOf (next_number last) before was now stamp → before ≡ Some c
    → now ≡ Some c → raised last number stamp ≡ was
kept_stamp last number was stamp before None c low h b n = absurd (none_is n)
kept_stamp last number was stamp before (Some d) c low h b n = elim h [
  | inl same ↦ ap (raised last number) same.1 ∙ raised_low last number was low
  | inr other ↦ absurd (other.0 (b ∙ sym n))
]

-- ---- what models held

abbrev fault_of : NamedModel → Option ModelFault
fault_of m = fault_in m.reading

held_has : (hs : List (Option HeldModel)) (of : ℕ) (c : PartContent) → held_content hs of ≡ Some c
    → Has (held_ids hs) of
held_has [] of c = λ e. absurd (none_is e)
held_has (None ∷ hs) of c = held_has hs of c
held_has (Some h ∷ hs) of c = elim (eqb_tells h.row.id of) [
  | inl same ↦ λ e. inl same.1
  | inr other ↦ rw other.0 (λ e. inr (held_has hs of c e))
]

low_of : (last : ℕ) (ns : List ℕ) (n : ℕ) → Each (λ k. k ≤ last) ns → Has ns n → n ≤ last
low_of last [] n low has = absurd has
low_of last (k ∷ ns) n low (inl e) = let l : k ≤ last = low.0 in omega (arith, l, e)
low_of last (k ∷ ns) n low (inr has) = low_of last ns n low.1 has

module _ (last number : ℕ) (later : IsLaterNumber last number) where
  abbrev now : ModelRow → ModelRow
  now r = raised_model last number r

  -- a new model has a number above all that were there
  not_new : {P : Type 0} (of : ℕ) (r : ModelRow) → r.id ≡ next_number last → r.id ≡ of → of ≤ last
      → P
  not_new of r e same le =
      let above : last < next_number last = fresh_above last number later in
      absurd (omega (arith, above, e, same, le))

  faults_kept : (hs : List (Option HeldModel)) (ms : List NamedModel) (rs : List ModelRow)
      → Each (WasModelRow last) hs → Each (λ n. n ≤ last) (held_ids hs)
      → AreModelsMade (next_number last) hs ms rs → (of : ℕ) (c : PartContent)
      → held_content hs of ≡ Some c → fault_content (map now rs) (map fault_of ms) of ≡ Some c
      → fault_stamp (map now rs) of ≡ held_stamp hs of
  faults_kept [] ms rs were low h of c = λ was is. absurd (none_is was)
  faults_kept (b ∷ hs) [] [] were low h of c = λ was is. absurd (none_is is)
  faults_kept (b ∷ hs) [] (r ∷ rs) were low h of c = absurd h
  faults_kept (b ∷ hs) (m ∷ ms) [] were low h of c = absurd h
  faults_kept (None ∷ hs) (m ∷ ms) (r ∷ rs) were low h of c = elim (eqb_tells r.id of) [
    | inl same ↦ λ was is.
        not_new of r h.0.id_is same.1 (low_of last (held_ids hs) of low (held_has hs of c was))
    | inr other ↦ rw other.0 (λ was is. faults_kept hs ms rs were.1 low h.1 of c was is)
  ]
  faults_kept (Some b ∷ hs) (m ∷ ms) (r ∷ rs) were low h of c = elim (eqb_tells r.id of) [
    | inl same ↦ let e : b.row.id ≡ of = sym h.0.id_is ∙ same.1 in
        rw (same.0, eq-eqb b.row.id of e) (λ was is. kept_stamp last number b.row.stamp r.stamp
        (fault_part b.fault) (fault_part (fault_of m)) c (fault_low last (Some b) were.0)
        h.0.stamp was is)
    | inr other ↦
        let e : b.row.id ≢ of = λ k. other.1 (h.0.id_is ∙ k) in
        rw (other.0, ne_eqb b.row.id of e) (λ was is.
        faults_kept hs ms rs were.1 low.1 h.1 of c was is)
  ]

  -- a model that has a fault after the edit, under a number of before, was there
  made_has : (hs : List (Option HeldModel)) (ms : List NamedModel) (rs : List ModelRow)
      → AreModelsMade (next_number last) hs ms rs → (of : ℕ) (c : PartContent) → of ≤ last
      → fault_content (map now rs) (map fault_of ms) of ≡ Some c → Has (held_ids hs) of
  made_has hs [] [] h of c le = λ e. absurd (none_is e)
  made_has hs [] (r ∷ rs) h of c le = absurd h
  made_has hs (m ∷ ms) [] h of c le = absurd h
  made_has [] (m ∷ ms) (r ∷ rs) h of c le = elim (eqb_tells r.id of) [
    | inl same ↦ λ e. not_new of r h.0.id_is same.1 le
    | inr other ↦ rw other.0 (λ e. made_has [] ms rs h.1 of c le e)
  ]
  made_has (None ∷ hs) (m ∷ ms) (r ∷ rs) h of c le = elim (eqb_tells r.id of) [
    | inl same ↦ λ e. not_new of r h.0.id_is same.1 le
    | inr other ↦ rw other.0 (λ e. made_has hs ms rs h.1 of c le e)
  ]
  made_has (Some b ∷ hs) (m ∷ ms) (r ∷ rs) h of c le = elim (eqb_tells r.id of) [
    | inl same ↦ λ e. inl (sym h.0.id_is ∙ same.1)
    | inr other ↦ rw other.0 (λ e. inr (made_has hs ms rs h.1 of c le e))
  ]

pushed_ids : (hs : List (Option HeldModel)) → held_ids (hs ++ None ∷ []) ≡ held_ids hs
pushed_ids [] = refl
pushed_ids (None ∷ hs) = pushed_ids hs
pushed_ids (Some h ∷ hs) = ap (λ (l : List ℕ). h.row.id ∷ l) (pushed_ids hs)

removed_content : (hs : List (Option HeldModel)) (at of : ℕ) → AreApart (held_ids hs)
    → Has (held_ids (remove hs at)) of
    → (held_content (remove hs at) of ≡ held_content hs of)
    × (held_stamp (remove hs at) of ≡ held_stamp hs of)
removed_content [] zero of apart has = absurd has
removed_content [] (suc at) of apart has = absurd has
removed_content (None ∷ hs) zero of apart has = (refl, refl)
removed_content (None ∷ hs) (suc at) of apart has = removed_content hs at of apart has
removed_content (Some h ∷ hs) zero of apart has =
    let other : h.row.id ≢ of = λ e. apart.0 (subst (λ (n : ℕ). Has (held_ids hs) n) (sym e) has) in
    rw (ne_eqb h.row.id of other) (refl, refl)
removed_content (Some h ∷ hs) (suc at) of apart has = elim (eqb_tells h.row.id of) [
  | inl same ↦ rw same.0 (refl, refl)
  | inr other ↦ rw other.0 (removed_content hs at of apart.1
      (elim has [ inl e ↦ absurd (other.1 e) | inr k ↦ k ]))
]

removed_low : (last : ℕ) (hs : List (Option HeldModel)) (at : ℕ)
    → Each (λ n. n ≤ last) (held_ids hs) → Each (λ n. n ≤ last) (held_ids (remove hs at))
removed_low last [] zero h = tt
removed_low last [] (suc at) h = tt
removed_low last (None ∷ hs) zero h = h
removed_low last (None ∷ hs) (suc at) h = removed_low last hs at h
removed_low last (Some b ∷ hs) zero h = h.1
removed_low last (Some b ∷ hs) (suc at) h = (h.0, removed_low last hs at h.1)

low_ids : (last : ℕ) (rows : List ModelRow) → Each (λ r. r.id ≤ last) rows
    → Each (λ n. n ≤ last) (map (λ r. r.id) rows)
low_ids last [] h = tt
low_ids last (r ∷ rows) h = (h.0, low_ids last rows h.1)

-- ---- after an edit

module _ (p q : Parts) (tests : List Test) (models : List NamedModel) (number : ℕ)
    (later : IsLaterNumber p.last number) (owed : ArePartsOf p tests models) where
  abbrev held : List (Option HeldModel)
  held = held_models p.table.models.items p.faults.items

  were : Each (WasModelRow p.last) held
  were = held_were p.last p.table.models.items p.faults.items owed.built.faults

  ids : held_ids held ≡ map (λ r. r.id) p.table.models.items
  ids = held_ids_are p.last p.table.models.items p.faults.items owed.built.faults

  low : Each (λ n. n ≤ p.last) (held_ids held)
  low =
      subst (λ (l : List ℕ). Each (λ n. n ≤ p.last) l) (sym ids) (low_ids p.last
      p.table.models.items owed.numbered.models_low)

  -- what is made of these models keeps the stamps of equal faults
  abbrev Keeps : List (Option HeldModel) → List NamedModel → List ModelRow → Type 0
  Keeps hs ms rs =
      (of : ℕ) (c : PartContent) → held_content held of ≡ Some c
      → fault_content (map (raised_model p.last number) rs) (map fault_of ms) of ≡ Some c
      → fault_stamp (map (raised_model p.last number) rs) of ≡ held_stamp held of

  same_kept : (ms : List NamedModel) (rs : List ModelRow)
      → AreModelsMade (next_number p.last) held ms rs → Keeps held ms rs
  same_kept ms rs h = faults_kept p.last number later held ms rs were low h

  pushed_kept : (ms : List NamedModel) (rs : List ModelRow)
      → AreModelsMade (next_number p.last) (held ++ None ∷ []) ms rs
      → Keeps (held ++ None ∷ []) ms rs
  pushed_kept ms rs h of c was is =
      let same = content_pushed held of in
      faults_kept p.last number later (held ++ None ∷ []) ms rs (were_pushed p.last held were)
      (subst (λ (l : List ℕ). Each (λ n. n ≤ p.last) l) (sym (pushed_ids held)) low) h of c
      (same.0 ∙ was) is ∙ same.1

  removed_kept : (at : ℕ) (ms : List NamedModel) (rs : List ModelRow)
      → AreModelsMade (next_number p.last) (remove held at) ms rs → Keeps (remove held at) ms rs
  removed_kept at ms rs h of c was is =
      let le : of ≤ p.last = low_of p.last (held_ids held) of low (held_has held of c was) in
      let there : Has (held_ids (remove held at)) of = made_has p.last number later (remove held at) ms rs h of c le is in
      let same = removed_content held at of (subst (λ (l : List ℕ). AreApart l) (sym ids) owed.numbered.models_apart) there in
      faults_kept p.last number later (remove held at) ms rs (were_removed p.last held at were)
      (removed_low p.last held at low) h of c (same.0 ∙ was) is ∙ same.1

  put_kept : (at : ℕ) (ms : List NamedModel) (rs : List ModelRow)
      → AreModelsMade (next_number p.last)
      (if nat_lt at (length held) then held else held ++ None ∷ []) ms rs → Keeps held ms rs
  put_kept at ms rs = elim (leb_tells (suc at) (length held)) [
    | inl within ↦ rw within.0 (λ h. same_kept ms rs h)
    | inr past ↦ rw past.0 (λ h. pushed_kept ms rs h)
  ]

  model_faults : (next later : ℕ) (after : List Test) (ms : List NamedModel) (m : ModelParts)
      → m.faults.items ≡ map fault_of ms → PutsModels p number m q → Keeps held ms m.rows.items
      → EqualPartsKeepStamps (written_state p tests models next) (written_state q after ms later) 1
  model_faults next later after ms m faults puts keeps of c =
      let was = held_is p.last p.table.models.items p.faults.items owed.built.faults of in
      rw (puts.rows, puts.faults, faults) (subst
      (λ (k : ℕ). fault_content p.table.models.items p.faults.items of ≡ Some c
      → fault_content (map (raised_model p.last number) m.rows.items) (map fault_of ms) of
      ≡ Some c → fault_stamp (map (raised_model p.last number) m.rows.items) of ≡ k)
      was.1
      (λ w i. keeps of c (was.0 ∙ w) i))

module _ (p q : Parts) (tests after : List Test) (models ms : List NamedModel) (next later : ℕ)
    (same : AreModelsSame p q) where
  same_faults : EqualPartsKeepStamps (written_state p tests models next)
      (written_state q after ms later) 1
  same_faults of c was is = ap (λ (l : List ModelRow). fault_stamp l of) same.rows

  same_items : EqualPartsKeepStamps (written_state p tests models next)
      (written_state q after ms later) 0
  same_items of c was is = ap (λ (l : List ItemRow). item_stamp l of) same.items

module _ (p q : Parts) (tests : List Test) (models : List NamedModel) (r : Replacement) (number : ℕ)
    (m : ModelParts) (next later : ℕ) (edit : IsEdit p tests models r number (edited.Models m) q)
    (after : AreModelsAfter p models r m)
    (owed : ArePartsOf q (tests_with r tests) (models_with r models)) where
  model_items : EqualPartsKeepStamps (written_state p tests models next)
      (written_state q (tests_with r tests) (models_with r models) later) 0
  model_items of c was is =
      items_keep_stamps p.last number p.table.items.items q.table.items.items p.roles.items
      q.roles.items (named_text models) q.kinds.items (all_facts (models_with r models))
      (items_after p q tests models r number m edit after) of c
      (sym (texts_are p.table.models.items models of (edit.owed).each_model) ∙ was)
      (all_said (models_with r models) of
      ∙ sym (texts_are q.table.models.items (models_with r models) of owed.each_model) ∙ is)

-- an item that says what it said, and a model that has the fault that it had, have their stamps of
-- before
abbrev pub AreStampsLeft : ℕ → Type 0
AreStampsLeft part =
    (p q : Parts) (tests : List Test) (models : List NamedModel) (r : Replacement) (number : ℕ)
    (e : EditedParts) (next later : ℕ) → IsEdit p tests models r number e q
    → ArePartsOf q (tests_with r tests) (models_with r models)
    → EqualPartsKeepStamps (written_state p tests models next)
    (written_state q (tests_with r tests) (models_with r models) later) part

pub items_left : AreStampsLeft 0
items_left p q tests models (made.PutTest at test) number (edited.PutTest to row names) next later
    edit owed =
    same_items p q tests (put_at at test tests) models models next later
    edit.committed.changes.models
items_left p q tests models (made.PutTest at test) number (edited.DropTest to) next later edit
    owed = absurd edit.is_made
items_left p q tests models (made.PutTest at test) number (edited.Models m) next later edit owed =
    absurd edit.is_made
items_left p q tests models (made.DropTest at) number (edited.PutTest to row names) next later edit
    owed = absurd edit.is_made
items_left p q tests models (made.DropTest at) number (edited.DropTest to) next later edit owed =
    same_items p q tests (remove tests at) models models next later edit.committed.changes.models
items_left p q tests models (made.DropTest at) number (edited.Models m) next later edit owed =
    absurd edit.is_made
items_left p q tests models (made.PutModel at model fresh) number (edited.PutTest to row names) next
    later edit owed = absurd edit.is_made
items_left p q tests models (made.PutModel at model fresh) number (edited.DropTest to) next later
    edit owed = absurd edit.is_made
items_left p q tests models (made.PutModel at model fresh) number (edited.Models m) next later edit
    owed =
    model_items p q tests models (made.PutModel at model fresh) number m next later edit
    edit.is_made owed
items_left p q tests models (made.DropModel at) number (edited.PutTest to row names) next later edit
    owed = absurd edit.is_made
items_left p q tests models (made.DropModel at) number (edited.DropTest to) next later edit owed =
    absurd edit.is_made
items_left p q tests models (made.DropModel at) number (edited.Models m) next later edit owed =
    model_items p q tests models (made.DropModel at) number m next later edit edit.is_made owed

pub faults_left : AreStampsLeft 1
faults_left p q tests models (made.PutTest at test) number (edited.PutTest to row names) next later
    edit owed =
    same_faults p q tests (put_at at test tests) models models next later
    edit.committed.changes.models
faults_left p q tests models (made.PutTest at test) number (edited.DropTest to) next later edit
    owed = absurd edit.is_made
faults_left p q tests models (made.PutTest at test) number (edited.Models m) next later edit owed =
    absurd edit.is_made
faults_left p q tests models (made.DropTest at) number (edited.PutTest to row names) next later edit
    owed = absurd edit.is_made
faults_left p q tests models (made.DropTest at) number (edited.DropTest to) next later edit owed =
    same_faults p q tests (remove tests at) models models next later edit.committed.changes.models
faults_left p q tests models (made.DropTest at) number (edited.Models m) next later edit owed =
    absurd edit.is_made
faults_left p q tests models (made.PutModel at model fresh) number (edited.PutTest to row names)
    next later edit owed = absurd edit.is_made
faults_left p q tests models (made.PutModel at model fresh) number (edited.DropTest to) next later
    edit owed = absurd edit.is_made
faults_left p q tests models (made.PutModel at model fresh) number (edited.Models m) next later edit
    owed =
    model_faults p q tests models number edit.later edit.owed next later tests
    (put_at at model models) m edit.is_made.faults edit.committed.changes (put_kept p q tests
    models number edit.later edit.owed at (put_at at model models) m.rows.items
    edit.is_made.rows)
faults_left p q tests models (made.DropModel at) number (edited.PutTest to row names) next later
    edit owed = absurd edit.is_made
faults_left p q tests models (made.DropModel at) number (edited.DropTest to) next later edit owed =
    absurd edit.is_made
faults_left p q tests models (made.DropModel at) number (edited.Models m) next later edit owed =
    model_faults p q tests models number edit.later edit.owed next later tests (remove models at) m
    edit.is_made.faults edit.committed.changes (removed_kept p q tests models number edit.later
    edit.owed at (remove models at) m.rows.items edit.is_made.rows)

-- ---- histories

same_names : (p q : Parts) (tests after : List Test) → AreModelsSame p q
    → EqualItemsKeepNames (parts_state p tests) (parts_state q after)
same_names p q tests after same of role history names was is =
    held_names (sym is
    ∙ (ap (λ (l : List ItemRow). item_content l q.roles.items of) same.items
    ∙ (ap (λ (l : List (Option SharedItem)). item_content p.table.items.items l of)
    same.roles ∙ was)))
  where
    held_names : Some (OfRole role names) ≡ Some (OfRole role history) → names ≡ history
    held_names e = cc

model_names : (p q : Parts) (tests : List Test) (models : List NamedModel) (r : Replacement)
    (number : ℕ) (m : ModelParts) → IsEdit p tests models r number (edited.Models m) q
    → AreModelsAfter p models r m
    → EqualItemsKeepNames (parts_state p tests) (parts_state q (tests_with r tests))
model_names p q tests models r number m edit after of =
    (histories_go_on p.last number p.table.items.items q.table.items.items p.roles.items
    q.roles.items (named_text models) q.kinds.items (all_facts (models_with r models))
    (items_after p q tests models r number m edit after) of).same

pub names_left : (p q : Parts) (tests : List Test) (models : List NamedModel) (r : Replacement)
    (number : ℕ) (e : EditedParts) → IsEdit p tests models r number e q
    → EqualItemsKeepNames (parts_state p tests) (parts_state q (tests_with r tests))
names_left p q tests models (made.PutTest at test) number (edited.PutTest to row names) edit =
    same_names p q tests (put_at at test tests) edit.committed.changes.models
names_left p q tests models (made.PutTest at test) number (edited.DropTest to) edit =
    absurd edit.is_made
names_left p q tests models (made.PutTest at test) number (edited.Models m) edit =
    absurd edit.is_made
names_left p q tests models (made.DropTest at) number (edited.PutTest to row names) edit =
    absurd edit.is_made
names_left p q tests models (made.DropTest at) number (edited.DropTest to) edit =
    same_names p q tests (remove tests at) edit.committed.changes.models
names_left p q tests models (made.DropTest at) number (edited.Models m) edit = absurd edit.is_made
names_left p q tests models (made.PutModel at model next) number (edited.PutTest to row names)
    edit = absurd edit.is_made
names_left p q tests models (made.PutModel at model next) number (edited.DropTest to) edit =
    absurd edit.is_made
names_left p q tests models (made.PutModel at model next) number (edited.Models m) edit =
    model_names p q tests models (made.PutModel at model next) number m edit edit.is_made
names_left p q tests models (made.DropModel at) number (edited.PutTest to row names) edit =
    absurd edit.is_made
names_left p q tests models (made.DropModel at) number (edited.DropTest to) edit =
    absurd edit.is_made
names_left p q tests models (made.DropModel at) number (edited.Models m) edit =
    model_names p q tests models (made.DropModel at) number m edit edit.is_made
