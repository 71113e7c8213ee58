-- The rows of models after an edit of a model.
use Rattle.std.proofs.Common.{ℕ, zero, suc, ◌≡◌, ◌≢◌, ◌⊎◌, inl, inr, List, [], ◌∷◌, ◌++◌, length, map, Option, Some, None, refl, sym, ap, subst, ◌∙◌, if◌then◌else◌, ◌==◌, eq-eqb, ne_eqb, arith}
use Rattle.std.specs.List.{AllZip, AllByRecursion as Each, remove}
use Rattle.std.proofs.lemmas.Bool.Decides.{eqb_tells}
use Rattle.binding_kinds.specs.declared.fault.ModelFault.{ModelFault}
use Rattle.memo_core.specs.Step.{Has}
use Rattle.bench_texts.specs.declared.model.NamedModel.{NamedModel}
use Rattle.bench_nodes.specs.declared.table.ModelRow.{ModelRow}
use Rattle.bench_nodes.specs.Nodes.{fault_stamp}
use Rattle.bench_parts.specs.Built.{IsModelRow}
use Rattle.bench_parts.specs.Contents.{PartContent, fault_part, fault_content}
use Rattle.bench_parts.specs.declared.model_rows.HeldModel.{HeldModel}
use Rattle.bench_parts.specs.TableLaws.{WasModelRow}
use Rattle.bench_parts.specs.Stamps.{IsLaterNumber, IsPartNow, next_number, raised}
use Rattle.bench_parts.specs.Models.{fault_by, fault_stamp_by, raised_model}
use Rattle.bench_parts.proofs.Stamping.{part_now}
use Rattle.bench_parts.proofs.ModelRows.{fault_low, model_stamped}
use Rattle.bench_edits.specs.Edited.{held_models, model_id, rest_of, IsModelMade, AreModelsMade}
use Rattle.bench_text_laws.specs.Orderly.{AreApart}
use Rattle.bench_edits.specs.Readings.{fault_in}

-- ---- what models were

-- the fault of the model of that number, and its stamp
abbrev pub held_content : List (Option HeldModel) → ℕ → Option PartContent
held_content [] of = None
held_content (None ∷ hs) of = held_content hs of
held_content (Some h ∷ hs) of = if h.row.id == of then fault_part h.fault else held_content hs of

abbrev pub held_stamp : List (Option HeldModel) → ℕ → ℕ
held_stamp [] of = 0
held_stamp (None ∷ hs) of = held_stamp hs of
held_stamp (Some h ∷ hs) of = if h.row.id == of then h.row.stamp else held_stamp hs of

-- the numbers of the models that were there
abbrev pub held_ids : List (Option HeldModel) → List ℕ
held_ids [] = []
held_ids (None ∷ hs) = held_ids hs
held_ids (Some h ∷ hs) = h.row.id ∷ held_ids hs

pub held_is : (last : ℕ) (rows : List ModelRow) (faults : List (Option ModelFault))
    → AllZip (IsModelRow last) rows faults → (of : ℕ)
    → (held_content (held_models rows faults) of ≡ fault_content rows faults of)
    × (held_stamp (held_models rows faults) of ≡ fault_stamp rows of)
held_is last [] [] h of = (refl, refl)
held_is last [] (f ∷ fs) h of = absurd h
held_is last (r ∷ rs) [] h of = absurd h
held_is last (r ∷ rs) (f ∷ fs) h of = elim (eqb_tells r.id of) [
  | inl same ↦ rw same.0 (refl, refl)
  | inr other ↦ rw other.0 (held_is last rs fs h.1 of)
]

pub held_ids_are : (last : ℕ) (rows : List ModelRow) (faults : List (Option ModelFault))
    → AllZip (IsModelRow last) rows faults
    → held_ids (held_models rows faults) ≡ map (λ r. r.id) rows
held_ids_are last [] [] h = refl
held_ids_are last [] (f ∷ fs) h = absurd h
held_ids_are last (r ∷ rs) [] h = absurd h
held_ids_are last (r ∷ rs) (f ∷ fs) h = ap (λ (l : List ℕ). r.id ∷ l) (held_ids_are last rs fs h.1)

pub held_keys_are : (fresh last : ℕ) (rows : List ModelRow) (faults : List (Option ModelFault))
    → AllZip (IsModelRow last) rows faults
    → map (model_id fresh) (held_models rows faults) ≡ map (λ r. r.id) rows
held_keys_are fresh last [] [] h = refl
held_keys_are fresh last [] (f ∷ fs) h = absurd h
held_keys_are fresh last (r ∷ rs) [] h = absurd h
held_keys_are fresh last (r ∷ rs) (f ∷ fs) h =
    ap (λ (l : List ℕ). r.id ∷ l) (held_keys_are fresh last rs fs h.1)

pub held_were : (last : ℕ) (rows : List ModelRow) (faults : List (Option ModelFault))
    → AllZip (IsModelRow last) rows faults → Each (WasModelRow last) (held_models rows faults)
held_were last [] [] h = tt
held_were last [] (f ∷ fs) h = absurd h
held_were last (r ∷ rs) [] h = absurd h
held_were last (r ∷ rs) (f ∷ fs) h = (h.0, held_were last rs fs h.1)

-- ---- the rows after

abbrev fault_of : NamedModel → Option ModelFault
fault_of m = fault_in m.reading

module _ (last number : ℕ) (later : IsLaterNumber last number) where
  abbrev made_now : ModelRow → ModelRow
  made_now r = raised_model last number r

  one_now : (b : Option HeldModel) (m : NamedModel) (r : ModelRow) → WasModelRow last b
      → IsModelMade (next_number last) b m r
      → IsPartNow (fault_by b) (fault_stamp_by b) number (fault_part (fault_of m))
      (raised last number r.stamp)
  one_now b m r was h =
      part_now last number (fault_stamp_by b) r.stamp (fault_by b) (fault_part (fault_of m)) later
      (fault_low last b was) h.stamp

  -- what was not there has a new stamp or none
  new_now : (before : Option PartContent) (was : ℕ) (now : Option PartContent) (stamp : ℕ)
      → IsPartNow None 0 number now stamp → IsPartNow before was number now stamp
  new_now before was now stamp h = elim h [ inl e ↦ inr (inr e.0) | inr x ↦ inr x ]

  pub faults_now : (hs : List (Option HeldModel)) (ms : List NamedModel) (rs : List ModelRow)
      → Each (WasModelRow last) hs → AreModelsMade (next_number last) hs ms rs → (of : ℕ)
      → IsPartNow (held_content hs of) (held_stamp hs of) number
      (fault_content (map made_now rs) (map fault_of ms) of) (fault_stamp (map made_now rs) of)
  faults_now hs [] [] were h of = inr (inr refl)
  faults_now hs [] (r ∷ rs) were h of = absurd h
  faults_now hs (m ∷ ms) [] were h of = absurd h
  faults_now [] (m ∷ ms) (r ∷ rs) were h of = elim (eqb_tells r.id of) [
    | inl same ↦ rw same.0 (one_now None m r tt h.0)
    | inr other ↦ rw other.0 (faults_now [] ms rs were h.1 of)
  ]
  faults_now (None ∷ hs) (m ∷ ms) (r ∷ rs) were h of = elim (eqb_tells r.id of) [
    | inl same ↦ rw same.0 (new_now (held_content hs of) (held_stamp hs of)
        (fault_part (fault_of m)) (raised last number r.stamp) (one_now None m r tt h.0))
    | inr other ↦ rw other.0 (faults_now hs ms rs were.1 h.1 of)
  ]
  faults_now (Some b ∷ hs) (m ∷ ms) (r ∷ rs) were h of = elim (eqb_tells r.id of) [
    | inl same ↦
        let e : b.row.id ≡ of = sym h.0.id_is ∙ same.1 in
        rw (same.0, eq-eqb b.row.id of e) (one_now (Some b) m r were.0 h.0)
    | inr other ↦
        let e : b.row.id ≢ of = λ k. other.1 (h.0.id_is ∙ k) in
        rw (other.0, ne_eqb b.row.id of e) (faults_now hs ms rs were.1 h.1 of)
  ]

  row_after : (b : Option HeldModel) (m : NamedModel) (r : ModelRow) → WasModelRow last b
      → IsModelMade (next_number last) b m r → IsModelRow number (made_now r) (fault_of m)
  row_after b m r was h =
      model_stamped last number (model_id (next_number last) b) b (fault_of m) r
      (record { later = later; was = was; made = h })

  pub rows_after : (hs : List (Option HeldModel)) (ms : List NamedModel) (rs : List ModelRow)
      → Each (WasModelRow last) hs → AreModelsMade (next_number last) hs ms rs
      → AllZip (IsModelRow number) (map made_now rs) (map fault_of ms)
  rows_after hs [] [] were h = tt
  rows_after hs [] (r ∷ rs) were h = absurd h
  rows_after hs (m ∷ ms) [] were h = absurd h
  rows_after [] (m ∷ ms) (r ∷ rs) were h = (row_after None m r tt h.0, rows_after [] ms rs were h.1)
  rows_after (b ∷ hs) (m ∷ ms) (r ∷ rs) were h =
      (row_after b m r were.0 h.0, rows_after hs ms rs were.1 h.1)

  -- the numbers of the rows
  pub ids_after : (hs : List (Option HeldModel)) (ms : List NamedModel) (rs : List ModelRow)
      → length hs ≡ length ms → AreModelsMade (next_number last) hs ms rs
      → map (λ r. r.id) (map made_now rs) ≡ map (model_id (next_number last)) hs
  ids_after [] [] [] e h = refl
  ids_after [] [] (r ∷ rs) e h = absurd h
  ids_after [] (m ∷ ms) rs e h = absurd (omega arith)
  ids_after (b ∷ hs) [] rs e h = absurd (omega arith)
  ids_after (b ∷ hs) (m ∷ ms) [] e h = absurd h
  ids_after (b ∷ hs) (m ∷ ms) (r ∷ rs) e h =
      let n : length hs ≡ length ms = omega arith in
      ap (λ (k : ℕ). k ∷ map (λ (s : ModelRow). s.id) (map made_now rs)) h.0.id_is
      ∙ ap (λ (l : List ℕ). model_id (next_number last) b ∷ l) (ids_after hs ms rs n h.1)

pub length_made : (fresh : ℕ) (hs : List (Option HeldModel)) (ms : List NamedModel)
    (rs : List ModelRow) → AreModelsMade fresh hs ms rs → length rs ≡ length ms
length_made fresh hs [] [] h = refl
length_made fresh hs [] (r ∷ rs) h = absurd h
length_made fresh hs (m ∷ ms) [] h = absurd h
length_made fresh hs (m ∷ ms) (r ∷ rs) h = ap suc (length_made fresh (rest_of hs) ms rs h.1)

-- ---- a model more

pub content_pushed : (hs : List (Option HeldModel)) (of : ℕ)
    → (held_content (hs ++ None ∷ []) of ≡ held_content hs of)
    × (held_stamp (hs ++ None ∷ []) of ≡ held_stamp hs of)
content_pushed [] of = (refl, refl)
content_pushed (None ∷ hs) of = content_pushed hs of
content_pushed (Some h ∷ hs) of = elim (eqb_tells h.row.id of) [
  | inl same ↦ rw same.0 (refl, refl)
  | inr other ↦ rw other.0 (content_pushed hs of)
]

pub were_pushed : (last : ℕ) (hs : List (Option HeldModel)) → Each (WasModelRow last) hs
    → Each (WasModelRow last) (hs ++ None ∷ [])
were_pushed last [] h = (tt, tt)
were_pushed last (b ∷ hs) h = (h.0, were_pushed last hs h.1)

-- ---- a model goes

no_content : (hs : List (Option HeldModel)) (of : ℕ) → (Has (held_ids hs) of → ⊥)
    → (held_content hs of ≡ None) × (held_stamp hs of ≡ 0)
no_content [] of gone = (refl, refl)
no_content (None ∷ hs) of gone = no_content hs of gone
no_content (Some h ∷ hs) of gone =
    rw (ne_eqb h.row.id of (λ e. gone (inl e))) (no_content hs of (λ has. gone (inr has)))

-- without a model the others are as they were, and that one is not there
abbrev pub IsWithout : List (Option HeldModel) → List (Option HeldModel) → ℕ → Type 0
IsWithout hs gs of =
    ((held_content gs of ≡ held_content hs of) × (held_stamp gs of ≡ held_stamp hs of))
    ⊎ ((held_content gs of ≡ None) × (held_stamp gs of ≡ 0))

pub content_removed : (hs : List (Option HeldModel)) (at of : ℕ) → AreApart (held_ids hs)
    → IsWithout hs (remove hs at) of
content_removed [] zero of apart = inl (refl, refl)
content_removed [] (suc at) of apart = inl (refl, refl)
content_removed (None ∷ hs) zero of apart = inl (refl, refl)
content_removed (None ∷ hs) (suc at) of apart = content_removed hs at of apart
content_removed (Some h ∷ hs) zero of apart = elim (eqb_tells h.row.id of) [
  | inl same ↦ inr (no_content hs of (λ has.
      apart.0 (subst (λ (n : ℕ). Has (held_ids hs) n) (sym same.1) has)))
  | inr other ↦ rw other.0 (inl (refl, refl))
]
content_removed (Some h ∷ hs) (suc at) of apart = elim (eqb_tells h.row.id of) [
  | inl same ↦ rw same.0 (inl (refl, refl))
  | inr other ↦ rw other.0 (content_removed hs at of apart.1)
]

pub were_removed : (last : ℕ) (hs : List (Option HeldModel)) (at : ℕ) → Each (WasModelRow last) hs
    → Each (WasModelRow last) (remove hs at)
were_removed last [] zero h = tt
were_removed last [] (suc at) h = tt
were_removed last (b ∷ hs) zero h = h.1
were_removed last (b ∷ hs) (suc at) h = (h.0, were_removed last hs at h.1)

-- a part over the models without one is a part over all
pub part_over : (hs gs : List (Option HeldModel)) (number of : ℕ) (now : Option PartContent)
    (stamp : ℕ) → IsWithout hs gs of
    → IsPartNow (held_content gs of) (held_stamp gs of) number now stamp
    → IsPartNow (held_content hs of) (held_stamp hs of) number now stamp
part_over hs gs number of now stamp same h = elim same [
  | inl alike ↦ rw (alike.0, alike.1) at h
  | inr gone ↦ elim h [ inl e ↦ inr (inr (e.0 ∙ gone.1)) | inr x ↦ inr x ]
]
