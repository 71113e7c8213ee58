-- Models with their numbers, before an edit and after it.
use Rattle.std.proofs.Common.{◌≡◌, ℕ, zero, suc, ◌+◌, ◌<◌, ◌≤◌, inl, inr, List, [], ◌∷◌, ◌++◌, length, map, get_or, Option, Some, None, slice_get, nat_lt, if◌then◌else◌, refl, sym, ap, subst, ◌∙◌, arith}
use Rattle.std.specs.List.{remove}
use Rattle.std.proofs.lemmas.Bool.Decides.{leb_tells}
use Rattle.std.proofs.lemmas.List.{length-append, length-map, map-append}
use Rattle.text_values.specs.declared.test.Test.{Test}
use Rattle.memo_core.specs.Step.{Has}
use Rattle.bench_texts.proofs.Lists.{map-remove}
use Rattle.bench_texts.specs.BenchTexts.{put_at}
use Rattle.bench_texts.specs.Replacements.{models_with}
use Rattle.bench_texts.specs.declared.model.NamedModel.{NamedModel}
use Rattle.bench_texts.specs.declared.replacement.Replacement.{Replacement}
use Rattle.bench_texts.specs.declared.replacement.Replacement.TheVariants as made
use Rattle.bench_nodes.specs.declared.table.ModelRow.{ModelRow}
use Rattle.bench_parts.specs.declared.parts.Parts.{Parts}
use Rattle.bench_parts.specs.declared.model_rows.HeldModel.{HeldModel}
use Rattle.bench_parts.specs.Stamps.{IsLaterNumber, next_number}
use Rattle.bench_edits.specs.declared.edited.EditedParts.{EditedParts}
use Rattle.bench_edits.specs.declared.edited.EditedParts.TheVariants as edited
use Rattle.bench_edits.specs.declared.edited.ModelParts.{ModelParts}
use Rattle.bench_edits.specs.Edited.{held_models, model_id, AreModelsMade, AreModelsSame, PutsModels}
use Rattle.bench_edits.specs.Laws.{IsEdit}
use Rattle.bench_edits.specs.Owed.{ArePartsOf}
use Rattle.bench_text_laws.specs.Orderly.{AreApart}
use Rattle.bench_edits.proofs.Making.{push_past}
use Rattle.bench_edits.proofs.PutModels.{held_keys_are, ids_after}
use Rattle.bench_edits.proofs.Lists.{one_of_key, in_removed, kept_in_put}

none_is : {A : Type 0} {a : A} → None ≡ Some a → ⊥
none_is e = cc

some_is : {A : Type 0} {a b : A} → Some a ≡ Some b → a ≡ b
some_is e = cc

-- the models with their numbers
abbrev pub numbered_models : List ℕ → List NamedModel → List (ℕ × NamedModel)
numbered_models [] ms = []
numbered_models (n ∷ ns) [] = []
numbered_models (n ∷ ns) (m ∷ ms) = (n, m) ∷ numbered_models ns ms

abbrev pub key : ℕ × NamedModel → List ℕ
key x = x.1.name

keys_are : (ns : List ℕ) (ms : List NamedModel) → length ns ≡ length ms
    → map key (numbered_models ns ms) ≡ map (λ m. m.name) ms
keys_are [] [] e = refl
keys_are [] (m ∷ ms) e = absurd (omega arith)
keys_are (n ∷ ns) [] e = absurd (omega arith)
keys_are (n ∷ ns) (m ∷ ms) e =
    let l : length ns ≡ length ms = omega arith in
    ap (λ (ks : List (List ℕ)). m.name ∷ ks) (keys_are ns ms l)

put_within : (ns : List ℕ) (ms : List NamedModel) (at : ℕ) (m : NamedModel) → length ns ≡ length ms
    → at < length ms
    → numbered_models ns (put_at at m ms) ≡ put_at at (get_or ns at 0, m) (numbered_models ns ms)
put_within [] [] at m e lt = absurd (omega arith)
put_within [] (x ∷ ms) at m e lt = absurd (omega arith)
put_within (n ∷ ns) [] at m e lt = absurd (omega arith)
put_within (n ∷ ns) (x ∷ ms) zero m e lt = refl
put_within (n ∷ ns) (x ∷ ms) (suc at) m e lt =
    let l : length ns ≡ length ms = omega arith in
    ap (λ (xs : List (ℕ × NamedModel)). (n, x) ∷ xs) (put_within ns ms at m l (omega (arith, lt)))

put_behind : (ns : List ℕ) (ms : List NamedModel) (n : ℕ) (m : NamedModel) → length ns ≡ length ms
    → numbered_models (ns ++ n ∷ []) (ms ++ m ∷ []) ≡ numbered_models ns ms ++ (n, m) ∷ []
put_behind [] [] n m e = refl
put_behind [] (x ∷ ms) n m e = absurd (omega arith)
put_behind (k ∷ ns) [] n m e = absurd (omega arith)
put_behind (k ∷ ns) (x ∷ ms) n m e =
    let l : length ns ≡ length ms = omega arith in
    ap (λ (xs : List (ℕ × NamedModel)). (k, x) ∷ xs) (put_behind ns ms n m l)

length_numbered : (ns : List ℕ) (ms : List NamedModel) → length ns ≡ length ms
    → length (numbered_models ns ms) ≡ length ms
length_numbered [] [] e = refl
length_numbered [] (x ∷ ms) e = absurd (omega arith)
length_numbered (k ∷ ns) [] e = absurd (omega arith)
length_numbered (k ∷ ns) (x ∷ ms) e =
    let l : length ns ≡ length ms = omega arith in ap suc (length_numbered ns ms l)

numbered_removed : (ns : List ℕ) (ms : List NamedModel) (at : ℕ) → length ns ≡ length ms
    → numbered_models (remove ns at) (remove ms at) ≡ remove (numbered_models ns ms) at
numbered_removed [] [] zero e = refl
numbered_removed [] [] (suc at) e = refl
numbered_removed [] (x ∷ ms) at e = absurd (omega arith)
numbered_removed (k ∷ ns) [] at e = absurd (omega arith)
numbered_removed (k ∷ ns) (x ∷ ms) zero e = refl
numbered_removed (k ∷ ns) (x ∷ ms) (suc at) e =
    let l : length ns ≡ length ms = omega arith in
    ap (λ (xs : List (ℕ × NamedModel)). (k, x) ∷ xs) (numbered_removed ns ms at l)

pub numbered_at : (rs : List ModelRow) (ms : List NamedModel) (i : ℕ) (r : ModelRow)
    (m : NamedModel) → slice_get rs i ≡ Some r → slice_get ms i ≡ Some m
    → Has (numbered_models (map (λ q. q.id) rs) ms) (r.id, m)
numbered_at [] ms i r m e f = absurd (none_is e)
numbered_at (q ∷ rs) [] i r m e f = absurd (none_is f)
numbered_at (q ∷ rs) (n ∷ ms) zero r m e f =
    inl (ap (λ (x : ModelRow). (x.id, n)) (some_is e)
    ∙ ap (λ (x : NamedModel). (r.id, x)) (some_is f))
numbered_at (q ∷ rs) (n ∷ ms) (suc i) r m e f = inr (numbered_at rs ms i r m e f)

number_at_index : (ns : List ℕ) (ms : List NamedModel) (at k : ℕ) (m : NamedModel)
    → slice_get (numbered_models ns ms) at ≡ Some (k, m) → get_or ns at 0 ≡ k
number_at_index [] ms at k m e = absurd (none_is e)
number_at_index (n ∷ ns) [] at k m e = absurd (none_is e)
number_at_index (n ∷ ns) (x ∷ ms) zero k m e = ap (λ (p : ℕ × NamedModel). p.0) (some_is e)
number_at_index (n ∷ ns) (x ∷ ms) (suc at) k m e = number_at_index ns ms at k m e

not_past : {A : Type 0} (xs : List A) (at : ℕ) (a : A) → length xs ≤ at → slice_get xs at ≡ Some a
    → ⊥
not_past [] at a le e = none_is e
not_past (x ∷ xs) zero a le e = absurd (omega (arith, le))
not_past (x ∷ xs) (suc at) a le e = not_past xs at a (omega (arith, le)) e

-- ---- a model of one name before and after

module _ (ns : List ℕ) (ms : List NamedModel) (each : length ns ≡ length ms)
    (was : AreApart (map (λ m. m.name) ms)) where
  apart : AreApart (map key (numbered_models ns ms))
  apart = subst (λ (l : List (List ℕ)). AreApart l) (sym (keys_are ns ms each)) was

  abbrev IsKept : List ℕ → List NamedModel → Type 0
  IsKept ls after =
      AreApart (map (λ m. m.name) after) → (k l : ℕ) (m n : NamedModel)
      → Has (numbered_models ns ms) (k, m) → Has (numbered_models ls after) (l, n) → n.name ≡ m.name
      → l ≡ k

  same_kept : IsKept ns ms
  same_kept now k l m n a b e =
      sym (ap (λ (x : ℕ × NamedModel). x.0) (one_of_key key (numbered_models ns ms) apart (k, m)
      (l, n) a b (sym e)))

  kept_within : (at : ℕ) (x : NamedModel) → at < length ms → length (put_at at x ms) ≡ length ms
      → IsKept ns (put_at at x ms)
  kept_within at x lt len now k l m n a b e =
      let is = put_within ns ms at x each lt in
      let keys = subst (λ (l : List (List ℕ)). AreApart l) (ap (map key) is) (subst (λ (l : List (List ℕ)). AreApart l) (sym (keys_are ns (put_at at x ms) (each ∙ sym len))) now) in
      elim
      (kept_in_put key at (get_or ns at 0, x) (numbered_models ns ms) apart keys (k, m) (l, n) a
      (subst (λ (xs : List (ℕ × NamedModel)). Has xs (l, n)) is b) (sym e)) [
        | inl same ↦ sym (ap (λ (p : ℕ × NamedModel). p.0) same)
        | inr put ↦ sym (ap (λ (p : ℕ × NamedModel). p.0) put.1)
            ∙ number_at_index ns ms at k m put.0
      ]

  kept_behind : (at new : ℕ) (x : NamedModel) → length ms ≤ at
      → IsKept (ns ++ new ∷ []) (put_at at x ms)
  kept_behind at new x le now k l m n a b e =
      let len : length ns ≡ length ms = each in
      let past : length (numbered_models ns ms) ≤ at = subst (λ (c : ℕ). c ≤ at) (sym (length_numbered ns ms each)) le in
      let is : numbered_models (ns ++ new ∷ []) (put_at at x ms) ≡ put_at at (new, x) (numbered_models ns ms) =
      ap (numbered_models (ns ++ new ∷ [])) (sym (push_past ms at x le))
      ∙ put_behind ns ms new x each ∙ push_past (numbered_models ns ms) at (new, x) past in
      let longer : length (ns ++ new ∷ []) ≡ length (put_at at x ms) = length-append ns (new ∷ []) ∙ (ap (λ (c : ℕ). c + 1) each ∙ (sym (length-append ms (x ∷ [])) ∙ ap (λ (xs : List NamedModel). length xs) (push_past ms at x le))) in
      let keys = subst (λ (l : List (List ℕ)). AreApart l) (ap (map key) is) (subst (λ (l : List (List ℕ)). AreApart l) (sym (keys_are (ns ++ new ∷ []) (put_at at x ms) longer)) now) in
      elim
      (kept_in_put key at (new, x) (numbered_models ns ms) apart keys (k, m) (l, n) a
      (subst (λ (xs : List (ℕ × NamedModel)). Has xs (l, n)) is b) (sym e)) [
        | inl same ↦ sym (ap (λ (p : ℕ × NamedModel). p.0) same)
        | inr put ↦ absurd (not_past (numbered_models ns ms) at (k, m) past put.0)
      ]

  kept_removed : (at : ℕ) → IsKept (remove ns at) (remove ms at)
  kept_removed at now k l m n a b e =
      let there = in_removed (numbered_models ns ms) at (l, n) (subst (λ (xs : List (ℕ × NamedModel)). Has xs (l, n)) (numbered_removed ns ms at each) b) in
      sym (ap (λ (x : ℕ × NamedModel). x.0) (one_of_key key (numbered_models ns ms) apart (k, m)
      (l, n) a there (sym e)))

-- ---- after an edit

put_length : (ms : List NamedModel) (at : ℕ) (x : NamedModel) → at < length ms
    → length (put_at at x ms) ≡ length ms
put_length [] at x lt = absurd (omega arith)
put_length (m ∷ ms) zero x lt = refl
put_length (m ∷ ms) (suc at) x lt = ap suc (put_length ms at x (omega arith))

removed_length : {A B : Type 0} (xs : List A) (ys : List B) (at : ℕ) → length xs ≡ length ys
    → length (remove xs at) ≡ length (remove ys at)
removed_length [] [] zero e = refl
removed_length [] [] (suc at) e = refl
removed_length [] (y ∷ ys) at e = absurd (omega arith)
removed_length (x ∷ xs) [] at e = absurd (omega arith)
removed_length (x ∷ xs) (y ∷ ys) zero e = omega arith
removed_length (x ∷ xs) (y ∷ ys) (suc at) e =
    let n : length xs ≡ length ys = omega arith in ap suc (removed_length xs ys at n)

abbrev ids : Parts → List ℕ
ids p = map (λ r. r.id) p.table.models.items

module _ (p q : Parts) (tests : List Test) (models : List NamedModel) (number : ℕ)
    (later : IsLaterNumber p.last number) (owed : ArePartsOf p tests models)
    (was : AreApart (map (λ m. m.name) models)) where
  abbrev fresh : ℕ
  fresh = next_number p.last

  abbrev held : List (Option HeldModel)
  held = held_models p.table.models.items p.faults.items

  each : length (ids p) ≡ length models
  each = length-map p.table.models.items (λ (r : ModelRow). r.id) ∙ owed.each_model

  held_ids : map (model_id fresh) held ≡ ids p
  held_ids = held_keys_are fresh p.last p.table.models.items p.faults.items owed.built.faults

  each_held : length held ≡ length models
  each_held =
      sym (length-map held (model_id fresh)) ∙ (ap (λ (l : List ℕ). length l) held_ids ∙ each)

  ids_now : (hs : List (Option HeldModel)) (ms : List NamedModel) (m : ModelParts)
      → length hs ≡ length ms → AreModelsMade fresh hs ms m.rows.items → PutsModels p number m q
      → ids q ≡ map (model_id fresh) hs
  ids_now hs ms m len h puts =
      ap (λ (l : List ModelRow). map (λ (r : ModelRow). r.id) l) puts.rows
      ∙ ids_after p.last number later hs ms m.rows.items len h

  kept_put : (at : ℕ) (x : NamedModel) (m : ModelParts)
      → AreModelsMade fresh (if nat_lt at (length held) then held else held ++ None ∷ [])
      (put_at at x models) m.rows.items → PutsModels p number m q
      → IsKept (ids p) models each was (ids q) (put_at at x models)
  kept_put at x m = elim (leb_tells (suc at) (length held)) [
    | inl within ↦ rw within.0 (λ h puts.
        let lt : at < length models = omega (arith, within.1, each_held) in
        let is : ids q ≡ ids p = ids_now held (put_at at x models) m (each_held ∙ sym (put_length models at x lt)) h puts ∙ held_ids in
        rw is (kept_within (ids p) models each was at x lt (put_length models at x lt)))
    | inr past ↦ rw past.0 (λ h puts.
        let le : length models ≤ at = omega (arith, past.1, each_held) in
        let longer : length (held ++ None ∷ []) ≡ length (put_at at x models) = length-append held (None ∷ []) ∙ (ap (λ (c : ℕ). c + 1) each_held ∙ (sym (length-append models (x ∷ [])) ∙ ap (λ (xs : List NamedModel). length xs) (push_past models at x le))) in
        let is : ids q ≡ ids p ++ fresh ∷ [] = ids_now (held ++ None ∷ []) (put_at at x models) m longer h puts ∙ (map-append (model_id fresh) held (None ∷ []) ∙ ap (λ (l : List ℕ). l ++ fresh ∷ []) held_ids) in
        rw is (kept_behind (ids p) models each was at fresh x le))
  ]

  kept_dropped : (at : ℕ) (m : ModelParts)
      → AreModelsMade fresh (remove held at) (remove models at) m.rows.items
      → PutsModels p number m q → IsKept (ids p) models each was (ids q) (remove models at)
  kept_dropped at m h puts =
      let is : ids q ≡ remove (ids p) at = ids_now (remove held at) (remove models at) m (removed_length held models at each_held) h puts ∙ (map-remove (model_id fresh) held at ∙ ap (λ (l : List ℕ). remove l at) held_ids) in
      rw is (kept_removed (ids p) models each was at)

  kept_same : AreModelsSame p q → IsKept (ids p) models each was (ids q) models
  kept_same same =
      rw (ap (λ (l : List ModelRow). map (λ (r : ModelRow). r.id) l) same.rows)
      (same_kept (ids p) models each was)

-- a model keeps its number
pub model_kept : (p q : Parts) (tests : List Test) (models : List NamedModel) (r : Replacement)
    (number : ℕ) (e : EditedParts) → IsEdit p tests models r number e q
    → AreApart (map (λ m. m.name) models) → AreApart (map (λ m. m.name) (models_with r models))
    → (k l : ℕ) (m n : NamedModel) → Has (numbered_models (ids p) models) (k, m)
    → Has (numbered_models (ids q) (models_with r models)) (l, n) → n.name ≡ m.name → l ≡ k
model_kept p q tests models (made.PutTest at test) number (edited.PutTest to row names) edit was =
    kept_same p q tests models number edit.later edit.owed was edit.committed.changes.models
model_kept p q tests models (made.PutTest at test) number (edited.DropTest to) edit was =
    absurd edit.is_made
model_kept p q tests models (made.PutTest at test) number (edited.Models m) edit was =
    absurd edit.is_made
model_kept p q tests models (made.DropTest at) number (edited.PutTest to row names) edit was =
    absurd edit.is_made
model_kept p q tests models (made.DropTest at) number (edited.DropTest to) edit was =
    kept_same p q tests models number edit.later edit.owed was edit.committed.changes.models
model_kept p q tests models (made.DropTest at) number (edited.Models m) edit was =
    absurd edit.is_made
model_kept p q tests models (made.PutModel at model next) number (edited.PutTest to row names) edit
    was = absurd edit.is_made
model_kept p q tests models (made.PutModel at model next) number (edited.DropTest to) edit was =
    absurd edit.is_made
model_kept p q tests models (made.PutModel at model next) number (edited.Models m) edit was =
    kept_put p q tests models number edit.later edit.owed was at model m edit.is_made.rows
    edit.committed.changes
model_kept p q tests models (made.DropModel at) number (edited.PutTest to row names) edit was =
    absurd edit.is_made
model_kept p q tests models (made.DropModel at) number (edited.DropTest to) edit was =
    absurd edit.is_made
model_kept p q tests models (made.DropModel at) number (edited.Models m) edit was =
    kept_dropped p q tests models number edit.later edit.owed was at m edit.is_made.rows
    edit.committed.changes
