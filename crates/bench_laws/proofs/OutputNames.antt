-- The number of an output tells its name.
use Rattle.std.proofs.Common.{◌≡◌, ℕ, zero, suc, ◌+◌, inl, inr, List, [], ◌∷◌, length, map, codes, Option, Some, None, option_map, slice_get, refl, sym, ap, subst, ◌∙◌, arith}
use Rattle.std.specs.List.{AllByRecursion as Each}
use Rattle.std.specs.Str.{bytes_eq}
use Rattle.std.proofs.lemmas.Bool.{cases_Bool}
use Rattle.std.proofs.lemmas.Option.{none-some, slice_get-map}
use Rattle.memo_core.specs.Step.{Has}
use Rattle.binding_graph.specs.Contents.{RoleContent, Group, Check, Silent, role_content}
use Rattle.binding_graph.specs.declared.resolved.ResolvedItem.{ResolvedItem}
use Rattle.bench_items.specs.Naming.{SeenName, names_of_bodies, number_in_history, IsInHistory, AreInHistory, item_outputs}
use Rattle.bench_items.proofs.Naming.{one_name}
use Rattle.bench_nodes.specs.declared.table.ModelRow.{ModelRow}
use Rattle.bench_slots.specs.Tables.{ModelReading}
use Rattle.bench_texts.specs.declared.model.NamedModel.{NamedModel}
use Rattle.bench_texts.specs.declared.reading.Reading.{Reading}
use Rattle.bench_texts.specs.declared.reading.Reading.TheVariants as readings
use Rattle.bench_parts.specs.Built.{IsRoleKnown, AreRolesKnown, IsModelIn}
use Rattle.bench_parts.specs.Contents.{PartsState, histories}
use Rattle.bench_parts.proofs.BuiltSlots.{held_history_is}
use Rattle.bench_parts.proofs.Histories.{content_named}
use Rattle.bench_edits.specs.Readings.{reading_by, reading_of, readings_of, resolved_in}
use Rattle.bench_instance.specs.declared.stamped_texts.StampedTexts.{StampedTexts}
use Rattle.bench_instance.specs.StampedTexts.{AreSoundTexts, stamped_state}
use Rattle.bench_instance.specs.Outputs.{seen_at, only_name, name_by}
use Rattle.bench_laws.specs.OutputNames.{IsItemOfTexts, content_node_kind, names_given, OutputsHaveTheirNames}

-- ---- names in a history

one_more : (k : ℕ) → 1 + k ≡ suc k
one_more k = omega arith

later_at : (n : SeenName) (h : List SeenName) (k : ℕ) → slice_get (n ∷ h) (1 + k) ≡ slice_get h k
later_at n h k = ap (slice_get (n ∷ h)) (one_more k)

-- the number of a name is the index at which the history has it
named_at : (h : List SeenName) (a : SeenName) → IsInHistory h a → slice_get h (number_in_history h a) ≡ Some a
named_at [] a lt = absurd (omega (arith, lt))
named_at (n ∷ h) a lt = elim (cases_Bool (bytes_eq n a)) [
  | inl e ↦ rw e (ap (λ (m : SeenName). let o : Option SeenName = Some m in o) (one_name n a e))
  | inr f ↦ (
      let here = rw f at lt in
      let k : ℕ = number_in_history h a in
      let rest : slice_get h k ≡ Some a = named_at h a (omega (arith, here)) in
      rw f (later_at n h k ∙ rest))
]

each_at : {X : Type 0} (P : X → Type 0) (xs : List X) (i : ℕ) (x : X) → Each P xs
    → slice_get xs i ≡ Some x → P x
each_at P [] i x all e = absurd (none-some x e)
each_at {X} P (y ∷ ys) zero x all e = subst P (some_is e) all.0
  where
    some_is : {a b : X} → Some a ≡ Some b → a ≡ b
    some_is e = cc
each_at P (y ∷ ys) (suc i) x all e = each_at P ys i x all.1 e

number_some : {a b : ℕ} → Some a ≡ Some b → a ≡ b
number_some e = cc

seen_by : (h names : List SeenName) (index number : ℕ) → Each (IsInHistory h) names
    → (o : Option SeenName) → slice_get names index ≡ o
    → option_map (number_in_history h) o ≡ Some number → seen_at h number ≡ o
seen_by h names index number all None e is = absurd (none-some number is)
seen_by h names index number all (Some n) e is =
    ap (λ (k : ℕ). seen_at h k) (sym (number_some is))
    ∙ named_at h n (each_at (IsInHistory h) names index n all e)

seen_names : (h names : List SeenName) (index number : ℕ) → Each (IsInHistory h) names
    → slice_get (map (number_in_history h) names) index ≡ Some number
    → seen_at h number ≡ slice_get names index
seen_names h names index number all is =
    seen_by h names index number all (slice_get names index) refl
    (sym (slice_get-map (number_in_history h) names index) ∙ is)

only_check : (name : List ℕ) (index number : ℕ) → slice_get (0 ∷ []) index ≡ Some number
    → only_name name number ≡ slice_get (name ∷ []) index
only_check name zero number is = ap (only_name name) (sym (number_some is))
only_check name (suc i) number is = absurd (none-some number is)

named_by : (does : RoleContent) (h : List SeenName) (index number : ℕ) → AreInHistory h does
    → slice_get (item_outputs does h) index ≡ Some number
    → name_by (content_node_kind does) h number ≡ slice_get (names_given does) index
named_by (Group recursive bodies) h index number all is =
    seen_names h (names_of_bodies bodies) index number all is
named_by (Check negated word code flag) h index number all is =
    only_check (codes "check") index number is
named_by Silent h index number all is = absurd (none-some number is)

-- ---- items that are held

model_in : (P : ModelReading → Type 0) (rs : List ModelRow) (ms : List NamedModel) (m : NamedModel)
    → length rs ≡ length ms → Each P (readings_of rs ms) → Has ms m
    → (r : ModelRow) × P (reading_of r m)
model_in P rs [] m l all has = absurd has
model_in P [] (n ∷ ms) m l all has = absurd (omega (arith, l))
model_in P (r ∷ rs) (n ∷ ms) m l all (inl e) =
    (r, subst (λ (k : NamedModel). P (reading_of r k)) e all.0)
model_in P (r ∷ rs) (n ∷ ms) m l all (inr more) = model_in P rs ms m (omega (arith, l)) all.1 more

items_some : {a b : List ResolvedItem} → Some a ≡ Some b → a ≡ b
items_some e = cc

items_held : (s : PartsState) (id : ℕ) (numbers : List ℕ) (reading : Reading) (items : List ResolvedItem)
    → IsModelIn s (reading_by id numbers reading) → resolved_in reading ≡ Some items
    → AreRolesKnown s numbers items
items_held s id numbers (readings.Sound resolved used) items h e =
    subst (λ (is : List ResolvedItem). AreRolesKnown s numbers is) (items_some e) h.1
items_held s id numbers (readings.Faulty fault) items h e = absurd (none-some items e)

-- it is known what the item does
pub item_held : (t : StampedTexts) → AreSoundTexts t → (item : ℕ) (does : RoleContent)
    → IsItemOfTexts t item does → IsRoleKnown (stamped_state t) item does
item_held t sound item does is =
    let s = stamped_state t in
    let parts = sound.parts_are in
    let model = is.model in
    let read = model_in (IsModelIn s) t.parts.table.models.items t.texts.models.items model parts.each_model (parts.built).models_in is.held in
    let held = items_held s (read.0).id model.numbers.items model.reading is.items read.1 is.read is.index is.item is.found in
    let role : RoleContent = role_content (is.item).role in
    subst (λ (r : RoleContent). IsRoleKnown s item r) (sym is.does_is)
    (subst (λ (n : ℕ). IsRoleKnown s n role) (sym is.number_is) held)

item_named : (t : StampedTexts) → AreSoundTexts t → (item : ℕ) (does : RoleContent) → IsItemOfTexts t item does
    → AreInHistory (histories (stamped_state t) item) does
item_named t sound item does is =
    let s = stamped_state t in
    let held = item_held t sound item does is in
    subst (λ (h : List SeenName). AreInHistory h does) (sym (held_history_is s item does held.0 held.1))
    (content_named t.parts.table.items.items t.parts.roles.items item does held.0 held.1)

pub outputs_have_their_names : (t : StampedTexts) → AreSoundTexts t → OutputsHaveTheirNames t
outputs_have_their_names t sound test item index number does is output =
    named_by does (histories (stamped_state t) item) index number (item_named t sound item does is)
    output
