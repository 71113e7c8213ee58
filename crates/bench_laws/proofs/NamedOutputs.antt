-- The numbers that a return of an item's node tells are those of the item's outputs, each by its
-- name.
use Rattle.std.proofs.Common.{◌≡◌, ℕ, zero, suc, inl, inr, true, List, [], ◌∷◌, map, codes, Option, Some, None, slice_get, refl, sym, ap, subst, ◌∙◌}
use Rattle.std.specs.List.{AllByRecursion as Each}
use Rattle.std.proofs.lemmas.Bool.{cases_Bool}
use Rattle.std.proofs.lemmas.Option.{none-some}
use Rattle.memo_core.specs.declared.keys.Kind.{Kind}
use Rattle.memo_core.specs.declared.keys.Kind.TheVariants as kinds
use Rattle.memo_core.specs.declared.keys.Node.{Node}
use Rattle.memo_core.specs.Step.{Has}
use Rattle.binding_graph.specs.Contents.{BodyContent, RoleContent, Group, Check, Silent}
use Rattle.binding_shapes.specs.Shapes.{role_shape}
use Rattle.bench_items.specs.Naming.{SeenName, names_of_bodies, number_in_history, item_outputs}
use Rattle.bench_nodes.specs.declared.table.Slot.{Slot}
use Rattle.bench_nodes.specs.declared.table.SlotKey.{SlotKey}
use Rattle.bench_nodes.specs.Nodes.{keys_at, has_slot, slot_keys}
use Rattle.bench_slots.specs.Tables.{ModelReading}
use Rattle.bench_values.specs.Givens.{GivenContent, ForItem}
use Rattle.bench_values.specs.Makes.{output_names}
use Rattle.bench_parts.specs.Built.{IsBuilt}
use Rattle.bench_parts.specs.Contents.{PartContent, OfRole, PartsState, histories, content}
use Rattle.bench_parts.specs.States.{contents, given_item, given_to_node}
use Rattle.bench_parts.proofs.Built.{no_inputs}
use Rattle.bench_parts.proofs.BuiltSlots.{BeginsAsItem, good_slot, held_history_is}
use Rattle.bench_edits.specs.Readings.{readings_of}
use Rattle.bench_instance.specs.declared.stamped_texts.StampedTexts.{StampedTexts}
use Rattle.bench_instance.specs.StampedTexts.{AreSoundTexts, stamped_state}
use Rattle.bench_laws.specs.OutputNames.{IsItemOfTexts, item_node, names_given}
use Rattle.bench_laws.specs.ToldOutputs.{TellsOutputOf, ReturnsNameOutputs}
use Rattle.bench_laws.proofs.OutputNames.{item_held, outputs_have_their_names}
use Rattle.bench_laws.proofs.ToldOutputs.{returns_tell_outputs}

-- ---- what the job of an item's node is given

given_is : {a b : GivenContent} → Some a ≡ Some b → b ≡ a
given_is e = cc

module _ (s : PartsState) (models : List ModelReading) (built : IsBuilt s models) (of : ℕ)
    (does : RoleContent) (history : List SeenName)
    (known : content s 0 of ≡ Some (OfRole does history)) where
  abbrev ss : List Slot
  ss = s.parts.table.slots.items

  begun_given : (test : ℕ) (keys : List SlotKey) → BeginsAsItem s of keys
      → given_item (contents s (keys_at test keys))
      ≡ Some (ForItem (role_shape does) (item_outputs does history))
  begun_given test keys b =
      ap (λ (ks : List SlotKey). given_item (contents s (keys_at test ks))) b.1
      ∙ ap (λ (c : Option PartContent). given_item (c ∷ contents s (keys_at test b.0))) known

  kind_given : (kind : Kind) (test : ℕ) (g : GivenContent)
      → (has_slot ss kind of ≡ true → BeginsAsItem s of (slot_keys ss kind of))
      → given_item (contents s (keys_at test (slot_keys ss kind of))) ≡ Some g
      → g ≡ ForItem (role_shape does) (item_outputs does history)
  kind_given kind test g begins e = elim (cases_Bool (has_slot ss kind of)) [
    | inl t ↦ given_is (sym (begun_given test (slot_keys ss kind of) (begins t)) ∙ e)
    | inr f ↦ (
        let none =
        ap (λ (ks : List SlotKey). given_item (contents s (keys_at test ks)))
        (no_inputs ss kind of f) in
        absurd (none-some g (sym none ∙ e)))
  ]

  group_given : (test : ℕ) (g : GivenContent)
      → given_item (contents s (keys_at test (slot_keys ss kinds.Group of))) ≡ Some g
      → g ≡ ForItem (role_shape does) (item_outputs does history)
  group_given test g e =
      kind_given kinds.Group test g
      (λ t. (good_slot s models kinds.Group of built.slots built.models_in t).1) e

  check_given : (test : ℕ) (g : GivenContent)
      → given_item (contents s (keys_at test (slot_keys ss kinds.Check of))) ≡ Some g
      → g ≡ ForItem (role_shape does) (item_outputs does history)
  check_given test g e =
      kind_given kinds.Check test g
      (λ t. (good_slot s models kinds.Check of built.slots built.models_in t).1) e

  node_given : (role : RoleContent) (test : ℕ) (g : GivenContent)
      → given_to_node s (item_node role test of) ≡ Some g → g ≡ ForItem (role_shape does) (item_outputs does history)
  node_given (Group recursive bodies) test g e = group_given test g e
  node_given (Check negated word code flag) test g e = check_given test g e
  node_given Silent test g e = group_given test g e

item_given : (t : StampedTexts) → AreSoundTexts t → (test item : ℕ) (does : RoleContent)
    → IsItemOfTexts t item does → (g : GivenContent)
    → given_to_node (stamped_state t) (item_node does test item) ≡ Some g
    → g ≡ ForItem (role_shape does) (item_outputs does (histories (stamped_state t) item))
item_given t sound test item does is g e =
    let s = stamped_state t in
    let held = item_held t sound item does is in
    node_given s (readings_of t.parts.table.models.items t.texts.models.items)
    (sound.parts_are).built item does held.0 held.1 does test g e
    ∙ ap (λ (h : List SeenName). ForItem (role_shape does) (item_outputs does h))
    (sym (held_history_is s item does held.0 held.1))

-- ---- the numbers that are told

has_at : (ns : List ℕ) (n : ℕ) → Has ns n → (index : ℕ) × (slice_get ns index ≡ Some n)
has_at [] n h = absurd h
has_at (m ∷ ns) n (inl e) = (zero, ap (λ (k : ℕ). let o : Option ℕ = Some k in o) e)
has_at (m ∷ ns) n (inr h) = let r = has_at ns n h in (suc r.0, r.1)

name_there : (name : List ℕ) → Some name ≡ None → ⊥
name_there name e = absurd cc

-- an output of an item has a name
group_name : (h : List SeenName) (bodies : List BodyContent) (i n : ℕ)
    → slice_get (map (number_in_history h) (names_of_bodies bodies)) i ≡ Some n
    → slice_get (map (λ b. b.name) bodies) i ≡ None → ⊥
group_name h [] i n at none = none-some n at
group_name h (b ∷ bs) zero n at none = name_there b.name none
group_name h (b ∷ bs) (suc i) n at none = group_name h bs i n at none

no_name : (h : List SeenName) (role : RoleContent) (i n : ℕ)
    → slice_get (item_outputs role h) i ≡ Some n → slice_get (names_given role) i ≡ None → ⊥
no_name h (Group recursive bodies) i n at none = group_name h bodies i n at none
no_name h (Check negated word code flag) zero n at none = name_there (codes "check") none
no_name h (Check negated word code flag) (suc i) n at none = none-some n at
no_name h Silent i n at none = none-some n at

module _ (t : StampedTexts) (sound : AreSoundTexts t) (test item : ℕ) (does : RoleContent)
    (is : IsItemOfTexts t item does) where
  abbrev own : List ℕ
  own = item_outputs does (histories (stamped_state t) item)

  tells_at : (number index : ℕ) → slice_get own index ≡ Some number → (o : Option (List ℕ))
      → slice_get (names_given does) index ≡ o → TellsOutputOf t test item does number
  tells_at number index at None none =
      absurd (no_name (histories (stamped_state t) item) does index number at none)
  tells_at number index at (Some name) named =
      record { index = index; output_is = at; name = name; name_is = named; told_is = outputs_have_their_names t sound test item index number does is at ∙ named }

  each_tells : (ns : List ℕ) → Each (Has own) ns → Each (TellsOutputOf t test item does) ns
  each_tells [] all = tt
  each_tells (n ∷ ns) all =
      let at = has_at own n all.0 in
      (tells_at n at.0 at.1 (slice_get (names_given does) at.0) refl, each_tells ns all.1)

pub returns_name_outputs : ReturnsNameOutputs
returns_name_outputs old new r told test item does sound is node h =
    let outputs = (returns_tell_outputs old new r told h).1 in
    let g = item_given old.texts sound test item does is r.given (subst (λ (n : Node). given_to_node (stamped_state old.texts) n ≡ Some r.given) node outputs.given_is) in
    record { given_is = g; each = each_tells old.texts sound test item does is told.names.items (subst (λ (x : GivenContent). Each (Has (output_names x)) told.names.items) g outputs.each) }
