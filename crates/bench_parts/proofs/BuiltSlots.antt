-- What the slots of models begin with, and that each output among their inputs is one that its node
-- gives.
use Rattle.std.proofs.Common.{ℕ, zero, suc, ◌<◌, ◌≡◌, ◌⊎◌, inl, inr, ◌==◌, ◌&&◌, Bool, true, false, if◌then◌else◌, List, [], ◌∷◌, length, get_or, map, Option, Some, None, slice_get, refl, ap, sym, subst, ◌∙◌, eqb-true, arith}
use Rattle.std.specs.List.{AllByRecursion as Each, flat_map}
use Rattle.std.proofs.lemmas.Bool.{cases_Bool}
use Rattle.std.proofs.lemmas.List.{length-map}
use Rattle.memo_core.specs.declared.keys.Kind.{Kind}
use Rattle.memo_core.specs.declared.keys.Kind.TheVariants as kinds
use Rattle.memo_core.specs.Names.{kind_number}
use Rattle.memo_core.specs.Step.{Has}
use Rattle.binding_kinds.specs.declared.fault.ModelFault.{ModelFault}
use Rattle.binding_kinds.specs.declared.scope.Input.{Input}
use Rattle.binding_graph.specs.declared.resolved.ResolvedItem.{ResolvedItem}
use Rattle.binding_graph.specs.declared.resolved.Role.{Role}
use Rattle.binding_graph.specs.declared.resolved.Role.TheVariants as roles
use Rattle.bench_nodes.specs.declared.table.ItemRow.{ItemRow}
use Rattle.bench_nodes.specs.declared.table.Slot.{Slot}
use Rattle.bench_nodes.specs.declared.table.SlotKey.{SlotKey}
use Rattle.bench_nodes.specs.declared.table.SlotKey.TheVariants as slots
use Rattle.bench_nodes.specs.Nodes.{is_slot, has_slot, slot_keys}
use Rattle.bench_items.specs.Items.{BodyContent, RoleContent, held_history, body_content, role_content}
use Rattle.bench_items.specs.Naming.{SeenName, item_outputs, seen_names_in, body_names, number_in_history}
use Rattle.bench_items.specs.declared.items.SharedItem.{SharedItem}
use Rattle.bench_slots.proofs.Lists.{each_append, has_map}
use Rattle.bench_slots.specs.Slots.{PlainSlot, plain, number_at, item_history, no_name, name_of, input_name, function_key, name_key, space_key, item_keys, slots_of, item_slots, used_slots, flag_key, answer_key, key_by, keys_by, verdict_keys, sound_slots}
use Rattle.bench_slots.specs.Tables.{ModelReading, Sound, Faulty, name_count, IsNameOf, UsesNames, AreOrderedItems, space_slots, slots_in, all_slots}
use Rattle.bench_parts.specs.Contents.{OfRole, OfFault, role_part, part_history, item_content, PartsState, histories, content}
use Rattle.bench_parts.specs.Built.{IsRoleKnown, AreRolesKnown, IsModelIn}

-- ---- the inputs of a slot

pub kind_is : (a b : Kind) → kind_number a ≡ kind_number b → a ≡ b
kind_is kinds.Space kinds.Space e = refl
kind_is kinds.Group kinds.Group e = refl
kind_is kinds.Check kinds.Check e = refl
kind_is kinds.Verdict kinds.Verdict e = refl
kind_is a b e = absurd (omega (arith, e))

and_first : (a b : Bool) → a && b ≡ true → a ≡ true
and_first true b h = refl
and_first false b h = h

and_second : (a b : Bool) → a && b ≡ true → b ≡ true
and_second true b h = h
and_second false b h = cc

-- what holds of each slot holds of the inputs of the first of that kind and number
pub slot_inputs : (P : Kind → ℕ → List SlotKey → Type 0) (ss : List Slot) (kind : Kind) (of : ℕ)
    → Each (λ p. P p.kind p.of p.inputs) (map plain ss) → has_slot ss kind of ≡ true
    → P kind of (slot_keys ss kind of)
slot_inputs P [] kind of h e = absurd (let f : false ≡ true = e in cc)
slot_inputs P (s ∷ ss) kind of h e = elim (cases_Bool (is_slot kind of s)) [
  | inl t ↦ rw t (subst (λ (k : Kind). P k of s.inputs.items) (sym (kind_is kind s.kind
      (eqb-true (kind_number kind) (kind_number s.kind) (and_first
      (kind_number kind == kind_number s.kind) (of == s.of) t))))
      (subst (λ (n : ℕ). P s.kind n s.inputs.items)
      (sym (eqb-true of s.of (and_second (kind_number kind == kind_number s.kind)
      (of == s.of) t))) h.0))
  | inr t ↦ rw t (slot_inputs P ss kind of h.1 (rw t at e))
]

-- ---- the names of a group

has_at : {X : Type 0} (xs : List X) (p : ℕ) (d : X) → p < length xs → Has xs (get_or xs p d)
has_at [] p d lt = absurd (omega (arith, lt))
has_at (x ∷ xs) zero d lt = inl refl
has_at (x ∷ xs) (suc p) d lt = inr (has_at xs p d (omega (arith, lt)))

-- the number of each of its names is that of one of its outputs
role_has_name : (role : Role) (p : ℕ) (history : List SeenName) → p < name_count role
    → Has (item_outputs (role_content role) history) (number_in_history history
    (get_or (seen_names_in (role_content role)) p no_name))
role_has_name (roles.Group recursive bodies) p history lt =
    let names = body_names bodies.items in
    let many : length names ≡ length bodies.items = length-map (map body_content bodies.items) (λ (b : BodyContent). b.name) ∙ length-map bodies.items body_content in
    has_map (number_in_history history) names (get_or names p no_name)
    (has_at names p no_name (omega (arith, many, lt)))
role_has_name (roles.Check check) p history lt = absurd (omega (arith, lt))
role_has_name roles.Silent p history lt = absurd (omega (arith, lt))

-- ---- histories

-- the history of an item stands beside what it does
pub history_beside : (is : List ItemRow) (rs : List (Option SharedItem)) (n : ℕ)
    → item_history is rs n ≡ part_history (item_content is rs n)
history_beside [] rs n = refl
history_beside (i ∷ is) [] n = refl
history_beside (i ∷ is) (r ∷ rs) n = by_test (i.number == n) (history_beside is rs n)
  where
    own : (r : Option SharedItem) → held_history r ≡ part_history (role_part r)
    own None = refl
    own (Some item) = refl

    by_test : (b : Bool) → item_history is rs n ≡ part_history (item_content is rs n)
        → (if b then held_history r else item_history is rs n)
        ≡ part_history (if b then role_part r else item_content is rs n)
    by_test true later = own r
    by_test false later = later

pub held_history_is : (s : PartsState) (number : ℕ) (role : RoleContent) (history : List SeenName)
    → content s 0 number ≡ Some (OfRole role history) → histories s number ≡ history
held_history_is s number role history e =
    history_beside s.parts.table.items.items s.parts.roles.items number ∙ ap part_history e

-- ---- good slots

module _ (s : PartsState) where
  -- the item of that number does something that gives an output of that number
  abbrev pub HasRole : ℕ → ℕ → Type 0
  HasRole of name =
      (role : RoleContent) × (history : List SeenName)
      × (content s 0 of ≡ Some (OfRole role history)) × Has (item_outputs role history) name

  abbrev pub IsGoodOutput : Kind → ℕ → ℕ → Type 0
  IsGoodOutput kinds.Space of name = Has (0 ∷ []) name
  IsGoodOutput kinds.Group of name = HasRole of name
  IsGoodOutput kinds.Check of name = HasRole of name
  IsGoodOutput kinds.Verdict of name = ⊥

  abbrev pub IsGoodKey : SlotKey → Type 0
  IsGoodKey (slots.Test part) = Unit {0}
  IsGoodKey (slots.Item number) = Unit {0}
  IsGoodKey (slots.Fault id) = Unit {0}
  IsGoodKey (slots.Value kind of name) = IsGoodOutput kind of name

  -- an item's own text comes first, and it is known what it does
  abbrev pub BeginsAsItem : ℕ → List SlotKey → Type 0
  BeginsAsItem of keys =
      (rest : List SlotKey) × (keys ≡ slots.Item of ∷ rest) × (role : RoleContent)
      × (history : List SeenName) × (content s 0 of ≡ Some (OfRole role history))

  abbrev pub AsksFlags : List SlotKey → Type 0
  AsksFlags keys = (rest : List SlotKey) × (keys ≡ slots.Test 2 ∷ slots.Test 3 ∷ rest)

  abbrev pub AsksFault : List SlotKey → Type 0
  AsksFault keys =
      (id : ℕ) × (fault : ModelFault) × (keys ≡ slots.Test 2 ∷ slots.Fault id ∷ [])
      × (content s 1 id ≡ Some (OfFault fault))

  abbrev pub Begins : Kind → ℕ → List SlotKey → Type 0
  Begins kinds.Space of keys = Unit {0}
  Begins kinds.Group of keys = BeginsAsItem of keys
  Begins kinds.Check of keys = BeginsAsItem of keys
  Begins kinds.Verdict of keys = AsksFlags keys ⊎ AsksFault keys

  abbrev pub IsGoodSlot : Kind → ℕ → List SlotKey → Type 0
  IsGoodSlot kind of keys = Each IsGoodKey keys × Begins kind of keys

  abbrev AllGood : List PlainSlot → Type 0
  AllGood ss = Each (λ p. IsGoodSlot p.kind p.of p.inputs) ss

  -- ---- of one model

  module _ (numbers : List ℕ) (items : List ResolvedItem) (held : AreRolesKnown s numbers items) where
    functions_good : (fs : List ℕ) → Each IsGoodKey (map (function_key numbers) fs)
    functions_good [] = tt
    functions_good (f ∷ fs) = (tt, functions_good fs)

    -- the name is one of those that the group gives
    name_good : (n : Input) (r : ResolvedItem) → slice_get items n.item ≡ Some r
        → n.position < name_count r.role
        → HasRole (number_at numbers n.item) (number_in_history (histories s (number_at numbers n.item))
        (input_name items n))
    name_good n r at lt =
        let own = number_at numbers n.item in
        let own_held = held n.item r at in
        let name : input_name items n ≡ name_of (Some r) n.position = ap (λ (o : Option ResolvedItem). name_of o n.position) at in
        let known : histories s own ≡ own_held.0 = held_history_is s own (role_content r.role) own_held.0 own_held.1 in
        let number : number_in_history (histories s own) (input_name items n) ≡ number_in_history own_held.0 (name_of (Some r) n.position) =
        ap (λ (h : List SeenName). number_in_history h (input_name items n)) known
        ∙ ap (number_in_history own_held.0) name in (
          role_content r.role,
          own_held.0,
          own_held.1,
          subst (Has (item_outputs (role_content r.role) own_held.0)) (sym number)
              (role_has_name r.role n.position own_held.0 lt),
        )

    names_good : (before : List ℕ) (names : List Input)
        → Each (λ name. Has before name.item × IsNameOf items name) names
        → Each IsGoodKey (map (name_key (histories s) numbers items) names)
    names_good before [] h = tt
    names_good before (n ∷ ns) h = (name_good n h.0.1.0 h.0.1.1 h.0.1.2, names_good before ns h.1)

    item_good : (before : List ℕ) (own : ℕ) (r : ResolvedItem)
        → Each (λ name. Has before name.item × IsNameOf items name) r.inputs.items
        → Each IsGoodKey (item_keys (histories s) numbers items own r)
    item_good before own r h =
        each_append IsGoodKey (slots.Item own ∷ map (function_key numbers) r.functions.items)
        (space_key ∷ map (name_key (histories s) numbers items) r.inputs.items)
        (tt, functions_good r.functions.items) (inl refl, names_good before r.inputs.items h)

    begins_item : (own : ℕ) (r : ResolvedItem) → IsRoleKnown s own (role_content r.role)
        → BeginsAsItem own (item_keys (histories s) numbers items own r)
    begins_item own r h = (_, refl, role_content r.role, h.0, h.1)

    role_good : (role : Role) (own : ℕ) (keys : List SlotKey) → Each IsGoodKey keys
        → BeginsAsItem own keys → AllGood (slots_of role own keys)
    role_good (roles.Group recursive bodies) own keys h b = ((h, b), tt)
    role_good (roles.Check check) own keys h b = ((h, b), tt)
    role_good roles.Silent own keys h b = tt

    item_slots_good : (before : List ℕ) (i : ℕ) (o : Option ResolvedItem) → slice_get items i ≡ o
        → UsesNames items before o
        → AllGood (item_slots (histories s) numbers items (number_at numbers i) o)
    item_slots_good before i None e h = tt
    item_slots_good before i (Some r) e h =
        role_good r.role (number_at numbers i)
        (item_keys (histories s) numbers items (number_at numbers i) r)
        (item_good before (number_at numbers i) r h)
        (begins_item (number_at numbers i) r (held i r e))

    used_good : (before is : List ℕ) → AreOrderedItems items before is
        → AllGood (used_slots (histories s) numbers items is)
    used_good before [] h = tt
    used_good before (i ∷ is) h =
        each_append (λ p. IsGoodSlot p.kind p.of p.inputs)
        (item_slots (histories s) numbers items (number_at numbers i) (slice_get items i))
        (used_slots (histories s) numbers items is)
        (item_slots_good before i (slice_get items i) refl h.0) (used_good (i ∷ before) is h.1)

    flag_good : (own : ℕ) (role : Role) → Each IsGoodKey (flag_key role own)
    flag_good own (roles.Group recursive bodies) = tt
    flag_good own (roles.Check check) = by_flag check.flag refl
      where
        by_flag : (flag : Option (List ℕ)) → check.flag ≡ flag
            → Each IsGoodKey (flag_key (roles.Check check) own)
        by_flag None e = rw e tt
        by_flag (Some name) e = rw e (tt, tt)
    flag_good own roles.Silent = tt

    flag_at_good : (own : ℕ) (o : Option ResolvedItem) → Each IsGoodKey (key_by flag_key own o)
    flag_at_good own None = tt
    flag_at_good own (Some r) = flag_good own r.role

    flags_good : (is : List ℕ) → Each IsGoodKey (keys_by flag_key numbers items is)
    flags_good [] = tt
    flags_good (i ∷ is) =
        each_append IsGoodKey (key_by flag_key (number_at numbers i) (slice_get items i))
        (keys_by flag_key numbers items is)
        (flag_at_good (number_at numbers i) (slice_get items i)) (flags_good is)

    answer_good : (own : ℕ) (role : Role) → IsRoleKnown s own (role_content role)
        → Each IsGoodKey (answer_key role own)
    answer_good own (roles.Group recursive bodies) h = tt
    answer_good own (roles.Check check) h =
        ((role_content (roles.Check check), h.0, h.1, inl refl), tt)
    answer_good own roles.Silent h = tt

    answer_at_good : (i : ℕ) (o : Option ResolvedItem) → slice_get items i ≡ o
        → Each IsGoodKey (key_by answer_key (number_at numbers i) o)
    answer_at_good i None e = tt
    answer_at_good i (Some r) e = answer_good (number_at numbers i) r.role (held i r e)

    answers_good : (is : List ℕ) → Each IsGoodKey (keys_by answer_key numbers items is)
    answers_good [] = tt
    answers_good (i ∷ is) =
        each_append IsGoodKey (key_by answer_key (number_at numbers i) (slice_get items i))
        (keys_by answer_key numbers items is) (answer_at_good i (slice_get items i) refl)
        (answers_good is)

    verdict_good : (used : List ℕ) → Each IsGoodKey (verdict_keys numbers items used)
    verdict_good used =
        each_append IsGoodKey (slots.Test 2 ∷ slots.Test 3 ∷ keys_by flag_key numbers items used)
        (space_key ∷ keys_by answer_key numbers items used)
        (tt, (tt, flags_good used)) (inl refl, answers_good used)

    sound_good : (id : ℕ) (used : List ℕ) → AreOrderedItems items [] used
        → AllGood (sound_slots (histories s) id numbers items used)
    sound_good id used h =
        let verdict : PlainSlot = record { kind = kinds.Verdict; of = id; inputs = verdict_keys numbers items used } in
        each_append (λ p. IsGoodSlot p.kind p.of p.inputs)
        (used_slots (histories s) numbers items used) (verdict ∷ [])
        (used_good [] used h) ((verdict_good used, inl (_, refl)), tt)

  -- ---- of all models

  model_good : (m : ModelReading) → IsModelIn s m → AllGood (slots_in (histories s) m)
  model_good (Sound id numbers items used) h = sound_good numbers items h.1 id used h.0
  model_good (Faulty id fault) h = (((tt, (tt, tt)), inr (id, fault, refl, h)), tt)

  models_good : (ms : List ModelReading) → Each (IsModelIn s) ms
      → AllGood (flat_map (slots_in (histories s)) ms)
  models_good [] h = tt
  models_good (m ∷ ms) h =
      each_append (λ p. IsGoodSlot p.kind p.of p.inputs) (slots_in (histories s) m)
      (flat_map (slots_in (histories s)) ms) (model_good m h.0) (models_good ms h.1)

  spaces_good : (ms : List ModelReading) → AllGood (space_slots ms)
  spaces_good [] = tt
  spaces_good (Sound id numbers items used ∷ ms) = ((tt, tt), tt)
  spaces_good (Faulty id fault ∷ ms) = spaces_good ms

  all_good : (ms : List ModelReading) → Each (IsModelIn s) ms → AllGood (all_slots (histories s) ms)
  all_good ms h =
      each_append (λ p. IsGoodSlot p.kind p.of p.inputs) (space_slots ms)
      (flat_map (slots_in (histories s)) ms) (spaces_good ms) (models_good ms h)

  pub good_slot : (ms : List ModelReading) (kind : Kind) (of : ℕ)
      → map plain s.parts.table.slots.items ≡ all_slots (histories s) ms → Each (IsModelIn s) ms
      → has_slot s.parts.table.slots.items kind of ≡ true
      → IsGoodSlot kind of (slot_keys s.parts.table.slots.items kind of)
  good_slot ms kind of e h has =
      slot_inputs IsGoodSlot s.parts.table.slots.items kind of
      (subst AllGood (sym e) (all_good ms h)) has
