-- Each slot of an item is that of an item of a model, and what its job is given stays as long as
-- its keys and their parts do.
use Rattle.std.proofs.Common.{ℕ, ◌≡◌, ◌⊎◌, inl, inr, true, List, [], ◌∷◌, map, Option, Some, None, slice_get, refl, sym, ap, subst, ◌∙◌, arith}
use Rattle.std.specs.List.{AllByRecursion as Each, flat_map}
use Rattle.std.proofs.lemmas.Option.{get_or_from_slice_get}
use Rattle.text_values.specs.declared.model.Item.{Item}
use Rattle.predefined_names.specs.declared.predefined.TheConstants.{PREDEFINED}
use Rattle.text_values.specs.ModelValue.{Clause}
use Rattle.memo_core.specs.declared.keys.Kind.{Kind}
use Rattle.memo_core.specs.declared.keys.Kind.TheVariants as kinds
use Rattle.memo_core.specs.declared.keys.Key.{Key}
use Rattle.memo_core.specs.declared.keys.Key.TheVariants.{Part}
use Rattle.memo_core.specs.Right.{IsSamePart}
use Rattle.memo_core.specs.Step.{Has}
use Rattle.binding_graph.specs.declared.resolved.ResolvedItem.{ResolvedItem}
use Rattle.binding_graph.specs.declared.resolved.Role.{Role}
use Rattle.binding_graph.specs.declared.resolved.Role.TheVariants as roles
use Rattle.binding_laws.specs.Reread as reread
use Rattle.binding_laws.specs.Reread.{outer_namings, IsItemOf}
use Rattle.binding_laws.proofs.Seen.{beside}
use Rattle.bench_slots.specs.Roles.{IsSaidAgain, AreBeforeAndAfter}
use Rattle.bench_slots.proofs.Roles.{roles_again}
use Rattle.bench_nodes.specs.declared.table.SlotKey.{SlotKey}
use Rattle.bench_nodes.specs.declared.table.SlotKey.TheVariants as slots
use Rattle.bench_nodes.specs.Nodes.{part_stamp, has_slot, slot_keys, keys_at}
use Rattle.binding_shapes.specs.Shapes.{role_shape}
use Rattle.bench_values.specs.Givens.{ForItem}
use Rattle.bench_items.specs.Items.{role_content}
use Rattle.bench_items.specs.Naming.{SeenName, AreInHistory, item_outputs}
use Rattle.bench_slots.specs.Slots.{PlainSlot, number_at, item_keys, slots_of, item_slots, used_slots, verdict_keys, sound_slots}
use Rattle.bench_slots.specs.Tables.{ModelReading, Sound, Faulty, space_slots, slots_in, all_slots}
use Rattle.bench_slots.proofs.Lists.{each_append, each_has}
use Rattle.bench_parts.specs.Built.{AreRolesKnown, IsModelIn}
use Rattle.bench_parts.specs.Contents.{PartContent, OfText, OfRole, histories, content}
use Rattle.bench_parts.specs.States.{contents, given_item, net_in}
use Rattle.bench_parts.specs.Written.{WrittenModel, WrittenState, read_model, IsReadAs, IsWholeState, IsStateSince, item_text}
use Rattle.bench_parts.proofs.BuiltSlots.{slot_inputs, held_history_is}
use Rattle.bench_parts.proofs.Histories.{content_named}
use Rattle.bench_parts.proofs.Saying.{say_same, text_known}

abbrev rest_of : List SlotKey → List SlotKey
rest_of [] = []
rest_of (k ∷ ks) = ks

-- ---- slots

-- these are the keys of an item of that number
pub record IsOfItem (w : WrittenState) (of : ℕ) (keys : List SlotKey) : Type 0 where
  pub model : WrittenModel
  pub there : Has w.models model
  pub items : List ResolvedItem
  pub sound : reread.IsReadModel (outer_namings PREDEFINED) (read_model model items)
  pub held : AreRolesKnown w.state model.numbers items
  pub index : ℕ
  pub item : ResolvedItem
  pub item_at : slice_get items index ≡ Some item
  pub number_is : number_at model.numbers index ≡ of
  pub keys_are : keys ≡ item_keys (histories w.state) model.numbers items of item

-- these are the keys of a verdict under a model without fault
pub record IsOfSound (w : WrittenState) (keys : List SlotKey) : Type 0 where
  pub model : WrittenModel
  pub there : Has w.models model
  pub items : List ResolvedItem
  pub sound : reread.IsReadModel (outer_namings PREDEFINED) (read_model model items)
  pub held : AreRolesKnown w.state model.numbers items
  pub used : List ℕ
  pub keys_are : keys ≡ verdict_keys model.numbers items used

-- or under one with a fault
abbrev pub IsOfFaulty : List SlotKey → Type 0
IsOfFaulty keys = (id : ℕ) × (keys ≡ slots.Test 2 ∷ slots.Fault id ∷ [])

abbrev pub IsOfModel : WrittenState → Kind → ℕ → List SlotKey → Type 0
IsOfModel w kinds.Space of keys = Unit {0}
IsOfModel w kinds.Group of keys = IsOfItem w of keys
IsOfModel w kinds.Check of keys = IsOfItem w of keys
IsOfModel w kinds.Verdict of keys = IsOfSound w keys ⊎ IsOfFaulty keys

module _ (w : WrittenState) (whole : IsWholeState w) where
  abbrev All : List PlainSlot → Type 0
  All ss = Each (λ p. IsOfModel w p.kind p.of p.inputs) ss

  module _ (m : WrittenModel) (there : Has w.models m) (items : List ResolvedItem)
      (sound : reread.IsReadModel (outer_namings PREDEFINED) (read_model m items))
      (held : AreRolesKnown w.state m.numbers items) where
    role_slots : (role : Role) (own : ℕ) (keys : List SlotKey) → IsOfItem w own keys
        → All (slots_of role own keys)
    role_slots (roles.Group recursive bodies) own keys is = (is, tt)
    role_slots (roles.Check check) own keys is = (is, tt)
    role_slots roles.Silent own keys is = tt

    one_item : (i : ℕ) (o : Option ResolvedItem) → slice_get items i ≡ o
        → All (item_slots (histories w.state) m.numbers items (number_at m.numbers i) o)
    one_item i None e = tt
    one_item i (Some r) e =
        role_slots r.role (number_at m.numbers i)
        (item_keys (histories w.state) m.numbers items (number_at m.numbers i) r) (record {
          model = m;
          there = there;
          items = items;
          sound = sound;
          held = held;
          index = i;
          item = r;
          item_at = e;
          number_is = refl;
          keys_are = refl;
        })

    items_slots : (is : List ℕ) → All (used_slots (histories w.state) m.numbers items is)
    items_slots [] = tt
    items_slots (i ∷ is) =
        each_append (λ p. IsOfModel w p.kind p.of p.inputs)
        (item_slots (histories w.state) m.numbers items (number_at m.numbers i)
        (slice_get items i))
        (used_slots (histories w.state) m.numbers items is)
        (one_item i (slice_get items i) refl) (items_slots is)

    whole_slots : (id : ℕ) (used : List ℕ)
        → All (sound_slots (histories w.state) id m.numbers items used)
    whole_slots id used =
        let verdict : PlainSlot = record { kind = kinds.Verdict; of = id; inputs = verdict_keys m.numbers items used } in
        each_append (λ p. IsOfModel w p.kind p.of p.inputs)
        (used_slots (histories w.state) m.numbers items used) (verdict ∷ [])
        (items_slots used) (
          inl (record {
            model = m;
            there = there;
            items = items;
            sound = sound;
            held = held;
            used = used;
            keys_are = refl;
          }),
          tt,
        )

  model_slots : (m : WrittenModel) (rd : ModelReading) → Has w.models m → IsReadAs m rd
      → IsModelIn w.state rd → All (slots_in (histories w.state) rd)
  model_slots m (Sound id numbers items used) there read h =
      subst (λ (ns : List ℕ). All (sound_slots (histories w.state) id ns items used)) (sym read.0)
      (whole_slots m there items read.1
      (subst (λ (ns : List ℕ). AreRolesKnown w.state ns items) read.0 h.1) id used)
  model_slots m (Faulty id fault) there read h = (inr (id, refl), tt)

  models_slots : (ms : List WrittenModel) → ((m : WrittenModel) → Has ms m → Has w.models m)
      → Each (λ m. IsReadAs m m.reading) ms → Each (IsModelIn w.state) (map (λ m. m.reading) ms)
      → All (flat_map (slots_in (histories w.state)) (map (λ m. m.reading) ms))
  models_slots [] inside read h = tt
  models_slots (m ∷ ms) inside read h =
      each_append (λ p. IsOfModel w p.kind p.of p.inputs) (slots_in (histories w.state) m.reading)
      (flat_map (slots_in (histories w.state)) (map (λ n. n.reading) ms))
      (model_slots m m.reading (inside m (inl refl)) read.0 h.0) (models_slots ms
      (λ n there. inside n (inr there)) read.1 h.1)

  spaces : (ms : List ModelReading) → All (space_slots ms)
  spaces [] = tt
  spaces (Sound id numbers items used ∷ ms) = (tt, tt)
  spaces (Faulty id fault ∷ ms) = spaces ms

  pub slot_of : (kind : Kind) (of : ℕ) → has_slot w.state.parts.table.slots.items kind of ≡ true
      → IsOfModel w kind of (slot_keys w.state.parts.table.slots.items kind of)
  slot_of kind of has =
      let readings : List ModelReading = map (λ m. m.reading) w.models in
      let all : All (all_slots (histories w.state) readings) =
      each_append (λ p. IsOfModel w p.kind p.of p.inputs) (space_slots readings)
      (flat_map (slots_in (histories w.state)) readings) (spaces readings)
      (models_slots w.models (λ m h. h) whole.read (whole.built).models_in) in
      slot_inputs (IsOfModel w) w.state.parts.table.slots.items kind of
      (subst All (sym (whole.built).slots) all) has

  -- ---- items

  module _ (of : ℕ) (keys : List SlotKey) (a : IsOfItem w of keys) where
    part_is : content w.state 0 of ≡ Some (OfRole (role_content a.item.role) (histories w.state of))
    part_is =
        let h = a.held a.index a.item a.item_at in
        let here : content w.state 0 of ≡ Some (OfRole (role_content a.item.role) h.0) = subst (λ (n : ℕ). content w.state 0 n ≡ Some (OfRole (role_content a.item.role) h.0)) a.number_is h.1 in
        here
        ∙ ap (λ (l : List SeenName). Some (OfRole (role_content a.item.role) l))
        (sym (held_history_is w.state of (role_content a.item.role) h.0 here))

    -- what its job is given
    pub given_is : (test : ℕ)
        → given_item (contents w.state (keys_at test keys))
        ≡ Some (ForItem (role_shape (role_content a.item.role))
        (item_outputs (role_content a.item.role) (histories w.state of)))
    given_is test =
        ap (λ (ks : List SlotKey). given_item (contents w.state (keys_at test ks))) a.keys_are
        ∙ ap
        (λ (o : Option PartContent). given_item (o
        ∷ contents w.state (keys_at test (rest_of (item_keys (histories w.state)
        a.model.numbers a.items of a.item))))) part_is

    pub item_in : (x : Item) → slice_get a.model.items a.index ≡ Some x
        → IsItemOf (read_model a.model a.items) of a.index x a.item
    item_in x text =
        let number = beside a.items a.model.numbers a.index a.item ((a.sound).numbered ∙ sym (a.sound).whole) a.item_at in
        let same : number.0 ≡ of = sym (get_or_from_slice_get a.model.numbers a.index number.0 0 number.1) ∙ a.number_is in
        record { has_number = number.1 ∙ ap (λ (n : ℕ). Some n) same; text = text; item = a.item_at }

    pub text_in_model : (x : Item) × (slice_get a.model.items a.index ≡ Some x)
    text_in_model = beside a.items a.model.items a.index a.item (sym (a.sound).whole) a.item_at

    pub items_named : (i : ℕ) (r : ResolvedItem) → slice_get a.items i ≡ Some r
        → AreInHistory (histories w.state (number_at a.model.numbers i)) (role_content r.role)
    items_named i r at =
        let number = number_at a.model.numbers i in
        let h = a.held i r at in
        subst (λ (l : List SeenName). AreInHistory l (role_content r.role))
        (sym (held_history_is w.state number (role_content r.role) h.0 h.1))
        (content_named w.state.parts.table.items.items w.state.parts.roles.items number
        (role_content r.role) h.0 h.1)

-- ---- what was given stays

module _ (w v : WrittenState) (since : IsStateSince w v) (of : ℕ) (old new : List SlotKey)
    (a : IsOfItem w of old) (b : IsOfItem v of new) (test : ℕ)
    (same : keys_at test new ≡ keys_at test old)
    (parts : Each (IsSamePart (net_in w.state) (net_in v.state)) (keys_at test new)) where
  abbrev here : reread.ReadModel
  here = read_model a.model a.items

  abbrev there : reread.ReadModel
  there = read_model b.model b.items

  in_order : reread.AreInOneOrder here there
  in_order i j c d first second at_i at_j at_c at_d lt =
      let p = (since.items).order first second (record { model = a.model; from = i; to = j; there = a.there; first_at = at_i; second_at = at_j; before = lt })
      (record { model = b.model; index = c; there = b.there; stands = at_c })
      (record { model = b.model; index = d; there = b.there; stands = at_d }) in
      let from = (since.still_whole).apart p.model b.model p.from c first p.there b.there p.first_at at_c in
      let to = (since.still_whole).apart p.model b.model p.to d second p.there b.there p.second_at at_d in
      omega (arith, p.before, from.1, to.1)

  models_beside : AreBeforeAndAfter PREDEFINED here there (histories w.state) (histories v.state)
  models_beside = record {
    sound = a.sound;
    still = b.sound;
    order = in_order;
    named = items_named w since.whole of old a;
    grown =
        λ number i j at also. (since.items).grown number
        (record { model = a.model; index = i; there = a.there; stands = at })
        (record { model = b.model; index = j; there = b.there; stands = also });
  }

  same_keys : keys_at test (item_keys (histories v.state) there.numbers there.resolved of b.item)
      ≡ keys_at test (item_keys (histories w.state) here.numbers here.resolved of a.item)
  same_keys = ap (keys_at test) (sym b.keys_are) ∙ same ∙ ap (keys_at test) a.keys_are

  said_again : (n : ℕ)
      → Has (keys_at test (item_keys (histories w.state) here.numbers here.resolved of a.item))
      (Part 0 n) → IsSaidAgain here there n
  said_again n h i j x y at_i text_i at_j text_j =
      let has : Has (keys_at test new) (Part 0 n) = subst (λ (ks : List Key). Has ks (Part 0 n)) (sym (same ∙ ap (keys_at test) a.keys_are)) h in
      let stamp : part_stamp v.state.parts.table 0 n ≡ part_stamp w.state.parts.table 0 n = each_has (IsSamePart (net_in w.state) (net_in v.state)) (keys_at test new) parts (Part 0 n) has in
      let text : item_text v.models n ≡ item_text w.models n = since.same 0 n stamp in
      let was = text_known w since.whole a.model i n x a.there at_i text_i in
      let is = text_known v since.still_whole b.model j n y b.there at_j text_j in
      say_same x y (one_clause (sym was ∙ sym text ∙ is))
    where
      one_clause : {c d : Clause} → Some (OfText c) ≡ Some (OfText d) → c ≡ d
      one_clause e = cc

  pub item_given_stays : given_item (contents v.state (keys_at test new))
      ≡ given_item (contents w.state (keys_at test old))
  item_given_stays =
      let x = text_in_model w since.whole of old a in
      let y = text_in_model v since.still_whole of new b in
      let again = roles_again PREDEFINED here there (histories w.state) (histories v.state) models_beside of a.index b.index x.0 y.0 a.item b.item
      (item_in w since.whole of old a x.0 x.1) (item_in v since.still_whole of new b y.0 y.1) test
      same_keys said_again in
      given_is v since.still_whole of new b test
      ∙ (λ i. Some (ForItem (again.0 i) (again.1 i)))
      ∙ sym (given_is w since.whole of old a test)
