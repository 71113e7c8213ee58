-- The items of a cell, as its state holds them.
use Rattle.std.proofs.Common.{ℕ, ◌≡◌, ◌<◌, inl, inr, arith, true, List, [], ◌∷◌, ◌++◌, length, map, get_or, Option, Some, None, option_map, slice_get, refl, sym, ap, ◌∙◌, subst}
use Rattle.std.specs.List.{AllByRecursion as Each}
use Rattle.std.proofs.lemmas.Option.{same_Some, slice_get_within}
use Rattle.std.proofs.lemmas.Simd.{map-map}
use Rattle.text_values.specs.declared.model.Item.{Item}
use Rattle.text_values.specs.ModelValue.{Clause}
use Rattle.memo_core.specs.declared.keys.Kind.{Kind}
use Rattle.memo_core.specs.declared.keys.Kind.TheVariants as kinds
use Rattle.memo_core.specs.Step.{Has}
use Rattle.binding_kinds.specs.declared.scope.Input.{Input}
use Rattle.binding_graph.specs.declared.resolved.ResolvedItem.{ResolvedItem}
use Rattle.binding_graph.specs.declared.resolved.Role.{Role}
use Rattle.binding_graph.specs.declared.resolved.Role.TheVariants as roles
use Rattle.binding_graph.specs.Reach.{ItemUses, IsReached, AreReached}
use Rattle.binding_graph.proofs.Reaching.{leads_more}
use Rattle.bench_items.specs.Items.{RoleContent, Group, Check, Silent, role_content}
use Rattle.bench_items.specs.Naming.{SeenName, seen_names_in, number_in_history}
use Rattle.bench_nodes.specs.declared.table.SlotKey.{SlotKey}
use Rattle.bench_nodes.specs.declared.table.SlotKey.TheVariants as slots
use Rattle.bench_nodes.specs.Nodes.{has_slot, slot_keys}
use Rattle.bench_slices.specs.Slices.{clause_at}
use Rattle.bench_slots.specs.Slots.{no_name, name_of as bound_name, input_name, number_at, space_key, item_keys, name_key, flag_key, answer_key, key_by, keys_by, verdict_keys}
use Rattle.bench_slots.specs.Tables.{ModelReading, Sound, IsNameOf, UsesNames, AreOrderedItems, name_count}
use Rattle.bench_slots.proofs.Lists.{each_map, each_to, each_has, has_map, has_contains, contains_has}
use Rattle.bench_slots.specs.Closed.{AreClosed, IsPassedOn}
use Rattle.bench_slots.proofs.RoleItems.{resolved_closed}
use Rattle.bench_parts.specs.Built.{IsRoleKnown, AreRolesKnown, IsModelIn}
use Rattle.bench_parts.specs.Contents.{PartContent, OfRole, PartsState, histories, content}
use Rattle.bench_parts.specs.Written.{WrittenModel, WrittenState}
use Rattle.bench_parts.proofs.BuiltSlots.{held_history_is}
use Rattle.bench_edits.specs.Kept.{IsKeptState, IsReadingOfText}
use Rattle.bench_edits.proofs.Origin.{HasKind, verdict_keys_are, item_keys_are, item_there, verdict_there, space_there}
use Rattle.bench_edits.specs.BenchCells.{CellItem, name_of, cell_item, item_at, cell_items, HoldsText, HoldsModel}

-- ---- keys by the items of a cell

-- a group or a check has a node of its kind
abbrev pub IsOfKind : RoleContent → Kind → Type 0
IsOfKind (Group recursive bodies) kind = kind ≡ kinds.Group
IsOfKind (Check negated word code flag) kind = kind ≡ kinds.Check
IsOfKind Silent kind = ⊥

-- the number of the name at a position of an item, in the history that its part holds
abbrev pub number_in : Option PartContent → ℕ → ℕ
number_in (Some (OfRole role history)) position =
    number_in_history history (get_or (seen_names_in role) position no_name)
number_in _ position = 0

-- where the parts of items hold this
abbrev pub used_key : (ℕ → Option PartContent) → ℕ × ℕ → SlotKey
used_key parts n = slots.Value kinds.Group n.0 (number_in (parts n.0) n.1)

abbrev pub keys_of : (ℕ → Option PartContent) → CellItem → List SlotKey
keys_of parts c =
    slots.Item c.number ∷ map slots.Item c.functions ++ space_key ∷ map (used_key parts) c.names

abbrev pub flag_keys : RoleContent → ℕ → List SlotKey
flag_keys (Check negated word code (Some name)) own = slots.Item own ∷ []
flag_keys (Check negated word code None) own = []
flag_keys (Group recursive bodies) own = []
flag_keys Silent own = []

abbrev pub answer_keys : RoleContent → ℕ → List SlotKey
answer_keys (Check negated word code flag) own = slots.Value kinds.Check own 0 ∷ []
answer_keys (Group recursive bodies) own = []
answer_keys Silent own = []

abbrev pub by_item : (RoleContent → ℕ → List SlotKey) → Option CellItem → List SlotKey
by_item f None = []
by_item f (Some c) = f c.role c.number

abbrev pub by_items : (RoleContent → ℕ → List SlotKey) → List (Option CellItem) → List SlotKey
by_items f [] = []
by_items f (o ∷ os) = by_item f o ++ by_items f os

abbrev pub cell_keys : List (Option CellItem) → List SlotKey
cell_keys cs =
    slots.Test 2 ∷ slots.Test 3 ∷ by_items flag_keys cs ++ space_key ∷ by_items answer_keys cs

-- the key of a name is that which the part of its item gives
name_is : (s : PartsState) (numbers : List ℕ) (items : List ResolvedItem) (name : Input)
    → AreRolesKnown s numbers items → IsNameOf items name
    → name_key (histories s) numbers items name ≡ used_key (content s 0) (name_of numbers name)
name_is s numbers items name held is =
    let own = number_at numbers name.item in
    let part = held name.item is.0 is.1 in
    let history : histories s own ≡ part.0 = held_history_is s own (role_content is.0.role) part.0 part.1 in
    let named : input_name items name ≡ get_or (seen_names_in (role_content is.0.role)) name.position no_name = ap (λ (o : Option ResolvedItem). bound_name o name.position) is.1 in
    ap (λ (h : List SeenName). slots.Value kinds.Group own (number_in_history h (input_name items name)))
    history
    ∙ ap (λ (n : SeenName). slots.Value kinds.Group own (number_in_history part.0 n)) named
    ∙ sym (ap (λ (o : Option PartContent). slots.Value kinds.Group own (number_in o name.position))
    part.1)

names_are : (s : PartsState) (numbers : List ℕ) (items : List ResolvedItem) (names : List Input)
    → AreRolesKnown s numbers items → Each (IsNameOf items) names
    → map (name_key (histories s) numbers items) names
    ≡ map (used_key (content s 0)) (map (name_of numbers) names)
names_are s numbers items [] held are = refl
names_are s numbers items (n ∷ ns) held are =
    ap (λ (k : SlotKey). k ∷ map (name_key (histories s) numbers items) ns)
    (name_is s numbers items n held are.0)
    ∙ ap (λ (l : List SlotKey). used_key (content s 0) (name_of numbers n) ∷ l)
    (names_are s numbers items ns held are.1)

pub keys_are : (s : PartsState) (numbers : List ℕ) (items : List ResolvedItem) (own : ℕ)
    (said : Option Clause) (r : ResolvedItem) → AreRolesKnown s numbers items
    → Each (IsNameOf items) r.inputs.items
    → item_keys (histories s) numbers items own r
    ≡ keys_of (content s 0) (cell_item numbers own said r)
keys_are s numbers items own said r held are =
    let f = map-map slots.Item (number_at numbers) r.functions.items in
    ap
    (λ (l : List SlotKey). slots.Item own ∷ l
    ++ space_key ∷ map (name_key (histories s) numbers items) r.inputs.items)
    (sym f)
    ∙ ap
    (λ (l : List SlotKey). slots.Item own
    ∷ map slots.Item (map (number_at numbers) r.functions.items) ++ space_key ∷ l)
    (names_are s numbers items r.inputs.items held are)

flag_is : (role : Role) (own : ℕ) → flag_key role own ≡ flag_keys (role_content role) own
flag_is (roles.Group recursive bodies) own = refl
flag_is (roles.Check check) own = by_flag check.flag refl
  where
    by_flag : (o : Option (List ℕ)) → check.flag ≡ o
        → flag_key (roles.Check check) own ≡ flag_keys (role_content (roles.Check check)) own
    by_flag None e = rw e refl
    by_flag (Some name) e = rw e refl
flag_is roles.Silent own = refl

answer_is : (role : Role) (own : ℕ) → answer_key role own ≡ answer_keys (role_content role) own
answer_is (roles.Group recursive bodies) own = refl
answer_is (roles.Check check) own = refl
answer_is roles.Silent own = refl

one_is : (f : Role → ℕ → List SlotKey) (g : RoleContent → ℕ → List SlotKey)
    → ((role : Role) (own : ℕ) → f role own ≡ g (role_content role) own)
    → (numbers : List ℕ) (own : ℕ) (said : Option Clause) (o : Option ResolvedItem)
    → key_by f own o ≡ by_item g (option_map (cell_item numbers own said) o)
one_is f g same numbers own said None = refl
one_is f g same numbers own said (Some r) = same r.role own

module _ (numbers : List ℕ) (texts : List Item) (items : List ResolvedItem) where
  all_are : (f : Role → ℕ → List SlotKey) (g : RoleContent → ℕ → List SlotKey)
      → ((role : Role) (own : ℕ) → f role own ≡ g (role_content role) own) → (used : List ℕ)
      → keys_by f numbers items used ≡ by_items g (cell_items numbers texts items used)
  all_are f g same [] = refl
  all_are f g same (i ∷ is) =
      ap (λ (l : List SlotKey). l ++ keys_by f numbers items is) (one_is f g same numbers
      (number_at numbers i) (clause_at texts i) (slice_get items i))
      ∙ ap (λ (l : List SlotKey). by_item g (item_at numbers texts items i) ++ l)
      (all_are f g same is)

  pub verdict_are : (used : List ℕ)
      → verdict_keys numbers items used ≡ cell_keys (cell_items numbers texts items used)
  verdict_are used =
      ap
      (λ (l : List SlotKey). slots.Test 2 ∷ slots.Test 3 ∷ l
      ++ space_key ∷ keys_by answer_key numbers items used)
      (all_are flag_key flag_keys flag_is used)
      ∙ ap
      (λ (l : List SlotKey). slots.Test 2 ∷ slots.Test 3
      ∷ by_items flag_keys (cell_items numbers texts items used) ++ space_key ∷ l)
      (all_are answer_key answer_keys answer_is used)

-- ---- the item of the model

pub record IsItemOf (numbers : List ℕ) (texts : List Item) (items : List ResolvedItem)
    (used : List ℕ) (c : CellItem) : Type 0 where
  pub index : ℕ
  pub item : ResolvedItem
  pub inside : Has used index
  pub found : slice_get items index ≡ Some item
  pub is : cell_item numbers (number_at numbers index) (clause_at texts index) item ≡ c

module _ (numbers : List ℕ) (texts : List Item) (items : List ResolvedItem) (used : List ℕ) where
  found_item : (i : ℕ) (c : CellItem) (o : Option ResolvedItem) → Has used i → slice_get items i ≡ o
      → option_map (cell_item numbers (number_at numbers i) (clause_at texts i)) o ≡ Some c
      → IsItemOf numbers texts items used c
  found_item i c None inside at e = absurd (let f : None ≡ Some c = e in cc)
  found_item i c (Some r) inside at e =
      record { index = i; item = r; inside = inside; found = at; is = same_Some _ _ e }

  among : (is : List ℕ) → ((i : ℕ) → Has is i → Has used i) → (c : CellItem)
      → Has (cell_items numbers texts items is) (Some c) → IsItemOf numbers texts items used c
  among [] within c h = absurd h
  among (i ∷ is) within c (inl e) = found_item i c (slice_get items i) (within i (inl refl)) refl e
  among (i ∷ is) within c (inr h) = among is (λ k g. within k (inr g)) c h

  pub item_of : (c : CellItem) → Has (cell_items numbers texts items used) (Some c)
      → IsItemOf numbers texts items used c
  item_of c h = among used (λ i g. g) c h

kind_is : (role : Role) (kind : Kind) → IsOfKind (role_content role) kind → HasKind role kind
kind_is (roles.Group recursive bodies) kind h = h
kind_is (roles.Check check) kind h = h
kind_is roles.Silent kind h = h

-- ---- the names and the functions that an item uses

-- the number is that of one of the items
pub record IsAmong (cs : List (Option CellItem)) (of : ℕ) : Type 0 where
  pub item : CellItem
  pub there : Has cs (Some item)
  pub number : item.number ≡ of

-- the number is that of a group among the items
pub record IsGroupAmong (cs : List (Option CellItem)) (of : ℕ) : Type 0 where
  pub group : CellItem
  pub there : Has cs (Some group)
  pub number : group.number ≡ of
  pub kind : IsOfKind group.role kinds.Group

ordered : (items : List ResolvedItem) (used before is : List ℕ)
    → ((i : ℕ) → Has before i → Has used i) → ((i : ℕ) → Has is i → Has used i)
    → AreOrderedItems items before is → (i : ℕ) (r : ResolvedItem) → Has is i
    → slice_get items i ≡ Some r
    → Each (λ name. Has used name.item × IsNameOf items name) r.inputs.items
ordered items used before [] early late h i r there at = absurd there
ordered items used before (j ∷ is) early late h i r (inl e) at =
    each_to (λ name. Has before name.item × IsNameOf items name)
    (λ name. Has used name.item × IsNameOf items name) (λ name g. (early name.item g.0, g.1))
    r.inputs.items
    (subst (UsesNames items before) (ap (slice_get items) e ∙ at) h.0)
ordered items used before (j ∷ is) early late h i r (inr there) at =
    ordered items used (j ∷ before) is earlier (λ k g. late k (inr g)) h.1 i r there at
  where
    earlier : (k : ℕ) → Has (j ∷ before) k → Has used k
    earlier k (inl e) = late k (inl e)
    earlier k (inr g) = early k g

is_group : (r : ResolvedItem) (position : ℕ) → position < name_count r.role
    → IsOfKind (role_content r.role) kinds.Group
is_group r position lt = by_role r.role lt
  where
    by_role : (role : Role) → position < name_count role → IsOfKind (role_content role) kinds.Group
    by_role (roles.Group recursive bodies) lt = refl
    by_role (roles.Check check) lt = absurd (omega (arith, lt))
    by_role roles.Silent lt = absurd (omega (arith, lt))

module _ (numbers : List ℕ) (texts : List Item) (items : List ResolvedItem) (used : List ℕ) where
  item_there_at : (index : ℕ) (r : ResolvedItem) → Has used index → slice_get items index ≡ Some r
      → Has (cell_items numbers texts items used) (Some (cell_item numbers (number_at numbers index)
      (clause_at texts index) r))
  item_there_at index r inside at =
      subst (Has (cell_items numbers texts items used))
      (ap (option_map (cell_item numbers (number_at numbers index) (clause_at texts index))) at)
      (has_map (item_at numbers texts items) used index inside)

  group_among : (name : Input) → Has used name.item → IsNameOf items name
      → IsGroupAmong (cell_items numbers texts items used) (name_of numbers name).0
  group_among name inside is = record {
    group = cell_item numbers (number_at numbers name.item) (clause_at texts name.item) is.0;
    there = item_there_at name.item is.0 inside is.1;
    number = refl;
    kind = is_group is.0 name.position is.2;
  }

  -- a function that one of them applies is among them
  function_among : AreReached items used → (index : ℕ) (r : ResolvedItem) → Has used index
      → slice_get items index ≡ Some r → (f : ℕ) (q : ResolvedItem) → Has r.functions.items f
      → slice_get items f ≡ Some q
      → IsAmong (cell_items numbers texts items used) (number_at numbers f)
  function_among reached index r inside at f q applied found =
      let is = ((reached.exact index).0 (has_contains used index inside)).1 in
      let uses : ItemUses items index f = (r, at, inr (has_contains r.functions.items f applied)) in
      let more : IsReached items f = record { from = is.from; is_check = is.is_check; through = is.through ++ f ∷ []; leads = leads_more items is.from is.through index f is.leads uses } in
      record {
        item = cell_item numbers (number_at numbers f) (clause_at texts f) q;
        there =
            item_there_at f q
            (contains_has used f ((reached.exact f).1 (slice_get_within items f q found, more)))
            found;
        number = refl;
      }

-- ---- what the state holds of the cell

pub record IsCellIn (w : WrittenState) (id : ℕ) (cs : List (Option CellItem)) : Type 0 where
  pub verdict_keys : slot_keys w.state.parts.table.slots.items kinds.Verdict id ≡ cell_keys cs
  pub item_keys : (c : CellItem) (kind : Kind) → Has cs (Some c) → IsOfKind c.role kind
      → slot_keys w.state.parts.table.slots.items kind c.number ≡ keys_of (content w.state 0) c
  pub held : (c : CellItem) → Has cs (Some c) → IsRoleKnown w.state c.number c.role
  pub said : (c : CellItem) → Has cs (Some c) → HoldsText w c.number c.said
  pub functions : (c : CellItem) → Has cs (Some c) → Each (IsAmong cs) c.functions
  pub names : (c : CellItem) → Has cs (Some c) → Each (λ n. IsGroupAmong cs n.0) c.names
  pub has_space : has_slot w.state.parts.table.slots.items kinds.Space 0 ≡ true
  pub has_item : (c : CellItem) (kind : Kind) → Has cs (Some c) → IsOfKind c.role kind
      → has_slot w.state.parts.table.slots.items kind c.number ≡ true
  pub has_verdict : has_slot w.state.parts.table.slots.items kinds.Verdict id ≡ true

module _ (w : WrittenState) (own_numbers : List ℕ) (texts : List Item) (id : ℕ) (numbers : List ℕ)
    (items : List ResolvedItem) (used : List ℕ)
    (h : HoldsModel w (record {
      numbers = own_numbers;
      items = texts;
      reading = Sound id numbers items used;
    })) where
  abbrev s : PartsState
  s = w.state

  abbrev models : List ModelReading
  models = map (λ m. m.reading) w.models

  abbrev cs : List (Option CellItem)
  cs = cell_items numbers texts items used

  abbrev k : IsKeptState s models
  k = h.kept

  there : Has models (Sound id numbers items used)
  there =
      has_map (λ (m : WrittenModel). m.reading) w.models
      (record { numbers = own_numbers; items = texts; reading = Sound id numbers items used })
      h.there

  model_in : IsModelIn s (Sound id numbers items used)
  model_in = each_has (IsModelIn s) models k.built.models_in (Sound id numbers items used) there

  read_from : IsReadingOfText (Sound id numbers items used)
  read_from = each_has IsReadingOfText models k.read (Sound id numbers items used) there

  closed : AreClosed items
  closed = resolved_closed read_from.0 items read_from.1.resolved

  the_item : (c : CellItem) → Has cs (Some c) → IsItemOf numbers texts items used c
  the_item c g = item_of numbers texts items used c g

  held : (c : CellItem) → Has cs (Some c) → IsRoleKnown s c.number c.role
  held c g = let i = the_item c g in
      subst (λ (d : CellItem). IsRoleKnown s d.number d.role) i.is (model_in.1 i.index i.item i.found)

  said : (c : CellItem) → Has cs (Some c) → HoldsText w c.number c.said
  said c g = let i = the_item c g in
      let lt : i.index < length numbers = subst (λ (n : ℕ). i.index < n) (sym (read_from.1).numbered) (slice_get_within items i.index i.item i.found) in
      subst (λ (d : CellItem). HoldsText w d.number d.said) i.is (h.texts i.index lt)

  functions : (c : CellItem) → Has cs (Some c) → Each (IsAmong cs) c.functions
  functions c g = let i = the_item c g in
      subst (λ (d : CellItem). Each (IsAmong cs) d.functions) i.is
      (each_map (number_at numbers) (IsAmong cs) i.item.functions.items
      (all_among i.index i.item i.inside i.found i.item.functions.items (λ f e. e)))
    where
      all_among : (index : ℕ) (r : ResolvedItem) → Has used index → slice_get items index ≡ Some r
          → (fs : List ℕ) → ((f : ℕ) → Has fs f → Has r.functions.items f)
          → Each (λ f. IsAmong cs (number_at numbers f)) fs
      all_among index r inside at [] within = tt
      all_among index r inside at (f ∷ fs) within = (
        (let passed =
            each_has (IsPassedOn items r) r.functions.items (closed index r at).functions f
            (within f (inl refl)) in
            function_among numbers texts items used (read_from.1).reached index r inside at f
            passed.0 (within f (inl refl)) passed.1),
        all_among index r inside at fs (λ k e. within k (inr e)),
      )

  names : (c : CellItem) → Has cs (Some c) → Each (λ n. IsGroupAmong cs n.0) c.names
  names c g = let i = the_item c g in
      subst (λ (d : CellItem). Each (λ n. IsGroupAmong cs n.0) d.names) i.is
      (each_map (name_of numbers) (λ n. IsGroupAmong cs n.0) i.item.inputs.items
      (each_to (λ name. Has used name.item × IsNameOf items name)
      (λ name. IsGroupAmong cs (name_of numbers name).0)
      (λ name e. group_among numbers texts items used name e.0 e.1) i.item.inputs.items
      (ordered items used [] used (λ j e. absurd e) (λ j e. e) model_in.0 i.index i.item i.inside
      i.found)))

  abbrev HasKeys : CellItem → Kind → Type 0
  HasKeys c kind = slot_keys s.parts.table.slots.items kind c.number ≡ keys_of (content s 0) c

  keys : (c : CellItem) (kind : Kind) → Has cs (Some c) → IsOfKind c.role kind → HasKeys c kind
  keys c kind g of = let i = the_item c g in
      let own : HasKind i.item.role kind = kind_is i.item.role kind (subst (λ (d : CellItem). IsOfKind d.role kind) (sym i.is) of) in
      subst (λ (d : CellItem). HasKeys d kind) i.is
      (item_keys_are models k.models_apart k.read (histories s) s.parts.table.slots.items
      k.built.slots id numbers items used there i.index i.item kind i.inside i.found own
      ∙ keys_are s numbers items (number_at numbers i.index) (clause_at texts i.index) i.item
      model_in.1
      (each_to (λ (n : Input). (n.item < i.index) × IsNameOf items n) (IsNameOf items) (λ n e. e.1)
      i.item.inputs.items (closed i.index i.item i.found).names))

  has_item : (c : CellItem) (kind : Kind) → Has cs (Some c) → IsOfKind c.role kind
      → has_slot s.parts.table.slots.items kind c.number ≡ true
  has_item c kind g of = let i = the_item c g in
      let own : HasKind i.item.role kind = kind_is i.item.role kind (subst (λ (d : CellItem). IsOfKind d.role kind) (sym i.is) of) in
      subst (λ (d : CellItem). has_slot s.parts.table.slots.items kind d.number ≡ true) i.is
      (item_there models k.models_apart k.read (histories s) s.parts.table.slots.items k.built.slots
      id numbers items used there i.index i.item kind i.inside i.found own)

  pub cell_in : IsCellIn w id cs
  cell_in = record {
    verdict_keys =
        verdict_keys_are models k.models_apart k.read (histories s) s.parts.table.slots.items
        k.built.slots (Sound id numbers items used) there
        ∙ verdict_are numbers texts items used;
    item_keys = keys;
    held = held;
    said = said;
    functions = functions;
    names = names;
    has_space =
        space_there models k.models_apart k.read (histories s) s.parts.table.slots.items
        k.built.slots id numbers items used there;
    has_item = has_item;
    has_verdict =
        verdict_there models k.models_apart k.read (histories s) s.parts.table.slots.items
        k.built.slots (Sound id numbers items used) there;
  }
