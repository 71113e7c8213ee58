-- Each used node is one that a verdict stands on.
use Rattle.std.proofs.Common.{ℕ, ◌≡◌, ◌<◌, inl, inr, suc, true, List, [], ◌∷◌, length, map, Option, Some, slice_get, refl, sym, ap, ◌∙◌, subst, arith}
use Rattle.std.proofs.lemmas.Option.{slice_get_within}
use Rattle.memo_core.specs.declared.keys.Kind.{Kind}
use Rattle.memo_core.specs.declared.keys.Kind.TheVariants as kinds
use Rattle.memo_core.specs.declared.keys.Node.{Node}
use Rattle.memo_core.specs.Graph.{input_nodes}
use Rattle.memo_core.specs.Step.{Has}
use Rattle.binding_kinds.specs.declared.scope.Input.{Input}
use Rattle.binding_graph.specs.declared.resolved.ResolvedItem.{ResolvedItem}
use Rattle.binding_graph.specs.declared.resolved.Role.{Role}
use Rattle.binding_graph.specs.declared.resolved.Role.TheVariants as roles
use Rattle.binding_graph.specs.Reach.{is_check, AreReached}
use Rattle.bench_nodes.specs.declared.table.Slot.{Slot}
use Rattle.bench_nodes.specs.declared.table.SlotKey.{SlotKey}
use Rattle.bench_nodes.specs.declared.table.SlotKey.TheVariants as slots
use Rattle.bench_nodes.specs.Nodes.{used, keys_at, has_slot, slot_keys, node_inputs}
use Rattle.bench_nodes.proofs.Laws.{used_slot}
use Rattle.bench_items.specs.Naming.{SeenName}
use Rattle.bench_slots.specs.Slots.{number_at, function_key, name_key, space_key, item_keys, flag_key, answer_key, key_by, keys_by, verdict_keys}
use Rattle.bench_slots.specs.Tables.{ModelReading, Sound, name_count, IsNameOf}
use Rattle.bench_slots.proofs.Lists.{has_append, has_behind, has_map, has_contains, contains_has, each_has}
use Rattle.bench_slots.specs.Closed.{NamesItem, AreClosed, LeadsByNames}
use Rattle.bench_slots.proofs.RoleItems.{resolved_closed}
use Rattle.bench_slots.proofs.Reached.{name_reached, reached_by_names}
use Rattle.bench_parts.specs.Contents.{PartsState, histories}
use Rattle.bench_parts.specs.States.{net_in}
use Rattle.cells.specs.Cells.{StandsOn}
use Rattle.bench_edits.specs.Kept.{IsReadingOfText, id_in, IsKeptState, role_node_kind, item_node, name_number, space_node, verdict_node, IsUnderVerdict}
use Rattle.bench_edits.proofs.Origin.{HasKind, verdict_inputs, IsOfItem, IsOfSpace, IsOfVerdict, origin, item_keys_are, verdict_keys_are}

-- ---- keys and nodes

-- the node of an output among keys is among the nodes of the keys
pub key_node : (test : ℕ) (ks : List SlotKey) (kind : Kind) (of name : ℕ)
    → Has ks (slots.Value kind of name)
    → Has (input_nodes (keys_at test ks)) (record { kind = kind; test = test; of = of })
key_node test [] kind of name h = absurd h
key_node test (slots.Test part ∷ ks) kind of name (inl e) =
    absurd (let f : slots.Test part ≡ slots.Value kind of name = e in cc)
key_node test (slots.Test part ∷ ks) kind of name (inr h) = key_node test ks kind of name h
key_node test (slots.Item number ∷ ks) kind of name (inl e) =
    absurd (let f : slots.Item number ≡ slots.Value kind of name = e in cc)
key_node test (slots.Item number ∷ ks) kind of name (inr h) = key_node test ks kind of name h
key_node test (slots.Fault id ∷ ks) kind of name (inl e) =
    absurd (let f : slots.Fault id ≡ slots.Value kind of name = e in cc)
key_node test (slots.Fault id ∷ ks) kind of name (inr h) = key_node test ks kind of name h
key_node test (slots.Value k o x ∷ ks) kind of name (inl e) =
    let same : k ≡ kind = value_kind e in
    let also : o ≡ of = value_of e in
    inl (ap (λ (j : Kind). let n : Node = record { kind = j; test = test; of = o } in n) same
    ∙ ap (λ (j : ℕ). let n : Node = record { kind = kind; test = test; of = j } in n) also)
  where
    value_kind : slots.Value k o x ≡ slots.Value kind of name → k ≡ kind
    value_kind e = cc

    value_of : slots.Value k o x ≡ slots.Value kind of name → o ≡ of
    value_of e = cc
key_node test (slots.Value k o x ∷ ks) kind of name (inr h) = inr (key_node test ks kind of name h)

-- the name of an item among names
pub name_of_item : (names : List Input) (k : ℕ) → Has (map (λ n. n.item) names) k
    → (name : Input) × Has names name × (name.item ≡ k)
name_of_item [] k h = absurd h
name_of_item (n ∷ ns) k (inl e) = (n, inl refl, e)
name_of_item (n ∷ ns) k (inr h) = let r = name_of_item ns k h in (r.0, inr r.1, r.2)

pub name_among : (histories : ℕ → List SeenName) (numbers : List ℕ) (items : List ResolvedItem)
    (own : ℕ) (r : ResolvedItem) (name : Input) → Has r.inputs.items name
    → Has (item_keys histories numbers items own r) (name_key histories numbers items name)
name_among histories numbers items own r name h =
    has_behind (slots.Item own ∷ map (function_key numbers) r.functions.items)
    (space_key ∷ map (name_key histories numbers items) r.inputs.items)
    (name_key histories numbers items name) (inr (has_map (name_key histories numbers items)
    r.inputs.items name h))

space_of_verdict : (numbers : List ℕ) (items : List ResolvedItem) (us : List ℕ)
    → Has (verdict_keys numbers items us) space_key
space_of_verdict numbers items us =
    has_behind (slots.Test 2 ∷ slots.Test 3 ∷ keys_by flag_key numbers items us)
    (space_key ∷ keys_by answer_key numbers items us) space_key (inl refl)

answer_among : (numbers : List ℕ) (items : List ResolvedItem) (us : List ℕ) (i : ℕ)
    (r : ResolvedItem) → Has us i → slice_get items i ≡ Some r → is_check r.role ≡ true
    → Has (keys_by answer_key numbers items us) (slots.Value kinds.Check (number_at numbers i) 0)
answer_among numbers items [] i r inside found check = absurd inside
answer_among numbers items (j ∷ us) i r (inl e) found check =
    has_append (key_by answer_key (number_at numbers j) (slice_get items j))
    (keys_by answer_key numbers items us) (slots.Value kinds.Check (number_at numbers i) 0)
    (subst
    (λ (n : ℕ). Has (key_by answer_key (number_at numbers n) (slice_get items n))
    (slots.Value kinds.Check (number_at numbers i) 0))
    (sym e)
    (subst
    (λ (o : Option ResolvedItem). Has (key_by answer_key (number_at numbers i) o)
    (slots.Value kinds.Check (number_at numbers i) 0))
    (sym found)
    (by_role r.role check)))
  where
    by_role : (role : Role) → is_check role ≡ true
        → Has (answer_key role (number_at numbers i))
        (slots.Value kinds.Check (number_at numbers i) 0)
    by_role (roles.Group recursive bodies) h = cc
    by_role (roles.Check check) h = inl refl
    by_role roles.Silent h = cc
answer_among numbers items (j ∷ us) i r (inr inside) found check =
    has_behind (key_by answer_key (number_at numbers j) (slice_get items j))
    (keys_by answer_key numbers items us) (slots.Value kinds.Check (number_at numbers i) 0)
    (answer_among numbers items us i r inside found check)

pub answer_of_verdict : (numbers : List ℕ) (items : List ResolvedItem) (us : List ℕ) (i : ℕ)
    (r : ResolvedItem) → Has us i → slice_get items i ≡ Some r → is_check r.role ≡ true
    → Has (verdict_keys numbers items us) (slots.Value kinds.Check (number_at numbers i) 0)
answer_of_verdict numbers items us i r inside found check =
    has_behind (slots.Test 2 ∷ slots.Test 3 ∷ keys_by flag_key numbers items us)
    (space_key ∷ keys_by answer_key numbers items us)
    (slots.Value kinds.Check (number_at numbers i) 0)
    (inr (answer_among numbers items us i r inside found check))

-- ---- roles

check_kind : (role : Role) → is_check role ≡ true → HasKind role kinds.Check
check_kind (roles.Group recursive bodies) h = cc
check_kind (roles.Check check) h = refl
check_kind roles.Silent h = cc

pub named_kind : (role : Role) (p : ℕ) → p < name_count role → HasKind role kinds.Group
named_kind (roles.Group recursive bodies) p lt = refl
named_kind (roles.Check check) p lt = absurd (omega (arith, lt))
named_kind roles.Silent p lt = absurd (omega (arith, lt))

pub kind_of_role : (role : Role) (kind : Kind) → HasKind role kind → role_node_kind role ≡ kind
kind_of_role (roles.Group recursive bodies) kind h = sym h
kind_of_role (roles.Check check) kind h = sym h
kind_of_role roles.Silent kind h = absurd h

not_silent : (role : Role) (kind : Kind) → HasKind role kind → role ≡ roles.Silent → ⊥
not_silent (roles.Group recursive bodies) kind h e = cc
not_silent (roles.Check check) kind h e = cc
not_silent roles.Silent kind h e = h

module _ (s : PartsState) (models : List ModelReading) (kept : IsKeptState s models) where
  abbrev ss : List Slot
  ss = s.parts.table.slots.items

  pub is_read : (id : ℕ) (numbers : List ℕ) (items : List ResolvedItem) (us : List ℕ)
      → Has models (Sound id numbers items us) → IsReadingOfText (Sound id numbers items us)
  is_read id numbers items us there =
      each_has IsReadingOfText models kept.read (Sound id numbers items us) there

  stands_next : (n k m : Node) → Has (input_nodes ((net_in s).inputs n)) k → StandsOn (net_in s) k m
      → StandsOn (net_in s) n m
  stands_next n k m h stands = (suc stands.0, (k, h, stands.1))

  -- ---- what a verdict uses

  verdict_uses : (test : ℕ) (m : ModelReading) → Has models m → (kind : Kind) (of name : ℕ)
      → Has (verdict_inputs m) (slots.Value kind of name)
      → Has (input_nodes ((net_in s).inputs (verdict_node test (id_in m))))
      (record { kind = kind; test = test; of = of })
  verdict_uses test m there kind of name h =
      key_node test (slot_keys ss kinds.Verdict (id_in m)) kind of name
      (subst (λ (ks : List SlotKey). Has ks (slots.Value kind of name))
      (sym (verdict_keys_are models kept.models_apart kept.read (histories s) ss
      kept.built.slots m there)) h)

  module _ (id : ℕ) (numbers : List ℕ) (items : List ResolvedItem) (us : List ℕ)
      (there : Has models (Sound id numbers items us)) where
    pub closed : AreClosed items
    closed = let is = is_read id numbers items us there in resolved_closed is.0 items is.1.resolved

    pub reach : AreReached items us
    reach = (is_read id numbers items us there).1.reached

    pub node_is : (test i : ℕ) (r : ResolvedItem) (kind : Kind) → slice_get items i ≡ Some r
        → HasKind r.role kind
        → item_node test numbers items i
        ≡ record { kind = kind; test = test; of = number_at numbers i }
    node_is test i r kind found k = rw (found, kind_of_role r.role kind k) refl

    item_uses : (test i : ℕ) (r : ResolvedItem) (kind : Kind) → Has us i
        → slice_get items i ≡ Some r → HasKind r.role kind → (k : Kind) (of name : ℕ)
        → Has (item_keys (histories s) numbers items (number_at numbers i) r)
        (slots.Value k of name)
        → Has
        (input_nodes ((net_in s).inputs (record {
          kind = kind;
          test = test;
          of = number_at numbers i;
        })))
        (record { kind = k; test = test; of = of })
    item_uses test i r kind inside found is k of name h = by_role r.role is keys
      where
        keys : Has (input_nodes (keys_at test (slot_keys ss kind (number_at numbers i))))
            (record { kind = k; test = test; of = of })
        keys = key_node test (slot_keys ss kind (number_at numbers i)) k of name
            (subst (λ (ks : List SlotKey). Has ks (slots.Value k of name))
            (sym (item_keys_are models kept.models_apart kept.read (histories s) ss
            kept.built.slots id numbers items us there i r kind inside found is)) h)

        at_kind : (other : Kind)
            → (node_inputs s.parts.table other test (number_at numbers i)
            ≡ keys_at test (slot_keys ss other (number_at numbers i))) → kind ≡ other
            → Has (input_nodes (keys_at test (slot_keys ss kind (number_at numbers i))))
            (record { kind = k; test = test; of = of })
            → Has (input_nodes (node_inputs s.parts.table kind test (number_at numbers i)))
            (record { kind = k; test = test; of = of })
        at_kind other same e g =
            subst
            (λ (x : Kind). Has
            (input_nodes (node_inputs s.parts.table x test (number_at numbers i)))
            (record { kind = k; test = test; of = of }))
            (sym e)
            (subst
            (λ (ks : List _). Has (input_nodes ks) (record { kind = k; test = test; of = of }))
            (sym same)
            (subst
            (λ (x : Kind). Has
            (input_nodes (keys_at test (slot_keys ss x (number_at numbers i))))
            (record { kind = k; test = test; of = of })) e g))

        by_role : (role : Role) → HasKind role kind
            → Has (input_nodes (keys_at test (slot_keys ss kind (number_at numbers i))))
            (record { kind = k; test = test; of = of })
            → Has (input_nodes (node_inputs s.parts.table kind test (number_at numbers i)))
            (record { kind = k; test = test; of = of })
        by_role (roles.Group recursive bodies) e g = at_kind kinds.Group refl e g
        by_role (roles.Check check) e g = at_kind kinds.Check refl e g
        by_role roles.Silent e g = absurd e

    -- ---- by names

    by_names : (test : ℕ) (cs : List ℕ) (a b : ℕ) (r : ResolvedItem) (kind : Kind) → Has us a
        → slice_get items a ≡ Some r → HasKind r.role kind → LeadsByNames items a cs b
        → StandsOn (net_in s) (record { kind = kind; test = test; of = number_at numbers a })
        (item_node test numbers items b)
    by_names test [] a b r kind inside found k e =
        (0, sym (node_is test a r kind found k) ∙ ap (item_node test numbers items) e)
    by_names test (c ∷ cs) a b r kind inside found k h =
        let q : ResolvedItem = h.0.0 in
        let same : q ≡ r = some_item (sym h.0.1 ∙ found) in
        let names : NamesItem r c = subst (λ (x : ResolvedItem). NamesItem x c) same h.0.2 in
        let name = name_of_item r.inputs.items c names in
        let is : IsNameOf items name.0 = (each_has (λ (n : Input). (n.item < a) × IsNameOf items n) r.inputs.items (closed a r found).names name.0 name.1).1 in
        let named : NamesItem r name.0.item = subst (NamesItem r) (sym name.2) names in
        let also : Has us c = subst (Has us) name.2 (name_reached items us closed reach a r name.0 inside found named is) in
        let at : slice_get items c ≡ Some is.0 = ap (slice_get items) (sym name.2) ∙ is.1 in
        let group = named_kind is.0.role name.0.position is.2 in
        let next : StandsOn (net_in s) (record { kind = kinds.Group; test = test; of = number_at numbers c }) (item_node test numbers items b) = by_names test cs c b is.0 kinds.Group also at group h.1 in
        let key : Has (item_keys (histories s) numbers items (number_at numbers a) r) (slots.Value kinds.Group (number_at numbers c) (name_number (histories s) numbers items name.0)) =
        subst
        (λ (n : ℕ). Has (item_keys (histories s) numbers items (number_at numbers a) r)
        (slots.Value kinds.Group (number_at numbers n)
        (name_number (histories s) numbers items name.0))) name.2
        (name_among (histories s) numbers items (number_at numbers a) r name.0 name.1) in
        stands_next (record { kind = kind; test = test; of = number_at numbers a })
        (record { kind = kinds.Group; test = test; of = number_at numbers c })
        (item_node test numbers items b)
        (item_uses test a r kind inside found k kinds.Group (number_at numbers c)
        (name_number (histories s) numbers items name.0) key) next
      where
        some_item : {x y : ResolvedItem} → Some x ≡ Some y → x ≡ y
        some_item e = cc

    item_needed : (test i : ℕ) (r : ResolvedItem) (kind : Kind) → Has us i
        → slice_get items i ≡ Some r → HasKind r.role kind
        → StandsOn (net_in s) (verdict_node test id) (record {
          kind = kind;
          test = test;
          of = number_at numbers i;
        })
    item_needed test i r kind inside found k =
        let reached = reached_by_names items closed i r found (not_silent r.role kind k) ((reach.exact i).0 (has_contains us i inside)).1 in
        let c = reached.from in
        let check = reached.is_check in
        let at : slice_get items c ≡ Some check.0 = check.1 in
        let from_used : Has us c = contains_has us c ((reach.exact c).1 (within c check.0 at, record { from = c; is_check = check; through = []; leads = refl })) in
        let stands = by_names test reached.through c i check.0 kinds.Check from_used at (check_kind check.0.role check.2) reached.leads in
        let key = answer_of_verdict numbers items us c check.0 from_used at check.2 in
        subst (StandsOn (net_in s) (verdict_node test id)) (node_is test i r kind found k)
        (stands_next (verdict_node test id)
        (record { kind = kinds.Check; test = test; of = number_at numbers c })
        (item_node test numbers items i)
        (verdict_uses test (Sound id numbers items us) there kinds.Check (number_at numbers c) 0
        key) stands)
      where
        within : (c : ℕ) (q : ResolvedItem) → slice_get items c ≡ Some q → c < length items
        within c q e = slice_get_within items c q e

  -- ---- by the kind of the node

  space_needed : (test of : ℕ) → IsOfSpace models kept.models_apart kept.read of
      → IsUnderVerdict s models (record { kind = kinds.Space; test = test; of = of })
  space_needed test of o =
      let m : ModelReading = Sound o.id o.numbers o.items o.used in
      record {
        model = m;
        there = o.there;
        stands =
            subst
            (λ (n : ℕ). StandsOn (net_in s) (verdict_node test o.id)
            (record { kind = kinds.Space; test = test; of = n }))
            (sym o.none)
            (stands_next (verdict_node test o.id) (space_node test) (space_node test)
            (verdict_uses test m o.there kinds.Space 0 0
            (space_of_verdict o.numbers o.items o.used))
            (0, refl));
      }

  of_item_needed : (kind : Kind) (test of : ℕ) → IsOfItem models kept.models_apart kept.read kind of
      → IsUnderVerdict s models (record { kind = kind; test = test; of = of })
  of_item_needed kind test of o = record {
    model = Sound o.id o.numbers o.items o.used;
    there = o.there;
    stands =
        subst
        (λ (n : ℕ). StandsOn (net_in s) (verdict_node test o.id)
        (record { kind = kind; test = test; of = n })) o.number
        (item_needed o.id o.numbers o.items o.used o.there test o.index o.item kind o.inside o.found
        o.has_kind);
  }

  verdict_needed : (test of : ℕ) → IsOfVerdict models kept.models_apart kept.read of
      → IsUnderVerdict s models (record { kind = kinds.Verdict; test = test; of = of })
  verdict_needed test of o = record {
    model = o.model;
    there = o.there;
    stands = (0, ap (λ (n : ℕ). verdict_node test n) o.number);
  }

  by_kind : (kind : Kind) (test of : ℕ) → has_slot ss kind of ≡ true
      → IsUnderVerdict s models (record { kind = kind; test = test; of = of })
  by_kind kinds.Space test of has =
      space_needed test of (origin models kept.models_apart kept.read (histories s) ss
      kept.built.slots kinds.Space of has)
  by_kind kinds.Group test of has =
      of_item_needed kinds.Group test of (origin models kept.models_apart kept.read (histories s) ss
      kept.built.slots kinds.Group of has)
  by_kind kinds.Check test of has =
      of_item_needed kinds.Check test of (origin models kept.models_apart kept.read (histories s) ss
      kept.built.slots kinds.Check of has)
  by_kind kinds.Verdict test of has =
      verdict_needed test of (origin models kept.models_apart kept.read (histories s) ss
      kept.built.slots kinds.Verdict of has)

pub needed : (s : PartsState) (models : List ModelReading) (n : Node) → IsKeptState s models
    → Has (used s.parts.table) n → IsUnderVerdict s models n
needed s models n kept h = by_kind s models kept n.kind n.test n.of (used_slot s.parts.table n h)
