-- The list of the nodes that cells use has each once.
use Rattle.std.proofs.Common.{◌≡◌, ◌⊎◌, ◌<◌, ℕ, inl, inr, List, [], ◌∷◌, ◌++◌, length, map, Option, Some, None, slice_get, refl, sym, ap, subst, ◌∙◌, arith}
use Rattle.std.specs.Prelude.{⊤, AllPairs}
use Rattle.std.specs.List.{AllByRecursion as Each, flat_map}
use Rattle.std.proofs.lemmas.List.{map-append}
use Rattle.memo_core.specs.declared.keys.Kind.{Kind}
use Rattle.memo_core.specs.declared.keys.Kind.TheVariants as kinds
use Rattle.memo_core.specs.declared.keys.Node.{Node}
use Rattle.memo_core.specs.Step.{Has}
use Rattle.binding_graph.specs.declared.resolved.ResolvedItem.{ResolvedItem}
use Rattle.binding_graph.specs.declared.resolved.Role.{Role}
use Rattle.binding_graph.specs.declared.resolved.Role.TheVariants as roles
use Rattle.bench_items.specs.Naming.{SeenName}
use Rattle.bench_nodes.specs.declared.table.Slot.{Slot}
use Rattle.bench_nodes.specs.declared.table.SlotKey.{SlotKey}
use Rattle.bench_nodes.specs.declared.table.TestRow.{TestRow}
use Rattle.bench_nodes.specs.Nodes.{node_of, nodes_at, used_in}
use Rattle.bench_slots.specs.Slots.{PlainSlot, plain, number_at, slots_of, item_keys, item_slots, used_slots, verdict_keys}
use Rattle.bench_slots.specs.Tables.{ModelReading, Sound, Faulty, space_slots, slots_in, all_slots}
use Rattle.bench_slots.proofs.Lists.{has_contains}
use Rattle.bench_parts.specs.Contents.{histories}
use Rattle.bench_edits.specs.Kept.{IsReadingOfText, id_in, numbers_in, AreOther}
use Rattle.bench_edits.specs.Readings.{readings_of}
use Rattle.bench_edits.proofs.Kept.{parts_are_kept}
use Rattle.bench_edits.proofs.Origin.{pairs_tail, pairs_head, one_index, number_there}
use Rattle.bench_text_laws.specs.Orderly.{AreApart}
use Rattle.bench_text_laws.proofs.Lists.{has_append, apart_append}
use Rattle.bench_instance.specs.declared.stamped_texts.StampedTexts.{StampedTexts}
use Rattle.bench_instance.specs.StampedTexts.{AreSoundTexts, stamped_state}
use Rattle.bench_instance.specs.Lemmas.CellProofs.{orderly_parts}
use Rattle.bench_laws.specs.There.{HoldsAfterEvents}
use Rattle.bench_laws.specs.UsedOnce.{ListsEachNodeOnce, HasEachNodeOnce}
use Rattle.bench_laws.proofs.Runs.{sound_after}

-- ---- the nodes of slots

abbrev at_test : ℕ → PlainSlot → Node
at_test test s = record { kind = s.kind; test = test; of = s.of }

abbrev nodes_of : ℕ → List PlainSlot → List Node
nodes_of test ss = map (at_test test) ss

either_list : (test : ℕ) (ss more : List PlainSlot) (n : Node) → Has (nodes_of test (ss ++ more)) n
    → Has (nodes_of test ss) n ⊎ Has (nodes_of test more) n
either_list test ss more n h =
    has_append (nodes_of test ss) (nodes_of test more) n
    (subst (λ (ns : List Node). Has ns n) (map-append (at_test test) ss more) h)

apart_both : (test : ℕ) (ss more : List PlainSlot) → AreApart (nodes_of test ss)
    → AreApart (nodes_of test more)
    → ((n : Node) → Has (nodes_of test ss) n → Has (nodes_of test more) n → ⊥)
    → AreApart (nodes_of test (ss ++ more))
apart_both test ss more one rest cross =
    subst (λ (ns : List Node). AreApart ns) (sym (map-append (at_test test) ss more))
    (apart_append (nodes_of test ss) (nodes_of test more) one rest cross)

-- ---- the nodes of items

abbrev IsItemKind : Kind → Type 0
IsItemKind kinds.Space = ⊥
IsItemKind kinds.Group = ⊤
IsItemKind kinds.Check = ⊤
IsItemKind kinds.Verdict = ⊥

-- the node of the item of that number
abbrev IsOfNumber : ℕ → Node → Type 0
IsOfNumber own n = IsItemKind n.kind × (own ≡ n.of)

role_node : (test : ℕ) (role : Role) (own : ℕ) (keys : List SlotKey) (n : Node)
    → Has (nodes_of test (slots_of role own keys)) n → IsOfNumber own n
role_node test (roles.Group recursive bodies) own keys n (inl e) =
    subst (λ (k : Node). IsOfNumber own k) e (tt, refl)
role_node test (roles.Group recursive bodies) own keys n (inr h) = absurd h
role_node test (roles.Check check) own keys n (inl e) =
    subst (λ (k : Node). IsOfNumber own k) e (tt, refl)
role_node test (roles.Check check) own keys n (inr h) = absurd h
role_node test roles.Silent own keys n h = absurd h

role_apart : (test : ℕ) (role : Role) (own : ℕ) (keys : List SlotKey)
    → AreApart (nodes_of test (slots_of role own keys))
role_apart test (roles.Group recursive bodies) own keys = ((λ h. h), tt)
role_apart test (roles.Check check) own keys = ((λ h. h), tt)
role_apart test roles.Silent own keys = tt

module _ (test : ℕ) (past : ℕ → List SeenName) (numbers : List ℕ) (items : List ResolvedItem) where
  item_node : (own : ℕ) (r : Option ResolvedItem) (n : Node)
      → Has (nodes_of test (item_slots past numbers items own r)) n → IsOfNumber own n
  item_node own None n h = absurd h
  item_node own (Some r) n h =
      role_node test r.role own (item_keys past numbers items own r) n h

  item_apart : (own : ℕ) (r : Option ResolvedItem)
      → AreApart (nodes_of test (item_slots past numbers items own r))
  item_apart own None = tt
  item_apart own (Some r) = role_apart test r.role own (item_keys past numbers items own r)

  -- the node of the item at one of these indexes
  record IsOfIndex (is : List ℕ) (n : Node) : Type 0 where
    index : ℕ
    among : Has is index
    own : IsOfNumber (number_at numbers index) n

  used_node : (is : List ℕ) (n : Node) → Has (nodes_of test (used_slots past numbers items is)) n
      → IsOfIndex is n
  used_node [] n h = absurd h
  used_node (i ∷ is) n h =
      elim (either_list test
      (item_slots past numbers items (number_at numbers i) (slice_get items i))
      (used_slots past numbers items is) n h) [
        | inl mine ↦ record {
          index = i;
          among = inl refl;
          own = item_node (number_at numbers i) (slice_get items i) n mine;
        }
        | inr other ↦ (let rest = used_node is n other in
            record { index = rest.index; among = inr rest.among; own = rest.own })
      ]

  used_apart : (is : List ℕ) → AllPairs (λ a b. a < b) is
      → ((i : ℕ) → Has is i → i < length numbers) → AllPairs (λ a b. a ≡ b → ⊥) numbers
      → AreApart (nodes_of test (used_slots past numbers items is))
  used_apart [] rising within apart = tt
  used_apart (i ∷ is) rising within apart =
      apart_both test (item_slots past numbers items (number_at numbers i) (slice_get items i))
      (used_slots past numbers items is) (item_apart (number_at numbers i) (slice_get items i))
      (used_apart is (pairs_tail (λ a b. a < b) i is rising) (λ j h. within j (inr h)) apart)
      (λ n a b.
      let mine = item_node (number_at numbers i) (slice_get items i) n a in
      let other = used_node is n b in
      let lt : i < other.index = pairs_head (λ a b. a < b) i is rising other.index other.among in
      let same : i ≡ other.index = one_index numbers i other.index apart (within i (inl refl)) (within other.index (inr other.among)) (mine.1 ∙ sym other.own.1) in
      omega (arith, lt, same))

-- ---- the nodes of models

-- the node of that kind and number is one of the model
abbrev IsOwn : ModelReading → Kind → ℕ → Type 0
IsOwn m kinds.Space of = ⊥
IsOwn m kinds.Group of = Has (numbers_in m) of
IsOwn m kinds.Check of = Has (numbers_in m) of
IsOwn m kinds.Verdict of = id_in m ≡ of

own_item : (m : ModelReading) (k : Kind) (of : ℕ) → IsItemKind k → Has (numbers_in m) of
    → IsOwn m k of
own_item m kinds.Space of is h = absurd is
own_item m kinds.Group of is h = h
own_item m kinds.Check of is h = h
own_item m kinds.Verdict of is h = absurd is

-- models with numbers of their own have no node in common
own_apart : (m o : ModelReading) (k : Kind) (of : ℕ) → AreOther m o → IsOwn m k of → IsOwn o k of
    → ⊥
own_apart m o kinds.Space of other a b = a
own_apart m o kinds.Group of other a b = other.numbers of a b
own_apart m o kinds.Check of other a b = other.numbers of a b
own_apart m o kinds.Verdict of other a b = other.ids (a ∙ sym b)

-- a used index is one of a number
within : (id : ℕ) (numbers : List ℕ) (items : List ResolvedItem) (used : List ℕ)
    → IsReadingOfText (Sound id numbers items used) → (i : ℕ) → Has used i → i < length numbers
within id numbers items used read i there =
    let is = read.1 in
    let lt = ((is.reached.exact i).0 (has_contains used i there)).0 in
    let many = is.numbered in
    omega (arith, lt, many)

module _ (test : ℕ) (past : ℕ → List SeenName) where
  model_own : (m : ModelReading) (n : Node) → IsReadingOfText m → Has (nodes_of test (slots_in past m)) n
      → IsOwn m n.kind n.of
  model_own (Sound id numbers items used) n read h =
      elim (either_list test (used_slots past numbers items used)
      (record { kind = kinds.Verdict; of = id; inputs = verdict_keys numbers items used } ∷ []) n
      h) [
        | inl of ↦ (let one = used_node test past numbers items used n of in
            own_item (Sound id numbers items used) n.kind n.of one.own.0
            (subst (λ (k : ℕ). Has numbers k) one.own.1
            (number_there numbers one.index
            (within id numbers items used read one.index one.among))))
        | inr (inl e) ↦ subst (λ (k : Node). IsOwn (Sound id numbers items used) k.kind k.of) e
            refl
        | inr (inr none) ↦ absurd none
      ]
  model_own (Faulty id fault) n read (inl e) =
      subst (λ (k : Node). IsOwn (Faulty id fault) k.kind k.of) e refl
  model_own (Faulty id fault) n read (inr h) = absurd h

  model_apart : (m : ModelReading) → IsReadingOfText m → AreApart (nodes_of test (slots_in past m))
  model_apart (Sound id numbers items used) read =
      apart_both test (used_slots past numbers items used)
      (record { kind = kinds.Verdict; of = id; inputs = verdict_keys numbers items used } ∷ [])
      (used_apart test past numbers items used (read.1).reached.rising
      (within id numbers items used read) (read.1).apart)
      ((λ h. h), tt)
      (λ n a b. elim b [
        | inl e ↦ subst (λ (k : Node). IsItemKind k.kind) (sym e)
            (used_node test past numbers items used n a).own.0
        | inr none ↦ none
      ])
  model_apart (Faulty id fault) read = ((λ h. h), tt)

  -- the node is one of one of these models
  record IsOfModel (ms : List ModelReading) (n : Node) : Type 0 where
    model : ModelReading
    among : Has ms model
    own : IsOwn model n.kind n.of

  models_own : (ms : List ModelReading) (n : Node) → Each IsReadingOfText ms
      → Has (nodes_of test (flat_map (slots_in past) ms)) n → IsOfModel ms n
  models_own [] n read h = absurd h
  models_own (m ∷ ms) n read h =
      elim (either_list test (slots_in past m) (flat_map (slots_in past) ms) n h) [
        | inl mine ↦ record { model = m; among = inl refl; own = model_own m n read.0 mine }
        | inr other ↦ (let rest = models_own ms n read.1 other in
            record { model = rest.model; among = inr rest.among; own = rest.own })
      ]

  models_apart : (ms : List ModelReading) → Each IsReadingOfText ms → AllPairs AreOther ms
      → AreApart (nodes_of test (flat_map (slots_in past) ms))
  models_apart [] read apart = tt
  models_apart (m ∷ ms) read apart =
      apart_both test (slots_in past m) (flat_map (slots_in past) ms) (model_apart m read.0)
      (models_apart ms read.1 (pairs_tail AreOther m ms apart))
      (λ n a b.
      let other = models_own ms n read.1 b in
      own_apart m other.model n.kind n.of
      (pairs_head AreOther m ms apart other.model other.among) (model_own m n read.0 a) other.own)

  -- the space of the test stands before them
  space_kind : (ms : List ModelReading) (n : Node) → Has (nodes_of test (space_slots ms)) n
      → kinds.Space ≡ n.kind
  space_kind [] n h = absurd h
  space_kind (Sound id numbers items used ∷ ms) n (inl e) = ap (λ (k : Node). k.kind) e
  space_kind (Sound id numbers items used ∷ ms) n (inr h) = absurd h
  space_kind (Faulty id fault ∷ ms) n h = space_kind ms n h

  space_apart : (ms : List ModelReading) → AreApart (nodes_of test (space_slots ms))
  space_apart [] = tt
  space_apart (Sound id numbers items used ∷ ms) = ((λ h. h), tt)
  space_apart (Faulty id fault ∷ ms) = space_apart ms

  all_apart : (ms : List ModelReading) → Each IsReadingOfText ms → AllPairs AreOther ms
      → AreApart (nodes_of test (all_slots past ms))
  all_apart ms read apart =
      apart_both test (space_slots ms) (flat_map (slots_in past) ms) (space_apart ms)
      (models_apart ms read apart)
      (λ n a b.
      let other = models_own ms n read b in
      subst (λ (k : Kind). IsOwn other.model k n.of) (sym (space_kind ms n a)) other.own)

-- ---- the nodes of tests

slots_nodes : (ss : List Slot) (test : ℕ) → nodes_at ss test ≡ nodes_of test (map plain ss)
slots_nodes [] test = refl
slots_nodes (s ∷ ss) test = ap (λ (ns : List Node). node_of test s ∷ ns) (slots_nodes ss test)

in_test : (ss : List Slot) (test : ℕ) (n : Node) → Has (nodes_at ss test) n → test ≡ n.test
in_test [] test n h = absurd h
in_test (s ∷ ss) test n (inl e) = ap (λ (k : Node). k.test) e
in_test (s ∷ ss) test n (inr h) = in_test ss test n h

in_tests : (ss : List Slot) (rs : List TestRow) (n : Node) → Has (used_in ss rs) n
    → Has (map (λ r. r.id) rs) n.test
in_tests ss [] n h = absurd h
in_tests ss (r ∷ rs) n h =
    elim (has_append (nodes_at ss r.id) (used_in ss rs) n h) [
      | inl mine ↦ inl (in_test ss r.id n mine)
      | inr other ↦ inr (in_tests ss rs n other)
    ]

tests_apart : (ss : List Slot) (rs : List TestRow)
    → ((test : ℕ) → AreApart (nodes_at ss test)) → AreApart (map (λ r. r.id) rs)
    → AreApart (used_in ss rs)
tests_apart ss [] each apart = tt
tests_apart ss (r ∷ rs) each apart =
    apart_append (nodes_at ss r.id) (used_in ss rs) (each r.id) (tests_apart ss rs each apart.1)
    (λ n a b. apart.0 (subst (λ (test : ℕ). Has (map (λ (q : TestRow). q.id) rs) test)
    (sym (in_test ss r.id n a)) (in_tests ss rs n b)))

pub lists_each_node_once : (t : StampedTexts) → AreSoundTexts t → ListsEachNodeOnce t
lists_each_node_once t sound =
    let table = t.parts.table in
    let orderly = orderly_parts t sound in
    let kept = parts_are_kept t.parts t.texts.tests.items t.texts.models.items orderly.parts_are orderly.read orderly.items_apart in
    let read = readings_of table.models.items t.texts.models.items in
    let each : (test : ℕ) → AreApart (nodes_at table.slots.items test) =
    λ test. subst (λ (ns : List Node). AreApart ns)
    (sym (slots_nodes table.slots.items test ∙ ap (nodes_of test) (kept.built).slots))
    (all_apart test (histories (stamped_state t)) read kept.read kept.models_apart) in
    tests_apart table.slots.items table.tests.items each ((orderly.parts_are).numbered).tests_apart

pub has_each_node_once : HoldsAfterEvents HasEachNodeOnce
has_each_node_once events start end s run =
    lists_each_node_once end.texts (sound_after events start end s run)
