-- A state that is built of its tests and models is valid.
use Rattle.std.proofs.Common.{ℕ, ◌+◌, ◌≡◌, ◌⊎◌, inl, inr, true, false, List, [], ◌∷◌, ◌++◌, Option, Some, None, is_some, refl, ap, sym, subst, ◌∙◌, arith}
use Rattle.std.specs.List.{AllByRecursion as Each}
use Rattle.std.proofs.lemmas.Bool.{cases_Bool}
use Rattle.std.proofs.lemmas.Option.{none-some}
use Rattle.text_values.specs.declared.test.InitEntry.{InitEntry}
use Rattle.text_values.specs.declared.test.Step.{Step}
use Rattle.text_values.specs.TestValue.{formula_of}
use Rattle.memo_core.specs.declared.keys.Kind.{Kind}
use Rattle.memo_core.specs.declared.keys.Kind.TheVariants as kinds
use Rattle.memo_core.specs.declared.keys.Key.TheVariants.{Part, Output}
use Rattle.memo_core.specs.declared.keys.Node.{Node}
use Rattle.memo_core.specs.Step.{Has}
use Rattle.bench_nodes.specs.declared.table.Slot.{Slot}
use Rattle.bench_nodes.specs.declared.table.SlotKey.{SlotKey}
use Rattle.bench_nodes.specs.declared.table.SlotKey.TheVariants as slots
use Rattle.bench_nodes.specs.declared.table.TestRow.{TestRow}
use Rattle.bench_nodes.specs.Nodes.{used, keys_at, is_slot, has_slot, slot_keys, thread_parts, row_of, row_parts, space_keys, node_inputs}
use Rattle.bench_nodes.proofs.Laws.{used_test, used_slot}
use Rattle.binding_shapes.specs.Shapes.{role_shape}
use Rattle.bench_values.specs.Givens.{GivenContent, ForItem}
use Rattle.bench_items.specs.Items.{RoleContent}
use Rattle.bench_items.specs.Naming.{SeenName, item_outputs}
use Rattle.bench_values.specs.Makes.{output_names}
use Rattle.bench_slots.specs.Tables.{ModelReading, Sound, Faulty, IsOrderedModel}
use Rattle.bench_slots.proofs.Ordered.{table_ordered}
use Rattle.bench_parts.specs.Contents.{PartContent, OfText, OfRole, OfFault, OfCondition, OfObserved, OfLocations, OfInit, OfThread, PartsState, histories, content}
use Rattle.bench_parts.specs.States.{contents, space_given, given_space, given_item, given_verdict, given_by, given_to_node, HasOutput, IsValidState}
use Rattle.bench_parts.specs.Built.{IsModelIn, IsTestRow, IsBuilt}
use Rattle.bench_parts.specs.Views.{FoundTest, view_of}
use Rattle.bench_parts.proofs.BuiltRows.{found_test, stamps_are_low, empty_are_none}
use Rattle.bench_parts.proofs.BuiltSlots.{HasRole, IsGoodKey, IsGoodOutput, BeginsAsItem, AsksFlags, AsksFault, IsGoodSlot, good_slot}
use Rattle.bench_parts.proofs.SpaceParts.{part_is, space_is}

-- ---- a space gives one output

space_one : (init : List InitEntry) (threads : List (List Step)) (cs : List (Option PartContent))
    (g : GivenContent) → space_given init threads cs ≡ Some g → output_names g ≡ 0 ∷ []
space_one init threads (Some (OfThread steps) ∷ cs) g e =
    space_one init (threads ++ steps ∷ []) cs g e
space_one init threads (Some (OfLocations locations) ∷ cs) g e =
    ap output_names (sym (some_given e))
  where
    some_given : {a b : GivenContent} → Some a ≡ Some b → a ≡ b
    some_given e = cc
space_one init threads [] g e = absurd (none-some g e)
space_one init threads (None ∷ cs) g e = absurd (none-some g e)
space_one init threads (Some (OfText clause) ∷ cs) g e = absurd (none-some g e)
space_one init threads (Some (OfRole role history) ∷ cs) g e = absurd (none-some g e)
space_one init threads (Some (OfFault fault) ∷ cs) g e = absurd (none-some g e)
space_one init threads (Some (OfCondition quantifier condition) ∷ cs) g e = absurd (none-some g e)
space_one init threads (Some (OfObserved observed) ∷ cs) g e = absurd (none-some g e)
space_one init threads (Some (OfInit other) ∷ cs) g e = absurd (none-some g e)

given_one : (cs : List (Option PartContent)) (g : GivenContent) → given_space cs ≡ Some g
    → output_names g ≡ 0 ∷ []
given_one (Some (OfInit init) ∷ cs) g e = space_one init [] cs g e
given_one [] g e = absurd (none-some g e)
given_one (None ∷ cs) g e = absurd (none-some g e)
given_one (Some (OfText clause) ∷ cs) g e = absurd (none-some g e)
given_one (Some (OfRole role history) ∷ cs) g e = absurd (none-some g e)
given_one (Some (OfFault fault) ∷ cs) g e = absurd (none-some g e)
given_one (Some (OfCondition quantifier condition) ∷ cs) g e = absurd (none-some g e)
given_one (Some (OfObserved observed) ∷ cs) g e = absurd (none-some g e)
given_one (Some (OfLocations locations) ∷ cs) g e = absurd (none-some g e)
given_one (Some (OfThread steps) ∷ cs) g e = absurd (none-some g e)

-- no slot, no inputs
pub no_inputs : (ss : List Slot) (kind : Kind) (of : ℕ) → has_slot ss kind of ≡ false
    → slot_keys ss kind of ≡ []
no_inputs [] kind of e = refl
no_inputs (s ∷ ss) kind of e = elim (cases_Bool (is_slot kind of s)) [
  | inl t ↦ absurd (let f : true ≡ false = rw t at e in cc)
  | inr t ↦ rw t (no_inputs ss kind of (rw t at e))
]

module _ (s : PartsState) where
  -- ---- what items and verdicts are given

  item_given : (test of : ℕ) (keys : List SlotKey) (b : BeginsAsItem s of keys)
      → given_item (contents s (keys_at test keys)) ≡ Some (ForItem (role_shape b.2) (item_outputs b.2 b.3))
  item_given test of keys b =
      ap (λ (ks : List SlotKey). given_item (contents s (keys_at test ks))) b.1
      ∙ ap (λ (c : Option PartContent). given_item (c ∷ contents s (keys_at test b.0))) b.4

  module _ (models : List ModelReading) (built : IsBuilt s models) where
    abbrev ss : List Slot
    ss = s.parts.table.slots.items

    good : (kind : Kind) (of : ℕ) → has_slot ss kind of ≡ true
        → IsGoodSlot s kind of (slot_keys ss kind of)
    good kind of has = good_slot s models kind of built.slots built.models_in has

    -- ---- outputs

    item_outputs_there : (kind : Kind) (test of name : ℕ) (g : GivenContent)
        → (has_slot ss kind of ≡ true → BeginsAsItem s of (slot_keys ss kind of))
        → HasRole s of name → given_item (contents s (keys_at test (slot_keys ss kind of))) ≡ Some g
        → Has (output_names g) name
    item_outputs_there kind test of name g begins has e = elim (cases_Bool (has_slot ss kind of)) [
      | inl t ↦ (
          let b = begins t in
          let is : ForItem (role_shape b.2) (item_outputs b.2 b.3) ≡ g = some_given (sym (item_given test of (slot_keys ss kind of) b) ∙ e) in
          let part : OfRole b.2 b.3 ≡ OfRole has.0 has.1 = some_part (sym b.4 ∙ has.2) in
          let role : b.2 ≡ has.0 = part_role part in
          let history : b.3 ≡ has.1 = part_names part in
          subst (λ (h : GivenContent). Has (output_names h) name) is
          (subst (λ (r : RoleContent). Has (item_outputs r b.3) name) (sym role)
          (subst (λ (h : List SeenName). Has (item_outputs has.0 h) name) (sym history)
          has.3)))
      | inr t ↦ absurd (
          let none =
          ap (λ (ks : List SlotKey). given_item (contents s (keys_at test ks)))
          (no_inputs ss kind of t) in
          none-some g (sym none ∙ e))
    ]
      where
        some_given : {a b : GivenContent} → Some a ≡ Some b → a ≡ b
        some_given e = cc

        some_part : {a b : PartContent} → Some a ≡ Some b → a ≡ b
        some_part e = cc

        part_role : {a b : RoleContent} {g h : List SeenName} → OfRole a g ≡ OfRole b h → a ≡ b
        part_role e = cc

        part_names : {a b : RoleContent} {g h : List SeenName} → OfRole a g ≡ OfRole b h → g ≡ h
        part_names e = cc

    output_there : (test : ℕ) (kind : Kind) (of name : ℕ) → IsGoodOutput s kind of name
        → HasOutput s (Output (record { kind = kind; test = test; of = of }) name)
    output_there test kinds.Space of name h g e =
        subst (λ (ns : List ℕ). Has ns name)
        (sym (given_one (contents s (space_keys s.parts.table.tests.items test)) g e)) h
    output_there test kinds.Group of name h g e =
        item_outputs_there kinds.Group test of name g (λ t. (good kinds.Group of t).1) h e
    output_there test kinds.Check of name h g e =
        item_outputs_there kinds.Check test of name g (λ t. (good kinds.Check of t).1) h e
    output_there test kinds.Verdict of name h g e = absurd h

    outputs_there : (test : ℕ) (ks : List SlotKey) → Each (IsGoodKey s) ks
        → Each (HasOutput s) (keys_at test ks)
    outputs_there test [] h = tt
    outputs_there test (slots.Test part ∷ ks) h = (tt, outputs_there test ks h.1)
    outputs_there test (slots.Item number ∷ ks) h = (tt, outputs_there test ks h.1)
    outputs_there test (slots.Fault id ∷ ks) h = (tt, outputs_there test ks h.1)
    outputs_there test (slots.Value kind of name ∷ ks) h =
        (output_there test kind of name h.0, outputs_there test ks h.1)

    threads_there : (id part : ℕ) (stamps : List ℕ)
        → Each (HasOutput s) (thread_parts id part stamps ++ Part 4 id ∷ [])
    threads_there id part [] = (tt, tt)
    threads_there id part (x ∷ xs) = (tt, threads_there id (part + 1) xs)

    space_there : (o : Option TestRow) → Each (HasOutput s) (row_parts o)
    space_there None = tt
    space_there (Some r) = (tt, threads_there r.id 6 r.threads.items)

    inputs_there : (kind : Kind) (test of : ℕ) → has_slot ss kind of ≡ true
        → Each (HasOutput s) (node_inputs s.parts.table kind test of)
    inputs_there kinds.Space test of has = space_there (row_of s.parts.table.tests.items test)
    inputs_there kinds.Group test of has =
        outputs_there test (slot_keys ss kinds.Group of) (good kinds.Group of has).0
    inputs_there kinds.Check test of has =
        outputs_there test (slot_keys ss kinds.Check of) (good kinds.Check of has).0
    inputs_there kinds.Verdict test of has =
        outputs_there test (slot_keys ss kinds.Verdict of) (good kinds.Verdict of has).0

    -- ---- each used node is given something

    some_of : (o : Option GivenContent) (g : GivenContent) → o ≡ Some g → is_some o ≡ true
    some_of o g e = ap (λ (p : Option GivenContent). is_some p) e

    module _ (test : ℕ) (v : FoundTest)
        (found : view_of s.parts.table.tests.items s.tests s.parts.locations.items test ≡ Some v)
        (row : IsTestRow s.parts.last v.row v.test) where
      space_some : is_some (given_space (contents s (space_keys s.parts.table.tests.items test)))
          ≡ true
      space_some =
          some_of (given_space (contents s (space_keys s.parts.table.tests.items test))) _
          (space_is s test v found (let many = row.each_thread in omega (arith, many)))

      abbrev condition : Option PartContent
      condition =
          Some (OfCondition v.test.condition.quantifier (formula_of v.test.condition.proposition))

      asks_flags : (keys : List SlotKey) (flags : List (Option (List ℕ))) → AsksFlags s keys
          → is_some (given_verdict (contents s (keys_at test keys)) flags) ≡ true
      asks_flags keys flags a =
          ap (λ (ks : List SlotKey). is_some (given_verdict (contents s (keys_at test ks)) flags))
          a.1
          ∙ ap
          (λ (c : Option PartContent). is_some (given_verdict
          (c ∷ content s 3 test ∷ contents s (keys_at test a.0)) flags))
          (part_is s test v found 2 (omega arith))
          ∙ ap
          (λ (c : Option PartContent).
          is_some (given_verdict (condition ∷ c ∷ contents s (keys_at test a.0)) flags))
          (part_is s test v found 3 (omega arith))

      asks_fault : (keys : List SlotKey) (flags : List (Option (List ℕ))) → AsksFault s keys
          → is_some (given_verdict (contents s (keys_at test keys)) flags) ≡ true
      asks_fault keys flags a =
          ap (λ (ks : List SlotKey). is_some (given_verdict (contents s (keys_at test ks)) flags))
          a.2
          ∙ ap
          (λ (c : Option PartContent). is_some (given_verdict (c ∷ content s 1 a.0 ∷ []) flags))
          (part_is s test v found 2 (omega arith))
          ∙ ap (λ (c : Option PartContent). is_some (given_verdict (condition ∷ c ∷ []) flags)) a.3

      verdict_some : (keys : List SlotKey) (flags : List (Option (List ℕ)))
          → AsksFlags s keys ⊎ AsksFault s keys
          → is_some (given_verdict (contents s (keys_at test keys)) flags) ≡ true
      verdict_some keys flags (inl a) = asks_flags keys flags a
      verdict_some keys flags (inr a) = asks_fault keys flags a

      given_some : (kind : Kind) (of : ℕ) → has_slot ss kind of ≡ true
          → is_some (given_by s kind (node_inputs s.parts.table kind test of)) ≡ true
      given_some kinds.Space of has = space_some
      given_some kinds.Group of has =
          some_of (given_item (contents s (keys_at test (slot_keys ss kinds.Group of)))) _
          (item_given test of (slot_keys ss kinds.Group of) (good kinds.Group of has).1)
      given_some kinds.Check of has =
          some_of (given_item (contents s (keys_at test (slot_keys ss kinds.Check of)))) _
          (item_given test of (slot_keys ss kinds.Check of) (good kinds.Check of has).1)
      given_some kinds.Verdict of has =
          verdict_some (slot_keys ss kinds.Verdict of) _ (good kinds.Verdict of has).1

    used_given : (n : Node) → Has (used s.parts.table) n → is_some (given_to_node s n) ≡ true
    used_given n h =
        let found = found_test s.parts.last s.parts.table.tests.items s.tests s.parts.locations.items n.test built.tests (used_test s.parts.table n h) in
        given_some n.test found.0 found.1 found.2 n.kind n.of (used_slot s.parts.table n h)

    -- ---- the whole

    ordered_model : (m : ModelReading) → IsModelIn s m → IsOrderedModel m
    ordered_model (Sound id numbers items used) h = h.0
    ordered_model (Faulty id fault) h = tt

    ordered_models : (ms : List ModelReading) → Each (IsModelIn s) ms → Each IsOrderedModel ms
    ordered_models [] h = tt
    ordered_models (m ∷ ms) h = (ordered_model m h.0, ordered_models ms h.1)

    pub built_valid : IsValidState s
    built_valid = record {
      ordered =
          table_ordered s.parts.table (histories s) models built.slots
          (ordered_models models built.models_in);
      outputs = λ n h. inputs_there n.kind n.test n.of (used_slot s.parts.table n h);
      gives = used_given;
      empty = empty_are_none s s.parts.last built.items built.faults built.tests;
      low = stamps_are_low s s.parts.last built.items built.faults built.tests;
    }
