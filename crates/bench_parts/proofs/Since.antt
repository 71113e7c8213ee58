-- States that came of others: what was given stays, and edits go on.
use Rattle.std.proofs.Common.{ℕ, ◌+◌, ◌<◌, ◌≤◌, ◌≡◌, ◌⊎◌, inl, inr, true, false, List, [], ◌∷◌, ◌++◌, Option, Some, None, refl, sym, ap, ◌∙◌, append_assoc, ne_eqb, arith}
use Rattle.std.specs.List.{AllByRecursion as Each}
use Rattle.std.proofs.lemmas.Bool.{cases_Bool}
use Rattle.std.proofs.lemmas.List.{append-nil}
use Rattle.memo_core.specs.declared.keys.Kind.{Kind}
use Rattle.memo_core.specs.declared.keys.Kind.TheVariants as kinds
use Rattle.memo_core.specs.declared.keys.Key.{Key}
use Rattle.memo_core.specs.declared.keys.Key.TheVariants.{Part, Output}
use Rattle.memo_core.specs.declared.keys.Node.{Node}
use Rattle.memo_core.specs.Right.{IsSamePart, PartsGoOn}
use Rattle.bench_values.specs.Givens.{GivenContent}
use Rattle.bench_items.specs.Naming.{SeenName}
use Rattle.bench_nodes.specs.declared.table.Slot.{Slot}
use Rattle.bench_nodes.specs.declared.table.TestRow.{TestRow}
use Rattle.bench_nodes.specs.Nodes.{part_stamp, inputs, node_inputs, has_slot, slot_keys, keys_at, thread_parts, row_of, row_parts}
use Rattle.bench_parts.specs.Contents.{PartContent, PartsState, content, histories}
use Rattle.bench_parts.specs.States.{IsValidState, contents, given_space, given_item, given_by, given_to_node, is_given, net_in, flags_read, given_verdict}
use Rattle.bench_parts.specs.Written.{WrittenState, IsHere, Precedes, IsWholeState, WrittenItemsGoOn, IsStateSince, IsPartAfter, IsStamped, part_content}
use Rattle.bench_parts.proofs.Built.{built_valid, no_inputs}
use Rattle.bench_parts.proofs.ItemSlots.{IsOfItem, slot_of, item_given_stays}
use Rattle.bench_parts.proofs.VerdictSlots.{verdict_stays}

pub whole_valid : (w : WrittenState) → IsWholeState w → IsValidState w.state
whole_valid w whole = built_valid w.state _ whole.built

-- ---- what a space is given

abbrev IsNoItem : Key → Type 0
IsNoItem (Part part of) = part ≡ 0 → ⊥
IsNoItem (Output n x) = Unit {0}

threads_no_items : (id part : ℕ) (stamps : List ℕ) → 0 < part
    → Each IsNoItem (thread_parts id part stamps ++ Part 4 id ∷ [])
threads_no_items id part [] low = ((λ e. absurd (omega (arith, e))), tt)
threads_no_items id part (t ∷ ts) low =
    ((λ e. absurd (omega (arith, e, low))), threads_no_items id (part + 1) ts (omega arith))

row_no_items : (o : Option TestRow) → Each IsNoItem (row_parts o)
row_no_items None = tt
row_no_items (Some r) =
    ((λ e. absurd (omega (arith, e))), threads_no_items r.id 6 r.threads.items (omega arith))

module _ (w v : WrittenState) (since : IsStateSince w v) where
  part_stays : (part of : ℕ) → (part ≡ 0 → ⊥)
      → part_stamp v.state.parts.table part of ≡ part_stamp w.state.parts.table part of
      → content v.state part of ≡ content w.state part of
  part_stays part of unlike stamp =
      rw (ne_eqb part 0 unlike) (rw (ne_eqb part 0 unlike) at (since.same part of stamp))

  contents_stay : (ks : List Key) → Each IsNoItem ks
      → Each (IsSamePart (net_in w.state) (net_in v.state)) ks
      → contents v.state ks ≡ contents w.state ks
  contents_stay [] none h = refl
  contents_stay (Part part of ∷ ks) none h =
      ap (λ (c : Option PartContent). c ∷ contents v.state ks) (part_stays part of none.0 h.0)
      ∙ ap (λ (cs : List (Option PartContent)). content w.state part of ∷ cs)
      (contents_stay ks none.1 h.1)
  contents_stay (Output n x ∷ ks) none h = contents_stay ks none.1 h.1

  -- ---- by the kind of the node

  no_item : (s : PartsState) (ks : List Key) → ks ≡ [] → given_item (contents s ks) ≡ None
  no_item s ks e = ap (λ (l : List Key). given_item (contents s l)) e

  no_verdict : (s : PartsState) (ks : List Key) → ks ≡ []
      → given_verdict (contents s ks) (flags_read s ks ks) ≡ None
  no_verdict s ks e = ap (λ (l : List Key). given_verdict (contents s l) (flags_read s l l)) e

  abbrev old_slots : List Slot
  old_slots = w.state.parts.table.slots.items

  abbrev new_slots : List Slot
  new_slots = v.state.parts.table.slots.items

  no_keys : (ss : List Slot) (kind : Kind) (test of : ℕ) → has_slot ss kind of ≡ false
      → keys_at test (slot_keys ss kind of) ≡ []
  no_keys ss kind test of e = ap (keys_at test) (no_inputs ss kind of e)

  item_stays : (kind : Kind) (test of : ℕ)
      → ((has_slot old_slots kind of ≡ true) → IsOfItem w of (slot_keys old_slots kind of))
      → ((has_slot new_slots kind of ≡ true) → IsOfItem v of (slot_keys new_slots kind of))
      → keys_at test (slot_keys new_slots kind of) ≡ keys_at test (slot_keys old_slots kind of)
      → Each (IsSamePart (net_in w.state) (net_in v.state))
      (keys_at test (slot_keys new_slots kind of))
      → given_item (contents v.state (keys_at test (slot_keys new_slots kind of)))
      ≡ given_item (contents w.state (keys_at test (slot_keys old_slots kind of)))
  item_stays kind test of a b same parts = elim (cases_Bool (has_slot old_slots kind of)) [
    | inl e ↦ elim (cases_Bool (has_slot new_slots kind of)) [
      | inl f ↦ item_given_stays w v since of (slot_keys old_slots kind of)
          (slot_keys new_slots kind of) (a e) (b f) test same parts
      | inr f ↦ (let none = no_keys new_slots kind test of f in
          no_item v.state _ none ∙ sym (no_item w.state _ (sym same ∙ none)))
    ]
    | inr e ↦ (let none = no_keys old_slots kind test of e in
        no_item v.state _ (same ∙ none) ∙ sym (no_item w.state _ none))
  ]

  given_stays : (kind : Kind) (test of : ℕ)
      → node_inputs v.state.parts.table kind test of ≡ node_inputs w.state.parts.table kind test of
      → Each (IsSamePart (net_in w.state) (net_in v.state))
      (node_inputs v.state.parts.table kind test of)
      → given_by v.state kind (node_inputs v.state.parts.table kind test of)
      ≡ given_by w.state kind (node_inputs w.state.parts.table kind test of)
  given_stays kinds.Space test of same parts =
      ap given_space (contents_stay _ (row_no_items (row_of v.state.parts.table.tests.items test))
      parts) ∙ ap (λ (ks : List Key). given_space (contents w.state ks)) same
  given_stays kinds.Group test of same parts =
      item_stays kinds.Group test of (slot_of w since.whole kinds.Group of)
      (slot_of v since.still_whole kinds.Group of) same parts
  given_stays kinds.Check test of same parts =
      item_stays kinds.Check test of (slot_of w since.whole kinds.Check of)
      (slot_of v since.still_whole kinds.Check of) same parts
  given_stays kinds.Verdict test of same parts =
      elim (cases_Bool (has_slot old_slots kinds.Verdict of)) [
        | inl e ↦ elim (cases_Bool (has_slot new_slots kinds.Verdict of)) [
          | inl f ↦ (
              verdict_stays w v since test (keys_at test (slot_keys new_slots kinds.Verdict of))
              parts
              (slot_keys old_slots kinds.Verdict of) (slot_keys new_slots kinds.Verdict of) refl
              (sym same)
              (slot_of w since.whole kinds.Verdict of e)
              (slot_of v since.still_whole kinds.Verdict of f)
              ∙ ap (λ (ks : List Key).
              given_verdict (contents w.state ks) (flags_read w.state ks ks))
              same)
          | inr f ↦ (let none = no_keys new_slots kinds.Verdict test of f in
              no_verdict v.state _ none ∙ sym (no_verdict w.state _ (sym same ∙ none)))
        ]
        | inr e ↦ (let none = no_keys old_slots kinds.Verdict test of e in
            no_verdict v.state _ (same ∙ none) ∙ sym (no_verdict w.state _ none))
      ]

pub given_is_kept : (w v : WrittenState) (n : Node) (g : GivenContent) → IsStateSince w v
    → inputs v.state.parts.table n ≡ inputs w.state.parts.table n
    → Each (IsSamePart (net_in w.state) (net_in v.state)) (inputs v.state.parts.table n)
    → is_given (given_to_node w.state n) g ≡ true → is_given (given_to_node v.state n) g ≡ true
given_is_kept w v n g since same parts gives =
    ap (λ (o : Option GivenContent). is_given o g)
    (given_stays w v since n.kind n.test n.of same parts) ∙ gives

-- ---- items go on

items_same : (w : WrittenState) → WrittenItemsGoOn w w
items_same w = record {
  order = λ first second before a b. before;
  numbers = λ number here. inl here;
  next = omega arith;
  grown = λ number a b. ([], sym (append-nil (histories w.state number)));
}

module _ (w v u : WrittenState) (whole : IsWholeState w) (first : WrittenItemsGoOn w v) (next : WrittenItemsGoOn v u)
  where
    -- an item that was there before and is there later was there between
    between : (number : ℕ) → IsHere w number → IsHere u number → IsHere v number
    between number old new = by_number (next.numbers number new)
      where
        by_number : IsHere v number ⊎ (v.next ≤ number) → IsHere v number
        by_number (inl here) = here
        by_number (inr fresh) = absurd (omega (arith, fresh, first.next, whole.low number old))

    first_here : (a b : ℕ) → Precedes w a b → IsHere w a
    first_here a b p =
        record { model = p.model; index = p.from; there = p.there; stands = p.first_at }

    second_here : (a b : ℕ) → Precedes w a b → IsHere w b
    second_here a b p =
        record { model = p.model; index = p.to; there = p.there; stands = p.second_at }

    numbers_on : (number : ℕ) → IsHere u number → IsHere w number ⊎ (w.next ≤ number)
    numbers_on number here = by_number (next.numbers number here)
      where
        by_number : IsHere v number ⊎ (v.next ≤ number) → IsHere w number ⊎ (w.next ≤ number)
        by_number (inl there) = first.numbers number there
        by_number (inr fresh) = inr (omega (arith, fresh, first.next))

    items_on : WrittenItemsGoOn w u
    items_on = record {
      order =
          λ a b before here there. next.order a b
          (first.order a b before (between a (first_here a b before) here)
          (between b (second_here a b before) there)) here there;
      numbers = numbers_on;
      next = omega (arith, first.next, next.next);
      grown = λ number old new.
          (let middle = between number old new in
          let early = first.grown number old middle in
          let late = next.grown number middle new in (
            early.0 ++ late.0,
            late.1 ∙ ap (λ (l : List SeenName). l ++ late.0) early.1
                ∙ append_assoc (histories w.state number) early.0 late.0,
          ));
    }

-- ---- states since others

pub since_itself : (w : WrittenState) → IsWholeState w → IsStateSince w w
since_itself w whole =
    record {
      whole = whole;
      still_whole = whole;
      later = omega arith;
      same = λ part of e. refl;
      items = items_same w;
    }

pub since_stamped : (w v u : WrittenState) (number : ℕ) → IsStateSince w v → IsStamped v number u
    → IsStateSince w u
since_stamped w v u number since after = record {
  whole = since.whole;
  still_whole = after.whole since.still_whole;
  later =
      (let l = since.later in let a = after.above in let e = after.last in omega (arith, l, a, e));
  same = λ part of e. by_part part of e (after.parts part of);
  items = items_on w v u since.whole since.items after.items;
}
  where
    by_part : (part of : ℕ)
        → part_stamp u.state.parts.table part of ≡ part_stamp w.state.parts.table part of
        → IsPartAfter v number u part of → part_content u part of ≡ part_content w part of
    by_part part of e (inl kept) = kept.1 ∙ since.same part of (sym kept.0 ∙ e)
    by_part part of e (inr (inl new)) = absurd (
        let low = (whole_valid w since.whole).low part of in let l = since.later in let a = after.above in
        omega (arith, low, l, a, sym e ∙ new))
    by_part part of e (inr (inr gone)) =
        (after.whole since.still_whole).gone part of gone
        ∙ sym ((since.whole).gone part of (sym e ∙ gone))

pub parts_go_on : (w v : WrittenState) (number : ℕ) → IsStamped w number v
    → PartsGoOn (net_in w.state) number (net_in v.state)
parts_go_on w v number after part of = elim (after.parts part of) [
  | inl kept ↦ inl kept.0
  | inr other ↦ inr other
]
