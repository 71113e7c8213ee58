-- Nothing that the verdict of a cell stands on is touched.
use Rattle.std.proofs.Common.{ℕ, ◌≡◌, ◌+◌, ◌<◌, zero, suc, inl, inr, true, List, [], ◌∷◌, ◌++◌, map, Option, Some, None, refl, sym, ap, ◌∙◌, subst, arith}
use Rattle.std.specs.List.{AllByRecursion as Each}
use Rattle.std.proofs.lemmas.Bool.Decides.{eqb_tells}
use Rattle.std.proofs.lemmas.Option.{same_Some}
use Rattle.text_values.specs.declared.model.Item.{Item}
use Rattle.text_values.specs.ModelValue.{Clause}
use Rattle.memo_core.specs.declared.keys.Kind.{Kind}
use Rattle.memo_core.specs.declared.keys.Kind.TheVariants as kinds
use Rattle.memo_core.specs.declared.keys.Key.{Key}
use Rattle.memo_core.specs.declared.keys.Key.TheVariants.{Part}
use Rattle.memo_core.specs.declared.keys.Node.{Node}
use Rattle.memo_core.specs.Graph.{input_nodes}
use Rattle.memo_core.specs.Right.{IsSamePart, IsUntouchedBy}
use Rattle.memo_core.specs.Step.{Has}
use Rattle.binding_kinds.specs.declared.fault.ModelFault.{ModelFault}
use Rattle.bench_items.specs.Naming.{SeenName}
use Rattle.bench_items.specs.Items.{RoleContent, Group, Check, Silent}
use Rattle.bench_nodes.specs.declared.table.SlotKey.{SlotKey}
use Rattle.bench_nodes.specs.declared.table.SlotKey.TheVariants as slots
use Rattle.bench_nodes.specs.declared.table.TestRow.{TestRow}
use Rattle.bench_nodes.specs.Nodes.{keys_at, key_at, slot_keys, row_parts, row_of, thread_parts, has_slot}
use Rattle.bench_nodes.proofs.Laws.{used_by}
use Rattle.bench_slots.specs.Slots.{space_key}
use Rattle.bench_slots.specs.Tables.{ModelReading, Sound, Faulty}
use Rattle.bench_slots.proofs.Lists.{each_append, each_map, each_to, each_has, has_map}
use Rattle.bench_parts.specs.Built.{IsRoleKnown, IsModelIn}
use Rattle.bench_parts.specs.Contents.{PartContent, OfText, OfRole, OfFault, PartsState, histories, content}
use Rattle.bench_parts.specs.States.{keeps, net_in}
use Rattle.bench_parts.specs.Written.{WrittenModel, WrittenState, KeepsStamp, EqualPartsKeepStamps}
use Rattle.bench_edits.specs.Kept.{IsKeptState, id_in, space_node, verdict_node}
use Rattle.bench_edits.proofs.Origin.{verdict_keys_are, verdict_there}
use Rattle.bench_edits.specs.BenchCells.{CellItem, cell_items, EqualItemsKeepNames, IsTestLeft, HoldsText, LeavesWrittenCell, IsVerdictUntouched}
use Rattle.bench_edits.proofs.Stable.{IsCertain, nat_stable, untouched_stable}
use Rattle.bench_edits.proofs.Items.{IsOfKind, number_in, used_key, keys_of, flag_keys, answer_keys, by_items, cell_keys, IsAmong, IsGroupAmong, IsCellIn, cell_in}

module _ (w v : WrittenState) (test : ℕ) where
  abbrev s : PartsState
  s = w.state

  abbrev t : PartsState
  t = v.state

  -- the part that an input names has its stamp of before
  abbrev pub IsKeyLeft : SlotKey → Type 0
  IsKeyLeft (slots.Test part) = KeepsStamp s t part test
  IsKeyLeft (slots.Item number) = KeepsStamp s t 0 number
  IsKeyLeft (slots.Fault id) = KeepsStamp s t 1 id
  IsKeyLeft (slots.Value kind of name) = Unit {0}

  key_left : (k : SlotKey) → IsKeyLeft k → IsSamePart (net_in s) (net_in t) (key_at test k)
  key_left (slots.Test part) h = h
  key_left (slots.Item number) h = h
  key_left (slots.Fault id) h = h
  key_left (slots.Value kind of name) h = tt

  pub keys_left : (ks : List SlotKey) → Each IsKeyLeft ks
      → Each (IsSamePart (net_in s) (net_in t)) (keys_at test ks)
  keys_left [] h = tt
  keys_left (k ∷ ks) h = (key_left k h.0, keys_left ks h.1)

  -- what holds of the node whose output an input is
  abbrev pub OfNode : (Node → Type 0) → SlotKey → Type 0
  OfNode P (slots.Test part) = Unit {0}
  OfNode P (slots.Item number) = Unit {0}
  OfNode P (slots.Fault id) = Unit {0}
  OfNode P (slots.Value kind of name) = P (record { kind = kind; test = test; of = of })

  pub nodes_hold : (P : Node → Type 0) (ks : List SlotKey) → Each (OfNode P) ks
      → Each P (input_nodes (keys_at test ks))
  nodes_hold P [] h = tt
  nodes_hold P (slots.Test part ∷ ks) h = nodes_hold P ks h.1
  nodes_hold P (slots.Item number ∷ ks) h = nodes_hold P ks h.1
  nodes_hold P (slots.Fault id ∷ ks) h = nodes_hold P ks h.1
  nodes_hold P (slots.Value kind of name ∷ ks) h = (h.0, nodes_hold P ks h.1)

  -- a node with these inputs before and after
  abbrev Untouched : ℕ → Node → Type 0
  Untouched d n = IsUntouchedBy d (keeps t.parts) (net_in s) (net_in t) n

  one_step : (d : ℕ) (n : Node) (ks : List SlotKey) → (net_in s).inputs n ≡ keys_at test ks
      → (net_in t).inputs n ≡ keys_at test ks → keeps t.parts n ≡ true → Each IsKeyLeft ks
      → Each (OfNode (Untouched d)) ks → Untouched (suc d) n
  one_step d n ks was is keep left under = (
    is ∙ sym was,
    keep,
    subst (Each (IsSamePart (net_in s) (net_in t))) (sym was) (keys_left ks left),
    subst (λ (l : List Key). Each (Untouched d) (input_nodes l)) (sym was)
        (nodes_hold (Untouched d) ks under),
  )

  -- ---- the space of a test

  module _ (left : IsTestLeft s t test) where
    threads_left : (id part : ℕ) (stamps : List ℕ) → id ≡ test → 1 < part
        → Each (IsSamePart (net_in s) (net_in t)) (thread_parts id part stamps ++ Part 4 id ∷ [])
    threads_left id part [] e big =
        (subst (λ (k : ℕ). KeepsStamp s t 4 k) (sym e) (left.stamps 4 (omega arith)), tt)
    threads_left id part (x ∷ xs) e big = (
      subst (λ (k : ℕ). KeepsStamp s t part k) (sym e) (left.stamps part big),
      threads_left id (part + 1) xs e (omega (arith, big)),
    )

    threads_alone : (id part : ℕ) (stamps : List ℕ)
        → input_nodes (thread_parts id part stamps ++ Part 4 id ∷ []) ≡ []
    threads_alone id part [] = refl
    threads_alone id part (x ∷ xs) = threads_alone id (part + 1) xs

    row_left : (rows : List TestRow)
        → Each (IsSamePart (net_in s) (net_in t)) (row_parts (row_of rows test))
        × (input_nodes (row_parts (row_of rows test)) ≡ [])
    row_left [] = (tt, refl)
    row_left (r ∷ rs) = elim (eqb_tells r.id test) [
      | inl same ↦ rw same.0 (
        (
          subst (λ (k : ℕ). KeepsStamp s t 5 k) (sym same.1)
              (left.stamps 5 (omega arith)),
          threads_left r.id 6 r.threads.items same.1 (omega arith),
        ),
        threads_alone r.id 6 r.threads.items,
      )
      | inr other ↦ rw other.0 (row_left rs)
    ]

    space_untouched : (d : ℕ) → keeps t.parts (space_node test) ≡ true
        → Untouched d (space_node test)
    space_untouched zero keep = tt
    space_untouched (suc d) keep =
        let row = row_left s.parts.table.tests.items in
        (left.inputs, keep, row.0, rw row.1 tt)

    -- ---- items

    module _ (id : ℕ) (cs : List (Option CellItem)) (was : IsCellIn w id cs) (is : IsCellIn v id cs)
        (items : EqualPartsKeepStamps w v 0) (names : EqualItemsKeepNames s t)
        (may : (kind : Kind) (of : ℕ) → has_slot t.parts.table.slots.items kind of ≡ true
        → keeps t.parts (record { kind = kind; test = test; of = of }) ≡ true) where
      -- an item that says the same before and after has its stamp
      text_left : (of : ℕ) (said : Option Clause) → HoldsText w of said → HoldsText v of said
          → KeepsStamp s t 0 of
      text_left of said before after =
          let same : after.0 ≡ before.0 = same_Some _ _ (sym after.1 ∙ before.1) in
          items of (OfText before.0) before.2 (after.2 ∙ ap (λ (c : Clause). Some (OfText c)) same)

      own_left : (c : CellItem) → Has cs (Some c) → KeepsStamp s t 0 c.number
      own_left c h = text_left c.number c.said (was.said c h) (is.said c h)

      functions_left : (fs : List ℕ) → Each (IsAmong cs) fs → Each (λ f. KeepsStamp s t 0 f) fs
      functions_left [] h = tt
      functions_left (f ∷ fs) h = (
        subst (λ (n : ℕ). KeepsStamp s t 0 n) h.0.number (own_left h.0.item h.0.there),
        functions_left fs h.1,
      )

      -- an item that does the same before and after has one history
      held_still : (of : ℕ) (role : RoleContent) (before : IsRoleKnown s of role) → IsRoleKnown t of role
          → content t 0 of ≡ Some (OfRole role before.0)
      held_still of role before after =
          after.1
          ∙ ap (λ (h : List SeenName). Some (OfRole role h))
          (names of role before.0 after.0 before.1 after.1)

      -- so names have the numbers that they had
      group_still : (of : ℕ) → IsGroupAmong cs of → content t 0 of ≡ content s 0 of
      group_still of g =
          let before = was.held g.group g.there in
          subst (λ (n : ℕ). content t 0 n ≡ content s 0 n) g.number (held_still g.group.number
          g.group.role before (is.held g.group g.there) ∙ sym before.1)

      names_still : (ns : List (ℕ × ℕ)) → Each (λ n. IsGroupAmong cs n.0) ns
          → map (used_key (content t 0)) ns ≡ map (used_key (content s 0)) ns
      names_still [] h = refl
      names_still (n ∷ ns) h =
          ap
          (λ (o : Option PartContent). slots.Value kinds.Group n.0 (number_in o n.1)
          ∷ map (used_key (content t 0)) ns)
          (group_still n.0 h.0)
          ∙ ap (λ (l : List SlotKey). used_key (content s 0) n ∷ l) (names_still ns h.1)

      keys_still : (c : CellItem) → Has cs (Some c)
          → keys_of (content t 0) c ≡ keys_of (content s 0) c
      keys_still c h =
          ap
          (λ (l : List SlotKey). slots.Item c.number ∷ map slots.Item c.functions ++ space_key ∷ l)
          (names_still c.names (was.names c h))

      -- the texts among the inputs of an item
      texts_left : (c : CellItem) → Has cs (Some c) → Each IsKeyLeft (keys_of (content s 0) c)
      texts_left c h = (
        own_left c h,
        each_append IsKeyLeft (map slots.Item c.functions)
            (space_key ∷ map (used_key (content s 0)) c.names)
            (each_map slots.Item IsKeyLeft c.functions
            (functions_left c.functions (was.functions c h)))
            (tt, each_map (used_key (content s 0)) IsKeyLeft c.names (all_so c.names)),
      )
        where
          all_so : (ns : List (ℕ × ℕ)) → Each (λ n. IsKeyLeft (used_key (content s 0) n)) ns
          all_so [] = tt
          all_so (n ∷ ns) = (tt, all_so ns)

      inputs_are : (u : PartsState) (role : RoleContent) (kind : Kind) (of : ℕ) → IsOfKind role kind
          → (net_in u).inputs (record { kind = kind; test = test; of = of })
          ≡ keys_at test (slot_keys u.parts.table.slots.items kind of)
      inputs_are u (Group recursive bodies) kind of e =
          subst
          (λ (k : Kind). (net_in u).inputs (record { kind = k; test = test; of = of })
          ≡ keys_at test (slot_keys u.parts.table.slots.items k of))
          (sym e) refl
      inputs_are u (Check negated word code flag) kind of e =
          subst
          (λ (k : Kind). (net_in u).inputs (record { kind = k; test = test; of = of })
          ≡ keys_at test (slot_keys u.parts.table.slots.items k of))
          (sym e) refl
      inputs_are u Silent kind of e = absurd e

      item_untouched : (d : ℕ) (c : CellItem) (kind : Kind) → Has cs (Some c) → IsOfKind c.role kind
          → Untouched d (record { kind = kind; test = test; of = c.number })
      item_untouched zero c kind h of = tt
      item_untouched (suc d) c kind h of =
          one_step d (record { kind = kind; test = test; of = c.number }) (keys_of (content s 0) c)
          (inputs_are s c.role kind c.number of ∙ ap (keys_at test) (was.item_keys c kind h of))
          (inputs_are t c.role kind c.number of
          ∙ ap (keys_at test) (is.item_keys c kind h of ∙ keys_still c h))
          (may kind c.number (is.has_item c kind h of)) (texts_left c h) (
            tt,
            each_append (OfNode (Untouched d)) (map slots.Item c.functions)
                (space_key ∷ map (used_key (content s 0)) c.names)
                (each_map slots.Item (OfNode (Untouched d)) c.functions (none_among c.functions)) (
                  space_untouched d (may kinds.Space 0 is.has_space),
                  each_map (used_key (content s 0)) (OfNode (Untouched d)) c.names
                      (each_to (λ n. IsGroupAmong cs n.0)
                      (λ n. OfNode (Untouched d) (used_key (content s 0) n))
                      (λ n g. subst
                      (λ (k : ℕ). Untouched d
                      (record { kind = kinds.Group; test = test; of = k }))
                      g.number
                      (item_untouched d g.group kinds.Group g.there g.kind)) c.names
                      (was.names c h)),
                ),
          )
        where
          none_among : (fs : List ℕ) → Each (λ f. OfNode (Untouched d) (slots.Item f)) fs
          none_among [] = tt
          none_among (f ∷ fs) = (tt, none_among fs)

      -- ---- the verdict

      flag_left : (c : CellItem) → Has cs (Some c) → (role : RoleContent)
          → Each IsKeyLeft (flag_keys role c.number)
      flag_left c h (Check negated word code (Some name)) = (own_left c h, tt)
      flag_left c h (Check negated word code None) = tt
      flag_left c h (Group recursive bodies) = tt
      flag_left c h Silent = tt

      answer_left : (own : ℕ) (role : RoleContent) → Each IsKeyLeft (answer_keys role own)
      answer_left own (Check negated word code flag) = (tt, tt)
      answer_left own (Group recursive bodies) = tt
      answer_left own Silent = tt

      each_by : (P : SlotKey → Type 0) (f : RoleContent → ℕ → List SlotKey)
          → ((c : CellItem) → Has cs (Some c) → Each P (f c.role c.number))
          → (os : List (Option CellItem)) → ((c : CellItem) → Has os (Some c) → Has cs (Some c))
          → Each P (by_items f os)
      each_by P f h [] within = tt
      each_by P f h (None ∷ os) within = each_by P f h os (λ c g. within c (inr g))
      each_by P f h (Some c ∷ os) within =
          each_append P (f c.role c.number) (by_items f os) (h c (within c (inl refl)))
          (each_by P f h os (λ e g. within e (inr g)))

      check_under : (d : ℕ) (c : CellItem) → Has cs (Some c) → (role : RoleContent) → c.role ≡ role
          → Each (OfNode (Untouched d)) (answer_keys role c.number)
      check_under d c h (Check negated word code flag) e = (
        item_untouched d c kinds.Check h (subst (λ (r : RoleContent). IsOfKind r kinds.Check)
            (sym e) refl),
        tt,
      )
      check_under d c h (Group recursive bodies) e = tt
      check_under d c h Silent e = tt

      flag_under : (d : ℕ) (own : ℕ) (role : RoleContent)
          → Each (OfNode (Untouched d)) (flag_keys role own)
      flag_under d own (Check negated word code (Some name)) = (tt, tt)
      flag_under d own (Check negated word code None) = tt
      flag_under d own (Group recursive bodies) = tt
      flag_under d own Silent = tt

      pub sound_untouched : (d : ℕ) → Untouched d (verdict_node test id)
      sound_untouched zero = tt
      sound_untouched (suc d) =
          one_step d (verdict_node test id) (cell_keys cs) (ap (keys_at test) was.verdict_keys)
          (ap (keys_at test) is.verdict_keys) (may kinds.Verdict id is.has_verdict) (
            left.stamps 2 (omega arith),
            (
              left.stamps 3 (omega arith),
              each_append IsKeyLeft (by_items flag_keys cs) (space_key ∷ by_items answer_keys cs)
                  (each_by IsKeyLeft flag_keys (λ c h. flag_left c h c.role) cs (λ c h. h)) (
                    tt,
                    each_by IsKeyLeft answer_keys (λ c h. answer_left c.number c.role) cs
                        (λ c h. h),
                  ),
            ),
          ) (
            tt,
            (
              tt,
              each_append (OfNode (Untouched d)) (by_items flag_keys cs)
                  (space_key ∷ by_items answer_keys cs)
                  (each_by (OfNode (Untouched d)) flag_keys (λ c h. flag_under d c.number c.role) cs
                  (λ c h. h)) (
                    space_untouched d (may kinds.Space 0 is.has_space),
                    each_by (OfNode (Untouched d)) answer_keys
                        (λ c h. check_under d c h c.role refl) cs (λ c h. h),
                  ),
            ),
          )

  -- ---- a model with a fault

  module _ (id : ℕ) (fault : ModelFault) (was : IsKeptState s (map (λ m. m.reading) w.models))
      (is : IsKeptState t (map (λ m. m.reading) v.models))
      (there : Has (map (λ m. m.reading) w.models) (Faulty id fault)) (also : Has
      (map (λ m. m.reading) v.models) (Faulty id fault))
      (faults : EqualPartsKeepStamps w v 1) (left : KeepsStamp s t 2 test)
      (may : (kind : Kind) (of : ℕ) → has_slot t.parts.table.slots.items kind of ≡ true
      → keeps t.parts (record { kind = kind; test = test; of = of }) ≡ true) where
    abbrev before : List ModelReading
    before = map (λ m. m.reading) w.models

    abbrev after : List ModelReading
    after = map (λ m. m.reading) v.models

    pub faulty_untouched : (d : ℕ) → Untouched d (verdict_node test id)
    faulty_untouched zero = tt
    faulty_untouched (suc d) =
        one_step d (verdict_node test id) (slots.Test 2 ∷ slots.Fault id ∷ [])
        (ap (keys_at test) (verdict_keys_are before was.models_apart was.read (histories s)
        s.parts.table.slots.items was.built.slots (Faulty id fault) there))
        (ap (keys_at test) (verdict_keys_are after is.models_apart is.read (histories t)
        t.parts.table.slots.items is.built.slots (Faulty id fault) also))
        (may kinds.Verdict id (verdict_there after is.models_apart is.read (histories t)
        t.parts.table.slots.items is.built.slots (Faulty id fault) also)) (
          left,
          (
            faults id (OfFault fault)
                (each_has (IsModelIn s) before was.built.models_in (Faulty id fault)
                there)
                (each_has (IsModelIn t) after is.built.models_in (Faulty id fault)
                also),
            tt,
          ),
        )
        (tt, (tt, tt))

-- ---- the whole

module _ (w v : WrittenState) (test : ℕ) where
  reading_there : (u : WrittenState) (m : WrittenModel) → Has u.models m
      → Has (map (λ x. x.reading) u.models) m.reading
  reading_there u m h = has_map (λ (x : WrittenModel). x.reading) u.models m h

  abbrev written : List ℕ → List Item → ModelReading → WrittenModel
  written ns texts r = record { numbers = ns; items = texts; reading = r }

  by_readings : (ks ls : List ℕ) (texts others : List Item) (r q : ModelReading)
      → LeavesWrittenCell w v (written ks texts r) (written ls others q) test
      → IsVerdictUntouched w v (written ks texts r) (written ls others q) test
  by_readings ks ls texts others (Sound id numbers items used) (Sound jd ns is us) h = (
    sym h.same.0,
    sound_untouched w v test h.test_left id (cell_items numbers texts items used)
        (cell_in w ks texts id numbers items used h.before)
        (subst (IsCellIn v id) (sym h.same.1) (subst
        (λ (k : ℕ). IsCellIn v k (cell_items ns others is us)) (sym h.same.0)
        (cell_in v ls others jd ns is us h.after)))
        h.items h.names (λ kind of has. h.may_keep (record { kind = kind; test = test; of = of })
        (used_by v.state.parts.table (record { kind = kind; test = test; of = of })
        h.has_test has)),
  )
  by_readings ks ls texts others (Sound id numbers items used) (Faulty jd fault) h = absurd h.same
  by_readings ks ls texts others (Faulty id fault) (Sound jd ns is us) h = absurd h.same
  by_readings ks ls texts others (Faulty id fault) (Faulty jd other) h = (
    sym h.same.0,
    faulty_untouched w v test id fault h.before.kept h.after.kept
        (reading_there w (written ks texts (Faulty id fault)) h.before.there)
        (subst (λ (f : ModelFault). Has (map (λ m. m.reading) v.models) (Faulty id f))
        (sym h.same.1) (subst
        (λ (k : ℕ). Has (map (λ m. m.reading) v.models) (Faulty k other)) (sym h.same.0)
        (reading_there v (written ls others (Faulty jd other)) h.after.there)))
        h.faults h.test_left (λ kind of has. h.may_keep
        (record { kind = kind; test = test; of = of }) (used_by v.state.parts.table
        (record { kind = kind; test = test; of = of }) h.has_test has)),
  )

pub left_untouched : (w v : WrittenState) (m n : WrittenModel) (test : ℕ) → LeavesWrittenCell w v m n test
    → IsVerdictUntouched w v m n test
left_untouched w v m n test h =
    by_readings w v test m.numbers n.numbers m.items n.items m.reading n.reading h

pub unreached_untouched : (w v : WrittenState) (m n : WrittenModel) (test : ℕ)
    → IsCertain (LeavesWrittenCell w v m n test) → IsVerdictUntouched w v m n test
unreached_untouched w v m n test h = (
  nat_stable (id_in n.reading) (id_in m.reading)
      (λ no. h (λ l. no (left_untouched w v m n test l).0)),
  λ d. untouched_stable d (keeps v.state.parts) (net_in w.state) (net_in v.state)
      (verdict_node test (id_in m.reading))
      (λ no. h (λ l. no ((left_untouched w v m n test l).1 d))),
)
