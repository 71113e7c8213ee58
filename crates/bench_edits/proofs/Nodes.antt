-- The nodes of each cell are those of the test under the items.
use Rattle.std.proofs.Common.{ℕ, ◌≡◌, ◌<◌, ◌+◌, inl, inr, zero, suc, ◌==◌, ◌&&◌, ◌||◌, Bool, true, false, if◌then◌else◌, List, [], ◌∷◌, ◌++◌, length, map, take, get_or, Option, Some, None, option_map, slice_get, refl, sym, ap, ◌∙◌, subst, eqb-true, eq-eqb, arith}
use Rattle.std.specs.List.{AllByRecursion as Each}
use Rattle.std.proofs.Math.Seq.{take-length}
use Rattle.std.proofs.lemmas.Bool.{cases_Bool, or_right}
use Rattle.std.proofs.lemmas.Option.{none-some, slice_get_within, same_Some}
use Rattle.text_values.specs.declared.test.Test.{Test}
use Rattle.text_values.specs.declared.test.Thread.{Thread}
use Rattle.text_values.specs.TestValue.{formula_of}
use Rattle.memo_core.specs.declared.keys.Kind.{Kind}
use Rattle.memo_core.specs.declared.keys.Kind.TheVariants as kinds
use Rattle.memo_core.specs.declared.keys.Key.{Key}
use Rattle.memo_core.specs.declared.keys.Key.TheVariants.{Part, Output}
use Rattle.memo_core.specs.declared.keys.Node.{Node}
use Rattle.memo_core.specs.Step.{Has}
use Rattle.binding_kinds.specs.declared.fault.ModelFault.{ModelFault}
use Rattle.binding_kinds.specs.declared.scope.Input.{Input}
use Rattle.binding_graph.specs.declared.resolved.Body.{Body}
use Rattle.binding_graph.specs.declared.resolved.ResolvedItem.{ResolvedItem}
use Rattle.binding_graph.specs.declared.resolved.Role.{Role}
use Rattle.binding_graph.specs.declared.resolved.Role.TheVariants as roles
use Rattle.binding_graph.specs.Reach.{is_check, IsCheckAt}
use Rattle.bench_nodes.specs.declared.table.Slot.{Slot}
use Rattle.bench_nodes.specs.declared.table.SlotKey.{SlotKey}
use Rattle.bench_nodes.specs.declared.table.SlotKey.TheVariants as slots
use Rattle.bench_nodes.specs.declared.table.TestRow.{TestRow}
use Rattle.bench_nodes.specs.Nodes.{used, key_at, keys_at, slot_keys, thread_parts, row_of, row_parts}
use Rattle.bench_nodes.proofs.Laws.{used_by}
use Rattle.bench_values.specs.Givens.{GivenContent, ForSpace, ForItem, ForVerdict, ForFault, asked, faulted}
use Rattle.binding_shapes.specs.Shapes.{role_shape}
use Rattle.bench_items.specs.Items.{role_content}
use Rattle.bench_values.specs.Makes.{output_names}
use Rattle.bench_items.specs.Naming.{SeenName, item_outputs as numbers_in, seen_names_in, body_names, number_in_history, IsInHistory, AreInHistory}
use Rattle.bench_items.proofs.Naming.{number_tells}
use Rattle.bench_values.specs.Parts.{parts_of}
use Rattle.bench_edits.specs.Solved.{is_node, flag_name, flag_names}
use Rattle.bench_slots.specs.Slots.{no_name, name_of as bound_name, number_at, function_key, name_key, space_key, item_keys, flag_key, answer_key, keys_by, verdict_keys}
use Rattle.bench_slots.specs.Tables.{ModelReading, Sound, Faulty, name_count, IsNameOf}
use Rattle.bench_slots.proofs.Lists.{has_map, contains_has, each_has, each_from_has}
use Rattle.bench_slots.specs.Closed.{all_keys}
use Rattle.binding_kinds.specs.Outermost.{outermost_names}
use Rattle.bench_slots.proofs.Reached.{name_reached, all_flags, all_answers}
use Rattle.bench_parts.specs.Contents.{PartContent, OfRole, OfCondition, OfObserved, PartsState, histories, content}
use Rattle.bench_parts.specs.States.{contents, is_read, flag_name as parts_flag, flag_read, flags_read, given_item, given_verdict, given_by, given_to_node, net_in}
use Rattle.bench_parts.specs.Built.{IsRoleKnown, AreRolesKnown, IsModelIn}
use Rattle.bench_parts.specs.Views.{FoundTest}
use Rattle.bench_parts.proofs.BuiltSlots.{held_history_is}
use Rattle.bench_parts.proofs.Equality.{given_is}
use Rattle.bench_parts.proofs.Histories.{content_named}
use Rattle.bench_parts.proofs.SpaceParts.{part_is, space_is}
use Rattle.bench_edits.specs.Settled.{CellNodes, outputs_of, StandsOnce, IsNode, check_keys, item_given, name_output, IsNumberOf, AreNodesOf}
use Rattle.bench_edits.proofs.Held.{one_once}
use Rattle.bench_edits.specs.Kept.{IsReadingOfText, id_in, IsKeptState, IsTestAt, item_node, space_node, verdict_node, nodes_of}
use Rattle.bench_edits.proofs.NamesOnce.{bound_names, names_once}
use Rattle.bench_edits.proofs.Origin.{HasKind, item_keys_are, verdict_keys_are, verdict_there}
use Rattle.bench_edits.proofs.Standing.{named_kind, closed, reach, node_is}
use Rattle.bench_edits.proofs.NamedTests.{IsFound, find_test, parts_had}

-- ---- keys

keys_append : (test : ℕ) (ks ls : List SlotKey)
    → keys_at test (ks ++ ls) ≡ keys_at test ks ++ keys_at test ls
keys_append test [] ls = refl
keys_append test (k ∷ ks) ls = ap (λ (l : List Key). key_at test k ∷ l) (keys_append test ks ls)

outputs_append : (ks ls : List Key) → outputs_of (ks ++ ls) ≡ outputs_of ks ++ outputs_of ls
outputs_append [] ls = refl
outputs_append (Part part of ∷ ks) ls = outputs_append ks ls
outputs_append (Output n x ∷ ks) ls = ap (λ (l : List Key). Output n x ∷ l) (outputs_append ks ls)

-- the outputs among slots' inputs, for a test
abbrev outputs_at : ℕ → List SlotKey → List Key
outputs_at test ks = outputs_of (keys_at test ks)

at_append : (test : ℕ) (ks ls : List SlotKey)
    → outputs_at test (ks ++ ls) ≡ outputs_at test ks ++ outputs_at test ls
at_append test ks ls =
    ap outputs_of (keys_append test ks ls) ∙ outputs_append (keys_at test ks) (keys_at test ls)

threads_outputs : (id part : ℕ) (stamps : List ℕ)
    → outputs_of (thread_parts id part stamps ++ Part 4 id ∷ []) ≡ []
threads_outputs id part [] = refl
threads_outputs id part (x ∷ xs) = threads_outputs id (part + 1) xs

row_outputs : (o : Option TestRow) → outputs_of (row_parts o) ≡ []
row_outputs None = refl
row_outputs (Some r) = threads_outputs r.id 6 r.threads.items

function_outputs : (test : ℕ) (numbers fs : List ℕ)
    → outputs_at test (map (function_key numbers) fs) ≡ []
function_outputs test numbers [] = refl
function_outputs test numbers (f ∷ fs) = function_outputs test numbers fs

flag_outputs : (test own : ℕ) (role : Role) → outputs_at test (flag_key role own) ≡ []
flag_outputs test own (roles.Group recursive bodies) = refl
flag_outputs test own (roles.Check check) = by_flag check.flag refl
  where
    by_flag : (flag : Option (List ℕ)) → check.flag ≡ flag
        → outputs_at test (flag_key (roles.Check check) own) ≡ []
    by_flag None e = rw e refl
    by_flag (Some name) e = rw e refl
flag_outputs test own roles.Silent = refl

flags_outputs : (test : ℕ) (numbers : List ℕ) (index : ℕ) (rs : List ResolvedItem)
    → outputs_at test (all_keys flag_key numbers index rs) ≡ []
flags_outputs test numbers index [] = refl
flags_outputs test numbers index (r ∷ rs) =
    at_append test (flag_key r.role (number_at numbers index))
    (all_keys flag_key numbers (suc index) rs)
    ∙ ap (λ (l : List Key). l ++ outputs_at test (all_keys flag_key numbers (suc index) rs))
    (flag_outputs test (number_at numbers index) r.role)
    ∙ flags_outputs test numbers (suc index) rs

-- ---- indexes

abbrev among : List ℕ → ℕ → Bool
among [] k = false
among (u ∷ l) k = (u == k) || among l k

among_yes : (l : List ℕ) (k : ℕ) → Has l k → among l k ≡ true
among_yes [] k h = absurd h
among_yes (u ∷ l) k (inl e) = rw (eq-eqb u k e) refl
among_yes (u ∷ l) k (inr h) = or_right (u == k) (among l k) (among_yes l k h)

among_has : (l : List ℕ) (k : ℕ) → among l k ≡ true → Has l k
among_has [] k h = absurd (let e : false ≡ true = h in cc)
among_has (u ∷ l) k h = elim (cases_Bool (u == k)) [
  | inl e ↦ inl (eqb-true u k e)
  | inr e ↦ inr (among_has l k (rw e at h))
]

-- ---- outputs of items

get_there : (xs : List SeenName) (p : ℕ) → p < length xs
    → slice_get xs p ≡ Some (get_or xs p no_name)
get_there [] p lt = absurd (omega (arith, lt))
get_there (x ∷ xs) zero lt = refl
get_there (x ∷ xs) (suc p) lt = get_there xs p (omega (arith, lt))

get_mapped : (f : SeenName → ℕ) (xs : List SeenName) (p : ℕ)
    → slice_get (map f xs) p ≡ option_map f (slice_get xs p)
get_mapped f [] p = refl
get_mapped f (x ∷ xs) zero = refl
get_mapped f (x ∷ xs) (suc p) = get_mapped f xs p

names_many : (bodies : List Body) → length (body_names bodies) ≡ length bodies
names_many [] = refl
names_many (b ∷ bs) = ap suc (names_many bs)

-- the output at a name's position goes by the number of the name
outputs_numbered : (history : List SeenName) (role : Role) (p : ℕ) → p < name_count role
    → slice_get
    (output_names (ForItem (role_shape (role_content role))
    (numbers_in (role_content role) history))) p
    ≡ Some (number_in_history history (get_or (seen_names_in (role_content role)) p no_name))
outputs_numbered history (roles.Group recursive bodies) p lt =
    let names = body_names bodies.items in
    let many = names_many bodies.items in
    get_mapped (number_in_history history) names p
    ∙ ap (option_map (number_in_history history)) (get_there names p (omega (arith, lt, many)))
outputs_numbered history (roles.Check check) p lt = absurd (omega (arith, lt))
outputs_numbered history roles.Silent p lt = absurd (omega (arith, lt))

-- the names of a list stand in a history
named_at : (history names : List SeenName) (p : ℕ) (x : SeenName) → Each (IsInHistory history) names
    → slice_get names p ≡ Some x → IsInHistory history x
named_at history [] p x all at = absurd (none-some x at)
named_at history (n ∷ ns) zero x all at = subst (IsInHistory history) (same_Some _ _ at) all.0
named_at history (n ∷ ns) (suc p) x all at = named_at history ns p x all.1 at

-- the name of a number
name_behind : (f : SeenName → ℕ) (o : Option SeenName) (n : ℕ) → option_map f o ≡ Some n
    → (x : SeenName) × (o ≡ Some x) × (f x ≡ n)
name_behind f None n e = absurd (none-some n e)
name_behind f (Some x) n e = (x, refl, some_number e)
  where
    some_number : {a b : ℕ} → Some a ≡ Some b → a ≡ b
    some_number e = cc

-- names that stand once in a list, and stand in a history, have numbers that stand once
mapped_once : (history names : List SeenName) → Each (IsInHistory history) names → StandsOnce names
    → StandsOnce (map (number_in_history history) names)
mapped_once history names all once p q n at also =
    let a = name_behind (number_in_history history) (slice_get names p) n (sym (get_mapped (number_in_history history) names p) ∙ at) in
    let b = name_behind (number_in_history history) (slice_get names q) n (sym (get_mapped (number_in_history history) names q) ∙ also) in
    let same : a.0 ≡ b.0 = number_tells history a.0 b.0 (named_at history names p a.0 all a.1) (a.2 ∙ sym b.2) in
    once p q a.0 a.1 (b.1 ∙ ap (λ (x : SeenName). Some x) (sym same))

-- how the name at a position is spelt
spelt_at : (bodies : List Body) (p : ℕ) (x : SeenName) → slice_get (body_names bodies) p ≡ Some x
    → slice_get (map (λ b. b.name) bodies) p ≡ Some x
spelt_at [] p x at = absurd (none-some x at)
spelt_at (b ∷ bs) zero x at = at
spelt_at (b ∷ bs) (suc p) x at = spelt_at bs p x at

body_once : (bodies : List Body) → StandsOnce (map (λ b. b.name) bodies)
    → StandsOnce (body_names bodies)
body_once bodies once p q x at also =
    once p q x (spelt_at bodies p x at) (spelt_at bodies q x also)

-- no two outputs of an item go by one number
outputs_once : (history : List SeenName) (role : Role) → AreInHistory history (role_content role)
    → StandsOnce (bound_names role)
    → StandsOnce (output_names (ForItem (role_shape (role_content role))
    (numbers_in (role_content role) history)))
outputs_once history (roles.Group recursive bodies) all once =
    mapped_once history (body_names bodies.items) all (body_once bodies.items once)
outputs_once history (roles.Check check) all once = one_once
outputs_once history roles.Silent all once = λ p q x at also. absurd (none-some x at)

-- ---- what a node's job is given

-- the text of a flag is among the inputs of a verdict
read_behind : (ks ls : List Key) (item : ℕ) → is_read ls item ≡ true
    → is_read (ks ++ ls) item ≡ true
read_behind [] ls item h = h
read_behind (Part part of ∷ ks) ls item h =
    or_right ((part == 0) && (of == item)) (is_read (ks ++ ls) item) (read_behind ks ls item h)
read_behind (Output n x ∷ ks) ls item h = read_behind ks ls item h

read_before : (ks ls : List Key) (item : ℕ) → is_read ks item ≡ true
    → is_read (ks ++ ls) item ≡ true
read_before [] ls item h = absurd (let e : false ≡ true = h in cc)
read_before (Part part of ∷ ks) ls item h = elim (cases_Bool ((part == 0) && (of == item))) [
  | inl e ↦ rw e refl
  | inr e ↦ rw e (read_before ks ls item (rw e at h))
]
read_before (Output n x ∷ ks) ls item h = read_before ks ls item h

read_in : (test : ℕ) (ks ls : List SlotKey) (item : ℕ) → is_read (keys_at test ks) item ≡ true
    → is_read (keys_at test (ks ++ ls)) item ≡ true
read_in test ks ls item h =
    ap (λ (l : List Key). is_read l item) (keys_append test ks ls)
    ∙ read_before (keys_at test ks) (keys_at test ls) item h

read_past : (test : ℕ) (ks ls : List SlotKey) (item : ℕ) → is_read (keys_at test ls) item ≡ true
    → is_read (keys_at test (ks ++ ls)) item ≡ true
read_past test ks ls item h =
    ap (λ (l : List Key). is_read l item) (keys_append test ks ls)
    ∙ read_behind (keys_at test ks) (keys_at test ls) item h

-- the text of a flag is among those of the flags
flag_among : (test : ℕ) (numbers : List ℕ) (index j : ℕ) (rs : List ResolvedItem) (r : ResolvedItem)
    (name : List ℕ) → slice_get rs j ≡ Some r → flag_name r.role ≡ Some name
    → is_read (keys_at test (all_keys flag_key numbers index rs)) (number_at numbers (index + j))
    ≡ true
flag_among test numbers index j [] r name at is = absurd (none-some r at)
flag_among test numbers index zero (q ∷ rs) r name at is =
    let start : index + 0 ≡ index = omega arith in
    rw start (read_in test (flag_key q.role (number_at numbers index))
    (all_keys flag_key numbers (suc index) rs) (number_at numbers index)
    (own q.role (ap (λ (x : ResolvedItem). flag_name x.role) (some_item at) ∙ is)))
  where
    some_item : Some q ≡ Some r → q ≡ r
    some_item e = cc

    own : (role : Role) → flag_name role ≡ Some name
        → is_read (keys_at test (flag_key role (number_at numbers index))) (number_at numbers index)
        ≡ true
    own (roles.Group recursive bodies) e = absurd (none-some name e)
    own (roles.Check check) e = by_flag check.flag refl e
      where
        by_flag : (flag : Option (List ℕ)) → check.flag ≡ flag → flag ≡ Some name
            → is_read (keys_at test (flag_key (roles.Check check) (number_at numbers index)))
            (number_at numbers index) ≡ true
        by_flag None f g = absurd (none-some name g)
        by_flag (Some n) f g =
            rw f (rw (eq-eqb (number_at numbers index) (number_at numbers index) refl) refl)
    own roles.Silent e = absurd (none-some name e)
flag_among test numbers index (suc j) (q ∷ rs) r name at is =
    let moved : suc index + j ≡ index + suc j = omega arith in
    read_past test (flag_key q.role (number_at numbers index))
    (all_keys flag_key numbers (suc index) rs) (number_at numbers (index + suc j))
    (subst
    (λ (n : ℕ). is_read (keys_at test (all_keys flag_key numbers (suc index) rs))
    (number_at numbers n) ≡ true) moved
    (flag_among test numbers (suc index) j rs r name at is))

module _ (s : PartsState) where
  gives_this : (n : Node) (known : GivenContent) → given_to_node s n ≡ Some known → (g : GivenContent)
      → (net_in s).gives n g ≡ true → g ≡ known
  gives_this n known e g gives = same_Some _ _ (sym (given_is (given_to_node s n) g gives) ∙ e)

  -- an item of which the part holds what it does is named as it is, where its text is read if it is
  -- a flag
  flag_is : (keys : List Key) (own : ℕ) (role : Role) (part : IsRoleKnown s own (role_content role))
      → ((name : List ℕ) → flag_name role ≡ Some name → is_read keys own ≡ true)
      → flag_read s keys own ≡ flag_name role
  flag_is keys own role part read =
      ap (λ (o : Option PartContent). if is_read keys own then parts_flag o else None) part.1
      ∙ by_name (flag_name role) (named role) read
    where
      named : (role : Role) → parts_flag (Some (OfRole (role_content role) part.0)) ≡ flag_name role
      named (roles.Group recursive bodies) = refl
      named (roles.Check check) = refl
      named roles.Silent = refl

      by_name : (o : Option (List ℕ)) → parts_flag (Some (OfRole (role_content role) part.0)) ≡ o
          → ((name : List ℕ) → o ≡ Some name → is_read keys own ≡ true)
          → (if is_read keys own then parts_flag (Some (OfRole (role_content role) part.0))
          else None) ≡ o
      by_name None e read =
          ap (λ (p : Option (List ℕ)). if is_read keys own then p else None) e
          ∙ same (is_read keys own)
        where
          same : (b : Bool) → ◌≡◌ {A = Option (List ℕ)} (if b then None else None) None
          same true = refl
          same false = refl
      by_name (Some name) e read = rw (read name refl) e

  -- parts among inputs are no checks
  flags_past : (all : List Key) (ks ls : List Key) → outputs_of ks ≡ []
      → flags_read s all (ks ++ ls) ≡ flags_read s all ls
  flags_past all [] ls none = refl
  flags_past all (Part part of ∷ ks) ls none = flags_past all ks ls none
  flags_past all (Output n x ∷ ks) ls none =
      absurd (let e : ◌≡◌ {A = List Key} (Output n x ∷ outputs_of ks) [] = none in cc)

  module _ (models : List ModelReading) (kept : IsKeptState s models) (index : ℕ) (row : TestRow)
      (test : Test) (at : IsTestAt s index row test) where
    abbrev ss : List Slot
    ss = s.parts.table.slots.items

    abbrev id : ℕ
    id = row.id

    found : IsFound s.parts.last s.parts.table.tests.items s.tests s.parts.locations.items row test
    found =
        find_test s.parts.last s.parts.table.tests.items s.tests s.parts.locations.items index row
        test kept.built.tests kept.tests_apart kept.locations at.row_is at.test_is

    abbrev view : FoundTest
    view = record { row = row; test = test; locations = found.locations }

    condition_is : content s 2 id
        ≡ Some (OfCondition test.condition.quantifier (formula_of test.condition.proposition))
    condition_is = part_is s id view found.found 2 (omega arith)

    observed_is : content s 3 id ≡ Some (OfObserved test.observed.items)
    observed_is = part_is s id view found.found 3 (omega arith)

    pub verdict_used : (m : ModelReading) → Has models m
        → Has (used s.parts.table) (verdict_node id (id_in m))
    verdict_used m there =
        used_by s.parts.table (verdict_node id (id_in m)) found.there (verdict_there models
        kept.models_apart kept.read (histories s) ss kept.built.slots m there)

    -- ---- the space

    space_given_is : given_to_node s (space_node id)
        ≡ Some (ForSpace (parts_of test.init.items test.threads.items found.locations))
    space_given_is =
        let many = found.row_is.each_thread in
        space_is s id view found.found (omega (arith, many))
        ∙ ap
        (λ (n : ℕ). Some (ForSpace (parts_of test.init.items (take n test.threads.items)
        found.locations))) many
        ∙ ap (λ (ts : List Thread). Some (ForSpace (parts_of test.init.items ts found.locations)))
        (take-length test.threads.items)

    space_is_node : IsNode (net_in s) (space_node id)
        (ForSpace (parts_of test.init.items test.threads.items found.locations)) []
    space_is_node =
        record {
          given_is = gives_this (space_node id) _ space_given_is;
          uses_are = row_outputs (row_of s.parts.table.tests.items id);
        }

    -- ---- the verdict of a fault

    model_in : (m : ModelReading) → Has models m → IsModelIn s m
    model_in m there = each_has (IsModelIn s) models kept.built.models_in m there

    pub fault_is_node : (number : ℕ) (fault : ModelFault) → Has models (Faulty number fault)
        → IsNode (net_in s) (verdict_node id number) (ForFault (faulted test.condition fault)) []
    fault_is_node number fault there =
        let keys = verdict_keys_are models kept.models_apart kept.read (histories s) ss kept.built.slots (Faulty number fault) there in
        let known : given_to_node s (verdict_node id number) ≡ Some (ForFault (faulted test.condition fault)) =
        ap (given_by s kinds.Verdict) (ap (keys_at id) keys)
        ∙ ap (λ (c : Option PartContent). given_verdict (c ∷ content s 1 number ∷ []) [])
        condition_is
        ∙ ap
        (λ (c : Option PartContent). given_verdict
        (Some (OfCondition test.condition.quantifier
        (formula_of test.condition.proposition)) ∷ c ∷ []) [])
        (model_in (Faulty number fault) there) in
        record { given_is = gives_this (verdict_node id number) _ known; uses_are = ap (outputs_at id) keys }

    module _ (model : ℕ) (numbers : List ℕ) (items : List ResolvedItem) (us : List ℕ)
        (there : Has models (Sound model numbers items us)) where
      held : AreRolesKnown s numbers items
      held = (model_in (Sound model numbers items us) there).1

      -- ---- which items are used

      check_used : (k : ℕ) → IsCheckAt items k → among us k ≡ true
      check_used k c =
          let r = reach s models kept model numbers items us there in
          among_yes us k (contains_has us k ((r.exact k).1 (
            slice_get_within items k c.0 c.1,
            record { from = k; is_check = c; through = []; leads = refl },
          )))

      names_used : (k : ℕ) (r : ResolvedItem) → among us k ≡ true → slice_get items k ≡ Some r
          → is_node r.role ≡ true → Each (λ name. among us name.item ≡ true) r.inputs.items
      names_used k r inside at_k node =
          each_from_has (λ (name : Input). among us name.item ≡ true) r.inputs.items
          (λ name h. among_yes us name.item (name_reached items us
          (closed s models kept model numbers items us there)
          (reach s models kept model numbers items us there) k r name (among_has us k inside)
          at_k
          (has_map (λ (n : Input). n.item) r.inputs.items name h)
          (each_has (λ (n : Input). (n.item < k) × IsNameOf items n) r.inputs.items
          (closed s models kept model numbers items us there k r at_k).names name h).1))

      abbrev nodes : CellNodes
      nodes = nodes_of (histories s) id model numbers items

      -- ---- names

      named : (k : ℕ) (r : ResolvedItem) → slice_get items k ≡ Some r → (name : Input)
          → Has r.inputs.items name → IsNameOf items name
      named k r at_k name h =
          (each_has (λ (n : Input). (n.item < k) × IsNameOf items n) r.inputs.items
          (closed s models kept model numbers items us there k r at_k).names name h).1

      -- the history of an item holds its names
      history_is : (k : ℕ) (r : ResolvedItem) (at_k : slice_get items k ≡ Some r)
          → histories s (number_at numbers k) ≡ (held k r at_k).0
      history_is k r at_k =
          held_history_is s (number_at numbers k) (role_content r.role) (held k r at_k).0
          (held k r at_k).1

      history_holds : (k : ℕ) (r : ResolvedItem) → slice_get items k ≡ Some r
          → AreInHistory (histories s (number_at numbers k)) (role_content r.role)
      history_holds k r at_k =
          subst (λ (h : List SeenName). AreInHistory h (role_content r.role))
          (sym (history_is k r at_k))
          (content_named s.parts.table.items.items s.parts.roles.items (number_at numbers k)
          (role_content r.role) (held k r at_k).0 (held k r at_k).1)

      number_is : (name : Input) → IsNameOf items name → IsNumberOf items nodes name
      number_is name is = (
        is.0,
        is.1,
        outputs_numbered (histories s (number_at numbers name.item)) is.0.role name.position is.2
            ∙ ap
            (λ (o : Option ResolvedItem). Some (number_in_history
            (histories s (number_at numbers name.item)) (bound_name o name.position)))
            (sym is.1),
      )

      numbers_are : (k : ℕ) (r : ResolvedItem) → among us k ≡ true → slice_get items k ≡ Some r
          → is_node r.role ≡ true → Each (IsNumberOf items nodes) r.inputs.items
      numbers_are k r inside at_k node =
          each_from_has (IsNumberOf items nodes) r.inputs.items
          (λ name h. number_is name (named k r at_k name h))

      numbers_once : (k : ℕ) (r : ResolvedItem) → among us k ≡ true → slice_get items k ≡ Some r
          → is_node r.role ≡ true → StandsOnce (output_names (item_given nodes k r))
      numbers_once k r inside at_k node =
          let read = each_has IsReadingOfText models kept.read (Sound model numbers items us) there in
          outputs_once (histories s (number_at numbers k)) r.role (history_holds k r at_k)
          (names_once [] [] outermost_names 0 read.0 items read.1.no_fault read.1.resolved k r
          at_k)

      name_outputs : (names : List Input) → ((name : Input) → Has names name → IsNameOf items name)
          → outputs_at id (map (name_key (histories s) numbers items) names)
          ≡ map (name_output nodes) names
      name_outputs [] h = refl
      name_outputs (n ∷ ns) h =
          let is = h n (inl refl) in
          let node = node_is s models kept model numbers items us there id n.item is.0 kinds.Group is.1 (named_kind is.0.role n.position is.2) in
          ap
          (λ (m : Node). Output m (nodes.name n)
          ∷ outputs_at id (map (name_key (histories s) numbers items) ns))
          (sym node)
          ∙ ap (λ (l : List Key). name_output nodes n ∷ l)
          (name_outputs ns (λ name g. h name (inr g)))

      item_outputs : (k own : ℕ) (r : ResolvedItem) → slice_get items k ≡ Some r
          → outputs_at id (item_keys (histories s) numbers items own r)
          ≡ Output (space_node id) 0 ∷ map (name_output nodes) r.inputs.items
      item_outputs k own r at_k =
          at_append id (slots.Item own ∷ map (function_key numbers) r.functions.items)
          (space_key ∷ map (name_key (histories s) numbers items) r.inputs.items)
          ∙ ap
          (λ (l : List Key). l
          ++ outputs_at id (space_key
          ∷ map (name_key (histories s) numbers items) r.inputs.items))
          (function_outputs id numbers r.functions.items)
          ∙ ap (λ (l : List Key). Output (space_node id) 0 ∷ l)
          (name_outputs r.inputs.items (named k r at_k))

      -- ---- items

      item_given_is : (k : ℕ) (r : ResolvedItem) (ks : List SlotKey)
          (at_k : slice_get items k ≡ Some r)
          → ks ≡ item_keys (histories s) numbers items (number_at numbers k) r
          → given_item (contents s (keys_at id ks)) ≡ Some (item_given nodes k r)
      item_given_is k r ks at_k e =
          ap (λ (l : List SlotKey). given_item (contents s (keys_at id l))) e
          ∙ ap
          (λ (o : Option PartContent). given_item (o
          ∷ contents s (keys_at id (map (function_key numbers) r.functions.items
          ++ space_key
          ∷ map (name_key (histories s) numbers items)
          r.inputs.items))))
          (held k r at_k).1
          ∙ ap
          (λ (h : List SeenName).
          Some (ForItem (role_shape (role_content r.role)) (numbers_in (role_content r.role) h)))
          (sym (history_is k r at_k))

      abbrev ItemIs : ℕ → ResolvedItem → Node → Type 0
      ItemIs k r n =
          IsNode (net_in s) n (item_given nodes k r) (Output (space_node id) 0
          ∷ map (name_output nodes) r.inputs.items)

      item_is_node : (k : ℕ) (r : ResolvedItem) → among us k ≡ true → slice_get items k ≡ Some r
          → is_node r.role ≡ true → ItemIs k r (item_node id numbers items k)
      item_is_node k r inside at_k node =
          by_role r.role node (λ kind has. subst (ItemIs k r) (sym (node_is s models kept model
          numbers items us there id k r kind at_k has)))
          (λ kind has. item_keys_are models kept.models_apart kept.read (histories s) ss
          kept.built.slots model numbers items us there k r kind (among_has us k inside)
          at_k has)
        where
          by_role : (role : Role) → is_node role ≡ true
              → ((kind : Kind) → HasKind role kind
              → ItemIs k r (record { kind = kind; test = id; of = number_at numbers k })
              → ItemIs k r (item_node id numbers items k))
              → ((kind : Kind) → HasKind role kind
              → slot_keys ss kind (number_at numbers k)
              ≡ item_keys (histories s) numbers items (number_at numbers k) r)
              → ItemIs k r (item_node id numbers items k)
          by_role (roles.Group recursive bodies) t there keys = there kinds.Group refl (record {
            given_is =
                gives_this (record { kind = kinds.Group; test = id; of = number_at numbers k }) _
                (item_given_is k r (slot_keys ss kinds.Group (number_at numbers k)) at_k
                (keys kinds.Group refl));
            uses_are =
                ap (outputs_at id) (keys kinds.Group refl)
                ∙ item_outputs k (number_at numbers k) r at_k;
          })
          by_role (roles.Check check) t there keys = there kinds.Check refl (record {
            given_is =
                gives_this (record { kind = kinds.Check; test = id; of = number_at numbers k }) _
                (item_given_is k r (slot_keys ss kinds.Check (number_at numbers k)) at_k
                (keys kinds.Check refl));
            uses_are =
                ap (outputs_at id) (keys kinds.Check refl)
                ∙ item_outputs k (number_at numbers k) r at_k;
          })
          by_role roles.Silent t there keys = absurd (let e : false ≡ true = t in cc)

      -- ---- the verdict

      abbrev Later : ℕ → List ResolvedItem → Type 0
      Later k rs =
          (j : ℕ) (r : ResolvedItem) → slice_get rs j ≡ Some r → slice_get items (k + j) ≡ Some r

      here_later : (k : ℕ) (r : ResolvedItem) (rs : List ResolvedItem) → Later k (r ∷ rs)
          → slice_get items k ≡ Some r
      here_later k r rs h =
          let start : k + 0 ≡ k = omega arith in
          subst (λ (n : ℕ). slice_get items n ≡ Some r) start (h 0 r refl)

      rest_later : (k : ℕ) (r : ResolvedItem) (rs : List ResolvedItem) → Later k (r ∷ rs)
          → Later (suc k) rs
      rest_later k r rs h j q e =
          let moved : k + suc j ≡ suc k + j = omega arith in
          subst (λ (n : ℕ). slice_get items n ≡ Some q) moved (h (suc j) q e)

      from_first : Later 0 items
      from_first j r e =
          let start : j ≡ 0 + j = omega arith in
          subst (λ (n : ℕ). slice_get items n ≡ Some r) start e

      answer_outputs : (rs : List ResolvedItem) (k : ℕ) → Later k rs
          → outputs_at id (all_keys answer_key numbers k rs) ≡ check_keys nodes k rs
      answer_outputs [] k later = refl
      answer_outputs (r ∷ rs) k later =
          at_append id (answer_key r.role (number_at numbers k))
          (all_keys answer_key numbers (suc k) rs)
          ∙ ap (λ (l : List Key). l ++ outputs_at id (all_keys answer_key numbers (suc k) rs))
          (one r.role (λ kind has. node_is s models kept model numbers items us there id k r
          kind (here_later k r rs later) has))
          ∙ ap
          (λ (l : List Key). (if is_check r.role then Output (item_node id numbers items k) 0
          ∷ []
          else []) ++ l)
          (answer_outputs rs (suc k) (rest_later k r rs later))
        where
          one : (role : Role)
              → ((kind : Kind) → HasKind role kind
              → item_node id numbers items k
              ≡ record { kind = kind; test = id; of = number_at numbers k })
              → outputs_at id (answer_key role (number_at numbers k))
              ≡ (if is_check role then Output (item_node id numbers items k) 0 ∷ [] else [])
          one (roles.Group recursive bodies) node = refl
          one (roles.Check check) node =
              ap (λ (n : Node). Output n 0 ∷ []) (sym (node kinds.Check refl))
          one roles.Silent node = refl

      abbrev answers : List SlotKey
      answers = space_key ∷ keys_by answer_key numbers items us

      answers_are : keys_by answer_key numbers items us ≡ all_keys answer_key numbers 0 items
      answers_are = all_answers numbers items us (reach s models kept model numbers items us there)

      flags_are : keys_by flag_key numbers items us ≡ all_keys flag_key numbers 0 items
      flags_are = all_flags numbers items us (reach s models kept model numbers items us there)

      abbrev all : List Key
      all = keys_at id (verdict_keys numbers items us)

      flag_text : (k : ℕ) (r : ResolvedItem) → slice_get items k ≡ Some r → (name : List ℕ)
          → flag_name r.role ≡ Some name → is_read all (number_at numbers k) ≡ true
      flag_text k r at_k name is =
          let start : 0 + k ≡ k = omega arith in
          read_in id (keys_by flag_key numbers items us) answers (number_at numbers k)
          (ap (λ (l : List SlotKey). is_read (keys_at id l) (number_at numbers k)) flags_are
          ∙ subst
          (λ (n : ℕ). is_read (keys_at id (all_keys flag_key numbers 0 items))
          (number_at numbers n) ≡ true) start
          (flag_among id numbers 0 k items r name at_k is))

      -- the names of the flags are those that their parts hold
      flags_named : (rs : List ResolvedItem) (k : ℕ) → Later k rs
          → flags_read s all (keys_at id (all_keys answer_key numbers k rs)) ≡ flag_names rs
      flags_named [] k later = refl
      flags_named (r ∷ rs) k later =
          one r.role
          (flag_is all (number_at numbers k) r.role (held k r (here_later k r rs later))
          (flag_text k r (here_later k r rs later)))
          (flags_named rs (suc k) (rest_later k r rs later))
        where
          one : (role : Role) → flag_read s all (number_at numbers k) ≡ flag_name role
              → flags_read s all (keys_at id (all_keys answer_key numbers (suc k) rs))
              ≡ flag_names rs
              → flags_read s all (keys_at id (answer_key role (number_at numbers k)
              ++ all_keys answer_key numbers (suc k) rs))
              ≡ (if is_check role then flag_name role ∷ [] else []) ++ flag_names rs
          one (roles.Group recursive bodies) named more = more
          one (roles.Check check) named more =
              ap
              (λ (o : Option (List ℕ)). o
              ∷ flags_read s all (keys_at id (all_keys answer_key numbers (suc k) rs)))
              named ∙ ap (λ (l : List (Option (List ℕ))). check.flag ∷ l) more
          one roles.Silent named more = more

      verdict_flags : flags_read s all all ≡ flag_names items
      verdict_flags =
          ap (flags_read s all) (keys_append id (keys_by flag_key numbers items us) answers)
          ∙ flags_past all (keys_at id (keys_by flag_key numbers items us)) (keys_at id answers)
          (ap (outputs_at id) flags_are ∙ flags_outputs id numbers 0 items)
          ∙ ap (λ (l : List SlotKey). flags_read s all (keys_at id l)) answers_are
          ∙ flags_named items 0 from_first

      verdict_given_is : given_to_node s (verdict_node id model)
          ≡ Some (ForVerdict (asked test.condition test.observed.items (flag_names items)))
      verdict_given_is =
          ap (given_by s kinds.Verdict) (ap (keys_at id) (verdict_keys_are models kept.models_apart
          kept.read (histories s) ss kept.built.slots (Sound model numbers items us)
          there))
          ∙ ap
          (λ (c : Option PartContent). given_verdict
          (c ∷ content s 3 id
          ∷ contents s (keys_at id (keys_by flag_key numbers items us ++ answers)))
          (flags_read s all all)) condition_is
          ∙ ap
          (λ (c : Option PartContent). given_verdict
          (Some (OfCondition test.condition.quantifier
          (formula_of test.condition.proposition)) ∷ c
          ∷ contents s (keys_at id (keys_by flag_key numbers items us ++ answers)))
          (flags_read s all all)) observed_is
          ∙ ap
          (λ (l : List (Option (List ℕ))).
          Some (ForVerdict (asked test.condition test.observed.items l))) verdict_flags

      verdict_outputs : outputs_at id (verdict_keys numbers items us)
          ≡ Output (space_node id) 0 ∷ check_keys nodes 0 items
      verdict_outputs =
          at_append id (slots.Test 2 ∷ slots.Test 3 ∷ keys_by flag_key numbers items us) answers
          ∙ ap (λ (l : List Key). l ++ outputs_at id answers) (ap (outputs_at id) flags_are
          ∙ flags_outputs id numbers 0 items)
          ∙ ap (λ (l : List SlotKey). Output (space_node id) 0 ∷ outputs_at id l) answers_are
          ∙ ap (λ (l : List Key). Output (space_node id) 0 ∷ l) (answer_outputs items 0 from_first)

      verdict_is_node : IsNode (net_in s) (verdict_node id model)
          (ForVerdict (asked test.condition test.observed.items (flag_names items)))
          (Output (space_node id) 0 ∷ check_keys nodes 0 items)
      verdict_is_node = record {
        given_is = gives_this (verdict_node id model) _ verdict_given_is;
        uses_are =
            ap (outputs_at id) (verdict_keys_are models kept.models_apart kept.read (histories s) ss
            kept.built.slots (Sound model numbers items us) there) ∙ verdict_outputs;
      }

      pub are_nodes : AreNodesOf (net_in s) test items nodes
      are_nodes = record {
        parts = parts_of test.init.items test.threads.items found.locations;
        of_test = parts_had test found.locations found.names;
        space = space_is_node;
        is_used = among us;
        checks = check_used;
        names = names_used;
        numbers = numbers_are;
        once = numbers_once;
        item = item_is_node;
        verdict = verdict_is_node;
      }
