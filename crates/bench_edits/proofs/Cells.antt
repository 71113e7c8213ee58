-- The outcome of a settled cell is that of evaluating from nothing.
use Rattle.std.proofs.Common.{ℕ, ◌≡◌, zero, suc, List, [], ◌∷◌, ◌++◌, map, Bool, true, false, ◌&&◌, if◌then◌else◌, Some, slice_get, refl, sym, ap, ◌∙◌, subst, arith, ◌+◌}
use Rattle.std.specs.List.{AllZip, AllByRecursion as Each}
use Rattle.std.proofs.lemmas.Option.{none-some}
use Rattle.std.proofs.lemmas.Bool.{and_from}
use Rattle.text_values.specs.declared.test.Test.{Test}
use Rattle.text_values.specs.TestValue.{formula_of}
use Rattle.text_values.specs.declared.model.ModelText.{ModelText}
use Rattle.binding_kinds.specs.declared.scope.Input.{Input}
use Rattle.binding_graph.specs.declared.resolved.ResolvedItem.{ResolvedItem}
use Rattle.binding_graph.specs.declared.resolved.Role.{Role}
use Rattle.binding_graph.specs.declared.resolved.Role.TheVariants as roles
use Rattle.binding_graph.specs.Reach.{is_check, IsCheckAt}
use Rattle.outcome_states.specs.declared.answer.Outcome.{Outcome}
use Rattle.outcome_states.specs.declared.answer.Refusal.TheVariants as refusals
use Rattle.memo_core.specs.declared.keys.Node.{Node}
use Rattle.memo_core.specs.declared.keys.Key.{Key}
use Rattle.memo_core.specs.declared.keys.Key.TheVariants.{Output}
use Rattle.memo_core.specs.Graph.{Memo, Net, at, input_nodes}
use Rattle.memo_core.specs.Right as core
use Rattle.from_scratch.specs.FromScratch.{IsFaultless, AreItemsOf, IsFromScratch}
use Rattle.binding_shapes.specs.Shapes.{role_shape}
use Rattle.bench_items.specs.Naming.{SeenName, item_outputs}
use Rattle.bench_values.specs.Givens.{GivenContent, asked, ForSpace, ForItem, ForVerdict}
use Rattle.bench_items.specs.Items.{role_content}
use Rattle.bench_values.specs.Makes.{Makes, output_names, refused}
use Rattle.bench_values.specs.Values.{NodeContent, OfOutcome}
use Rattle.bench_edits.specs.Solved.{Table, IsValueOf, IsSolvedItem, SolvedCell, IsCellSolved, is_node, flag_names, answers_in}
use Rattle.bench_edits.proofs.FromScratch.{solved_scratch, fault_scratch}
use Rattle.bench_edits.specs.Settled.{CellNodes, check_keys, item_given, name_output, IsNumberOf, AreNodesOf, AreNodesSolved, IsSettledVerdict, IsSettledFault}
use Rattle.bench_edits.proofs.Held.{values_in, AreHeld, held_under, Holds, holds, used_held, output_there, one_once}
use Rattle.bench_edits.proofs.Reached.{reached, itself}

-- ---- lists

first_of : (a b : Bool) → (a && b) ≡ true → a ≡ true
first_of true b h = refl
first_of false b h = h

second_of : (a b : Bool) → (a && b) ≡ true → b ≡ true
second_of true b h = h
second_of false b h = cc

-- the first of one value
only_first : (vs : List NodeContent) (v w : NodeContent) → vs ≡ v ∷ [] → slice_get vs 0 ≡ Some w
    → w ≡ v
only_first vs v w e at = some_is (ap (λ (l : List NodeContent). slice_get l 0) (sym e) ∙ at)
  where
    some_is : Some v ≡ Some w → w ≡ v
    some_is e = cc

one_is : (v w : NodeContent) → ◌≡◌ {A = List NodeContent} (v ∷ []) (w ∷ []) → v ≡ w
one_is v w e = cc

-- a check gives one value
check_gives : (role : Role) (history : List SeenName) (values outputs : List NodeContent)
    → is_check role ≡ true
    → Makes (ForItem (role_shape (role_content role)) (item_outputs (role_content role) history)) values outputs
    → (v : NodeContent) × (outputs ≡ v ∷ [])
check_gives (roles.Group recursive bodies) history values outputs check made =
    absurd (let e : false ≡ true = check in cc)
check_gives (roles.Check c) history values outputs check made = (_, made.0.1)
check_gives roles.Silent history values outputs check made =
    absurd (let e : false ≡ true = check in cc)

-- its name is 0
check_name : (role : Role) (history : List SeenName) → is_check role ≡ true
    → slice_get
    (output_names (ForItem (role_shape (role_content role)) (item_outputs (role_content role) history)))
    0 ≡ Some 0
check_name (roles.Group recursive bodies) history check =
    absurd (let e : false ≡ true = check in cc)
check_name (roles.Check c) history check = refl
check_name roles.Silent history check = absurd (let e : false ≡ true = check in cc)

check_is_node : (role : Role) → is_check role ≡ true → is_node role ≡ true
check_is_node (roles.Group recursive bodies) h = refl
check_is_node (roles.Check c) h = refl
check_is_node roles.Silent h = h

-- what has a named output is a node
named_is_node : (role : Role) (history : List SeenName) (place x : ℕ)
    → slice_get
    (output_names (ForItem (role_shape (role_content role)) (item_outputs (role_content role) history)))
    place ≡ Some x → is_node role ≡ true
named_is_node (roles.Group recursive bodies) history place x h = refl
named_is_node (roles.Check c) history place x h = refl
named_is_node roles.Silent history place x h = absurd (none-some x h)

module _ (net : Net GivenContent) (memos : List (Memo NodeContent)) (held : Node → Bool)
    (all : AreHeld net memos held) (test : Test) (items : List ResolvedItem) (nodes : CellNodes)
    (are : AreNodesOf net test items nodes) (verdict_held : held nodes.verdict ≡ true) where
  abbrev needed : ℕ → Bool
  needed k = are.is_used k && held (nodes.item k)

  abbrev table_over : NodeContent → Table
  table_over v = record { space = v; outputs = λ k. values_in memos (nodes.item k) }

  verdict_holds : Holds memos nodes.verdict
      (ForVerdict (asked test.condition test.observed.items (flag_names items)))
      (Output nodes.space 0 ∷ check_keys nodes 0 items)
  verdict_holds = holds net memos held all nodes.verdict _ _ verdict_held are.verdict one_once

  verdict_uses : Each (λ m. held m ≡ true) (input_nodes
      (Output nodes.space 0 ∷ check_keys nodes 0 items))
  verdict_uses = used_held net memos held all nodes.verdict _ _ verdict_held are.verdict

  space_holds : Holds memos nodes.space (ForSpace are.parts) []
  space_holds = holds net memos held all nodes.space _ _ verdict_uses.0 are.space one_once

  -- no value is used by the space
  no_values : (vs : List NodeContent) → core.ArePresent (at memos) [] vs → vs ≡ []
  no_values [] h = refl
  no_values (v ∷ vs) h = absurd h

  space_made : Makes (ForSpace are.parts) [] (values_in memos nodes.space)
  space_made =
      subst (λ (vs : List NodeContent). Makes (ForSpace are.parts) vs (values_in memos nodes.space))
      (no_values space_holds.values space_holds.present) space_holds.made

  abbrev table : Table
  table = table_over space_made.0

  -- a value of the space is that value
  space_is : (v : NodeContent) → ((s : ℕ) × (at memos (Output nodes.space 0) ≡ Some (s, v)))
      → v ≡ table.space
  space_is v h =
      only_first (values_in memos nodes.space) space_made.0 v space_made.1 (output_there net memos
      held all nodes.space _ _ verdict_uses.0 are.space one_once 0 0 h.0 v refl h.1)

  -- ---- items

  -- the value of a name is that at its position among the outputs of its item
  name_valued : (name : Input) (v : NodeContent) → are.is_used name.item ≡ true
      → IsNumberOf items nodes name → held (nodes.item name.item) ≡ true
      → ((s : ℕ) × (at memos (name_output nodes name) ≡ Some (s, v))) → IsValueOf table name v
  name_valued name v used number is_held now =
      let node = named_is_node number.0.role (nodes.history name.item) name.position (nodes.name name) number.2 in
      output_there net memos held all (nodes.item name.item) _ _ is_held
      (are.item name.item number.0 used number.1 node)
      (are.once name.item number.0 used number.1 node) name.position (nodes.name name) now.0 v
      number.2 now.1

  names_valued : (names : List Input) (values : List NodeContent)
      → Each (λ name. are.is_used name.item ≡ true) names → Each (IsNumberOf items nodes) names
      → Each (λ m. held m ≡ true) (input_nodes (map (name_output nodes) names))
      → core.ArePresent (at memos) (map (name_output nodes) names) values
      → AllZip (IsValueOf table) names values
  names_valued [] [] us ns hs h = tt
  names_valued [] (v ∷ vs) us ns hs h = absurd h
  names_valued (n ∷ names) [] us ns hs h = absurd h
  names_valued (n ∷ names) (v ∷ vs) us ns hs h =
      (name_valued n v us.0 ns.0 hs.0 h.0, names_valued names vs us.1 ns.1 hs.1 h.1)

  abbrev uses : ResolvedItem → List Key
  uses r = Output nodes.space 0 ∷ map (name_output nodes) r.inputs.items

  item_from : (index : ℕ) (r : ResolvedItem) (values : List NodeContent)
      → Each (λ name. are.is_used name.item ≡ true) r.inputs.items
      → Each (IsNumberOf items nodes) r.inputs.items
      → Each (λ m. held m ≡ true) (input_nodes (map (name_output nodes) r.inputs.items))
      → core.ArePresent (at memos) (uses r) values
      → Makes (item_given nodes index r) values (values_in memos (nodes.item index))
      → IsSolvedItem table index r
  item_from index r [] us ns hs present made = absurd present
  item_from index r (v ∷ vs) us ns hs present made =
      let over = subst (λ (w : NodeContent). Makes (item_given nodes index r) (w ∷ vs) (values_in memos (nodes.item index))) (space_is v present.0) made in
      (vs, names_valued r.inputs.items vs us ns hs present.1, over.0)

  item_solved : (index : ℕ) (r : ResolvedItem) → needed index ≡ true
      → slice_get items index ≡ Some r → is_node r.role ≡ true → IsSolvedItem table index r
  item_solved index r needs found node =
      let used = first_of (are.is_used index) (held (nodes.item index)) needs in
      let is_held = second_of (are.is_used index) (held (nodes.item index)) needs in
      let is = are.item index r used found node in
      let h = holds net memos held all (nodes.item index) _ _ is_held is (are.once index r used found node) in
      item_from index r h.values (are.names index r used found node)
      (are.numbers index r used found node)
      (used_held net memos held all (nodes.item index) _ _ is_held is).1 h.present h.made

  names_needed : (names : List Input) → Each (λ name. are.is_used name.item ≡ true) names
      → Each (λ m. held m ≡ true) (input_nodes (map (name_output nodes) names))
      → Each (λ name. needed name.item ≡ true) names
  names_needed [] us hs = tt
  names_needed (n ∷ ns) us hs = (
    and_from (are.is_used n.item) (held (nodes.item n.item)) us.0 hs.0,
    names_needed ns us.1 hs.1,
  )

  item_closed : (index : ℕ) (r : ResolvedItem) → needed index ≡ true
      → slice_get items index ≡ Some r → is_node r.role ≡ true
      → Each (λ name. needed name.item ≡ true) r.inputs.items
  item_closed index r needs found node =
      let used = first_of (are.is_used index) (held (nodes.item index)) needs in
      let is_held = second_of (are.is_used index) (held (nodes.item index)) needs in
      names_needed r.inputs.items (are.names index r used found node) (used_held net memos held all
      (nodes.item index) _ _ is_held (are.item index r used found node)).1

  -- ---- checks and flags

  abbrev Later : ℕ → List ResolvedItem → Type 0
  Later index rs =
      (k : ℕ) (r : ResolvedItem) → slice_get rs k ≡ Some r → slice_get items (index + k) ≡ Some r

  rest_later : (index : ℕ) (r : ResolvedItem) (rs : List ResolvedItem) → Later index (r ∷ rs)
      → Later (suc index) rs
  rest_later index r rs h k s e =
      let moved : index + suc k ≡ suc index + k = omega arith in
      subst (λ (n : ℕ). slice_get items n ≡ Some s) moved (h (suc k) s e)

  here_later : (index : ℕ) (r : ResolvedItem) (rs : List ResolvedItem) → Later index (r ∷ rs)
      → slice_get items index ≡ Some r
  here_later index r rs h =
      let at_start : index + 0 ≡ index = omega arith in
      subst (λ (n : ℕ). slice_get items n ≡ Some r) at_start (h 0 r refl)

  -- the output of a check or flag is the one value that is used of it
  check_value : (index : ℕ) (r : ResolvedItem) (v : NodeContent) → slice_get items index ≡ Some r
      → is_check r.role ≡ true → held (nodes.item index) ≡ true
      → ((s : ℕ) × (at memos (Output (nodes.item index) 0) ≡ Some (s, v)))
      → values_in memos (nodes.item index) ≡ v ∷ []
  check_value index r v found check is_held now =
      let used = are.checks index (r, found, check) in
      let node = check_is_node r.role check in
      let is = are.item index r used found node in
      let once = are.once index r used found node in
      let h = holds net memos held all (nodes.item index) _ _ is_held is once in
      let gives = check_gives r.role (nodes.history index) h.values (values_in memos (nodes.item index)) check h.made in
      let there = output_there net memos held all (nodes.item index) _ _ is_held is once 0 0 now.0 v (check_name r.role (nodes.history index) check) now.1 in
      let same = only_first (values_in memos (nodes.item index)) gives.0 v gives.1 there in
      gives.1 ∙ ap (λ (w : NodeContent). w ∷ []) (sym same)

  -- the values of checks and flags that the verdict uses are their answers
  answers_are : (index : ℕ) (rs : List ResolvedItem) (values : List NodeContent) → Later index rs
      → Each (λ m. held m ≡ true) (input_nodes (check_keys nodes index rs))
      → core.ArePresent (at memos) (check_keys nodes index rs) values
      → values ≡ answers_in table index rs
  answers_are index [] values later hs present = no_values values present
  answers_are index (r ∷ rs) values later hs present =
      by_test (is_check r.role) refl values
      (λ vs hs present. answers_are (suc index) rs vs (rest_later index r rs later) hs present) hs
      present
    where
      keys : Bool → List Key
      keys b =
          (if b then Output (nodes.item index) 0 ∷ [] else []) ++ check_keys nodes (suc index) rs

      answers : Bool → List NodeContent
      answers b = (if b then table.outputs index else []) ++ answers_in table (suc index) rs

      by_test : (b : Bool) → is_check r.role ≡ b → (values : List NodeContent)
          → ((vs : List NodeContent)
          → Each (λ m. held m ≡ true) (input_nodes (check_keys nodes (suc index) rs))
          → core.ArePresent (at memos) (check_keys nodes (suc index) rs) vs
          → vs ≡ answers_in table (suc index) rs)
          → Each (λ m. held m ≡ true) (input_nodes (keys b))
          → core.ArePresent (at memos) (keys b) values → values ≡ answers b
      by_test false e values more hs present = more values hs present
      by_test true e [] more hs present = absurd present
      by_test true e (v ∷ vs) more hs present =
          let one = check_value index r v (here_later index r rs later) e hs.0 present.0 in
          ap (λ (l : List NodeContent). v ∷ l) (more vs hs.1 present.1)
          ∙ ap (λ (l : List NodeContent). l ++ answers_in table (suc index) rs) (sym one)

  -- a check or flag is held, as the verdict uses it
  check_held : (index k : ℕ) (rs : List ResolvedItem) (r : ResolvedItem)
      → Each (λ m. held m ≡ true) (input_nodes (check_keys nodes index rs))
      → slice_get rs k ≡ Some r → is_check r.role ≡ true → held (nodes.item (index + k)) ≡ true
  check_held index k [] r hs found check = absurd (none-some r found)
  check_held index k (q ∷ rs) r hs found check =
      by_test k (is_check q.role) refl hs found
      (λ j hs found. check_held (suc index) j rs r hs found check)
    where
      keys : Bool → List Key
      keys b =
          (if b then Output (nodes.item index) 0 ∷ [] else []) ++ check_keys nodes (suc index) rs

      some_item : Some q ≡ Some r → q ≡ r
      some_item e = cc

      rest : (b : Bool) → Each (λ m. held m ≡ true) (input_nodes (keys b))
          → Each (λ m. held m ≡ true) (input_nodes (check_keys nodes (suc index) rs))
      rest true hs = hs.1
      rest false hs = hs

      by_test : (k : ℕ) (b : Bool) → is_check q.role ≡ b
          → Each (λ m. held m ≡ true) (input_nodes (keys b)) → slice_get (q ∷ rs) k ≡ Some r
          → ((j : ℕ) → Each (λ m. held m ≡ true) (input_nodes (check_keys nodes (suc index) rs))
          → slice_get rs j ≡ Some r → held (nodes.item (suc index + j)) ≡ true)
          → held (nodes.item (index + k)) ≡ true
      by_test zero true e hs found more =
          let at_start : index ≡ index + 0 = omega arith in
          subst (λ (n : ℕ). held (nodes.item n) ≡ true) at_start hs.0
      by_test zero false e hs found more =
          absurd (let same : q ≡ r = some_item found in
          let no : false ≡ true =
          sym e ∙ ap (λ (x : ResolvedItem). is_check x.role) same ∙ check in
          cc)
      by_test (suc j) b e hs found more =
          let moved : suc index + j ≡ index + suc j = omega arith in
          subst (λ (n : ℕ). held (nodes.item n) ≡ true) moved (more j (rest b hs) found)

  check_needed : (index : ℕ) → IsCheckAt items index → needed index ≡ true
  check_needed index c =
      let at_start : 0 + index ≡ index = omega arith in
      and_from (are.is_used index) (held (nodes.item index)) (are.checks index c)
      (subst (λ (n : ℕ). held (nodes.item n) ≡ true) at_start
      (check_held 0 index items c.0 verdict_uses.1 c.1 c.2))

  -- ---- the verdict

  from_first : Later 0 items
  from_first k r e =
      let at_start : k ≡ 0 + k = omega arith in
      subst (λ (n : ℕ). slice_get items n ≡ Some r) at_start e

  verdict_from : (o : Outcome) (values : List NodeContent)
      → values_in memos nodes.verdict ≡ OfOutcome o ∷ []
      → core.ArePresent (at memos) (Output nodes.space 0 ∷ check_keys nodes 0 items) values
      → Makes (ForVerdict (asked test.condition test.observed.items (flag_names items))) values
      (values_in memos nodes.verdict)
      → Makes (ForVerdict (asked test.condition test.observed.items (flag_names items)))
      (table.space ∷ answers_in table 0 items) (OfOutcome o ∷ [])
  verdict_from o [] is present made = absurd present
  verdict_from o (v ∷ vs) is present made =
      let answers = answers_are 0 items vs from_first verdict_uses.1 present.1 in
      subst
      (λ (w : NodeContent). Makes
      (ForVerdict (asked test.condition test.observed.items (flag_names items)))
      (w ∷ answers_in table 0 items) (OfOutcome o ∷ []))
      (space_is v present.0)
      (subst
      (λ (l : List NodeContent). Makes
      (ForVerdict (asked test.condition test.observed.items (flag_names items))) (v ∷ l)
      (OfOutcome o ∷ [])) answers
      (subst
      (λ (l : List NodeContent). Makes
      (ForVerdict (asked test.condition test.observed.items (flag_names items)))
      (v ∷ vs) l) is made))

  -- what the verdict holds is the outcome that it carries
  outcome_held : (o : Outcome) (stamp : ℕ)
      → at memos (Output nodes.verdict 0) ≡ Some (stamp, OfOutcome o)
      → values_in memos nodes.verdict ≡ OfOutcome o ∷ []
  outcome_held o stamp first =
      let made = verdict_holds.made in
      let same = only_first (values_in memos nodes.verdict) (OfOutcome made.0) (OfOutcome o) made.1 (output_there net memos held all nodes.verdict _ _ verdict_held are.verdict one_once 0 0 stamp (OfOutcome o) refl first) in
      made.1 ∙ ap (λ (w : NodeContent). w ∷ []) (sym same)

  abbrev cell_with : Outcome → SolvedCell
  cell_with o = record { items = items; is_needed = needed; table = table; outcome = o }

  solved_cell : (model : ModelText) (o : Outcome) (stamp : ℕ) → IsFaultless model
      → AreItemsOf model items → at memos (Output nodes.verdict 0) ≡ Some (stamp, OfOutcome o)
      → IsCellSolved test model (cell_with o)
  solved_cell model o stamp none of_model first = record {
    no_fault = none;
    of_model = of_model;
    checks = check_needed;
    names = item_closed;
    parts = are.parts;
    of_test = are.of_test;
    space =
        subst (λ (l : List NodeContent). Makes (ForSpace are.parts) [] l) space_made.1 space_made;
    items = item_solved;
    verdict =
        verdict_from o verdict_holds.values (outcome_held o stamp first) verdict_holds.present
        verdict_holds.made;
  }

  pub held_scratch : (model : ModelText) (o : Outcome) (stamp : ℕ) → IsFaultless model
      → AreItemsOf model items → at memos (Output nodes.verdict 0) ≡ Some (stamp, OfOutcome o)
      → IsFromScratch test model o
  held_scratch model o stamp none of_model first =
      solved_scratch test model (cell_with o) (solved_cell model o stamp none of_model first)

pub cell_scratch : (net : Net GivenContent) (memos : List (Memo NodeContent)) → AreNodesSolved net memos
    → (test : Test) (model : ModelText) (o : Outcome) → IsSettledVerdict test model net memos o
    → IsFromScratch test model o
cell_scratch net memos all test model o cell =
    let c = cell.carries in
    let s = c.settled in
    let held = reached s.0 net cell.nodes.verdict in
    let are_held = held_under net memos all s.0 cell.nodes.verdict c.used s.1 in
    held_scratch net memos held are_held test cell.items cell.nodes cell.are_nodes
    (itself net memos s.0 cell.nodes.verdict s.1) model o c.stamp cell.no_fault cell.of_model
    c.first

pub settled_fault_scratch : (net : Net GivenContent) (memos : List (Memo NodeContent))
    → AreNodesSolved net memos → (test : Test) (model : ModelText) (o : Outcome)
    → IsSettledFault test model net memos o → IsFromScratch test model o
settled_fault_scratch net memos all test model o cell =
    let c = cell.carries in
    let s = c.settled in
    let held = reached s.0 net cell.verdict in
    let are_held = held_under net memos all s.0 cell.verdict c.used s.1 in
    let own = itself net memos s.0 cell.verdict s.1 in
    let h = holds net memos held are_held cell.verdict _ _ own cell.is_verdict one_once in
    let there = output_there net memos held are_held cell.verdict _ _ own cell.is_verdict one_once 0 0 c.stamp (OfOutcome o) refl c.first in
    let made : values_in memos cell.verdict ≡ OfOutcome (refused test.condition.quantifier (formula_of test.condition.proposition) (refusals.Model cell.fault)) ∷ [] = h.made in
    let same = only_first (values_in memos cell.verdict) (OfOutcome (refused test.condition.quantifier (formula_of test.condition.proposition) (refusals.Model cell.fault))) (OfOutcome o) made there in
    fault_scratch test model o (record {
      fault = cell.fault;
      of_model = cell.of_model;
      verdict = ap (λ (v : NodeContent). v ∷ []) same;
    })
