-- The outputs of the groups in a solved table are the values of their names.
use Rattle.std.proofs.Common.{ℕ, ◌≡◌, ◌<◌, inl, inr, zero, suc, List, [], ◌∷◌, length, map, Bool, true, Some, slice_get, refl, sym, ap, ◌∙◌, subst, arith}
use Rattle.std.specs.Prelude.{slice_index_or}
use Rattle.std.specs.List.{AllZip, AllByRecursion}
use Rattle.std.proofs.lemmas.List.{length-map}
use Rattle.std.proofs.lemmas.Option.{none-some, same_Some, get_or_from_slice_get}
use denote.Ref.{Bor}
use Rattle.binding_kinds.specs.declared.kinds.Kind.{Kind}
use Rattle.binding_kinds.specs.declared.kinds.Kind.TheVariants.{OfSet, OfRelation, OfAny}
use Rattle.binding_kinds.specs.declared.scope.Input.{Input}
use Rattle.binding_graph.specs.declared.resolved.Body.{Body}
use Rattle.binding_graph.specs.declared.resolved.ResolvedItem.{ResolvedItem}
use Rattle.binding_graph.specs.declared.resolved.Role.{Role}
use Rattle.binding_graph.specs.declared.resolved.Role.TheVariants as roles
use Rattle.binding_graph.specs.Lowering.{known}
use Rattle.binding_graph.specs.Reach.{is_check}
use Rattle.binding_laws.specs.Reread.{bodies_of}
use Rattle.binding_shapes.specs.Shapes.{role_shape}
use Rattle.binding_shapes.proofs.Shaped.{role_by_shape}
use Rattle.candidate_spaces.specs.declared.candidate.Space.{Space}
use Rattle.candidate_spaces.specs.Space.{candidates_in}
use Rattle.cat_machine.specs.declared.column.Column.{Column}
use Rattle.cat_machine.specs.declared.column.Column.TheVariants as columns
use Rattle.cat_eval.specs.Candidates.{name_count}
use Rattle.cat_machine.specs.Columns.{ColumnsOf}
use Rattle.cat_machine.specs.Values.{IsFor, column_len}
use Rattle.order_growth.proofs.Keeping.{columns_kept}
use Rattle.bench_items.specs.Items.{BodyContent, RoleContent, body_content, role_content}
use Rattle.bench_items.specs.Naming.{names_of_bodies, number_in_history}
use Rattle.bench_values.specs.Makes as nodes
use Rattle.bench_values.specs.Makes.{column_kind}
use Rattle.bench_values.specs.Spaces.{SpaceContent, space_content}
use Rattle.bench_values.specs.Values.{NodeContent, OfSpace, column_of, column_value, space_of, columns_of}
use Rattle.bench_values.proofs.Counting.{item_many}
use Rattle.from_scratch.specs.Answers.{AreNamed, AreItemColumns, IsBound, AreOrdered, IsRisingRole}
use Rattle.from_scratch.proofs.Knowing.{least_of}
use Rattle.shape_laws.specs.Laws.{HasKind, IsReadByKind}
use Rattle.bench_edits.specs.Solved.{Table, IsValueOf, IsSolvedItem, is_node}
use Rattle.bench_edits.proofs.Emptied.{AreEmpty, empty_values, empties, empties_long, are_empties, empty_columns}
use Rattle.bench_edits.proofs.KeptNodes.{IsOver, columns_over}
use Rattle.bench_edits.proofs.Latest.{Each}

-- what is known of the item at this index among these items
pub record Fits (items : List ResolvedItem) (table : Table) (needed : ℕ → Bool) (index : ℕ)
    (r : ResolvedItem) : Type 0 where
  pub rises : IsRisingRole r.role
  pub asked : is_check r.role ≡ true → needed index ≡ true
  pub closed : needed index ≡ true → is_node r.role ≡ true
      → AllByRecursion (λ name. needed name.item ≡ true) r.inputs.items
  pub solved : needed index ≡ true → is_node r.role ≡ true → IsSolvedItem table index r
  pub there : slice_get items index ≡ Some r
  pub read : IsReadByKind items r

-- ---- elements by their positions

below_some : {X : Type 0} (xs : List X) (i : ℕ) (x : X) → slice_get xs i ≡ Some x → i < length xs
below_some [] i x e = absurd (none-some x e)
below_some (y ∷ ys) zero x e = omega arith
below_some (y ∷ ys) (suc i) x e = let lt = below_some ys i x e in omega (arith, lt)

some_below : {X : Type 0} (xs : List X) (i : ℕ) → i < length xs
    → (x : X) × (slice_get xs i ≡ Some x)
some_below [] i lt = absurd (omega (arith, lt))
some_below (y ∷ ys) zero lt = (y, refl)
some_below (y ∷ ys) (suc i) lt = some_below ys i (omega (arith, lt))

column_there : (cs : List Column) (k : ℕ) (v : NodeContent)
    → slice_get (map column_value cs) k ≡ Some v
    → (c : Column) × (slice_get cs k ≡ Some c) × (v ≡ column_value c)
column_there [] k v e = absurd (none-some v e)
column_there (c ∷ cs) zero v e =
    (c, refl, let same : Some (column_value c) ≡ Some v = e in sym (same_Some _ _ same))
column_there (c ∷ cs) (suc k) v e = column_there cs k v e

-- ---- what items make

-- a group's outputs are columns
group_made : (role : Role) (space : SpaceContent) (columns : List Column)
    (outputs : List NodeContent) → 0 < name_count role
    → nodes.RoleMakes (role_shape (role_content role)) space columns outputs
    → (cs : List Column) × (outputs ≡ map column_value cs)
    × nodes.HasGroupColumns (role_shape (role_content role)) space columns cs
group_made (roles.Group recursive bodies) space columns outputs more h = h
group_made (roles.Check check) space columns outputs more h = absurd (omega (arith, more))
group_made roles.Silent space columns outputs more h = absurd (omega (arith, more))

group_is_node : (role : Role) → 0 < name_count role → is_node role ≡ true
group_is_node (roles.Group recursive bodies) more = refl
group_is_node (roles.Check check) more = refl
group_is_node roles.Silent more = absurd (omega (arith, more))

-- what an item is made over: the space, and the columns of its inputs
values_space : (first : NodeContent) (space : SpaceContent) (values : List NodeContent)
    → first ≡ OfSpace space → space_of (first ∷ values) ≡ space
values_space first space values e = ap (λ (v : NodeContent). space_of (v ∷ values)) e

values_columns : (first : NodeContent) (space : SpaceContent) (values : List NodeContent)
    (cs : List Column) → first ≡ OfSpace space → columns_of values ≡ cs
    → columns_of (first ∷ values) ≡ cs
values_columns first space values cs e are =
    ap (λ (v : NodeContent). columns_of (v ∷ values)) e ∙ are

-- the column as a node holds it, and of which kind its values are
abbrev pub held_column : Bor Column → Column
held_column b = column_of (column_len b.now) b.now

abbrev kind_at : Bor Column → Kind
kind_at b = column_kind b.now

pub made_over : (shape : RoleContent) (first : NodeContent) (space : SpaceContent)
    (values outputs : List NodeContent) (cs : List Column) → first ≡ OfSpace space
    → columns_of values ≡ cs → nodes.ItemMakes shape (first ∷ values) outputs
    → nodes.RoleMakes shape space cs outputs
made_over shape first space values outputs cs is are h =
    subst (λ (s : SpaceContent). nodes.RoleMakes shape s cs outputs)
    (values_space first space values is)
    (subst (λ (l : List Column). nodes.RoleMakes shape (space_of (first ∷ values)) l outputs)
    (values_columns first space values cs is are) h)

-- the values of the names that an item uses are columns of those names, of their kinds, each with a
-- value for each candidate
pub record AreColumnsOf (items : List ResolvedItem) (space : Space) (rs : List ResolvedItem)
    (names : List Input) (values : List NodeContent) : Type 0 where
  pub inputs : List (Bor Column)
  pub columns : columns_of values ≡ map held_column inputs
  pub named : AreNamed (λ j ds. AreItemColumns space rs j ds) names inputs
  pub kinds : AllZip (HasKind items) names (map kind_at inputs)
  pub long : AllByRecursion
      (λ b. column_len b.now ≡ length (candidates_in space.combinations.items)) inputs

-- ---- over some candidates nodes hold the columns as they are

pub held_are : (inputs : List (Bor Column)) (n : ℕ)
    → AllByRecursion (λ b. column_len b.now ≡ suc n) inputs
    → map held_column inputs ≡ map (λ b. b.now) inputs
held_are [] n h = refl
held_are (b ∷ bs) n h =
    let first : held_column b ≡ b.now = ap (λ (k : ℕ). column_of k b.now) h.0 in
    let rest = held_are bs n h.1 in λ i. first i ∷ rest i

pub counted_so : (inputs : List (Bor Column)) (m n : ℕ) → m ≡ n
    → AllByRecursion (λ b. column_len b.now ≡ m) inputs
    → AllByRecursion (λ b. column_len b.now ≡ n) inputs
counted_so inputs m n e h =
    subst (λ (k : ℕ). AllByRecursion (λ b. column_len b.now ≡ k) inputs) e h

kinds_are : (inputs : List (Bor Column))
    → map column_kind (map (λ b. b.now) inputs) ≡ map kind_at inputs
kinds_are [] = refl
kinds_are (b ∷ bs) = ap (λ (l : List Kind). kind_at b ∷ l) (kinds_are bs)

-- the item reads its inputs by the kinds of their columns
pub over_inputs : (items : List ResolvedItem) (r : ResolvedItem) (inputs : List (Bor Column))
    → IsReadByKind items r → AllZip (HasKind items) r.inputs.items (map kind_at inputs)
    → IsOver r.role (map (λ b. b.now) inputs)
over_inputs items r inputs read kinds =
    let given : AllZip (HasKind items) r.inputs.items (map column_kind (map (λ b. b.now) inputs)) = subst (AllZip (HasKind items) r.inputs.items) (sym (kinds_are inputs)) kinds in
    role_by_shape (map column_kind (map (λ b. b.now) inputs)) (role_content r.role)
    ∙ read (map column_kind (map (λ b. b.now) inputs)) given

-- ---- over no candidates all columns of as many names are one

module _ (space : Space) where
  abbrev pub count : ℕ
  count = length (candidates_in space.combinations.items)

  read_empty : (read : Role) (inputs : List (Bor Column)) (cs : List Column)
      → count ≡ 0 → ColumnsOf read inputs space cs → AreEmpty cs
  read_empty (roles.Group recursive bodies) inputs cs none h =
      λ j lt c. h.long j (let many = h.as_many in omega (arith, lt, many)) c ∙ none
  read_empty (roles.Check check) inputs cs none h =
      subst AreEmpty (sym h) (λ j lt c. absurd (omega (arith, lt)))
  read_empty roles.Silent inputs cs none h =
      subst AreEmpty (sym h) (λ j lt c. absurd (omega (arith, lt)))

  group_empty : (role : Role) (inputs : List (Bor Column)) (columns : List Column)
      (outputs : List NodeContent) → 0 < name_count role → count ≡ 0
      → nodes.RoleMakes (role_shape (role_content role)) (space_content space) columns outputs
      → (cs : List Column) × (outputs ≡ map column_value cs) × ColumnsOf role inputs space cs
  group_empty (roles.Group recursive bodies) inputs columns outputs more none h =
      let made = h.2 in
      let moved = columns_kept made.read made.read made.over space made.inputs made.inputs h.0 (record { roles = refl; candidates = ap (λ (s : SpaceContent). s.executions) made.shown; values = refl }) made.values in
      let names = names_of_bodies (map body_content bodies.items) in
      let numbers : length outputs ≡ length bodies.items = item_many (role_content (roles.Group recursive bodies)) [] (space_content space) columns outputs h
      ∙ (length-map names (number_in_history [])
      ∙ (length-map (map body_content bodies.items) (λ (b : BodyContent). b.name)
      ∙ length-map bodies.items body_content)) in
      let many : length h.0 ≡ length (empties bodies.items) = sym (length-map h.0 column_value)
      ∙ (sym (ap (λ (l : List NodeContent). length l) h.1)
      ∙ (numbers ∙ sym (empties_long bodies.items))) in (
        empties bodies.items,
        h.1 ∙ empty_values h.0 (empties bodies.items) many (read_empty made.read made.inputs h.0
            none moved) (are_empties bodies.items),
        empty_columns recursive bodies.items inputs (candidates_in space.combinations.items) none,
      )
  group_empty (roles.Check check) inputs columns outputs more none h = absurd (omega (arith, more))
  group_empty roles.Silent inputs columns outputs more none h = absurd (omega (arith, more))

module _ (items : List ResolvedItem) (space : Space) (table : Table) (needed : ℕ → Bool)
    (is_space : table.space ≡ OfSpace (space_content space)) where
  -- ---- columns of names

  suited_kind : (k : Kind) (c : Column) → IsFor k c → known k ≡ column_kind c
  suited_kind OfSet (columns.Sets vs) h = refl
  suited_kind OfSet (columns.Relations vs) h = absurd h
  suited_kind OfRelation (columns.Sets vs) h = absurd h
  suited_kind OfRelation (columns.Relations vs) h = refl
  suited_kind OfAny (columns.Sets vs) h = absurd h
  suited_kind OfAny (columns.Relations vs) h = refl

  -- a column of a name is of its kind, and has a value for each candidate
  abbrev IsColumnOf : Input → Column → Type 0
  IsColumnOf name c = HasKind items name (column_kind c) × (column_len c ≡ count space)

  column_of_name : (rs : List ResolvedItem) → Each (Fits items table needed) rs → (name : Input)
      (cs : List Column) (c : Column) → AreItemColumns space rs name.item cs
      → slice_get cs name.position ≡ Some c → IsColumnOf name c
  column_of_name [] fits name cs c h e = absurd h
  column_of_name (r ∷ rs) fits name cs c (inr h) e = column_of_name rs fits.1 name cs c h e
  column_of_name (r ∷ rs) fits name cs c (inl h) e = by_role r.role refl h.1.2
    where
      item_is : slice_get items name.item ≡ Some r
      item_is = ap (slice_get items) h.0 ∙ fits.0.there

      by_role : (role : Role) → r.role ≡ role → ColumnsOf role h.1.0 space cs → IsColumnOf name c
      by_role (roles.Group recursive bodies) is are =
          let low = below_some cs name.position c e in
          let many = are.as_many in
          let lt : name.position < length bodies.items = omega (arith, low, many) in
          let body = some_below bodies.items name.position lt in
          let suits : IsFor body.0.code.kind c = subst (λ (d : Column). IsFor body.0.code.kind d) (get_or_from_slice_get cs name.position c c e)
          (subst (λ (b : Body). IsFor b.code.kind (slice_index_or cs name.position c)) (get_or_from_slice_get bodies.items name.position body.0 body.0 body.1) (are.suited name.position lt body.0 c)) in (
            record {
              item = r;
              item_at = item_is;
              body = body.0;
              body_at = subst (λ (role : Role). slice_get (bodies_of role) name.position ≡ Some body.0)
                  (sym is) body.1;
              is_kind = suited_kind body.0.code.kind c suits;
            },
            sym (ap column_len (get_or_from_slice_get cs name.position c c e))
                ∙ are.long name.position lt c,
          )
      by_role (roles.Check check) is are =
          absurd (none-some c (sym (ap (λ (l : List Column). slice_get l name.position) are) ∙ e))
      by_role roles.Silent is are =
          absurd (none-some c (sym (ap (λ (l : List Column). slice_get l name.position) are) ∙ e))

  -- the outputs of the item that binds the name are the values of its names
  abbrev IsGiven : List ResolvedItem → Input → Type 0
  IsGiven rs name =
      (cs : List Column) × (table.outputs name.item ≡ map column_value cs)
      × AreItemColumns space rs name.item cs

  inputs_given : (rs : List ResolvedItem) → Each (Fits items table needed) rs → (names : List Input)
      (values : List NodeContent)
      → ((name : Input) → IsBound rs name → needed name.item ≡ true → IsGiven rs name)
      → AllByRecursion (IsBound rs) names → AllByRecursion (λ name. needed name.item ≡ true) names
      → AllZip (IsValueOf table) names values → AreColumnsOf items space rs names values
  inputs_given rs fits [] [] each bound needs h =
      record { inputs = []; columns = refl; named = tt; kinds = tt; long = tt }
  inputs_given rs fits [] (v ∷ vs) each bound needs h = absurd h
  inputs_given rs fits (n ∷ ns) [] each bound needs h = absurd h
  inputs_given rs fits (n ∷ ns) (v ∷ vs) each bound needs h =
      let g = each n bound.0 needs.0 in
      let there : slice_get (map column_value g.0) n.position ≡ Some v = subst (λ (l : List NodeContent). slice_get l n.position ≡ Some v) g.1 h.0 in
      let c = column_there g.0 n.position v there in
      let b : Bor Column = record { ref_ptr = (0, 0); now = c.0 } in
      let is = column_of_name rs fits n g.0 c.0 g.2 c.1 in
      let rest = inputs_given rs fits ns vs each bound.1 needs.1 h.1 in
      record {
        inputs = b ∷ rest.inputs;
        columns =
            ap (λ (w : NodeContent). columns_of (w ∷ vs)) c.2
            ∙ ap (λ (l : List Column). held_column b ∷ l) rest.columns;
        named = ((g.0, g.2, c.1), rest.named);
        kinds = (is.0, rest.kinds);
        long = (is.1, rest.long);
      }

  -- the columns that a group gives
  group_columns : (rs : List ResolvedItem) (r : ResolvedItem) (values : List NodeContent)
      (are : AreColumnsOf items space rs r.inputs.items values) → IsReadByKind items r
      → 0 < name_count r.role → (outputs : List NodeContent)
      → nodes.RoleMakes (role_shape (role_content r.role)) (space_content space)
      (map held_column are.inputs) outputs
      → (n : ℕ) → count space ≡ n
      → (cs : List Column) × (outputs ≡ map column_value cs) × ColumnsOf r.role are.inputs space cs
  group_columns rs r values are read more outputs h zero none =
      group_empty space r.role are.inputs (map held_column are.inputs) outputs more none h
  group_columns rs r values are read more outputs h (suc n) some =
      let held = held_are are.inputs n (counted_so are.inputs (count space) (suc n) some are.long) in
      let made = group_made r.role (space_content space) (map (λ b. b.now) are.inputs) outputs more
      (subst (λ (l : List Column). nodes.RoleMakes (role_shape (role_content r.role)) (space_content space) l outputs) held h) in (
        made.0,
        made.1,
        columns_over r.role space are.inputs made.0 (over_inputs items r are.inputs
            read are.kinds) made.2,
      )

  group_given : (rs : List ResolvedItem) (r : ResolvedItem) → Each (Fits items table needed) rs
      → Fits items table needed (length rs) r → needed (length rs) ≡ true → 0 < name_count r.role
      → AllByRecursion (IsBound rs) r.inputs.items
      → ((name : Input) → IsBound rs name → needed name.item ≡ true → IsGiven rs name)
      → (cs : List Column) × (table.outputs (length rs) ≡ map column_value cs)
      × AreItemColumns space (r ∷ rs) (length rs) cs
  group_given rs r before fits needs more bound each =
      let solved = fits.solved needs (group_is_node r.role more) in
      let are = inputs_given rs before r.inputs.items solved.0 each bound (fits.closed needs (group_is_node r.role more)) solved.1 in
      let made = made_over (role_shape (role_content r.role)) table.space (space_content space) solved.0 (table.outputs (length rs)) (map held_column are.inputs) is_space are.columns solved.2 in
      let columns = group_columns rs r solved.0 are fits.read more (table.outputs (length rs)) made (count space) refl in (
        columns.0,
        columns.1,
        inl (
          refl,
          (
            are.inputs,
            are.named,
            columns.2,
            least_of r.role are.inputs space columns.0 fits.rises columns.2,
          ),
        ),
      )

  pub given : (rs : List ResolvedItem) → Each (Fits items table needed) rs → AreOrdered rs
      → (name : Input) → IsBound rs name → needed name.item ≡ true → IsGiven rs name
  given [] fits ordered name bound needs = absurd bound
  given (r ∷ rs) fits ordered name (inl here) needs =
      let g = group_given rs r fits.1 fits.0 (subst (λ (k : ℕ). needed k ≡ true) here.0 needs) (omega (arith, here.1)) ordered.0 (given rs fits.1 ordered.1) in (
        g.0,
        ap (λ (k : ℕ). table.outputs k) here.0 ∙ g.1,
        subst (λ (k : ℕ). AreItemColumns space (r ∷ rs) k g.0) (sym here.0) g.2,
      )
  given (r ∷ rs) fits ordered name (inr later) needs =
      let g = given rs fits.1 ordered.1 name later needs in (g.0, g.1, inr g.2)

  -- the columns of the names that an item behind these uses
  pub inputs_of : (rs : List ResolvedItem) (r : ResolvedItem) (values : List NodeContent)
      → Each (Fits items table needed) rs → AreOrdered (r ∷ rs) → Fits items table needed (length rs) r
      → needed (length rs) ≡ true → is_node r.role ≡ true
      → AllZip (IsValueOf table) r.inputs.items values
      → AreColumnsOf items space rs r.inputs.items values
  inputs_of rs r values before ordered fits needs node h =
      inputs_given rs before r.inputs.items values (given rs before ordered.1) ordered.0
      (fits.closed needs node) h
