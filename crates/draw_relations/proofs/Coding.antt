-- The last item of a text that a shown relation stands for: it is a check, and its values are of
-- the events of the candidates.
use Rattle.std.proofs.Common.{ℕ, zero, suc, ◌≡◌, ◌<◌, ◌+◌, ◌-◌, ◌∙◌, List, [], ◌∷◌, ◌++◌, length, map, refl, sym, ap, get_or, subst, arith}
use Rattle.std.specs.Prelude.{MatchOption, Option, Some, None, option_map, option_to_list, slice_get, filter, take}
use Rattle.std.specs.List.{All}
use Rattle.std.proofs.lemmas.List.{append-nil, length-append, length-map}
use Rattle.std.proofs.lemmas.List.Elements.{All-push}
use Rattle.std.proofs.lemmas.Option.{same_Some, slice_get-map, slice_get_read}
use Rattle.std.proofs.lemmas.Slice.Zip.{AllZip-long}
use Rattle.binding_graph.specs.declared.resolved.Code.{Code}
use Rattle.binding_graph.specs.declared.resolved.ResolvedItem.{ResolvedItem}
use Rattle.binding_graph.specs.declared.resolved.Role.{Role}
use Rattle.binding_graph.specs.declared.resolved.Role.TheVariants as roles
use Rattle.binding_graph.specs.declared.resolved.Source.{Source}
use Rattle.binding_graph.specs.declared.resolved.Step.{Step}
use Rattle.binding_graph.specs.Meaning.{IsCode, set_tree, rel_tree, steps_of}
use Rattle.binding_graph.specs.Resolved.{AreResolved, IsCheckRole}
use Rattle.binding_graph.specs.Trees.{SetTree, RelTree, rel_code}
use Rattle.binding_graph.specs.Usages.{Usage, usages_after, with_values}
use Rattle.binding_kinds.specs.declared.kinds.Kind.{Kind}
use Rattle.binding_kinds.specs.declared.kinds.Kind.TheVariants.{OfSet, OfRelation, OfAny}
use Rattle.binding_kinds.specs.declared.scope.Used.{Used}
use Rattle.binding_kinds.specs.Faults.{names_after, senses_after}
use Rattle.binding_kinds.specs.Functions.{formula_in}
use Rattle.binding_kinds.specs.Senses.{Sense, kind_in}
use Rattle.binding_kinds.specs.Value.{Naming, Check, bare_item}
use Rattle.bit_rows.specs.Relation.{Events, Relation}
use Rattle.candidate_spaces.specs.declared.candidate.Space.{Space}
use Rattle.cat_machine.specs.declared.column.Column.{Column}
use Rattle.cat_machine.specs.declared.column.Column.TheVariants as columns
use Rattle.cat_machine.specs.Columns.{HasColumnValue}
use Rattle.cat_machine.specs.Executions.{events_of, EventsAt, PairsAt}
use Rattle.cat_machine.specs.Values.{IsFor, IsMeaning}
use Rattle.text_values.specs.declared.model.CheckWord.{CheckWord}
use Rattle.text_values.specs.declared.model.Item.{Item}
use Rattle.text_values.specs.declared.model.Item.TheVariants as items
use Rattle.text_values.specs.declared.model.CheckWord.TheVariants as words
use Rattle.text_values.specs.declared.model.ModelText.{ModelText}
use Rattle.text_values.specs.ModelValue.{Clause, Term, Checking, Checked}
use Rattle.text_values.specs.ModelValues as means
use Rattle.predefined_names.specs.declared.predefined.TheConstants.{PREDEFINED}
use Rattle.from_scratch.specs.declared.cell.ItemAnswers.{ItemAnswers}
use Rattle.from_scratch.specs.Answers.{AreSoundItems}
use Rattle.from_scratch.specs.FromScratch.{AreItemsOf, IsFaultless}
use Rattle.binding_kinds.specs.Outermost.{outermost_names}
use Rattle.from_scratch.specs.Known.{HasAllColumns}
use Rattle.from_scratch.proofs.Ordered.{resolved_ordered}
use Rattle.from_scratch.proofs.Rising.{resolved_rising}
use Rattle.from_scratch.proofs.Knowing.{item_at}
use Rattle.draw_relations.specs.declared.names.ShownName.{ShownName}
use Rattle.draw_relations.specs.declared.values.ShownValues.{ShownValues}
use Rattle.draw_relations.specs.Shown.{IsTextFor, check_on, is_binding}
use Rattle.draw_relations.specs.Values.{AreValuesBefore, HasNoLastCheck, HasNoValue, IsCheckValue, IsLast, IsLastValue, IsNoCheck, IsShownValue, IsSized, IsSizedAt, OneLeft, OneShown}

-- the code of a relation is that of a tree
abbrev pub IsTreeOf : Kind → List Step → Type 0
IsTreeOf OfSet steps = Unit {0}
IsTreeOf OfRelation steps = (t : RelTree) × (steps ≡ rel_code t [])
IsTreeOf OfAny steps = (t : RelTree) × (steps ≡ rel_code t [])

abbrev pub IsCheckWithTree : Role → Type 0
IsCheckWithTree (roles.Group recursive bodies) = ⊥
IsCheckWithTree (roles.Check check) = IsTreeOf check.code.kind check.code.steps.items
IsCheckWithTree roles.Silent = ⊥

tree_of : (k : Kind) (steps : List Step) (s : SetTree) (r : RelTree) → steps ≡ steps_of k s r
    → IsTreeOf k steps
tree_of OfSet steps s r e = tt
tree_of OfRelation steps s r e = (r, e)
tree_of OfAny steps s r e = (r, e)

code_tree : (ss : List Sense) (names : List Naming) (us : List Used) (from : ℕ) (t : Term)
    (c : Code) → IsCode ss names us from t c → IsTreeOf c.kind c.steps.items
code_tree ss names us from t c h =
    let f = formula_in ss names [] t in
    subst (λ (k : Kind). IsTreeOf k c.steps.items) (sym h.0) (tree_of (kind_in ss names t)
    c.steps.items (set_tree us from f) (rel_tree us from f) h.1)

role_tree : (ss : List Sense) (us : List Usage) (names : List Naming) (from : ℕ) (w : CheckWord)
    (e : Term) (role : Role) → IsCheckRole ss us names from w e role → IsCheckWithTree role
role_tree ss us names from w e (roles.Group recursive bodies) h = absurd h
role_tree ss us names from w e (roles.Check check) h =
    code_tree ss names (with_values us names [] from e []) from e check.code h.1
role_tree ss us names from w e roles.Silent h = absurd h

-- an item that is a check is resolved to one
check_at : (ss : List Sense) (us : List Usage) (names : List Naming) (at : ℕ) (xs : List Item)
    (rs : List ResolvedItem) → AreResolved ss us names at (map bare_item xs) rs
    → (i : ℕ) (x : Item) (w : CheckWord) (e : Term) (r : ResolvedItem) → slice_get xs i ≡ Some x
    → bare_item x ≡ Check w e → slice_get rs i ≡ Some r → IsCheckWithTree r.role
check_at ss us names at [] rs h i x w e r here is there = absurd cc
check_at ss us names at (y ∷ xs) [] h i x w e r here is there = absurd h
check_at ss us names at (y ∷ xs) (q ∷ rs) h zero x w e r here is there =
    let same : y ≡ x = cc in
    let alike : q ≡ r = cc in
    let clause : bare_item y ≡ Check w e = ap bare_item same ∙ is in
    let own = rw clause at h.0 in
    subst (λ (z : ResolvedItem). IsCheckWithTree z.role) alike
    (role_tree ss us names (length names) w e q.role own.0)
check_at ss us names at (y ∷ xs) (q ∷ rs) h (suc i) x w e r here is there =
    let c = bare_item y in
    check_at (senses_after ss names c) (usages_after us names at c) (names_after ss names at c)
    (at + 1) xs rs h.1 i x w e r here is there

-- a check of the model's text
check_clause : (x : Item) (checked : Checked) (label : Option (List ℕ))
    → means.clause_of x ≡ Checking checked label → bare_item x ≡ Check checked.word checked.body
check_clause (items.Let recursive group) checked label e = absurd cc
check_clause (items.Function name parameters body) checked label e = absurd cc
check_clause (items.Check check name) checked label e = cc
check_clause (items.Flag check name) checked label e = absurd cc
check_clause (items.Show hidden shown) checked label e = absurd cc
check_clause (items.Include path) checked label e = absurd cc

-- ---- the last item of a text

some_of : {A B : Type 0} (f : A → B) (o : Option A) (y : B) → option_map f o ≡ Some y
    → (x : A) × (o ≡ Some x) × (f x ≡ y)
some_of f None y e = absurd cc
some_of f (Some x) y e = (x, refl, cc)

-- the clause behind others
at_end : {A : Type 0} (xs : List A) (x : A) → slice_get (xs ++ x ∷ []) (length xs) ≡ Some x
at_end [] x = refl
at_end (y ∷ xs) x = at_end xs x

pub last_tree : (clauses : List Clause) (x : ShownName) (text : ModelText)
    (resolved : List ResolvedItem) (item : ResolvedItem) → IsTextFor clauses x text.items.items
    → AreItemsOf text resolved → IsLast resolved item → IsCheckWithTree item.role
last_tree clauses x text resolved item stands resolves last =
    let (body, is, same) = stands in
    let before = filter is_binding (take x.item clauses) in
    let long : length text.items.items ≡ length before + 1 =
    sym (length-map text.items.items means.clause_of) ∙ ap (λ (cs : List Clause). length cs) same
    ∙ length-append before (check_on body ∷ []) in
    let many : length resolved ≡ length text.items.items = AllZip-long _ text.items.items resolved resolves.1 in
    let at : length resolved - 1 ≡ length before = omega (arith, long, many) in
    let here : option_map means.clause_of (slice_get text.items.items (length before)) ≡ Some (check_on body) =
    sym (slice_get-map means.clause_of text.items.items (length before))
    ∙ ap (λ (cs : List Clause). slice_get cs (length before)) same
    ∙ at_end before (check_on body) in
    let (one, there, check) = some_of means.clause_of (slice_get text.items.items (length before)) (check_on body) here in
    check_at [] [] outermost_names 0 text.items.items resolved resolves.0 (length before) one
    words.Acyclic body item there (check_clause one _ None check) (subst
    (λ (k : ℕ). slice_get resolved k ≡ Some item) at last)

pub last_check : (clauses : List Clause) (x : ShownName) (text : ModelText)
    (resolved : List ResolvedItem) → IsTextFor clauses x text.items.items
    → AreItemsOf text resolved → HasNoLastCheck resolved → ⊥
last_check clauses x text resolved stands resolves none =
    let (body, is, same) = stands in
    let before = filter is_binding (take x.item clauses) in
    let long : length text.items.items ≡ length before + 1 =
    sym (length-map text.items.items means.clause_of) ∙ ap (λ (cs : List Clause). length cs) same
    ∙ length-append before (check_on body ∷ []) in
    let many : length resolved ≡ length text.items.items = AllZip-long _ text.items.items resolved resolves.1 in
    let (item, last) = item_at resolved (length resolved - 1) (omega (arith, long, many)) in
    is_check item.role (last_tree clauses x text resolved item stands resolves last)
    (none item last)
  where
    is_check : (role : Role) → IsCheckWithTree role → IsNoCheck role → ⊥
    is_check (roles.Group recursive bodies) tree never = tree
    is_check (roles.Check check) tree never = never check refl
    is_check roles.Silent tree never = tree

-- ---- sizes

sized_at : (kind : Kind) (steps : List Step) (n : ℕ) (sets : Source → ℕ → Type 0)
    (outer : Source → ℕ → ℕ → Type 0) (s : Events) (r : Relation) (column : Column) (k : ℕ)
    → IsTreeOf kind steps → IsFor kind column → HasColumnValue column k s r
    → IsMeaning kind steps n sets outer s r → IsSizedAt column k n
sized_at OfSet steps n sets outer s r (columns.Sets values) k tree suited has meant = tt
sized_at OfSet steps n sets outer s r (columns.Relations values) k tree suited has meant =
    absurd suited
sized_at OfRelation steps n sets outer s r (columns.Sets values) k tree suited has meant = tt
sized_at OfRelation steps n sets outer s r (columns.Relations values) k tree suited has meant =
    λ q is.
    let (t, e) = tree in
    ap (λ (x : Relation). x.count) (same_Some q r (sym is ∙ has)) ∙ (meant t e).count
sized_at OfAny steps n sets outer s r (columns.Sets values) k tree suited has meant = tt
sized_at OfAny steps n sets outer s r (columns.Relations values) k tree suited has meant = λ q is.
    let (t, e) = tree in
    ap (λ (x : Relation). x.count) (same_Some q r (sym is ∙ has)) ∙ (meant t e).count

-- the values of a shown relation are of the events of the candidates
pub shown_sized : (clauses : List Clause) (space : Space) (x : ShownName) (v : ShownValues)
    → IsShownValue clauses space x v → IsSized space v.values
shown_sized clauses space x v shown = λ k one is.
    let value = shown.value.value in
    let tree = rw value.role at (last_tree clauses x shown.text shown.value.resolved shown.value.item shown.is shown.value.resolves shown.value.last) in
    let (s, r, has, meant) = value.values.values k one is in
    let n = events_of one in
    sized_at value.check.code.kind value.check.code.steps.items n (EventsAt n one value.inputs k)
    (PairsAt n one value.inputs k) s r v.values k tree value.values.suited has meant

-- ---- the values of the last item

pub items_sound : (text : ModelText) (resolved : List ResolvedItem) → IsFaultless text
    → AreItemsOf text resolved → AreSoundItems resolved
items_sound text resolved faultless items = (
  resolved_ordered PREDEFINED (map bare_item text.items.items) resolved items.0,
  resolved_rising outermost_names 0 (map bare_item text.items.items) resolved faultless items.0,
)

pub last_found : (space : Space) (text : ModelText) (resolved : List ResolvedItem)
    (answers : ItemAnswers) (item : ResolvedItem) (found : Option Column) → IsFaultless text
    → AreItemsOf text resolved → HasAllColumns space resolved answers → IsLast resolved item
    → MatchOption found (IsNoCheck item.role) (IsCheckValue space answers.columns.items item)
    → MatchOption found (HasNoLastCheck resolved) (IsLastValue space text)
last_found space text resolved answers item None faultless resolves valued last none =
    λ other here.
    subst (λ (z : ResolvedItem). IsNoCheck z.role) (same_Some item other (sym last ∙ here)) none
last_found space text resolved answers item (Some column) faultless resolves valued last value =
    record { faultless = faultless; resolved = resolved; resolves = resolves; answers = answers; valued = valued; item = item; last = last; value = value }

-- ---- a name with its values

pub named_shown : (clauses : List Clause) (space : Space) (x : ShownName) (text : ModelText)
    (resolved : List ResolvedItem) (values : Option Column) (found : Option ShownValues)
    → IsTextFor clauses x text.items.items → AreItemsOf text resolved
    → MatchOption values (HasNoLastCheck resolved) (IsLastValue space text)
    → MatchOption found (values ≡ None) (λ v. (values ≡ Some v.values) × (v.name ≡ x.name))
    → MatchOption found (HasNoValue clauses x) (IsShownValue clauses space x)
named_shown clauses space x text resolved None None stands resolves last named =
    absurd (last_check clauses x text resolved stands resolves last)
named_shown clauses space x text resolved (Some column) None stands resolves last named = absurd cc
named_shown clauses space x text resolved values (Some v) stands resolves last named =
    record { text = text; is = stands; name = named.1; value = rw named.0 at last }

-- ---- the relations one after another

pub shown_step : (space : Space) (clauses : List Clause) (xs : List ShownName) (n : ℕ)
    (x : ShownName) (vs new : List ShownValues) (found : Option ShownValues) → n < length xs
    → x ≡ get_or xs n x
    → MatchOption found (HasNoValue clauses x) (IsShownValue clauses space x)
    → new ≡ vs ++ option_to_list found → AreValuesBefore space clauses xs n vs
    → AreValuesBefore space clauses xs (n + 1) new
shown_step space clauses xs n x vs new None lt is none more before =
    subst (λ (us : List ShownValues). AreValuesBefore space clauses xs (n + 1) us)
    (sym (more ∙ append-nil vs)) (OneLeft n vs x before
    (slice_get_read xs (length xs) n x refl lt is) none)
shown_step space clauses xs n x vs new (Some v) lt is shown more before =
    subst (λ (us : List ShownValues). AreValuesBefore space clauses xs (n + 1) us) (sym more)
    (OneShown n vs x v before (slice_get_read xs (length xs) n x refl lt is) shown)

pub sized_step : (space : Space) (clauses : List Clause) (x : ShownName) (vs new : List ShownValues)
    (found : Option ShownValues)
    → MatchOption found (HasNoValue clauses x) (IsShownValue clauses space x)
    → new ≡ vs ++ option_to_list found
    → All (λ s. IsSized space s.values) vs → All (λ s. IsSized space s.values) new
sized_step space clauses x vs new None none more before =
    subst (λ (us : List ShownValues). All (λ s. IsSized space s.values) us)
    (sym (more ∙ append-nil vs)) before
sized_step space clauses x vs new (Some v) shown more before =
    subst (λ (us : List ShownValues). All (λ s. IsSized space s.values) us) (sym more)
    (All-push (λ s. IsSized space s.values) vs v before (shown_sized clauses space x v shown))
