-- What an application means, and the names of a scope, which are bound alike to themselves.
use Rattle.std.proofs.Common.{◌≡◌, ℕ, ◌<◌, ◌≤◌, zero, suc, List, [], ◌∷◌, length, take, get_or, map, nat_eq, Bool, true, false, Option, Some, None, Vec, Global, refl, sym, ap, subst, ◌∙◌, arith}
use Rattle.std.specs.Prelude.{slice_get}
use Rattle.std.proofs.lemmas.Bool.{eq-eqb, ne_eqb}
use Rattle.std.proofs.lemmas.Option.{slice_get-get_or}
use Rattle.text_values.specs.declared.model.Item.{Item}
use Rattle.text_values.specs.declared.model.Item.TheVariants as items
use Rattle.text_values.specs.declared.model.Expression.{Expression}
use Rattle.text_values.specs.ModelValue.{Term, Terms, Apply, gathered}
use Rattle.text_values.specs.ModelValues.{term_of}
use Rattle.meaning.specs.Sets.{Set}
use Rattle.meaning.specs.Names.{Name}
use Rattle.meaning.specs.Cat.{Meaning, Nothing, Names, ToMeaning, ToFunction, ToNothing, choice_of, bound_of, of_name, of_application, meaning_of, meanings_of, with_arguments}
use Rattle.meaning.specs.Cat as cat
use Rattle.plain_models.specs.declared.value.Value.{Value}
use Rattle.plain_models.specs.declared.value.Value.TheVariants as values
use Rattle.plain_models.specs.declared.scope.Bound.{Bound}
use Rattle.plain_models.specs.declared.scope.Bound.TheVariants as bounds
use Rattle.plain_models.specs.declared.scope.Named.{Named}
use Rattle.plain_models.specs.Values.{meaning_as, IsEvaluatedTo, HaveValues}
use Rattle.plain_models.specs.Scopes.{meanings_as, function_with, function_of, bound_as, with_named, bound_at, names_in, named_name, latest_index, index_behind_none, applied_index_of}
use Rattle.meaning_laws.proofs.Inside.{alike_itself, alike_through}
use Rattle.meaning_laws.proofs.Alike.{AllAlike, AlikeBound, meanings, functions, nothing, AlikeNames, none, more, alike_bound, application_alike, alike_meaning, alike_arguments}
use Rattle.plain_models.proofs.Latest.{bound_at_get, meanings_length, no_argument, argument_bound_there, outer_bound, outer_unbound}

-- ---- the names are bound alike to themselves

pub function_alike : (all : Set ℕ) (N : Names ℕ) → AlikeNames N N → (o : Option Item)
    → AlikeBound (function_of all N o) (function_of all N o)
function_alike all N alike None = nothing
function_alike all N alike (Some (items.Let recursive group)) = nothing
function_alike all N alike (Some (items.Function name parameters body)) =
    functions (length parameters.items)
    (λ ms. meaning_of all (with_arguments parameters.items ms N) (term_of body))
    (λ ms. meaning_of all (with_arguments parameters.items ms N) (term_of body))
    (λ ms ks all_alike. alike_meaning all (with_arguments parameters.items ms N)
    (with_arguments parameters.items ks N) (alike_arguments parameters.items ms ks N N all_alike alike)
    (term_of body))
function_alike all N alike (Some (items.Check check label)) = nothing
function_alike all N alike (Some (items.Flag check label)) = nothing
function_alike all N alike (Some (items.Show hidden shown)) = nothing
function_alike all N alike (Some (items.Include path)) = nothing

bound_alike : (all : Set ℕ) (is : List Item) (N : Names ℕ) → AlikeNames N N → (b : Bound)
    → AlikeBound (bound_as all is N b) (bound_as all is N b)
bound_alike all is N alike (bounds.Value v) =
    meanings (meaning_as v) (meaning_as v) (alike_itself (meaning_as v))
bound_alike all is N alike (bounds.Function i) = function_alike all N alike (slice_get is i)

pub named_alike : (all : Set ℕ) (is : List Item) (bs : List Named) (N : Names ℕ)
    → AlikeNames N N → AlikeNames (with_named all is bs N) (with_named all is bs N)
named_alike all is [] N alike = alike
named_alike all is (b ∷ bs) N alike =
    let c : cat.Bound ℕ = bound_as all is N b.bound in
    named_alike all is bs ((b.name, c) ∷ N)
    (more b.name c c N N (bound_alike all is N alike b.bound) alike)

-- ---- a function with arguments

-- what is no function has no meaning with arguments
pub value_applied : (all : Set ℕ) (is : List Item) (outer : List Named) (index : ℕ) (d : Named)
    (w : Value) (vs : List Value) → index < length outer
    → (get_or outer index d).bound ≡ bounds.Value w
    → IsEvaluatedTo (of_application (bound_at all is [] outer index) (meanings_as vs)) values.Nothing
value_applied all is outer index d w vs lt is_value =
    let N : Names ℕ = with_named all is (take index outer) [] in
    subst (λ (b : cat.Bound ℕ). IsEvaluatedTo (of_application b (meanings_as vs)) values.Nothing)
    (sym (bound_at_get all is [] outer index d lt ∙ ap (bound_as all is N) is_value)) (tt, tt)

pub function_applied : (all : Set ℕ) (is : List Item) (outer : List Named) (index : ℕ) (d : Named)
    (i : ℕ) (vs : List Value) (v : Value) → index < length outer
    → (get_or outer index d).bound ≡ bounds.Function i
    → IsEvaluatedTo (of_application (function_of all (with_named all is (take index outer) []) (slice_get is i)) (meanings_as vs)) v
    → IsEvaluatedTo (of_application (bound_at all is [] outer index) (meanings_as vs)) v
function_applied all is outer index d i vs v lt is_function h =
    let N : Names ℕ = with_named all is (take index outer) [] in
    subst (λ (b : cat.Bound ℕ). IsEvaluatedTo (of_application b (meanings_as vs)) v)
    (sym (bound_at_get all is [] outer index d lt ∙ ap (bound_as all is N) is_function)) h

-- the item is no function
abbrev pub IsNoFunction : Item → Type 0
IsNoFunction (items.Function name parameters body) = ⊥
IsNoFunction _ = Unit {0}

pub no_function : (x : Item)
    → ((n : List ℕ) (ps : Vec (List ℕ) Global) (b : Expression) → x ≡ items.Function n ps b → ⊥)
    → IsNoFunction x
no_function (items.Let recursive group) h = tt
no_function (items.Function name parameters body) h = h name parameters body refl
no_function (items.Check check label) h = tt
no_function (items.Flag check label) h = tt
no_function (items.Show hidden shown) h = tt
no_function (items.Include path) h = tt

unbound : (all : Set ℕ) (N : Names ℕ) (x : Item) → IsNoFunction x
    → function_of all N (Some x) ≡ ToNothing
unbound all N (items.Let recursive group) h = refl
unbound all N (items.Function name parameters body) h = absurd h
unbound all N (items.Check check label) h = refl
unbound all N (items.Flag check label) h = refl
unbound all N (items.Show hidden shown) h = refl
unbound all N (items.Include path) h = refl

pub other_applied : (all : Set ℕ) (N : Names ℕ) (is : List Item) (i : ℕ) (d : Item)
    (vs : List Value) → i < length is → IsNoFunction (get_or is i d)
    → IsEvaluatedTo (of_application (function_of all N (slice_get is i)) (meanings_as vs)) values.Nothing
other_applied all N is i d vs lt is_none =
    subst (λ (b : cat.Bound ℕ). IsEvaluatedTo (of_application b (meanings_as vs)) values.Nothing)
    (sym (ap (function_of all N) (slice_get-get_or is i d lt) ∙ unbound all N (get_or is i d) is_none))
    (tt, tt)

past_end : (is : List Item) (i : ℕ) → length is ≤ i → slice_get is i ≡ None
past_end [] i le = refl
past_end (x ∷ is) zero le = absurd (omega arith)
past_end (x ∷ is) (suc i) le = past_end is i (omega arith)

pub past_applied : (all : Set ℕ) (N : Names ℕ) (is : List Item) (i : ℕ) (vs : List Value)
    → length is ≤ i
    → IsEvaluatedTo (of_application (function_of all N (slice_get is i)) (meanings_as vs)) values.Nothing
past_applied all N is i vs le =
    subst (λ (b : cat.Bound ℕ). IsEvaluatedTo (of_application b (meanings_as vs)) values.Nothing)
    (sym (ap (function_of all N) (past_end is i le))) (tt, tt)

pub item_applied : (all : Set ℕ) (N : Names ℕ) (is : List Item) (i : ℕ) (d : Item) (n : List ℕ)
    (ps : Vec (List ℕ) Global) (body : Expression) (ns : List Name) (vs : List Value) (v : Value)
    → i < length is → get_or is i d ≡ items.Function n ps body → ns ≡ ps.items
    → IsEvaluatedTo (of_application (function_with all N ns (term_of body)) (meanings_as vs)) v
    → IsEvaluatedTo (of_application (function_of all N (slice_get is i)) (meanings_as vs)) v
item_applied all N is i d n ps body ns vs v lt is_function names h =
    subst (λ (b : cat.Bound ℕ). IsEvaluatedTo (of_application b (meanings_as vs)) v)
    (sym (ap (function_of all N) (slice_get-get_or is i d lt)
    ∙ ap (λ (x : Item). function_of all N (Some x)) is_function))
    (subst (λ (l : List Name). IsEvaluatedTo (of_application (function_with all N l (term_of body)) (meanings_as vs)) v)
    names h)

-- another number of arguments
pub wrong_applied : (all : Set ℕ) (N : Names ℕ) (ps : List Name) (t : Term) (vs : List Value)
    → (length ps ≡ length vs → ⊥)
    → IsEvaluatedTo (of_application (function_with all N ps t) (meanings_as vs)) values.Nothing
wrong_applied all N ps t vs other =
    let r : Meaning ℕ = meaning_of all (with_arguments ps (meanings_as vs) N) t in
    let test : nat_eq (length ps) (length (meanings_as vs)) ≡ false = ne_eqb (length ps) (length (meanings_as vs)) (λ e. other (e ∙ sym (meanings_length vs))) in
    subst (λ (b : Bool). IsEvaluatedTo (choice_of b r Nothing) values.Nothing) (sym test) (tt, tt)

pub right_applied : (all : Set ℕ) (N : Names ℕ) (ps : List Name) (t : Term) (vs : List Value)
    (v : Value) → length ps ≡ length vs
    → IsEvaluatedTo (meaning_of all (with_arguments ps (meanings_as vs) N) t) v
    → IsEvaluatedTo (of_application (function_with all N ps t) (meanings_as vs)) v
right_applied all N ps t vs v same h =
    let r : Meaning ℕ = meaning_of all (with_arguments ps (meanings_as vs) N) t in
    let test : nat_eq (length ps) (length (meanings_as vs)) ≡ true = eq-eqb (length ps) (length (meanings_as vs)) (same ∙ meanings_length vs) in
    subst (λ (b : Bool). IsEvaluatedTo (choice_of b r Nothing) v) (sym test) h

-- ---- an application in an expression

all_meant : (all : Set ℕ) (N : Names ℕ) (ts : List Term) (vs : List Value) → HaveValues all N ts vs
    → AllAlike (meanings_as vs) (meanings_of all N (gathered ts))
all_meant all N [] [] h = tt
all_meant all N [] (v ∷ vs) h = absurd h
all_meant all N (t ∷ ts) [] h = absurd h
all_meant all N (t ∷ ts) (v ∷ vs) h = (h.0, all_meant all N ts vs h.1)

-- the two indexes that the index of an application tells
pub none_before : (o p : Option ℕ) (i : ℕ) → index_behind_none o p ≡ Some i
    → (o ≡ None) × (p ≡ Some i)
none_before None p i e = (refl, e)
none_before (Some j) p i e = absurd (let wrong : ⊥ = cc in wrong)

applied_name : (all : Set ℕ) (is : List Item) (outer : List Named) (names : List Name)
    (vs : List Value) (n : Name) (index : ℕ) → length names ≡ length vs
    → applied_index_of outer names n ≡ Some index
    → bound_of (names_in all is outer names vs) n ≡ bound_at all is [] outer index
applied_name all is outer names vs n index same at =
    let both : (latest_index n names ≡ None) × (latest_index n (map named_name outer) ≡ Some index) = none_before (latest_index n names) (latest_index n (map named_name outer)) index at in
    sym (no_argument all is outer names vs n same both.0) ∙ outer_bound all is outer n index both.1

pub application_meant : (all : Set ℕ) (is : List Item) (outer : List Named) (names : List Name)
    (vs : List Value) (n : Name) (index : ℕ) (ts : List Term) (ws : List Value) (v : Value)
    → length names ≡ length vs → applied_index_of outer names n ≡ Some index
    → HaveValues all (names_in all is outer names vs) ts ws
    → IsEvaluatedTo (of_application (bound_at all is [] outer index) (meanings_as ws)) v
    → IsEvaluatedTo (meaning_of all (names_in all is outer names vs) (Apply n (gathered ts))) v
application_meant all is outer names vs n index ts ws v same at meant h =
    let N : Names ℕ = names_in all is outer names vs in
    let O : Names ℕ = with_named all is outer [] in
    let here : bound_of O n ≡ bound_at all is [] outer index = outer_bound all is outer n index (none_before (latest_index n names) (latest_index n (map named_name outer)) index at).1 in
    let one : AlikeBound (bound_of O n) (bound_of O n) = alike_bound O O (named_alike all is outer [] none) n in
    let own : AlikeBound (bound_at all is [] outer index) (bound_at all is [] outer index) = subst (λ (b : cat.Bound ℕ). AlikeBound b b) here one in
    let b : cat.Bound ℕ = bound_at all is [] outer index in
    subst (λ (c : cat.Bound ℕ). IsEvaluatedTo (of_application c (meanings_of all N (gathered ts))) v)
    (sym (applied_name all is outer names vs n index same at))
    (alike_through (meaning_as v) (of_application b (meanings_as ws))
    (of_application b (meanings_of all N (gathered ts))) h
    (application_alike b b (meanings_as ws) (meanings_of all N (gathered ts)) own
    (all_meant all N ts ws meant)))

-- without such an index the name is bound to no function
unapplied : (all : Set ℕ) (is : List Item) (outer : List Named) (names : List Name)
    (vs : List Value) (n : Name) (o p : Option ℕ) (ms : List (Meaning ℕ)) → length names ≡ length vs
    → latest_index n names ≡ o → latest_index n (map named_name outer) ≡ p
    → index_behind_none o p ≡ None
    → of_application (bound_of (names_in all is outer names vs) n) ms ≡ Nothing
unapplied all is outer names vs n (Some j) p ms same at other e =
    ap (λ (b : cat.Bound ℕ). of_application b ms) (argument_bound_there all is outer names vs n j same at)
unapplied all is outer names vs n None (Some k) ms same at other e =
    absurd (let wrong : ⊥ = cc in wrong)
unapplied all is outer names vs n None None ms same at other e =
    ap (λ (b : cat.Bound ℕ). of_application b ms)
    (sym (no_argument all is outer names vs n same at) ∙ outer_unbound all is outer n other)

pub no_application : (all : Set ℕ) (is : List Item) (outer : List Named) (names : List Name)
    (vs : List Value) (n : Name) (ts : Terms) → length names ≡ length vs
    → applied_index_of outer names n ≡ None
    → IsEvaluatedTo (meaning_of all (names_in all is outer names vs) (Apply n ts)) values.Nothing
no_application all is outer names vs n ts same at =
    let N : Names ℕ = names_in all is outer names vs in
    subst (λ (m : Meaning ℕ). IsEvaluatedTo m values.Nothing)
    (sym (unapplied all is outer names vs n (latest_index n names) (latest_index n (map named_name outer))
    (meanings_of all N ts) same refl refl at)) (tt, tt)
