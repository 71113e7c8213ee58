-- Where a name stands among others, and what it is bound to there.
use Rattle.std.proofs.Common.{◌≡◌, ℕ, ◌+◌, ◌<◌, ◌≤◌, zero, suc, List, [], ◌∷◌, ◌++◌, length, take, get_or, map, Bool, true, false, Option, Some, None, bytes_eq, refl, sym, ap, subst, ◌∙◌, arith}
use Rattle.std.specs.Prelude.{if◌then◌else◌, slice_get}
use Rattle.std.proofs.lemmas.List.{take_more, take_all, length-take-le, length-map, map_push}
use Rattle.text_values.specs.declared.model.Item.{Item}
use Rattle.text_values.specs.declared.model.Item.TheVariants as items
use Rattle.meaning.specs.Sets.{Set}
use Rattle.meaning.specs.Names.{Name}
use Rattle.meaning.specs.Cat.{Meaning, Nothing, Names, ToMeaning, choice_of, bound_of, of_name, with_arguments}
use Rattle.meaning.specs.Cat as cat
use Rattle.plain_models.specs.declared.value.Value.{Value}
use Rattle.plain_models.specs.declared.value.Value.TheVariants as values
use Rattle.plain_models.specs.declared.scope.Bound.TheVariants as bounds
use Rattle.plain_models.specs.declared.scope.Named.{Named}
use Rattle.plain_models.specs.Values.{meaning_as, IsEvaluatedTo}
use Rattle.plain_models.specs.Scopes.{meanings_as, function_of, bound_as, with_named, bound_at, names_in, named_name, index_behind, latest_index}

-- ---- the loop that looks for the latest

latest_push : (n m : Name) (ms : List Name)
    → latest_index n (ms ++ m ∷ [])
    ≡ (if bytes_eq m n then Some (length ms) else latest_index n ms)
latest_push n m [] = start (bytes_eq m n)
  where
    start : (t : Bool) → index_behind t None ≡ (if t then Some 0 else None)
    start true = refl
    start false = refl
latest_push n m (p ∷ ps) =
    ap (index_behind (bytes_eq p n)) (latest_push n m ps) ∙ step (bytes_eq m n)
  where
    step : (t : Bool)
        → index_behind (bytes_eq p n) (if t then Some (length ps) else latest_index n ps)
        ≡ (if t then Some (suc (length ps)) else index_behind (bytes_eq p n) (latest_index n ps))
    step true = refl
    step false = refl

pub latest_more : (n : Name) (ms : List Name) (i : ℕ) (d : Name) (is : Bool)
    (found next : Option ℕ) → i < length ms → found ≡ latest_index n (take i ms)
    → is ≡ bytes_eq (get_or ms i d) n → next ≡ (if is then Some i else found)
    → next ≡ latest_index n (take (i + 1) ms)
latest_more n ms i d is found next lt before test e =
    let len : length (take i ms) ≡ i = length-take-le i ms (omega arith) in
    e ∙ (ap (λ (t : Bool). if t then Some i else found) test
    ∙ (ap (λ (o : Option ℕ). if bytes_eq (get_or ms i d) n then Some i else o) before
    ∙ (ap (λ (k : ℕ). if bytes_eq (get_or ms i d) n then Some k else latest_index n (take i ms)) (sym len)
    ∙ (sym (latest_push n (get_or ms i d) (take i ms))
    ∙ ap (latest_index n) (sym (take_more ms i d lt))))))

pub latest_all : (n : Name) (ms : List Name) (i : ℕ) (found : Option ℕ) → length ms ≤ i
    → found ≡ latest_index n (take i ms) → found ≡ latest_index n ms
latest_all n ms i found le e = e ∙ ap (latest_index n) (take_all i ms le)

pub named_more : (n : Name) (bs : List Named) (i : ℕ) (d : Named) (is : Bool)
    (found next : Option ℕ) → i < length bs → found ≡ latest_index n (map named_name (take i bs))
    → is ≡ bytes_eq (get_or bs i d).name n → next ≡ (if is then Some i else found)
    → next ≡ latest_index n (map named_name (take (i + 1) bs))
named_more n bs i d is found next lt before test e =
    let m : Name = named_name (get_or bs i d) in
    let ms : List Name = map named_name (take i bs) in
    let len : length ms ≡ i = length-map (take i bs) named_name ∙ length-take-le i bs (omega arith) in
    e ∙ (ap (λ (t : Bool). if t then Some i else found) test
    ∙ (ap (λ (o : Option ℕ). if bytes_eq m n then Some i else o) before
    ∙ (ap (λ (k : ℕ). if bytes_eq m n then Some k else latest_index n ms) (sym len)
    ∙ (sym (latest_push n m ms)
    ∙ ap (latest_index n) (sym (map_push named_name (take i bs) (get_or bs i d))
    ∙ ap (map named_name) (sym (take_more bs i d lt)))))))

pub named_all : (n : Name) (bs : List Named) (i : ℕ) (found : Option ℕ) → length bs ≤ i
    → found ≡ latest_index n (map named_name (take i bs))
    → found ≡ latest_index n (map named_name bs)
named_all n bs i found le e =
    e ∙ ap (λ (l : List Named). latest_index n (map named_name l)) (take_all i bs le)

within_step : (t : Bool) (o : Option ℕ) (k : ℕ) → ((i : ℕ) → o ≡ Some i → i < k) → (i : ℕ)
    → index_behind t o ≡ Some i → i < suc k
within_step t (Some j) k h i e =
    let same : suc j ≡ i = cc in
    let lt : j < k = h j refl in
    omega arith
within_step true None k h i e =
    let same : 0 ≡ i = cc in
    omega arith
within_step false None k h i e = absurd (let wrong : ⊥ = cc in wrong)

-- the index is one of the list
pub latest_within : (n : Name) (ms : List Name) (i : ℕ) → latest_index n ms ≡ Some i
    → i < length ms
latest_within n [] i e = absurd (let wrong : ⊥ = cc in wrong)
latest_within n (m ∷ ms) i e =
    within_step (bytes_eq m n) (latest_index n ms) (length ms) (latest_within n ms) i e

pub named_within : (n : Name) (bs : List Named) (i : ℕ)
    → latest_index n (map named_name bs) ≡ Some i → i < length bs
named_within n bs i e =
    subst (λ (k : ℕ). i < k) (length-map bs named_name) (latest_within n (map named_name bs) i e)

-- ---- what is bound there

abbrev pick : Option ℕ → List (Meaning ℕ) → cat.Bound ℕ → cat.Bound ℕ
pick None ms b = b
pick (Some i) ms b = ToMeaning (get_or ms i Nothing)

argument_bound : (n : Name) (ps : List Name) (ms : List (Meaning ℕ)) (N : Names ℕ)
    → length ps ≡ length ms
    → bound_of (with_arguments ps ms N) n ≡ pick (latest_index n ps) ms (bound_of N n)
argument_bound n [] ms N same = refl
argument_bound n (p ∷ ps) [] N same = absurd (omega (arith, same))
argument_bound n (p ∷ ps) (m ∷ ms) N same =
    argument_bound n ps ms ((p, ToMeaning m) ∷ N) (omega (arith, same))
    ∙ step (latest_index n ps) (bytes_eq p n)
  where
    step : (o : Option ℕ) (t : Bool)
        → pick o ms (choice_of t (ToMeaning m) (bound_of N n))
        ≡ pick (index_behind t o) (m ∷ ms) (bound_of N n)
    step None true = refl
    step None false = refl
    step (Some i) t = refl

abbrev pick_named : Set ℕ → List Item → Names ℕ → List Named → Option ℕ → cat.Bound ℕ
    → cat.Bound ℕ
pick_named all is N bs None b = b
pick_named all is N bs (Some i) b = bound_at all is N bs i

named_bound : (all : Set ℕ) (is : List Item) (n : Name) (bs : List Named) (N : Names ℕ)
    → bound_of (with_named all is bs N) n
    ≡ pick_named all is N bs (latest_index n (map named_name bs)) (bound_of N n)
named_bound all is n [] N = refl
named_bound all is n (b ∷ bs) N =
    named_bound all is n bs ((b.name, bound_as all is N b.bound) ∷ N)
    ∙ step (latest_index n (map named_name bs)) (bytes_eq b.name n)
  where
    step : (o : Option ℕ) (t : Bool)
        → pick_named all is ((b.name, bound_as all is N b.bound) ∷ N) bs o
        (choice_of t (bound_as all is N b.bound) (bound_of N n))
        ≡ pick_named all is N (b ∷ bs) (index_behind t o) (bound_of N n)
    step None true = refl
    step None false = refl
    step (Some i) t = refl

pub bound_at_get : (all : Set ℕ) (is : List Item) (N : Names ℕ) (bs : List Named) (i : ℕ)
    (d : Named) → i < length bs
    → bound_at all is N bs i ≡ bound_as all is (with_named all is (take i bs) N) (get_or bs i d).bound
bound_at_get all is N [] i d lt = absurd (omega arith)
bound_at_get all is N (b ∷ bs) zero d lt = refl
bound_at_get all is N (b ∷ bs) (suc i) d lt =
    bound_at_get all is ((b.name, bound_as all is N b.bound) ∷ N) bs i d (omega arith)

meanings_get : (vs : List Value) (i : ℕ) (d : Value) → i < length vs
    → get_or (meanings_as vs) i Nothing ≡ meaning_as (get_or vs i d)
meanings_get [] i d lt = absurd (omega arith)
meanings_get (v ∷ vs) zero d lt = refl
meanings_get (v ∷ vs) (suc i) d lt = meanings_get vs i d (omega arith)

pub meanings_length : (vs : List Value) → length vs ≡ length (meanings_as vs)
meanings_length [] = refl
meanings_length (v ∷ vs) = ap suc (meanings_length vs)

-- ---- the names of a scope

pub argument_there : (all : Set ℕ) (is : List Item) (outer : List Named) (names : List Name)
    (vs : List Value) (n : Name) (i : ℕ) (d v : Value) → length names ≡ length vs
    → latest_index n names ≡ Some i → IsEvaluatedTo (meaning_as (get_or vs i d)) v
    → IsEvaluatedTo (of_name (bound_of (names_in all is outer names vs) n)) v
argument_there all is outer names vs n i d v same at h =
    let N : Names ℕ = with_named all is outer [] in
    let lt : i < length names = latest_within n names i at in
    let bound : bound_of (names_in all is outer names vs) n ≡ pick (latest_index n names) (meanings_as vs) (bound_of N n) = argument_bound n names (meanings_as vs) N (same ∙ meanings_length vs) in
    let there : pick (latest_index n names) (meanings_as vs) (bound_of N n) ≡ ToMeaning (get_or (meanings_as vs) i Nothing) = ap (λ (o : Option ℕ). pick o (meanings_as vs) (bound_of N n)) at in
    subst (λ (m : Meaning ℕ). IsEvaluatedTo m v)
    (sym (ap of_name (bound ∙ there) ∙ meanings_get vs i d (omega (arith, same)))) h

pub no_argument : (all : Set ℕ) (is : List Item) (outer : List Named) (names : List Name)
    (vs : List Value) (n : Name) → length names ≡ length vs → latest_index n names ≡ None
    → bound_of (with_named all is outer []) n ≡ bound_of (names_in all is outer names vs) n
no_argument all is outer names vs n same at =
    let N : Names ℕ = with_named all is outer [] in
    sym (argument_bound n names (meanings_as vs) N (same ∙ meanings_length vs)
    ∙ ap (λ (o : Option ℕ). pick o (meanings_as vs) (bound_of N n)) at)

pub not_argument : (all : Set ℕ) (is : List Item) (outer : List Named) (names : List Name)
    (vs : List Value) (n : Name) (v : Value) → length names ≡ length vs → latest_index n names ≡ None
    → IsEvaluatedTo (of_name (bound_of (with_named all is outer []) n)) v
    → IsEvaluatedTo (of_name (bound_of (names_in all is outer names vs) n)) v
not_argument all is outer names vs n v same at h =
    subst (λ (m : Meaning ℕ). IsEvaluatedTo m v) (ap of_name (no_argument all is outer names vs n same at)) h

pub argument_bound_there : (all : Set ℕ) (is : List Item) (outer : List Named) (names : List Name)
    (vs : List Value) (n : Name) (i : ℕ) → length names ≡ length vs → latest_index n names ≡ Some i
    → bound_of (names_in all is outer names vs) n ≡ ToMeaning (get_or (meanings_as vs) i Nothing)
argument_bound_there all is outer names vs n i same at =
    let N : Names ℕ = with_named all is outer [] in
    argument_bound n names (meanings_as vs) N (same ∙ meanings_length vs)
    ∙ ap (λ (o : Option ℕ). pick o (meanings_as vs) (bound_of N n)) at

pub outer_bound : (all : Set ℕ) (is : List Item) (outer : List Named) (n : Name) (i : ℕ)
    → latest_index n (map named_name outer) ≡ Some i
    → bound_of (with_named all is outer []) n ≡ bound_at all is [] outer i
outer_bound all is outer n i at =
    named_bound all is n outer []
    ∙ ap (λ (o : Option ℕ). pick_named all is [] outer o (bound_of [] n)) at

pub outer_unbound : (all : Set ℕ) (is : List Item) (outer : List Named) (n : Name)
    → latest_index n (map named_name outer) ≡ None
    → bound_of (with_named all is outer []) n ≡ bound_of [] n
outer_unbound all is outer n at =
    named_bound all is n outer []
    ∙ ap (λ (o : Option ℕ). pick_named all is [] outer o (bound_of [] n)) at

-- a function has no meaning without arguments
function_nothing : (all : Set ℕ) (N : Names ℕ) (o : Option Item)
    → of_name (function_of all N o) ≡ Nothing
function_nothing all N None = refl
function_nothing all N (Some (items.Let recursive group)) = refl
function_nothing all N (Some (items.Function name parameters body)) = refl
function_nothing all N (Some (items.Check check label)) = refl
function_nothing all N (Some (items.Flag check label)) = refl
function_nothing all N (Some (items.Show hidden shown)) = refl
function_nothing all N (Some (items.Include path)) = refl

pub outer_value_there : (all : Set ℕ) (is : List Item) (outer : List Named) (n : Name) (i : ℕ)
    (d : Named) (w v : Value) → latest_index n (map named_name outer) ≡ Some i
    → (get_or outer i d).bound ≡ bounds.Value w → IsEvaluatedTo (meaning_as w) v
    → IsEvaluatedTo (of_name (bound_of (with_named all is outer []) n)) v
outer_value_there all is outer n i d w v at is_value h =
    let lt : i < length outer = named_within n outer i at in
    subst (λ (m : Meaning ℕ). IsEvaluatedTo m v)
    (sym (ap of_name (outer_bound all is outer n i at ∙ bound_at_get all is [] outer i d lt
    ∙ ap (bound_as all is (with_named all is (take i outer) [])) is_value))) h

pub outer_function_there : (all : Set ℕ) (is : List Item) (outer : List Named) (n : Name)
    (i : ℕ) (d : Named) (k : ℕ) → latest_index n (map named_name outer) ≡ Some i
    → (get_or outer i d).bound ≡ bounds.Function k
    → IsEvaluatedTo (of_name (bound_of (with_named all is outer []) n)) values.Nothing
outer_function_there all is outer n i d k at is_function =
    let lt : i < length outer = named_within n outer i at in
    let N : Names ℕ = with_named all is (take i outer) [] in
    subst (λ (m : Meaning ℕ). IsEvaluatedTo m values.Nothing)
    (sym (ap of_name (outer_bound all is outer n i at ∙ bound_at_get all is [] outer i d lt
    ∙ ap (bound_as all is N) is_function) ∙ function_nothing all N (slice_get is k))) (tt, tt)

pub outer_nothing : (all : Set ℕ) (is : List Item) (outer : List Named) (n : Name)
    → latest_index n (map named_name outer) ≡ None
    → IsEvaluatedTo (of_name (bound_of (with_named all is outer []) n)) values.Nothing
outer_nothing all is outer n at =
    subst (λ (m : Meaning ℕ). IsEvaluatedTo m values.Nothing)
    (sym (ap of_name (outer_unbound all is outer n at))) (tt, tt)
