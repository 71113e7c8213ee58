-- The bodies of a group so far.
use Rattle.std.proofs.Common.{ℕ, Bool, false, Option, Some, None, refl, ◌≡◌, ◌≤◌, ◌<◌, ◌+◌, List, [], ◌∷◌, ◌++◌, length, map, reverse, drop, take, get_or, sym, ◌∙◌, add-one, append_assoc, ap}
use Rattle.std.proofs.Math.Seq.{drop-cons}
use Rattle.std.proofs.lemmas.List.{drop_all, take_all, map_more, append-nil, reverse-reverse}
use Rattle.text_values.specs.declared.model.Binding.{Binding}
use Rattle.text_values.specs.ModelValues.{term_of}
use Rattle.binding_kinds.specs.declared.fault.ModelFault.{ModelFault}
use Rattle.binding_kinds.specs.declared.scope.Used.{Used}
use Rattle.binding_kinds.specs.declared.scope.Input.{Input}
use Rattle.binding_kinds.specs.Value.{Naming, Bound, bound_value_of}
use Rattle.binding_kinds.specs.GroupNames.{let_names}
use Rattle.binding_kinds.specs.Verdict.{or_else}
use Rattle.binding_kinds.specs.Senses.{Sense, kind_in, term_fault}
use Rattle.binding_kinds.specs.First.{let_fault, first_in}
use Rattle.binding_kinds.proofs.Applications.{or_else_assoc}
use Rattle.binding_kinds.proofs.Scopes.{rev_more}
use Rattle.binding_graph.specs.declared.resolved.Body.{Body}
use Rattle.binding_graph.specs.declared.uses.Uses.{Uses}
use Rattle.binding_graph.specs.Inputs.{inputs_of}
use Rattle.binding_graph.specs.Usages.{Usage, with_values, with_functions, with_all_values, with_all_functions}
use Rattle.binding_graph.specs.Meaning.{IsCode}
use Rattle.binding_graph.specs.Readings.{AreGrown, AreNamed}
use Rattle.binding_graph.specs.Resolved.{AreBodies}
use Rattle.binding_graph.proofs.Labels.{zip_push}
use Rattle.binding_graph.proofs.Walks.{noted_none, noted_then}

-- ---- the first fault

-- before the binding at that index: what is left to look through
abbrev pub AreFaultless : List Sense → List Naming → ℕ → Bool → List Binding → ℕ → Type 0
AreFaultless ss names from recursive g i =
    first_in ss names from recursive [] (map bound_value_of g)
    ≡ first_in ss names from recursive (let_names (take i g)) (map bound_value_of (drop i g))

faults_next : (ss : List Sense) (names : List Naming) (from : ℕ) (recursive : Bool)
    (g : List Binding) (i : ℕ) (d : Binding) (own body r : Option ModelFault) → i < length g
    → AreFaultless ss names from recursive g i
    → own ≡ let_fault ss names recursive (let_names (take i g)) (bound_value_of (get_or g i d))
    → body ≡ term_fault ss names from false (term_of (get_or g i d).body)
    → or_else own body ≡ r
    → first_in ss names from recursive [] (map bound_value_of g)
    ≡ or_else r (first_in ss names from recursive (let_names (take (i + 1) g))
    (map bound_value_of (drop (i + 1) g)))
faults_next ss names from recursive g i d own body r lt inv own_is body_is both =
    let rest = first_in ss names from recursive (let_names (take (i + 1) g)) (map bound_value_of (drop (i + 1) g)) in
    let e : first_in ss names from recursive (let_names (take i g)) (map bound_value_of (drop i g)) ≡ or_else own (or_else body rest) = rw (drop-cons g i d lt, rev_more (λ (b : Binding). b.name) g i d lt, own_is, body_is, add-one i) refl in
    inv
    ∙ (e
    ∙ (sym (or_else_assoc own body rest)
    ∙ ap (λ (o : Option ModelFault). or_else o rest) both))

pub faultless_more : (ss : List Sense) (names : List Naming) (from : ℕ) (recursive : Bool)
    (g : List Binding) (i : ℕ) (d : Binding) (own body : Option ModelFault) → i < length g
    → AreFaultless ss names from recursive g i
    → own ≡ let_fault ss names recursive (let_names (take i g)) (bound_value_of (get_or g i d))
    → body ≡ term_fault ss names from false (term_of (get_or g i d).body)
    → or_else own body ≡ None → AreFaultless ss names from recursive g (i + 1)
faultless_more ss names from recursive g i d own body lt inv own_is body_is none =
    faults_next ss names from recursive g i d own body None lt inv own_is body_is none

pub faulty : (ss : List Sense) (names : List Naming) (from : ℕ) (recursive : Bool)
    (g : List Binding) (i : ℕ) (d : Binding) (own body : Option ModelFault) (k : ModelFault)
    → i < length g → AreFaultless ss names from recursive g i
    → own ≡ let_fault ss names recursive (let_names (take i g)) (bound_value_of (get_or g i d))
    → body ≡ term_fault ss names from false (term_of (get_or g i d).body)
    → or_else own body ≡ Some k → Some k ≡ first_in ss names from recursive [] (map bound_value_of g)
faulty ss names from recursive g i d own body k lt inv own_is body_is one =
    sym (faults_next ss names from recursive g i d own body (Some k) lt inv own_is body_is one)

pub faultless_all : (ss : List Sense) (names : List Naming) (from : ℕ) (recursive : Bool)
    (g : List Binding) (i : ℕ) → length g ≤ i → AreFaultless ss names from recursive g i
    → None ≡ first_in ss names from recursive [] (map bound_value_of g)
faultless_all ss names from recursive g i past inv =
    sym (inv
    ∙ ap
    (λ (l : List Binding).
    first_in ss names from recursive (let_names (take i g)) (map bound_value_of l))
    (drop_all i g past))

-- ---- the names and the kinds

-- before the binding at that index
abbrev pub AreNamedTo : List Sense → List Naming → List Binding → ℕ → List Body → Type 0
AreNamedTo ss names g i made = AreNamed ss names (map bound_value_of (take i g)) made

pub named_more : (ss : List Sense) (names : List Naming) (g : List Binding) (i : ℕ) (d : Binding)
    (made all : List Body) (r : Body) → i < length g → AreNamedTo ss names g i made
    → all ≡ made ++ r ∷ [] → r.name ≡ (get_or g i d).name
    → r.code.kind ≡ kind_in ss names (term_of (get_or g i d).body)
    → AreNamedTo ss names g (i + 1) all
named_more ss names g i d made all r lt inv is name kind =
    rw (is, map_more bound_value_of g i d lt) (zip_push
    (λ (b : Bound) (x : Body). (x.name ≡ b.name) × (x.code.kind ≡ kind_in ss names b.body))
    (map bound_value_of (take i g)) made (bound_value_of (get_or g i d)) r inv (name, kind))

pub named_all : (ss : List Sense) (names : List Naming) (g : List Binding) (i : ℕ)
    (made : List Body) → length g ≤ i → AreNamedTo ss names g i made
    → AreNamed ss names (map bound_value_of g) made
named_all ss names g i made past inv = rw (take_all i g past) at inv

-- ---- the steps

-- before the binding at that index: the bodies so far,
abbrev pub AreMade : List Sense → List Usage → List Naming → ℕ → Uses → Uses → List Binding → ℕ
    → List Body → Type 0
AreMade ss us names from old now g i made =
    (rs : List Body)
    → AreBodies ss us names from (reverse now.values.items) (map bound_value_of (drop i g)) rs
    → AreBodies ss us names from (reverse old.values.items) (map bound_value_of g) (made ++ rs)

-- and what is used
abbrev pub AreUsed : List Usage → List Naming → ℕ → Uses → Uses → List Binding → ℕ → Type 0
AreUsed us names from old now g i =
    (new : Uses)
    → AreGrown (with_all_values us names from (map bound_value_of (drop i g)))
    (with_all_functions us names (map bound_value_of (drop i g))) now new
    → AreGrown (with_all_values us names from (map bound_value_of g))
    (with_all_functions us names (map bound_value_of g)) old new

pub made_more : (ss : List Sense) (us : List Usage) (names : List Naming) (from : ℕ)
    (old now new : Uses) (g : List Binding) (i : ℕ) (d : Binding) (made all : List Body)
    (r : Body) → i < length g → AreMade ss us names from old now g i made
    → all ≡ made ++ r ∷ [] → r.name ≡ (get_or g i d).name
    → IsCode ss names (reverse new.values.items) from (term_of (get_or g i d).body) r.code
    → reverse new.values.items
    ≡ with_values us names [] from (term_of (get_or g i d).body) (reverse now.values.items)
    → AreMade ss us names from old new g (i + 1) all
made_more ss us names from old now new g i d made all r lt m is name code values = λ rs h.
    rw (is, append_assoc made (r ∷ []) rs) (m (r ∷ rs) (rw (drop-cons g i d lt)
    (name, (rw values at code), (rw (add-one i, values) at h))))

pub used_more : (us : List Usage) (names : List Naming) (from : ℕ) (old now new : Uses)
    (g : List Binding) (i : ℕ) (d : Binding) → i < length g → AreUsed us names from old now g i
    → AreGrown (with_values us names [] from (term_of (get_or g i d).body))
    (with_functions us names [] (term_of (get_or g i d).body)) now new
    → AreUsed us names from old new g (i + 1)
used_more us names from old now new g i d lt m one = λ later h.
    let b = term_of (get_or g i d).body in
    let rest = map bound_value_of (drop (i + 1) g) in
    m later (rw (drop-cons g i d lt) (rw (add-one i) at (noted_then (with_values us names [] from b)
    (with_all_values us names from rest) (with_functions us names [] b)
    (with_all_functions us names rest) now new later one h)))

-- behind the last binding
pub all_made : (ss : List Sense) (us : List Usage) (names : List Naming) (from : ℕ) (old now : Uses)
    (g : List Binding) (i : ℕ) (made : List Body) → AreMade ss us names from old now g i made
    → length g ≤ i → AreBodies ss us names from (reverse old.values.items) (map bound_value_of g) made
all_made ss us names from old now g i made m le = rw append-nil at (m [] (rw (drop_all i g le) tt))

pub all_used : (us : List Usage) (names : List Naming) (from : ℕ) (old now : Uses)
    (g : List Binding) (i : ℕ) → AreUsed us names from old now g i → length g ≤ i
    → AreGrown (with_all_values us names from (map bound_value_of g))
    (with_all_functions us names (map bound_value_of g)) old now
all_used us names from old now g i m le =
    m now (rw (drop_all i g le) (noted_none _ _ now (λ vs. refl) (λ fs. refl)))

-- what was used at the end, as inputs
inputs_are : (us : List Used) → map (λ (u : Used). u.input) us ≡ inputs_of (reverse us)
inputs_are us = ap (map (λ (u : Used). u.input)) (sym (reverse-reverse us))

pub inputs_made : (new ds : List Used) (ins : List Input) (vs : List Used) → reverse new ≡ vs
    → ds ≡ new → ins ≡ map (λ (u : Used). u.input) ds → ins ≡ inputs_of vs
inputs_made new ds ins vs u d i = rw (i, d) (inputs_are new ∙ ap inputs_of u)

pub functions_made : (new fs vs : List ℕ) → reverse new ≡ vs → fs ≡ new → fs ≡ reverse vs
functions_made new fs vs u f = f ∙ (sym (reverse-reverse new) ∙ ap reverse u)
