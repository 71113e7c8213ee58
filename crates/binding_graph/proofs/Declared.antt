-- One function more.
use Rattle.std.specs.Prelude.{slice_get, option_map}
use Rattle.std.proofs.lemmas.Option.{slice_get-map}
use Rattle.std.proofs.Common.{ℕ, ◌≡◌, ◌+◌, ◌-◌, ◌∙◌, Some, length-append, List, [], ◌∷◌, ◌++◌, length, map, reverse, refl, ap, sym, arith}
use Rattle.std.proofs.lemmas.List.{map-append, length-map, length-reverse, reverse-reverse}
use Rattle.binding_kinds.specs.declared.kinds.Kind.TheVariants.{OfAny}
use Rattle.binding_kinds.specs.declared.function.Function.{Function}
use Rattle.binding_kinds.specs.declared.scope.Entry.{Entry}
use Rattle.binding_kinds.specs.declared.scope.Binder.TheVariants as binders
use Rattle.binding_kinds.specs.declared.scope.Used.{Used}
use Rattle.text_values.specs.ModelValue.{Term}
use Rattle.binding_kinds.specs.Value.{Naming, Defined, entry_of}
use Rattle.binding_kinds.specs.Senses.{Sense, HasSense, HaveSenses}
use Rattle.binding_graph.specs.declared.resolved.ResolvedItem.{ResolvedItem}
use Rattle.binding_graph.specs.declared.resolved.Role.TheVariants as roles
use Rattle.binding_graph.specs.Usages.{Usage, usage_of, usage_of_function, usages_after, with_values, with_functions}
use Rattle.binding_graph.specs.Resolved.{IsResolvedIn}
use Rattle.binding_kinds.proofs.Scopes.{rev_push}
use Rattle.binding_kinds.proofs.Applications.{kept_long, kept_more}

pub named_more : (es new : List Entry) (e : Entry) (fs : List Function) (ss : List Sense) (n : ℕ)
    → HaveSenses fs ss → n ≡ length fs → new ≡ es ++ e ∷ [] → e.kind ≡ OfAny
    → e.binder ≡ binders.Applicable n
    → (
    let m : Naming =
    record { name = e.name; kind = OfAny; binder = binders.Applicable (length ss) } in
    reverse (map entry_of new) ≡ m ∷ reverse (map entry_of es))
named_more es new e fs ss n kept count is kind binder =
    rw (is, rev_push entry_of es e, kind, binder, count, kept_long fs ss kept) refl

pub functions_more : (fs new : List Function) (ss : List Sense) (f : Function) (s : Sense)
    → HaveSenses fs ss → new ≡ fs ++ f ∷ [] → HasSense f s → HaveSenses new (ss ++ s ∷ [])
functions_more fs new ss f s kept is one = rw is (kept_more fs ss f s kept one)

pub usages_more : (fs new : List Function) (f : Function) (u : Usage) → new ≡ fs ++ f ∷ []
    → usage_of f ≡ u → map usage_of new ≡ map usage_of fs ++ u ∷ []
usages_more fs new f u is usage = rw (is, map-append usage_of fs (f ∷ []), usage) refl

-- what it uses and applies is what its body does
pub usage_made : (us : List Usage) (names : List Naming) (f : Function) (item : ℕ)
    (ps : List (List ℕ)) (body : Term) (from : ℕ) (values : List Used) (functions : List ℕ)
    → from ≡ length names → f.item ≡ item → f.arity ≡ length ps → f.values.items ≡ values
    → f.functions.items ≡ functions
    → reverse values ≡ with_values us names ps from body []
    → reverse functions ≡ with_functions us names ps body []
    → usage_of f ≡ usage_of_function us names item ps body
usage_made us names f item ps body from values functions at number arity v a used called =
    let v_is : f.values.items ≡ reverse (with_values us names ps (length names) body []) = v ∙ (sym (reverse-reverse values) ∙ ap reverse (rw at at used)) in
    let a_is : f.functions.items ≡ reverse (with_functions us names ps body []) = a ∙ (sym (reverse-reverse functions) ∙ ap reverse called) in
    rw (number, arity, v_is, a_is) refl

pub count_names : (es : List Entry) → length (reverse (map entry_of es)) ≡ length es
count_names es = rw (length-reverse, length-map) refl

at_end : (us : List Usage) (u : Usage) → slice_get (us ++ u ∷ []) (length us) ≡ Some u
at_end [] u = refl
at_end (x ∷ us) u = at_end us u

-- what the latest function is to those who apply it
pub last_usage : (fs : List Function) (f : Function) (us : List Usage) (u : Usage)
    → Some f ≡ slice_get fs (length fs - 1) → map usage_of fs ≡ us ++ u ∷ [] → usage_of f ≡ u
last_usage fs f us u e is =
    let long : length fs ≡ length us + 1 = sym (length-map fs usage_of) ∙ (ap length is ∙ length-append us (u ∷ [])) in
    let last : length fs - 1 ≡ length us = omega (arith, long) in
    let here : slice_get (map usage_of fs) (length us) ≡ Some (usage_of f) = slice_get-map usage_of fs (length us) ∙ ap (option_map usage_of) (ap (λ (k : ℕ). slice_get fs k) (sym last) ∙ sym e) in
    let same : Some (usage_of f) ≡ Some u = sym here ∙ (ap (λ (l : List Usage). slice_get l (length us)) is ∙ at_end us u) in
    cc

-- the item of the latest function
pub function_resolved : (ss : List Sense) (us : List Usage) (names own : List Naming)
    (from item : ℕ) (n : List ℕ) (ps : List (List ℕ)) (b : Term) (fs : List Function)
    (r : ResolvedItem) → length names ≡ from
    → map usage_of fs ≡ usages_after us names item (Defined n ps b)
    → r.role ≡ roles.Silent
    → ((vs : List Usage) (u : Usage) → map usage_of fs ≡ vs ++ u ∷ []
    → r.inputs.items ≡ map (λ (v : Used). v.input) u.values)
    → ((vs : List Usage) (u : Usage) → map usage_of fs ≡ vs ++ u ∷ []
    → r.functions.items ≡ u.functions)
    → IsResolvedIn ss us names own from (Defined n ps b) r
function_resolved ss us names own from item n ps b fs r count is role inputs functions =
    let u = usage_of_function us names item ps b in (
      role,
      record {
        inputs = rw count at (inputs us u is);
        functions = functions us u is;
      },
    )
