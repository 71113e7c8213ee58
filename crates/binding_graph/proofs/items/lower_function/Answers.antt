use Rattle.std.proofs.Common.{◌≡◌, ◌-◌, ◌∙◌, Some, ap, length, map, subst, List}
use Rattle.std.specs.Prelude.{slice_get}
use Rattle.binding_kinds.specs.declared.function.Function.{Function}
use Rattle.binding_kinds.specs.declared.scope.Used.{Used}
use Rattle.binding_graph.specs.Usages.{Usage}
use Rattle.binding_graph.proofs.Declared.{last_usage}
use Rattle.binding_graph.proofs.items.lower_function.Goals as goal

pub returns-in_ok-inputs-in-Some-clause-inputs : goal.returns-in_ok-inputs-in-Some-clause-inputs
returns-in_ok-inputs-in-Some-clause-inputs c = λ us u is.
    let f = c.in-Some.function.now in
    let here : Some f ≡ slice_get c.args.scope.now.functions.items (length c.args.scope.now.functions.items - 1) = subst (λ (l : List Function). Some f ≡ slice_get l (length l - 1)) c.deref.ensures.value c.in-Some.ensures.value in
    let same = last_usage c.args.scope.now.functions.items f us u here is in
    c.in_ok-inputs-in-Some.ensures.inputs
    ∙ (ap (map (λ (v : Used). v.input)) c.deref-in-Some.ensures.value
    ∙ ap (λ (w : Usage). map (λ (v : Used). v.input) w.values) same)

pub returns-in_ok-inputs-in-Some-clause-functions : goal.returns-in_ok-inputs-in-Some-clause-functions
returns-in_ok-inputs-in-Some-clause-functions c = λ us u is.
    let f = c.in-Some.function.now in
    let here : Some f ≡ slice_get c.args.scope.now.functions.items (length c.args.scope.now.functions.items - 1) = subst (λ (l : List Function). Some f ≡ slice_get l (length l - 1)) c.deref.ensures.value c.in-Some.ensures.value in
    let same = last_usage c.args.scope.now.functions.items f us u here is in
    c.in_ok-inputs-in-Some.ensures.functions
    ∙ (c.deref-in-Some-2.ensures.value ∙ ap (λ (w : Usage). w.functions) same)
