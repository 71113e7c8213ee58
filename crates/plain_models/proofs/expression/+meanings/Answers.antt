use Rattle.std.proofs.Common.{◌≡◌, ◌+◌, ◌<◌, List, [], map, take, get_or, sym, ap, subst, ◌∙◌, arith}
use Rattle.std.specs.Prelude.{slice_get}
use Rattle.std.proofs.lemmas.Result.{IfOk-weaker}
use Rattle.text_values.specs.declared.model.Expression.{Expression}
use Rattle.text_values.specs.ModelValue.{EmptyRelation, EmptySet, Atom, Join, Mark, Not, On, Apply, gathered}
use Rattle.text_values.specs.ModelValues.{term_of}
use Rattle.text_values.proofs.Arguments.{applied_term}
use Rattle.meaning.specs.Cat.{of_infix, of_postfix, of_complement, of_identity, of_application, meaning_of, with_arguments}
use Rattle.meaning_plain.specs.Lists.{SetOf}
use Rattle.plain_models.specs.declared.value.Value.{Value}
use Rattle.plain_models.specs.declared.value.Value.TheVariants as values
use Rattle.plain_models.specs.Values.{meaning_as, IsEvaluatedTo, HaveValues}
use Rattle.plain_models.specs.Scopes.{meanings_as, function_with, function_of, with_named, bound_at, names_in, named_name, latest_index}
use Rattle.plain_models.proofs.Joining.{read_as, empty_set, empty_relation, join_meant, mark_meant, not_meant, on_meant, meant_next, meant_whole}
use Rattle.plain_models.proofs.Latest.{named_within}
use Rattle.plain_models.proofs.Weights.{term_weight, item_weight, outer_weight, weight_take, argument_weight, body_weight, item_weighs}
use Rattle.plain_models.proofs.Applying.{value_applied, function_applied, no_function, other_applied, item_applied, wrong_applied, right_applied, none_before, application_meant, no_application}
use Rattle.plain_models.proofs.expression.+meanings.Goals as goal

-- ---- arguments

pub meant_all-loop-argument-init : goal.meant_all-loop-argument-init
meant_all-loop-argument-init t c =
    let s = c.args.scope.now in
    let all = SetOf s.all.now in
    let N = names_in all s.items.now s.outer.now s.names.now s.values.now in
    subst (λ (l : List Value). HaveValues all N [] l) (sym c.new-values.ensures.items) tt

pub meant_all-loop-argument-preserved : goal.meant_all-loop-argument-preserved
meant_all-loop-argument-preserved t c =
    let s = c.args.scope.now in
    let all = SetOf s.all.now in
    let N = names_in all s.items.now s.outer.now s.names.now s.values.now in
    meant_next all N c.args.arguments.now c.loop-argument.argument-index c.argument-item.result
    c.loop-argument.values.items c.push.new.self.items c.in_ok-value.value (omega arith)
    c.loop-argument.invariant
    (subst (λ (x : Expression). IsEvaluatedTo (meaning_of all N (term_of x)) c.in_ok-value.value)
    c.argument-item.is c.in_ok-value.ensures) c.in_ok-push.ensures.items

pub meant_all-returns : goal.meant_all-returns
meant_all-returns t c =
    let s = c.args.scope.now in
    let all = SetOf s.all.now in
    let N = names_in all s.items.now s.outer.now s.names.now s.values.now in
    meant_whole all N c.args.arguments.now c.loop-argument.argument-index
    c.loop-argument.values.items (omega arith) c.loop-argument.invariant

-- ---- expressions

pub meant-returns-in-Named : goal.meant-returns-in-Named
meant-returns-in-Named t c =
    let is : term_of c.args.expression.now ≡ Atom c.in-Named.name = ap term_of c.in-Named.is in
    rw is c.value_of.ensures

pub meant-returns-in-NoPairs : goal.meant-returns-in-NoPairs
meant-returns-in-NoPairs t c =
    let s = c.args.scope.now in
    let all = SetOf s.all.now in
    let N = names_in all s.items.now s.outer.now s.names.now s.values.now in
    let e = term_of c.args.expression.now in
    read_as all N e EmptyRelation (values.Relation c.new-pairs.result) (ap term_of c.in-NoPairs.is)
    (empty_relation c.new-pairs.result c.new-pairs.ensures.items)

pub meant-returns-in-NoEvents : goal.meant-returns-in-NoEvents
meant-returns-in-NoEvents t c =
    let s = c.args.scope.now in
    let all = SetOf s.all.now in
    let N = names_in all s.items.now s.outer.now s.names.now s.values.now in
    let e = term_of c.args.expression.now in
    read_as all N e EmptySet (values.Set c.new-events.result) (ap term_of c.in-NoEvents.is)
    (empty_set c.new-events.result c.new-events.ensures.items)

pub meant-returns-in-Joined : goal.meant-returns-in-Joined
meant-returns-in-Joined t c =
    let s = c.args.scope.now in
    let all = SetOf s.all.now in
    let N = names_in all s.items.now s.outer.now s.names.now s.values.now in
    let e = term_of c.args.expression.now in
    let a = term_of c.deref.result.now in
    let b = term_of c.deref-in-Joined.result.now in
    let op = c.in-Joined.op in
    let first = c.in_ok-first-in-Joined.first in
    let second = c.in_ok-second-in-Joined.second in
    let is : term_of c.args.expression.now ≡ Join c.in-Joined.op (term_of c.deref.result.now) (term_of c.deref-in-Joined.result.now) = let h = ap term_of c.in-Joined.is in let d = c.deref.ensures in let k = c.deref-in-Joined.ensures in cc in
    IfOk-weaker c.joined.result
    (λ (v : Value). IsEvaluatedTo (of_infix op (meaning_as first) (meaning_as second)) v)
    (λ (v : Value). IsEvaluatedTo (meaning_of all N e) v)
    (λ v h. read_as all N e (Join op a b) v is
    (join_meant all N op a b first second v c.in_ok-first-in-Joined.ensures c.in_ok-second-in-Joined.ensures h))
    c.joined.ensures

pub meant-returns-in-Marked : goal.meant-returns-in-Marked
meant-returns-in-Marked t c =
    let s = c.args.scope.now in
    let all = SetOf s.all.now in
    let N = names_in all s.items.now s.outer.now s.names.now s.values.now in
    let e = term_of c.args.expression.now in
    let a = term_of c.deref-in-Marked.result.now in
    let value = c.in_ok-value-in-Marked.value in
    let is : term_of c.args.expression.now ≡ Mark c.in-Marked.op (term_of c.deref-in-Marked.result.now) = let h = ap term_of c.in-Marked.is in let d = c.deref-in-Marked.ensures in cc in
    IfOk-weaker c.marked.result (λ (v : Value). IsEvaluatedTo (of_postfix all c.in-Marked.op (meaning_as c.in_ok-value-in-Marked.value)) v)
    (λ (v : Value). IsEvaluatedTo (meaning_of all N e) v)
    (λ v h. read_as all N e (Mark c.in-Marked.op a) v is
    (mark_meant all N c.in-Marked.op a value v c.in_ok-value-in-Marked.ensures h))
    c.marked.ensures

pub meant-returns-in-Complement : goal.meant-returns-in-Complement
meant-returns-in-Complement t c =
    let s = c.args.scope.now in
    let all = SetOf s.all.now in
    let N = names_in all s.items.now s.outer.now s.names.now s.values.now in
    let e = term_of c.args.expression.now in
    let a = term_of c.deref-in-Complement.result.now in
    let value = c.in_ok-value-in-Complement.value in
    let is : term_of c.args.expression.now ≡ Not (term_of c.deref-in-Complement.result.now) = let h = ap term_of c.in-Complement.is in let d = c.deref-in-Complement.ensures in cc in
    IfOk-weaker c.complement.result (λ (v : Value). IsEvaluatedTo (of_complement all (meaning_as c.in_ok-value-in-Complement.value)) v)
    (λ (v : Value). IsEvaluatedTo (meaning_of all N e) v)
    (λ v h. read_as all N e (Not a) v is
    (not_meant all N a value v c.in_ok-value-in-Complement.ensures h))
    c.complement.ensures

pub meant-returns-in-Identity : goal.meant-returns-in-Identity
meant-returns-in-Identity t c =
    let s = c.args.scope.now in
    let all = SetOf s.all.now in
    let N = names_in all s.items.now s.outer.now s.names.now s.values.now in
    let e = term_of c.args.expression.now in
    let a = term_of c.deref-in-Identity.result.now in
    let value = c.in_ok-value-in-Identity.value in
    let is : term_of c.args.expression.now ≡ On (term_of c.deref-in-Identity.result.now) = let h = ap term_of c.in-Identity.is in let d = c.deref-in-Identity.ensures in cc in
    IfOk-weaker c.identity.result (λ (v : Value). IsEvaluatedTo (of_identity (meaning_as c.in_ok-value-in-Identity.value)) v)
    (λ (v : Value). IsEvaluatedTo (meaning_of all N e) v)
    (λ v h. read_as all N e (On a) v is
    (on_meant all N a value v c.in_ok-value-in-Identity.ensures h))
    c.identity.ensures

-- ---- applications

pub applied-returns-in-Value : goal.applied-returns-in-Value
applied-returns-in-Value t c =
    let s = c.args.scope.now in
    value_applied (SetOf s.all.now) s.items.now s.outer.now c.args.index c.index-scope-index.result
    c.in-Value.field-0 c.args.values.now c.requires c.in-Value.is

pub applied-returns-in-Function : goal.applied-returns-in-Function
applied-returns-in-Function t c =
    let s = c.args.scope.now in
    let all = SetOf s.all.now in
    let N = with_named all s.items.now (take c.args.index s.outer.now) [] in
    IfOk-weaker c.applied_item.result
    (λ (v : Value). IsEvaluatedTo (of_application (function_of all N (slice_get s.items.now c.in-Function.item)) (meanings_as c.args.values.now)) v)
    (λ (v : Value). IsEvaluatedTo (of_application (bound_at all s.items.now [] s.outer.now c.args.index) (meanings_as c.args.values.now)) v)
    (λ v h. function_applied all s.items.now s.outer.now c.args.index c.index-scope-index.result
    c.in-Function.item c.args.values.now v c.requires c.in-Function.is h) c.applied_item.ensures

pub applied_item-returns-in_default : goal.applied_item-returns-in_default
applied_item-returns-in_default t c =
    let s = c.args.scope.now in
    let all = SetOf s.all.now in
    other_applied all (with_named all s.items.now (take c.args.index s.outer.now) []) s.items.now
    c.args.item c.index-scope-item.result c.args.values.now (omega arith)
    (no_function (get_or s.items.now c.args.item c.index-scope-item.result) c.in_default.not-Function)

pub applied_item-returns-in-Function : goal.applied_item-returns-in-Function
applied_item-returns-in-Function t c =
    let s = c.args.scope.now in
    let all = SetOf s.all.now in
    let N = with_named all s.items.now (take c.args.index s.outer.now) [] in
    let ns = c.deref.result.now in
    let body = c.in-Function.body in
    IfOk-weaker c.applied_body.result
    (λ (v : Value). IsEvaluatedTo (of_application (function_with all N ns (term_of body)) (meanings_as c.args.values.now)) v)
    (λ (v : Value). IsEvaluatedTo (of_application (function_of all N (slice_get s.items.now c.args.item)) (meanings_as c.args.values.now)) v)
    (λ v h. item_applied all N s.items.now c.args.item c.index-scope-item.result c.in-Function.name
    c.in-Function.parameters body ns c.args.values.now v (omega arith) c.in-Function.is
    c.deref.ensures.value h) c.applied_body.ensures

pub applied_body-returns-then-parameters-values : goal.applied_body-returns-then-parameters-values
applied_body-returns-then-parameters-values t c =
    let s = c.args.scope.now in
    let all = SetOf s.all.now in
    wrong_applied all (with_named all s.items.now (take c.args.index s.outer.now) [])
    c.args.parameters.now (term_of c.args.body.now) c.args.values.now
    c.if-parameters-values.true

pub applied_body-returns : goal.applied_body-returns
applied_body-returns t c =
    let s = c.args.scope.now in
    let all = SetOf s.all.now in
    let N = with_named all s.items.now (take c.args.index s.outer.now) [] in
    let ps = c.args.parameters.now in
    let e = term_of c.args.body.now in
    IfOk-weaker c.meant.result
    (λ (v : Value). IsEvaluatedTo (meaning_of all (with_arguments ps (meanings_as c.args.values.now) N) e) v)
    (λ (v : Value). IsEvaluatedTo (of_application (function_with all N ps e) (meanings_as c.args.values.now)) v)
    (λ v h. right_applied all N ps e c.args.values.now v c.if-parameters-values.false h) c.meant.ensures

pub meant-returns-in-Some : goal.meant-returns-in-Some
meant-returns-in-Some t c =
    let s = c.args.scope.now in
    let all = SetOf s.all.now in
    let N = names_in all s.items.now s.outer.now s.names.now s.values.now in
    let e = term_of c.args.expression.now in
    let n = c.in-Applied.name in
    let ts = map term_of c.deref-in-Applied.result.now in
    let is : term_of c.args.expression.now ≡ Apply c.in-Applied.name (gathered (map term_of c.deref-in-Applied.result.now)) =
    ap term_of c.in-Applied.is
    ∙ (applied_term c.in-Applied.name c.in-Applied.arguments
    ∙ ap (λ (l : List Expression). Apply c.in-Applied.name (gathered (map term_of l)))
    (sym c.deref-in-Applied.ensures.value)) in
    let ws = c.deref-in-Some.result.now in
    IfOk-weaker c.applied.result
    (λ (v : Value). IsEvaluatedTo (of_application (bound_at all s.items.now [] s.outer.now c.in-Some.index) (meanings_as ws)) v)
    (λ (v : Value). IsEvaluatedTo (meaning_of all N e) v)
    (λ v h. read_as all N e (Apply n (gathered ts)) v is
    (application_meant all s.items.now s.outer.now s.names.now s.values.now n c.in-Some.index ts ws v
    c.requires (sym c.in-Some.ensures)
    (subst (λ (l : List Value). HaveValues all N ts l) (sym c.deref-in-Some.ensures.value) c.in_ok-values-in-Applied.ensures)
    h)) c.applied.ensures

pub meant-returns : goal.meant-returns
meant-returns t c =
    let s = c.args.scope.now in
    let all = SetOf s.all.now in
    let N = names_in all s.items.now s.outer.now s.names.now s.values.now in
    let e = term_of c.args.expression.now in
    let n = c.in-Applied.name in
    let is : term_of c.args.expression.now ≡ Apply c.in-Applied.name (gathered (map term_of c.deref-in-Applied.result.now)) =
    ap term_of c.in-Applied.is
    ∙ (applied_term c.in-Applied.name c.in-Applied.arguments
    ∙ ap (λ (l : List Expression). Apply c.in-Applied.name (gathered (map term_of l)))
    (sym c.deref-in-Applied.ensures.value)) in
    read_as all N e (Apply n (gathered (map term_of c.deref-in-Applied.result.now))) values.Nothing is
    (no_application all s.items.now s.outer.now s.names.now s.values.now n
    (gathered (map term_of c.deref-in-Applied.result.now)) c.requires (sym c.in-None.ensures))

-- ---- less is left

pub meant_all-meant-requires : goal.meant_all-meant-requires
meant_all-meant-requires t c =
    let es = c.args.arguments.now in
    let i = c.loop-argument.argument-index in
    let d = c.argument-item.result in
    let same : term_weight (term_of d) ≡ term_weight (term_of (get_or es i d)) = ap (λ (x : Expression). term_weight (term_of x)) c.argument-item.is in
    (omega (arith, c.decreases, same, argument_weight es i d c.loop-argument-test.true), c.requires)

pub meant-meant_all-requires : goal.meant-meant_all-requires
meant-meant_all-requires t c =
    let is : term_of c.args.expression.now ≡ Apply c.in-Applied.name (gathered (map term_of c.deref-in-Applied.result.now)) =
    ap term_of c.in-Applied.is
    ∙ (applied_term c.in-Applied.name c.in-Applied.arguments
    ∙ ap (λ (l : List Expression). Apply c.in-Applied.name (gathered (map term_of l)))
    (sym c.deref-in-Applied.ensures.value)) in
    (omega (arith, c.decreases, ap term_weight is), c.requires)

pub meant-applied-requires : goal.meant-applied-requires
meant-applied-requires t c =
    let s = c.args.scope.now in
    let n = c.in-Applied.name in
    let index = c.in-Some.index in
    let is : term_of c.args.expression.now ≡ Apply c.in-Applied.name (gathered (map term_of c.deref-in-Applied.result.now)) =
    ap term_of c.in-Applied.is
    ∙ (applied_term c.in-Applied.name c.in-Applied.arguments
    ∙ ap (λ (l : List Expression). Apply c.in-Applied.name (gathered (map term_of l)))
    (sym c.deref-in-Applied.ensures.value)) in (
      omega (arith, c.decreases, ap term_weight is, weight_take s.items.now s.outer.now (index + 1)),
      named_within n s.outer.now index
          (none_before (latest_index n s.names.now) (latest_index n (map named_name s.outer.now)) index (sym c.in-Some.ensures)).1,
    )

pub applied-applied_item-requires : goal.applied-applied_item-requires
applied-applied_item-requires t c =
    let s = c.args.scope.now in
    let weight : 2 + item_weight (slice_get c.args.scope.now.items.now c.in-Function.item) + outer_weight c.args.scope.now.items.now (take c.args.index c.args.scope.now.outer.now) < outer_weight c.args.scope.now.items.now (take (c.args.index + 1) c.args.scope.now.outer.now) = body_weight s.items.now s.outer.now c.args.index c.index-scope-index.result c.in-Function.item c.requires c.in-Function.is in
    (omega (arith, c.decreases, weight), omega arith)

pub applied_item-applied_body-requires : goal.applied_item-applied_body-requires
applied_item-applied_body-requires t c =
    let s = c.args.scope.now in
    let weight : item_weight (slice_get c.args.scope.now.items.now c.args.item) ≡ term_weight (term_of c.in-Function.body) = item_weighs s.items.now c.args.item c.index-scope-item.result c.in-Function.name c.in-Function.parameters c.in-Function.body (omega arith) c.in-Function.is in
    (omega (arith, c.decreases, weight), c.requires)

pub applied_body-meant-requires : goal.applied_body-meant-requires
applied_body-meant-requires t c = (omega (arith, c.decreases), c.if-parameters-values.false)
