use Rattle.std.proofs.Common.{◌≡◌, ◌≤◌, None, length, map, reverse, sym, ◌∙◌, refl, arith}
use Rattle.text_values.specs.ModelValues.{term_of}
use Rattle.binding_kinds.specs.declared.kinds.Kind.TheVariants.{OfAny}
use Rattle.binding_kinds.specs.declared.scope.Entry.{Entry}
use Rattle.binding_kinds.specs.declared.scope.Binder.TheVariants as binders
use Rattle.binding_kinds.specs.Value.{entry_of}
use Rattle.binding_kinds.specs.Senses.{HasSense, HaveSenses}
use Rattle.binding_kinds.specs.Functions.{sense_of_function}
use Rattle.binding_kinds.proofs.FirstItem.{few_parameters}
use Rattle.binding_graph.proofs.Declared.{named_more, functions_more, usages_more, count_names}
use Rattle.binding_graph.proofs.Done.{none_of}
use Rattle.binding_graph.proofs.declare.declare_function.Goals as goal

pub returns-clause-names : goal.returns-clause-names
returns-clause-names c = λ ss kept none.
    let fs = c.args.scope.now.functions.items in
    let e : Entry = record { name = c.args.name.now; kind = OfAny; binder = binders.Applicable (length fs) } in
    named_more c.args.scope.now.entries.items _ e fs ss (length fs) kept refl
    c.in_ok-add_function.ensures.entries refl refl

pub returns-clause-functions : goal.returns-clause-functions
returns-clause-functions c = λ ss kept none.
    let ps = c.args.parameters.now in
    let fault : c.parameter_fault-fault.result ≡ None = none_of c.parameter_fault-fault.result (sym c.if-is_some.ensures) in
    let few : length ps ≤ 8 = few_parameters ps (sym c.parameter_fault-fault.ensures ∙ fault) in
    let kept_there : HaveSenses c.deref-2.result.now ss = rw c.deref-2.ensures.value kept in
    let one : HasSense c.in_ok-function.field-0.function (sense_of_function ss (reverse (map entry_of c.args.scope.now.entries.items)) ps (term_of c.args.body.now)) = rw c.deref.ensures.value at (c.in_ok-function.ensures.kept ss kept_there few) in
    functions_more c.args.scope.now.functions.items _ ss c.in_ok-function.field-0.function _ kept
    c.in_ok-add_function.ensures.functions one

pub returns-clause-usages : goal.returns-clause-usages
returns-clause-usages c = λ none.
    let es = c.args.scope.now.entries.items in
    let from : c.len.result ≡ length (reverse (map entry_of c.deref.result.now)) = let n = c.len.ensures in let k = c.args.scope.now.entries.ok in rw (c.deref.ensures.value, count_names es) (omega (arith, n, k)) in
    let usage = rw (c.deref.ensures.value, c.deref-2.ensures.value) at (c.in_ok-function.ensures.usage from) in
    usages_more c.args.scope.now.functions.items _ c.in_ok-function.field-0.function _
    c.in_ok-add_function.ensures.functions usage
