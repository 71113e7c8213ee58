use Rattle.std.proofs.Common.{◌≡◌, ◌≤◌, None, [], length, map, reverse, ap, sym, ◌∙◌, refl, arith}
use Rattle.std.specs.Prelude.{option_map}
use Rattle.text_values.specs.ModelValues.{term_of}
use Rattle.binding_kinds.specs.declared.kinds.Kind.TheVariants.{OfAny}
use Rattle.binding_kinds.specs.declared.scope.Entry.{Entry}
use Rattle.binding_kinds.specs.declared.scope.Binder.TheVariants as binders
use Rattle.binding_kinds.specs.Value.{entry_of}
use Rattle.binding_kinds.specs.Senses.{HasSense, HaveSenses}
use Rattle.binding_kinds.specs.Functions.{sense_of_function}
use Rattle.binding_kinds.proofs.FirstItem.{few_parameters}
use Rattle.fault_texts.specs.Search.{signed_fault_of}
use Rattle.fault_texts.proofs.Grown.{named_more, functions_more, none_of, no_parameter}
use Rattle.fault_texts.proofs.declare.declare_function.Goals as goal

pub returns-clause-names : goal.returns-clause-names
returns-clause-names c = λ ss kept none.
    let e : Entry = record { name = c.in_ok-copied.field-0; kind = OfAny; binder = binders.Applicable c.len-2.result } in
    let count : c.len-2.result ≡ length c.args.scope.now.functions.items = let n = c.len-2.ensures in let k = c.args.scope.now.functions.ok in omega (arith, n, k) in
    rw (← c.in_ok-copied.ensures) (named_more c.args.scope.now.entries.items _ e
    c.args.scope.now.functions.items ss c.len-2.result kept count
    c.in_ok-push-2.ensures.items refl refl)

pub returns-clause-functions : goal.returns-clause-functions
returns-clause-functions c = λ ss kept none.
    let ps = c.args.parameters.now in
    let fault : c.parameters_fault-fault.result ≡ None = none_of c.parameters_fault-fault.result (sym c.if-is_some.ensures) in
    let few : length ps ≤ 8 = few_parameters ps (no_parameter [] ps (sym c.parameters_fault-fault.ensures ∙ ap (option_map signed_fault_of) fault)) in
    let kept_there : HaveSenses c.deref-2.result.now ss = rw c.deref-2.ensures.value kept in
    let one : HasSense c.in_ok-function.function (sense_of_function ss (reverse (map entry_of c.args.scope.now.entries.items)) ps (term_of c.args.body.now)) = rw c.deref.ensures.value at (c.in_ok-function.ensures.kept ss kept_there few) in
    functions_more c.args.scope.now.functions.items _ ss c.in_ok-function.function _ kept
    c.in_ok-push.ensures.items one
