use Rattle.std.proofs.Common.{◌<◌, [], length, sym, arith}
use Rattle.std.proofs.lemmas.Result.{IfOk-weaker}
use Rattle.meaning.specs.Cat.{of_name, bound_of}
use Rattle.meaning_plain.specs.Lists.{SetOf}
use Rattle.plain_models.specs.declared.value.Value.{Value}
use Rattle.plain_models.specs.Values.{meaning_as, IsEvaluatedTo}
use Rattle.plain_models.specs.Scopes.{with_named}
use Rattle.plain_models.proofs.Latest.{named_within, outer_value_there, outer_function_there, outer_nothing}
use Rattle.plain_models.proofs.scope.outer_value.Goals as goal

pub offset_bounds-scope-index : goal.offset_bounds-scope-index
offset_bounds-scope-index c =
    let lt : c.in-Some.index < length c.args.scope.now.outer.now = named_within c.args.name.now c.args.scope.now.outer.now c.in-Some.index (sym c.in-Some.ensures) in
    omega arith

pub bounds-scope-index : goal.bounds-scope-index
bounds-scope-index c =
    named_within c.args.name.now c.args.scope.now.outer.now c.in-Some.index (sym c.in-Some.ensures)

pub returns-in-Value : goal.returns-in-Value
returns-in-Value c =
    let s = c.args.scope.now in
    let name = c.args.name.now in
    let one = c.index-scope-index.result in
    IfOk-weaker c.copied.result (λ (v : Value). IsEvaluatedTo (meaning_as c.in-Value.value) v)
    (λ (v : Value). IsEvaluatedTo (of_name (bound_of (with_named (SetOf s.all.now) s.items.now s.outer.now []) name)) v)
    (λ v h. outer_value_there (SetOf s.all.now) s.items.now s.outer.now name c.in-Some.index one
    c.in-Value.value v (sym c.in-Some.ensures)
    c.in-Value.is h) c.copied.ensures

pub returns-in-Function : goal.returns-in-Function
returns-in-Function c =
    let s = c.args.scope.now in
    outer_function_there (SetOf s.all.now) s.items.now s.outer.now c.args.name.now c.in-Some.index
    c.index-scope-index.result c.in-Function.field-0 (sym c.in-Some.ensures)
    c.in-Function.is

pub returns-in-None : goal.returns-in-None
returns-in-None c =
    let s = c.args.scope.now in
    outer_nothing (SetOf s.all.now) s.items.now s.outer.now c.args.name.now (sym c.in-None.ensures)
