use Rattle.std.proofs.Common.{◌<◌, [], length, get_or, sym, arith}
use Rattle.std.proofs.lemmas.Result.{IfOk-weaker}
use Rattle.meaning.specs.Cat.{of_name, bound_of}
use Rattle.meaning_plain.specs.Lists.{SetOf}
use Rattle.plain_models.specs.declared.value.Value.{Value}
use Rattle.plain_models.specs.Values.{meaning_as, IsEvaluatedTo}
use Rattle.plain_models.specs.Scopes.{with_named, names_in}
use Rattle.plain_models.proofs.Latest.{latest_within, argument_there, not_argument}
use Rattle.plain_models.proofs.scope.value_of.Goals as goal

pub offset_bounds-scope-index : goal.offset_bounds-scope-index
offset_bounds-scope-index c =
    let lt : c.in-Some.index < length c.args.scope.now.names.now = latest_within c.args.name.now c.args.scope.now.names.now c.in-Some.index (sym c.in-Some.ensures) in
    omega arith

pub bounds-scope-index : goal.bounds-scope-index
bounds-scope-index c =
    let lt : c.in-Some.index < length c.args.scope.now.names.now = latest_within c.args.name.now c.args.scope.now.names.now c.in-Some.index (sym c.in-Some.ensures) in
    omega arith

pub returns-in-Some : goal.returns-in-Some
returns-in-Some c =
    let s = c.args.scope.now in
    let name = c.args.name.now in
    let value = c.index-scope-index.result in
    IfOk-weaker c.copied.result
    (λ (v : Value). IsEvaluatedTo (meaning_as (get_or s.values.now c.in-Some.index value)) v)
    (λ (v : Value). IsEvaluatedTo (of_name (bound_of (names_in (SetOf s.all.now) s.items.now s.outer.now s.names.now s.values.now) name)) v)
    (λ v h. argument_there (SetOf s.all.now) s.items.now s.outer.now s.names.now s.values.now name
    c.in-Some.index value v c.requires (sym c.in-Some.ensures) h) c.copied.ensures

pub returns-in-None : goal.returns-in-None
returns-in-None c =
    let s = c.args.scope.now in
    let name = c.args.name.now in
    IfOk-weaker c.outer_value.result
    (λ (v : Value). IsEvaluatedTo (of_name (bound_of (with_named (SetOf s.all.now) s.items.now s.outer.now []) name)) v)
    (λ (v : Value). IsEvaluatedTo (of_name (bound_of (names_in (SetOf s.all.now) s.items.now s.outer.now s.names.now s.values.now) name)) v)
    (λ v h. not_argument (SetOf s.all.now) s.items.now s.outer.now s.names.now s.values.now name v
    c.requires (sym c.in-None.ensures) h) c.outer_value.ensures
