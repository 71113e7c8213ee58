use Rattle.std.proofs.Common.{List, [], sym, subst, arith}
use Rattle.text_values.specs.declared.model.Binding as code_binding
use Rattle.text_values.specs.ModelValues.{term_of}
use Rattle.meaning.specs.Cat.{meaning_of}
use Rattle.meaning_plain.specs.Lists.{SetOf}
use Rattle.plain_models.specs.declared.value.Value.{Value}
use Rattle.plain_models.specs.Values.{IsEvaluatedTo, HaveValues}
use Rattle.plain_models.specs.Scopes.{names_in}
use Rattle.plain_models.proofs.Stepping.{body_next, bodies_whole}
use Rattle.plain_models.proofs.group.meant_bodies.Goals as goal

pub loop-binding-init : goal.loop-binding-init
loop-binding-init c =
    let s = c.args.scope.now in
    subst
    (λ (l : List Value). HaveValues (SetOf s.all.now) (names_in (SetOf s.all.now) s.items.now s.outer.now s.names.now s.values.now) [] l)
    (sym c.new-values.ensures.items) tt

pub loop-binding-preserved : goal.loop-binding-preserved
loop-binding-preserved c =
    let s = c.args.scope.now in
    body_next (SetOf s.all.now)
    (names_in (SetOf s.all.now) s.items.now s.outer.now s.names.now s.values.now) c.args.group.now
    c.loop-binding.binding-index c.binding-item.result c.loop-binding.values.items
    c.push.new.self.items c.in_ok-value.value (omega arith) c.loop-binding.invariant
    (subst
    (λ (b : code_binding.Binding). IsEvaluatedTo (meaning_of (SetOf s.all.now) (names_in (SetOf s.all.now) s.items.now s.outer.now s.names.now s.values.now) (term_of b.body)) c.in_ok-value.value)
    c.binding-item.is c.in_ok-value.ensures) c.in_ok-push.ensures.items

pub returns : goal.returns
returns c =
    let s = c.args.scope.now in
    bodies_whole (SetOf s.all.now)
    (names_in (SetOf s.all.now) s.items.now s.outer.now s.names.now s.values.now) c.args.group.now
    c.loop-binding.binding-index c.loop-binding.values.items (omega arith) c.loop-binding.invariant
