use Rattle.std.proofs.Common.{List, [], get_or, sym, subst, arith}
use Rattle.text_values.specs.declared.model.Item.{Item}
use Rattle.text_values.specs.ModelValues.{clause_of}
use Rattle.meaning_plain.specs.Lists.{SetOf}
use Rattle.plain_models.specs.declared.value.Value.{Value}
use Rattle.plain_models.specs.declared.scope.Named.{Named}
use Rattle.plain_models.specs.Scopes.{with_named}
use Rattle.plain_models.specs.Groups.{IsSolvable}
use Rattle.plain_models.specs.Items.{AreAsMany, Binds}
use Rattle.plain_models.specs.Answers.{IsReading}
use Rattle.plain_models.proofs.Adding.{bound_as_many}
use Rattle.plain_models.proofs.Reading.{read_begin, next_solvable, read_more, read_all}
use Rattle.plain_models.proofs.model.answered.Goals as goal

pub loop-index-init : goal.loop-index-init
loop-index-init c =
    read_begin (SetOf c.args.all.now) c.args.items.now c.args.predefined.items
    c.new-flags.result.items c.requires.predefined c.requires.faultless c.new-flags.ensures.items

pub read_item-requires-clause-solvable : goal.read_item-requires-clause-solvable
read_item-requires-clause-solvable c =
    let all = SetOf c.args.all.now in
    let is = c.args.items.now in
    subst (λ (l : List Named). IsSolvable all (with_named all is l []) (clause_of c.index-items-index.result))
    (sym c.deref.ensures.value)
    (subst (λ (d : Item). IsSolvable all (with_named all is c.loop-index.outer.items []) (clause_of d))
    (sym c.index-items-index.is)
    (next_solvable all is (with_named all is c.args.predefined.items []) c.loop-index.index
    c.loop-index.outer.items c.loop-index.is_kept c.loop-index.flags.items c.index-items-index.result
    (omega arith) c.loop-index.invariant))

pub bind-requires : goal.bind-requires
bind-requires c =
    let all = SetOf c.args.all.now in
    let is = c.args.items.now in
    subst (λ (l : List Value). AreAsMany c.index-items-index.result l) (sym c.deref-in-loop-index.ensures.value)
    (bound_as_many all (with_named all is c.deref.result.now []) c.index-items-index.result
    c.in_ok-one.one.values.items c.in_ok-one.ensures.bound)

pub loop-index-preserved : goal.loop-index-preserved
loop-index-preserved c =
    let all = SetOf c.args.all.now in
    let is = c.args.items.now in
    let d = c.index-items-index.result in
    let one = c.in_ok-one.one in
    read_more all is (with_named all is c.args.predefined.items []) c.loop-index.index
    c.loop-index.outer.items c.bind.new.outer.items c.loop-index.is_kept c.both-is_kept.result
    c.loop-index.flags.items c.put_if.new.flags.items d one (omega arith) c.loop-index.invariant
    (subst (λ (l : List Named). IsReading all (with_named all is l []) (get_or is c.loop-index.index d) one)
    c.deref.ensures.value
    (subst (λ (x : Item). IsReading all (with_named all is c.deref.result.now []) x one)
    c.index-items-index.is c.in_ok-one.ensures))
    (subst (λ (l : List Value). Binds (get_or is c.loop-index.index d) c.loop-index.index l c.loop-index.outer.items c.bind.new.outer.items)
    c.deref-in-loop-index.ensures.value
    (subst (λ (x : Item). Binds x c.loop-index.index c.deref-in-loop-index.result.now c.loop-index.outer.items c.bind.new.outer.items)
    c.index-items-index.is c.in_ok-bind.ensures))
    c.in_ok-put_if.ensures c.both-is_kept.ensures

pub returns : goal.returns
returns c =
    let all = SetOf c.args.all.now in
    let is = c.args.items.now in
    read_all all is (with_named all is c.args.predefined.items []) c.loop-index.index
    c.loop-index.outer.items c.loop-index.flags.items
    (record { is_kept = c.loop-index.is_kept; flags = c.loop-index.flags }) (omega arith)
    c.loop-index.invariant
