use Rattle.std.proofs.Common.{ap, ◌∙◌, arith}
use Rattle.binding_kinds.specs.declared.column.Gathered.{Gathered}
use Rattle.binding_kinds.specs.Combinations.{unknown}
use Rattle.binding_kinds.specs.Columns.{with_one, none_gathered}
use Rattle.binding_kinds.proofs.Tables.{zipped_more, filled_all}
use Rattle.binding_kinds.proofs.column.with_argument.Goals as goal

pub loop-combination-preserved : goal.loop-combination-preserved
loop-combination-preserved c = λ arity rows before more lt small h k.
    zipped_more none_gathered none_gathered unknown none_gathered arity rows
    c.loop-combination.combination before more (with_one c.args.index) c.args.all.now
    c.args.one.now c.loop-combination.column.items c.push.new.self.items c.with_one.result
    (omega (arith, c.loop-combination-test.true))
    (λ ks same. c.with_one.ensures lt (let s = small ks in
    let e = ap (λ (g : Gathered). g.combination) same in omega (arith, s, e))
    ∙ ap (with_one c.args.index _) c.at.ensures) c.in_ok-push.ensures.items h k
    (c.loop-combination.invariant arity rows before more lt small h k)

pub returns : goal.returns
returns c =
    λ arity rows before more lt small h k. filled_all none_gathered none_gathered arity rows
    c.loop-combination.combination before (λ ks. with_one c.args.index (before ks) (more ks))
    c.args.all.now c.loop-combination.column.items h c.loop-combination-test.false
    c.loop-combination.auto.combination-end (c.loop-combination.invariant arity rows before more lt
    small h k)
