use Rattle.std.proofs.Common.{◌≡◌, length, arith}
use Rattle.candidate_spaces.specs.Space.{candidates_in}
use Rattle.cat_machine.specs.Seen.{seen_in}
use Rattle.cat_eval.proofs.Wanting.{bodies_shown_none, bodies_shown_more, bodies_shown_all}
use Rattle.cat_eval.proofs.group.plain_columns.Goals as goal

pub loop-body-init : goal.loop-body-init
loop-body-init c =
    rw c.in_ok-columns.ensures.items (bodies_shown_none c.args.wanted.now c.args.bodies.now
    c.args.inputs.now (seen_in c.args.named.now 0
    (candidates_in c.args.space.now.combinations.items)))

pub loop-body-preserved : goal.loop-body-preserved
loop-body-preserved c =
    let cs = c.loop-body.columns.items in
    let here : c.len.result ≡ length cs = omega (arith, c.len.ensures) in
    rw c.in_ok-push.ensures.items
    (bodies_shown_more c.args.wanted.now c.args.bodies.now c.args.inputs.now _ cs
    c.loop-body.body-index c.body-item.result c.in_ok-column.column c.loop-body-test.true
    c.body-item.is c.loop-body.invariant
    (rw (c.is_wanted-here.ensures, here) at c.in_ok-column.ensures))

pub returns : goal.returns
returns c =
    bodies_shown_all c.args.wanted.now c.args.bodies.now c.args.inputs.now _
    c.loop-body.columns.items c.loop-body.body-index
    (omega (arith, c.loop-body-test.false, c.loop-body.auto.body-index-end)) c.loop-body.invariant
