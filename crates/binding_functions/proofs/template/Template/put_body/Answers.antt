use Rattle.std.proofs.Common.{◌<◌, ◌+◌, length, refl, arith}
use Rattle.binding_functions.proofs.Filling.{body_more, body_bounded, body_left}
use Rattle.binding_functions.proofs.template.Template.put_body.Goals as goal

pub returns-then-self : goal.returns-then-self
returns-then-self c = λ wholes all.
    let ps = c.args.body.now in
    let i = c.loop-piece.piece-index in
    let lt : i < length ps = omega (arith, c.loop-piece-test.true) in
    let more = body_more c.args.self.now c.loop-piece.self c.put_part.new.self wholes ps i _ _ lt refl (c.loop-piece.invariant wholes all) (c.in_ok-put_part.ensures wholes all) in
    body_left c.args.self.now c.bound.new.self wholes ps (i + 1) c.if-self.true
    (body_bounded c.args.self.now c.put_part.new.self c.bound.new.self wholes ps (i + 1)
    c.len-start.result
    (let n = c.len-start.ensures in
    let k = c.args.self.now.pieces.ok in omega (arith, n, k)) c.bound.ensures.pieces
    c.bound.ensures.is_oversized more)

pub loop-piece-preserved : goal.loop-piece-preserved
loop-piece-preserved c = λ wholes all.
    let ps = c.args.body.now in
    let i = c.loop-piece.piece-index in
    let lt : i < length ps = omega (arith, c.loop-piece-test.true) in
    let more = body_more c.args.self.now c.loop-piece.self c.put_part.new.self wholes ps i _ _ lt refl (c.loop-piece.invariant wholes all) (c.in_ok-put_part.ensures wholes all) in
    body_bounded c.args.self.now c.put_part.new.self c.bound.new.self wholes ps (i + 1)
    c.len-start.result
    (let n = c.len-start.ensures in let k = c.args.self.now.pieces.ok in omega (arith, n, k))
    c.bound.ensures.pieces c.bound.ensures.is_oversized more
