use Rattle.std.proofs.Common.{◌<◌, length, refl, arith}
use Rattle.binding_functions.proofs.Filling.{too_long}
use Rattle.binding_functions.proofs.template.Template.bounded.Goals as goal

pub returns : goal.returns
returns c = λ whole is.
    let long : 4096 < length c.args.self.pieces.items = let n = c.len.ensures in let k = c.args.self.pieces.ok in omega (arith, n, k, c.if-len-le-MAX_SIZE.false) in
    too_long c.args.self _ whole is refl refl long
