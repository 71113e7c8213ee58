use Rattle.std.proofs.Common.{arith}
use Rattle.run_combinations.proofs.Keying.{all_words}
use Rattle.run_combinations.proofs.key_words.are_within.Goals as goal

pub loop-a-init : goal.loop-a-init
loop-a-init c = λ a b lt h. absurd (omega (arith, lt))

pub returns : goal.returns
returns c =
    all_words c.args.words.now c.args.others.now c.args.used c.loop-a.a (omega arith)
    c.loop-a.invariant
