use Rattle.std.proofs.Common.{arith}
use Rattle.bit_rows.proofs.Writing.{written_none, written_more, still}
use Rattle.run_combinations.proofs.Keying.{all_joined}
use Rattle.run_combinations.proofs.key_words.join_words.Goals as goal

pub loop-a-init : goal.loop-a-init
loop-a-init c = written_none _ _

pub loop-a-preserved : goal.loop-a-preserved
loop-a-preserved c =
    written_more _ _ _ _ _ (omega (arith, c.told-words)) c.loop-a.invariant c.either.type_inv
    (rw (still c.loop-a.invariant) at c.either.ensures)

pub returns : goal.returns
returns c =
    all_joined c.args.words.now c.loop-a.words c.args.others.now c.args.used c.loop-a.a
    (omega arith) (omega arith) c.loop-a.invariant
