use Rattle.std.proofs.Common.{arith}
use Rattle.bit_rows.proofs.EightWords.{stored}
use Rattle.bit_rows.proofs.lanes.store.Goals as goal

pub returns : goal.returns
returns c = stored _ _ _ _ (omega arith) (omega arith) c.fits-lanes.0 c.told-words
