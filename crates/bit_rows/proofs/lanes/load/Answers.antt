use Rattle.std.proofs.Common.{arith, ◌-◌}
use Rattle.bit_rows.proofs.EightWords.{loaded}
use Rattle.bit_rows.proofs.lanes.load.Goals as goal

pub returns : goal.returns
returns c =
    let both =
    loaded c.args.words.now c.args.at (128 - c.args.at) (omega arith) (omega arith)
    c.told-words in
    record { count = both.0; lanes = both.1 }
