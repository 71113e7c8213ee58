use Rattle.bit_rows.proofs.EightWords.{lanes_joined}
use Rattle.bit_rows.proofs.lanes.join.Goals as goal

pub returns : goal.returns
returns c =
    let both = lanes_joined c.args.acc c.args.select c.args.k c.args.row c.requires c.fits-acc.0 c.fits-select.0 in
    record { count = both.0; lanes = both.1 }
