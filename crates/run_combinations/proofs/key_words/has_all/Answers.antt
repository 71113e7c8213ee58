use Rattle.run_combinations.proofs.Keying.{tells_all}
use Rattle.run_combinations.proofs.key_words.has_all.Goals as goal

pub returns : goal.returns
returns c = tells_all c.args.word c.args.other c.ranges.word.fits c.ranges.other.fits
