use Rattle.meaning_items.proofs.TreeLaws.{rec_is_least}
use Rattle.meaning_items.proofs.let_rec_is_least.Goals as goal

pub returns : goal.returns
returns c = λ n S R items faultless at bs none sets outer us trees made has values least j lt a b. rec_is_least n S R items faultless at bs none sets outer us trees made has values least j lt a b
