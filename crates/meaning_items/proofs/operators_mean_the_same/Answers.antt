use Rattle.meaning_items.proofs.TreeLaws.{operators_same}
use Rattle.meaning_items.proofs.operators_mean_the_same.Goals as goal

pub returns : goal.returns
returns c = λ n is_set S R f typed sets rels us from has. operators_same n is_set S R f typed sets rels us from has
