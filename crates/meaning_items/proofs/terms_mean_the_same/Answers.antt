use Rattle.meaning_items.proofs.TreeLaws.{terms_same}
use Rattle.meaning_items.proofs.terms_mean_the_same.Goals as goal

pub returns : goal.returns
returns c = λ n S R items faultless e none sets rels us from has. terms_same n S R items faultless e none sets rels us from has
