use Rattle.meaning_items.proofs.TreeLaws.{binds}
use Rattle.meaning_items.proofs.applying_binds.Goals as goal

pub returns : goal.returns
returns c = λ n S R items faultless at item none f ps body is ts fine sets rels us from has. binds n S R items faultless at item none f ps body is ts fine sets rels us from has
