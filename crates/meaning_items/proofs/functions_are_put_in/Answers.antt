use Rattle.meaning_items.proofs.Putting.{put_in}
use Rattle.meaning_items.proofs.functions_are_put_in.Goals as goal

pub returns : goal.returns
returns c = λ n S R items faultless e none. put_in n S R items faultless e none
