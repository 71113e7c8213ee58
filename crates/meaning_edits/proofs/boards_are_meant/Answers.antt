use Rattle.meaning_edits.proofs.Meant.{all_boards}
use Rattle.meaning_edits.proofs.boards_are_meant.Goals as goal

pub returns : goal.returns
returns c = λ ops words right test model. all_boards ops words right test model
