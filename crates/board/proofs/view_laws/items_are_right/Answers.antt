use Rattle.board.proofs.ShownItems.{right_items}
use Rattle.board.proofs.view_laws.items_are_right.Goals as goal

pub returns : goal.returns
returns c = right_items
