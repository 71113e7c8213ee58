use Rattle.draw_layout.proofs.Places.{columns_apart, rows_apart}
use Rattle.draw_layout.proofs.laws.boxes_are_apart.Goals as goal

pub returns : goal.returns
returns c = record { columns = columns_apart; rows = rows_apart }
