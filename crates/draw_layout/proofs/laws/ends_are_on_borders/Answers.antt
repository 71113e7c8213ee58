use Rattle.draw_layout.proofs.Places.{inset_within}
use Rattle.draw_layout.proofs.laws.ends_are_on_borders.Goals as goal

pub returns : goal.returns
returns c = inset_within
