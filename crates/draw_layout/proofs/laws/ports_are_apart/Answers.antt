use Rattle.draw_layout.proofs.Places.{ports_apart}
use Rattle.draw_layout.proofs.laws.ports_are_apart.Goals as goal

pub returns : goal.returns
returns c = ports_apart
