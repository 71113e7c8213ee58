use Rattle.draw_layout.proofs.Orders.{lanes_rise}
use Rattle.draw_layout.proofs.laws.lanes_are_apart.Goals as goal

pub returns : goal.returns
returns c = lanes_rise
